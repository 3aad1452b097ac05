-- A link with the note on its held command, and its turn in a tick.
use Rattle.std.specs.Prelude.{ℕ, ◌+◌, cond, List, is_some, Some, None, Ok, Err, Option, Result, nat_lt}
use Rattle.links.specs.declared.answers.OfferRefusal.{OfferRefusal}
use Rattle.links.specs.Meaning.{LinkKind, offer_answer}
use Rattle.records.specs.declared.command.Command.{Command}
use Rattle.records.specs.declared.command.Reply.{Reply}
use Rattle.records.specs.declared.command.Reply.TheVariants.{Ack, Nack, Odd}
use Rattle.records.specs.declared.event.Event.{Event}
use Rattle.records.specs.declared.event.EventKind.{EventKind}
use Rattle.records.specs.declared.event.EventKind.TheVariants as event
use Rattle.records.specs.declared.fault.Fault.{Fault}
use Rattle.records.specs.declared.fault.FaultKind.TheVariants as fault
use Rattle.records.specs.declared.report.Stage.TheVariants.{Done, Failed}
use Rattle.records.specs.Faults.{fault_of, nack_fault}
use Rattle.machine.specs.declared.state.Hold.{Hold}
use Rattle.machine.specs.declared.state.LinkStatus.TheVariants.{Stopped}
use Rattle.machine.specs.declared.state.Owner.{Owner}
use Rattle.machine.specs.declared.state.Owner.TheVariants as owner
use Rattle.machine.specs.declared.state.Run.{Run}
use Rattle.machine.specs.declared.state.RunState.{RunState}
use Rattle.machine.specs.declared.state.RunState.TheVariants.{Ready, Sent}
use Rattle.machine.specs.Desks.{Desk, lost_in, with_status, reported, raised_on, failed_run, passed}

pub record Seat (K : LinkKind) : Type 0 where
  pub link : K.State
  pub hold : Option Hold

-- what became of a held command
pub data Ending : Type 0 where
  acknowledged : Ending
  broken : Fault → Ending

-- a run whose command was answered moves on or ends; one that waits for no answer is left alone
abbrev pub answered_run : RunState → Ending → Run → Desk → Desk
answered_run (Ready spent) ending r d = d
answered_run (Sent link) acknowledged r d = passed r d
answered_run (Sent link) (broken f) r d = failed_run (Some r) f d

abbrev pub answered_procedure : Option Run → Ending → Desk → Desk
answered_procedure None ending d = d
answered_procedure (Some r) ending d = answered_run r.state ending r d

-- a telecommand's command was one sent; a procedure goes on by its state
abbrev pub ended_for : Owner → Ending → Desk → Desk
ended_for (owner.Telecommand n) acknowledged d = reported d n (Done 1)
ended_for (owner.Telecommand n) (broken f) d = reported d n (Failed 1 f)
ended_for owner.Procedure ending d = answered_procedure d.run ending d

abbrev pub ended : Option Hold → Ending → Desk → Desk
ended None ending d = d
ended (Some h) ending d = ended_for h.owner ending d

abbrev pub link_event : EventKind → ℕ → ℕ → Event
link_event kind place value = record { kind = kind; place = place; value = value }

-- a seat and the desk after a link's turn, with the events raised and lost in it
pub record Turn (K : LinkKind) : Type 0 where
  pub seat : Seat K
  pub desk : Desk
  pub raised : ℕ
  pub lost : ℕ

abbrev pub older : Option Hold → Option Hold
older None = None
older (Some h) = Some (record { owner = h.owner; age = h.age + 1 })

abbrev pub age_of : Option Hold → ℕ
age_of None = 0
age_of (Some h) = h.age

-- the note after an offer for an owner: if the command is taken, its age is 0
abbrev pub held_after : Result (Unit {0}) OfferRefusal → Owner → Option Hold → Option Hold
held_after (Ok u) o h = Some (record { owner = o; age = 0 })
held_after (Err refusal) o h = h

module _ {K : LinkKind} where
  -- the link's command has ended, with no event
  abbrev pub quietly : K.State → Option Hold → Desk → Turn K
  quietly link h d = record { seat = record { link = link; hold = None }; desk = ended h acknowledged d; raised = 0; lost = 0 }

  -- it has ended with a fault, told by an event first
  abbrev pub loudly : K.State → Option Hold → Event → Fault → Desk → Turn K
  loudly link h e f d =
      record { seat = record { link = link; hold = None }; desk = ended h (broken f) (raised_on d e); raised = 1; lost = lost_in d.log }

  -- by what the poll answered: at the wait limit the command is abandoned
  abbrev pub polled_turn : Option Reply → ℕ → Seat K → Desk → Turn K
  polled_turn (Some Ack) place s d = quietly (K.polled s.link) s.hold d
  polled_turn (Some (Nack code detail)) place s d =
      loudly (K.polled s.link) s.hold (link_event event.Nack place code) (nack_fault place code detail) (with_status d place Stopped)
  polled_turn (Some Odd) place s d = loudly (K.polled s.link) s.hold (link_event event.Odd place 0) (fault_of fault.Odd place) d
  polled_turn None place s d =
      cond (nat_lt (age_of s.hold + 1) K.limit)
      (record { seat = record { link = K.polled s.link; hold = older s.hold }; desk = d; raised = 0; lost = 0 })
      (loudly (K.abandoned (K.polled s.link)) s.hold (link_event event.NoAck place 0) (fault_of fault.NoAck place) d)

  -- an idle link has no turn
  abbrev pub turn : ℕ → Seat K → Desk → Turn K
  turn place s d =
      cond (is_some (K.means s.link).held) (polled_turn (K.means s.link).due place s d)
      (record { seat = s; desk = d; raised = 0; lost = 0 })

  abbrev pub seat_offered : Command → Owner → Seat K → Seat K
  seat_offered c o s = record { link = K.offered s.link c; hold = held_after (offer_answer (K.means s.link)) o s.hold }

  abbrev pub seat_abandoned : Seat K → Seat K
  seat_abandoned s = record { link = K.abandoned s.link; hold = None }

  abbrev pub seat_received : List ℕ → Seat K → Seat K
  seat_received bytes s = record { link = K.received s.link bytes; hold = s.hold }
