-- What a command's end leaves on the desk.
use Rattle.std.specs.Prelude.{ℕ, ◌+◌, cond, Ok, Err, Option, Result, nat_lt}
use Rattle.links.specs.Meaning.{LinkKind}
use Rattle.records.specs.declared.command.Reply.{Reply}
use Rattle.records.specs.declared.command.Reply.TheVariants.{Ack, Nack, Odd}
use Rattle.records.specs.declared.event.Event.{Event}
use Rattle.records.specs.declared.event.EventKind.TheVariants as event
use Rattle.records.specs.declared.fault.Fault.{Fault}
use Rattle.records.specs.declared.fault.FaultKind.TheVariants as fault
use Rattle.records.specs.Faults.{fault_of, nack_fault}
use Rattle.desks.specs.declared.chain.LinkFault.{LinkFault}
use Rattle.desks.specs.Chains.{link_fault}
use Rattle.machine.specs.declared.answers.Raised.{Raised}
use Rattle.machine.specs.declared.state.Hold.{Hold}
use Rattle.machine.specs.declared.state.LinkStatus.TheVariants.{Stopped}
use Rattle.machine.specs.Desks.{Desk, lost_in, with_status, raised_on}
use Rattle.machine.specs.Outcomes.{raised_by, lost_by}
use Rattle.machine.specs.Seats.{Seat, Ending, acknowledged, broken, ended, link_event, Turn, older, age_of, loudly}

abbrev pub ending_of : Result (Unit {0}) LinkFault → Ending
ending_of (Ok u) = acknowledged
ending_of (Err f) = broken (link_fault f)

-- the desk, with the events raised and lost on the way
pub record DeskAfter : Type 0 where
  pub desk : Desk
  pub raised : ℕ
  pub lost : ℕ

-- by the event that was raised, if any
abbrev pub desk_after : Desk → Option Raised → DeskAfter
desk_after d e = record { desk = d; raised = raised_by e; lost = lost_by e }

-- a fault is told by an event first
abbrev pub failed_with : Event → Fault → Option Hold → Desk → DeskAfter
failed_with e f h d = record { desk = ended h (broken f) (raised_on d e); raised = 1; lost = lost_in d.log }

-- by what the unit replied
abbrev pub replied : Reply → ℕ → Option Hold → Desk → DeskAfter
replied Ack place h d = record { desk = ended h acknowledged d; raised = 0; lost = 0 }
replied (Nack code detail) place h d = failed_with (link_event event.Nack place code) (nack_fault place code detail) h (with_status d place Stopped)
replied Odd place h d = failed_with (link_event event.Odd place 0) (fault_of fault.Odd place) h d

module _ {K : LinkKind} where
  -- a seat and the desk after a turn, by the event that was raised, if any
  abbrev pub turn_after : Seat K → Desk → Option Raised → Turn K
  turn_after s d e = record { seat = s; desk = d; raised = raised_by e; lost = lost_by e }

  -- a link that was polled in vain: its command grows older, or is abandoned at the wait limit
  abbrev pub unanswered : ℕ → Seat K → Desk → Turn K
  unanswered place s d =
      cond (nat_lt (age_of s.hold + 1) K.limit)
      (record { seat = record { link = s.link; hold = older s.hold }; desk = d; raised = 0; lost = 0 })
      (loudly (K.abandoned s.link) s.hold (link_event event.NoAck place 0) (fault_of fault.NoAck place) d)
