-- Every call adds reports behind those that there are, each with the class of the table.
use Rattle.std.proofs.Common.{◌≡◌, ℕ, ◌+◌, min, ltb, List, [], ◌∷◌, ◌++◌, length, is_some, Some, None, Option, sym, refl, ap, ◌∙◌, append_assoc, append-nil}
use Rattle.std.proofs.ByRecursion.{All-append}
use Rattle.std.proofs.lemmas.Bool.{cond_both}
use Rattle.links.specs.Meaning.{LinkKind}
use Rattle.records.specs.declared.command.Reply.{Reply}
use Rattle.records.specs.declared.command.Reply.TheVariants.{Ack, Nack, Odd}
use Rattle.records.specs.declared.event.Event.{Event}
use Rattle.records.specs.declared.event.EventKind.TheVariants as event
use Rattle.records.specs.declared.fault.Fault.{Fault}
use Rattle.records.specs.declared.fault.FaultKind.TheVariants as fault
use Rattle.records.specs.declared.report.Report.{Report}
use Rattle.records.specs.declared.report.Stage.{Stage}
use Rattle.records.specs.declared.report.Stage.TheVariants.{Done, Failed}
use Rattle.records.specs.Faults.{class_of, fault_number, fault_of, nack_fault, at_step}
use Rattle.machine.specs.declared.state.Hold.{Hold}
use Rattle.machine.specs.declared.state.LinkStatus.TheVariants.{Stopped}
use Rattle.machine.specs.declared.state.Owner.{Owner}
use Rattle.machine.specs.declared.state.Owner.TheVariants as owner
use Rattle.machine.specs.declared.state.Run.{Run}
use Rattle.machine.specs.declared.state.RunState.{RunState}
use Rattle.machine.specs.declared.state.RunState.TheVariants.{Ready, Sent}
use Rattle.machine.specs.Desks.{Desk, with_run, with_status, reported, raised_on, procedure_at, settled, steps_of, failed_run, passed}
use Rattle.machine.specs.Seats.{Seat, Ending, acknowledged, broken, answered_run, answered_procedure, ended_for, ended, link_event, Turn, older, age_of, loudly, polled_turn, turn}
use Rattle.machine.specs.Written.{Classed, Adds}

-- a fault of the class of its number, met at no step of a run
abbrev pub Right : Fault → Type 0
Right f = (f.class ≡ class_of (fault_number f.kind)) × (f.step ≡ 0)

abbrev pub RightIf : Option Fault → Type 0
RightIf None = Unit {0}
RightIf (Some f) = Right f

-- nothing added
pub adds_none : (xs ys : List Report) → ys ≡ xs → Adds xs ys
adds_none xs ys e = record { new = []; behind = e ∙ sym (append-nil xs); classed = tt }

-- one after another
pub adds_then : (xs ys zs : List Report) → Adds xs ys → Adds ys zs → Adds xs zs
adds_then xs ys zs a b = record {
  new = a.new ++ b.new;
  behind = b.behind ∙ ap (λ (l : List Report). l ++ b.new) a.behind ∙ append_assoc xs a.new b.new;
  classed = All-append (λ (r : Report). Classed r.stage) a.new b.new a.classed b.classed;
}

-- the reports of two desks
abbrev pub Wrote : Desk → Desk → Type 0
Wrote d e = Adds d.log.reports e.log.reports

pub wrote : (d : Desk) (n : ℕ) (stage : Stage) → Classed stage → Wrote d (reported d n stage)
wrote d n stage right =
    let x : Report = record { number = n; stage = stage } in
    cond_both (ltb (length d.log.reports) 400) (d.log.reports ++ x ∷ []) d.log.reports (Adds d.log.reports)
    (λ e. record { new = x ∷ []; behind = refl; classed = (right, tt) })
    (λ e. adds_none d.log.reports d.log.reports refl)

pub settled_wrote : (n : ℕ) (f : Option Fault) (d : Desk) → RightIf f → Wrote d (settled n f d)
settled_wrote n None d right = wrote d n (Done 0) tt
settled_wrote n (Some f) d right = wrote d n (Failed 0 f) right.0

pub failed_wrote : (run : Option Run) (f : Fault) (d : Desk) → Right f → Wrote d (failed_run run f d)
failed_wrote None f d right = adds_none d.log.reports d.log.reports refl
failed_wrote (Some r) f d right = wrote (with_run d None) r.number (Failed r.sent (at_step (min (r.step + 1) 255) f)) right.0

pub passed_wrote : (r : Run) (d : Desk) → Wrote d (passed r d)
passed_wrote r d =
    let next : Run = record { id = r.id; number = r.number; step = r.step + 1; sent = r.sent; state = Ready 0 } in
    cond_both (ltb (r.step + 1) (steps_of (procedure_at d r.id))) (with_run d (Some next)) (reported (with_run d None) r.number (Done r.sent)) (Wrote d)
    (λ t. adds_none d.log.reports d.log.reports refl)
    (λ t. wrote (with_run d None) r.number (Done r.sent) tt)

abbrev pub RightEnd : Ending → Type 0
RightEnd acknowledged = Unit {0}
RightEnd (broken f) = Right f

answered_wrote : (s : RunState) (x : Ending) (r : Run) (d : Desk) → RightEnd x → Wrote d (answered_run s x r d)
answered_wrote (Ready spent) x r d right = adds_none d.log.reports d.log.reports refl
answered_wrote (Sent link) acknowledged r d right = passed_wrote r d
answered_wrote (Sent link) (broken f) r d right = failed_wrote (Some r) f d right

procedure_wrote : (run : Option Run) (x : Ending) (d : Desk) → RightEnd x → Wrote d (answered_procedure run x d)
procedure_wrote None x d right = adds_none d.log.reports d.log.reports refl
procedure_wrote (Some r) x d right = answered_wrote r.state x r d right

ended_for_each : (o : Owner) (x : Ending) (d : Desk) → RightEnd x → Wrote d (ended_for o x d)
ended_for_each (owner.Telecommand n) acknowledged d right = wrote d n (Done 1) tt
ended_for_each (owner.Telecommand n) (broken f) d right = wrote d n (Failed 1 f) right.0
ended_for_each owner.Procedure x d right = procedure_wrote d.run x d right

ended_wrote : (h : Option Hold) (x : Ending) (d : Desk) → RightEnd x → Wrote d (ended h x d)
ended_wrote None x d right = adds_none d.log.reports d.log.reports refl
ended_wrote (Some h) x d right = ended_for_each h.owner x d right

loud_wrote : (h : Option Hold) (e : Event) (f : Fault) (d : Desk) → Right f → Wrote d (ended h (broken f) (raised_on d e))
loud_wrote h e f d right = ended_wrote h (broken f) (raised_on d e) right

module _ {K : LinkKind} where
  polled_wrote : (due : Option Reply) (place : ℕ) (s : Seat K) (d : Desk) → Wrote d (polled_turn due place s d).desk
  polled_wrote (Some Ack) place s d = ended_wrote s.hold acknowledged d tt
  polled_wrote (Some (Nack code detail)) place s d =
      loud_wrote s.hold (link_event event.Nack place code) (nack_fault place code detail) (with_status d place Stopped) (refl, refl)
  polled_wrote (Some Odd) place s d = loud_wrote s.hold (link_event event.Odd place 0) (fault_of fault.Odd place) d (refl, refl)
  polled_wrote None place s d =
      cond_both (ltb (age_of s.hold + 1) K.limit)
      (record { seat = record { link = K.polled s.link; hold = older s.hold }; desk = d; raised = 0; lost = 0 })
      (loudly (K.abandoned (K.polled s.link)) s.hold (link_event event.NoAck place 0) (fault_of fault.NoAck place) d)
      (λ (t : Turn K). Wrote d t.desk)
      (λ t. adds_none d.log.reports d.log.reports refl)
      (λ t. loud_wrote s.hold (link_event event.NoAck place 0) (fault_of fault.NoAck place) d (refl, refl))

  pub turn_wrote : (place : ℕ) (s : Seat K) (d : Desk) → Wrote d (turn place s d).desk
  turn_wrote place s d =
      cond_both (is_some (K.means s.link).held) (polled_turn (K.means s.link).due place s d) (record { seat = s; desk = d; raised = 0; lost = 0 })
      (λ (t : Turn K). Wrote d t.desk)
      (λ t. polled_wrote (K.means s.link).due place s d)
      (λ t. adds_none d.log.reports d.log.reports refl)
