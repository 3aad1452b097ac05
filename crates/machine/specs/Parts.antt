-- Parts of the machine that know no kind: what is pending, a run's steps, answers with their counts.
use Rattle.std.specs.Prelude.{ℕ, ◌+◌, ◌-◌, min, Bool, true, false, cond, not, List, [], ◌∷◌, Some, None, Option, ◌==◌, nat_lt, slice_index, slice_index_or}
use Rattle.links.specs.declared.answers.OfferRefusal.{OfferRefusal}
use Rattle.links.specs.declared.answers.OfferRefusal.TheVariants.{Busy, Spent}
use Rattle.records.specs.declared.event.Event.{Event}
use Rattle.records.specs.declared.fault.FaultKind.{FaultKind}
use Rattle.records.specs.declared.fault.FaultKind.TheVariants.{LinkUsed, LinkWorn, ExpectFailed}
use Rattle.records.specs.declared.report.Report.{Report}
use Rattle.records.specs.Faults.{fault_of}
use Rattle.machine.specs.declared.state.Action.{Action}
use Rattle.machine.specs.declared.state.Action.TheVariants.{Wait}
use Rattle.machine.specs.declared.state.Hold.{Hold}
use Rattle.machine.specs.declared.state.Owner.{Owner}
use Rattle.machine.specs.declared.state.Owner.TheVariants as owner
use Rattle.machine.specs.declared.state.Procedure.{Procedure}
use Rattle.machine.specs.declared.state.Run.{Run}
use Rattle.machine.specs.declared.state.RunState.TheVariants.{Ready, Sent}
use Rattle.machine.specs.Desks.{Log, Desk, with_run, failed_run, passed}

-- a telecommand whose command a link holds is a pending number
abbrev pub pending_of : Owner → ℕ
pending_of (owner.Telecommand n) = 1
pending_of owner.Procedure = 0

abbrev pub pending_in : Option Hold → ℕ
pending_in None = 0
pending_in (Some h) = pending_of h.owner

-- so is the start of the procedure that runs
abbrev pub pending_run : Option Run → ℕ
pending_run None = 0
pending_run (Some r) = 1

-- the fault of an offer that was refused
abbrev pub offer_fault : OfferRefusal → FaultKind
offer_fault Busy = LinkUsed
offer_fault Spent = LinkWorn

-- a command taken for a run: one more sent, and its link to wait for
abbrev pub sent_on : Run → ℕ → Run
sent_on r link = record { id = r.id; number = r.number; step = r.step; sent = min (r.sent + 1) 4294967295; state = Sent link }

-- one more tick spent on a step
abbrev pub spent_on : Run → ℕ → Run
spent_on r spent = record { id = r.id; number = r.number; step = r.step; sent = r.sent; state = Ready (spent + 1) }

abbrev pub action_at : Option Procedure → ℕ → Action
action_at None step = Wait 0
action_at (Some p) step = slice_index_or p.actions.items step (Wait 0)

-- parameter 0 is the value 0
abbrev pub parameter_of : Option Procedure → ℕ → ℕ
parameter_of None v = 0
parameter_of (Some p) v = cond (v == 0) 0 (slice_index p.parameters (v - 1))

abbrev pub waited : Run → ℕ → ℕ → Desk → Desk
waited r spent ticks d = cond (nat_lt spent ticks) (with_run d (Some (spent_on r spent))) (passed r d)

abbrev pub expected : Run → ℕ → Bool → Desk → Desk
expected r f trouble d = cond trouble (failed_run (Some r) (fault_of ExpectFailed f) d) (passed r d)

-- an answer with the events raised and lost in its call
pub record Answer (A : Type 0) : Type 0 where
  pub outcome : A
  pub raised : ℕ
  pub lost : ℕ

abbrev pub quiet : {A : Type 0} → A → Answer A
quiet a = record { outcome = a; raised = 0; lost = 0 }

abbrev pub differ : Bool → Bool → Bool
differ true b = not b
differ false b = b

-- without what collect hands out
abbrev pub collected_from : List Event → List Report → Log → Log
collected_from (e ∷ events) reports l = record { events = events; reports = l.reports; accepted = l.accepted; raised = l.raised }
collected_from [] (r ∷ reports) l = record { events = []; reports = reports; accepted = l.accepted; raised = l.raised }
collected_from [] [] l = l

-- what collect hands out
pub data Handed : Type 0 where
  event : Event → Handed
  report : Report → Handed
  nothing : Handed

abbrev pub handed : List Event → List Report → Handed
handed (e ∷ events) reports = event e
handed [] (r ∷ reports) = report r
handed [] [] = nothing
