-- Faults on their way into a report: of a link, and of a step that met it.
use Rattle.std.specs.Prelude.{ℕ, ◌+◌, min, Ok, Err, Result}
use Rattle.records.specs.declared.fault.Fault.{Fault}
use Rattle.records.specs.declared.fault.FaultKind.TheVariants as kind
use Rattle.records.specs.Faults.{fault_of, nack_fault, at_step}
use Rattle.machine.specs.declared.state.Run.{Run}
use Rattle.desks.specs.declared.chain.LinkFault.{LinkFault}
use Rattle.desks.specs.declared.chain.LinkFault.TheVariants.{Stopped, Used, Worn, Nack, Odd, NoAck}
use Rattle.desks.specs.declared.chain.StepFault.{StepFault}
use Rattle.desks.specs.declared.chain.StepFault.TheVariants.{Link, Expect}

-- a link's fault as a report tells it outside a run
abbrev pub link_fault : LinkFault → Fault
link_fault (Stopped link) = fault_of kind.UnitStopped link
link_fault (Used link) = fault_of kind.LinkUsed link
link_fault (Worn link) = fault_of kind.LinkWorn link
link_fault (Nack link code detail) = nack_fault link code detail
link_fault (Odd link) = fault_of kind.Odd link
link_fault (NoAck link) = fault_of kind.NoAck link

abbrev pub of_step : ℕ → LinkFault → StepFault
of_step step fault = Link step fault

-- the same fault, code and detail kept, with the step
abbrev pub step_fault : StepFault → Fault
step_fault (Link step fault) = at_step step (link_fault fault)
step_fault (Expect step f) = at_step step (fault_of kind.ExpectFailed f)

-- the step where a run stands, from 1
abbrev pub stands_at : Run → ℕ
stands_at r = min (r.step + 1) 255

-- a link's answer at a step of a run, on its way into the report
abbrev pub in_step : ℕ → Result (Unit {0}) LinkFault → Result (Unit {0}) StepFault
in_step step (Ok u) = Ok u
in_step step (Err fault) = Err (Link step fault)

abbrev pub in_report : ℕ → Result (Unit {0}) LinkFault → Result (Unit {0}) Fault
in_report step (Ok u) = Ok u
in_report step (Err fault) = Err (at_step step (link_fault fault))
