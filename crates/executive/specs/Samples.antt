-- A sample, as it is judged and answered.
use Rattle.std.specs.Prelude.{Bool, Some, None, Ok, Err, Option, Result}
use Rattle.machine.specs.declared.answers.Raised.{Raised}
use Rattle.machine.specs.Machine.{Answer, quiet}
use Rattle.machine.specs.Outcomes.{raised_by, lost_by}
use Rattle.records.specs.declared.refusal.Refusal.{Refusal}

-- a refusal, if any, as an error
abbrev pub judged : Option Refusal → Result (Unit {0}) Refusal
judged None = Ok tt
judged (Some refusal) = Err refusal

-- a state and the event that told it, if one was raised
abbrev pub counted : Result (Bool × Option Raised) Refusal → Answer (Result Bool Refusal)
counted (Ok s) = record { outcome = Ok s.0; raised = raised_by s.1; lost = lost_by s.1 }
counted (Err refusal) = quiet (Err refusal)
