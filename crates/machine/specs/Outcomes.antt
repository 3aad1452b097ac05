-- What the code's calls answer, as the machine's answers.
use Rattle.std.specs.Prelude.{ℕ, ◌+◌, min, cond, Some, None, Option}
use Rattle.machine.specs.declared.answers.Answer as code_answer
use Rattle.machine.specs.declared.answers.Handed as code
use Rattle.machine.specs.declared.answers.Handed.TheVariants as given
use Rattle.machine.specs.declared.answers.Outcome.{Outcome}
use Rattle.machine.specs.declared.answers.Outcome.TheVariants.{Submitted, Delivered, Ticked, Sampled, Collected}
use Rattle.machine.specs.declared.answers.Raised.{Raised}
use Rattle.machine.specs.Calls.{Told, told, submitted, delivered, ticked, sampled, collected}
use Rattle.machine.specs.Parts.{Answer, Handed, event, report, nothing}

abbrev pub handing_of : Option code.Handed → Handed
handing_of (Some (given.Event e)) = event e
handing_of (Some (given.Report r)) = report r
handing_of None = nothing

abbrev pub told_of : Outcome → Told
told_of (Submitted answer) = submitted answer
told_of (Delivered answer) = delivered answer
told_of Ticked = ticked
told_of (Sampled answer) = sampled answer
told_of (Collected x) = collected (handing_of x)

-- an answer in the code, as the machine gives it
abbrev pub answer_in : {A : Type 0} → code_answer.Answer A → Answer A
answer_in a = record { outcome = a.outcome; raised = a.raised; lost = a.lost }

abbrev pub handed_answer : code_answer.Answer (Option code.Handed) → Answer Handed
handed_answer a = record { outcome = handing_of a.outcome; raised = a.raised; lost = a.lost }

abbrev pub answer_of : code_answer.Answer Outcome → Answer Told
answer_of a = told told_of (answer_in a)

-- how many events were raised, of at most one, and how many of them lost
abbrev pub lost_of : Raised → ℕ
lost_of e = cond e.lost 1 0

abbrev pub raised_by : Option Raised → ℕ
raised_by None = 0
raised_by (Some e) = 1

abbrev pub lost_by : Option Raised → ℕ
lost_by None = 0
lost_by (Some e) = lost_of e

-- an answer with one event more, if one was raised; counts stay at their largest
abbrev pub counted_in : {A : Type 0} → Option Raised → Answer A → Answer A
counted_in None a = a
counted_in (Some e) a = record { outcome = a.outcome; raised = min (a.raised + 1) 4294967295; lost = min (a.lost + lost_of e) 4294967295 }
