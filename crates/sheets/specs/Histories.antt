-- Answers as those of a history, and what they hand out.
use Rattle.std.specs.Prelude.{List, [], ◌∷◌, ◌++◌}
use Rattle.std.specs.List.{flat_map}
use Rattle.machine.specs.Calls.{Told}
use Rattle.machine.specs.Parts.{Answer}
use Rattle.machine.specs.Runs.{History, reports_in}
use Rattle.records.specs.declared.report.Report.{Report}

-- the answers of a history, oldest first
abbrev pub answers_in : History → List (Answer Told)
answers_in [] = []
answers_in (e ∷ h) = answers_in h ++ e.answer ∷ []

-- the reports that answers handed out, oldest first
abbrev pub reports_of : List (Answer Told) → List Report
reports_of answers = flat_map (λ a. reports_in a.outcome) answers
