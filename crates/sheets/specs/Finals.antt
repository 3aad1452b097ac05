-- The final report of a number, and the line of the sheet that it ticks.
use Rattle.std.specs.Prelude.{ℕ, cond, List, [], ◌∷◌, Some, None, Ok, Err, Option, Result, ◌==◌}
use Rattle.machine.specs.Balance.{is_final}
use Rattle.records.specs.declared.refusal.Refusal.{Refusal}
use Rattle.records.specs.declared.report.Report.{Report}
use Rattle.records.specs.declared.report.Stage.{Stage}
use Rattle.sheets.specs.declared.row.Accepted.{Accepted}

-- the stage, where it is final
abbrev pub final_stage : Stage → Option Stage
final_stage s = cond (is_final s == 0) None (Some s)

abbrev pub final_by : ℕ → Report → Option Stage
final_by n told = cond (told.number == n) (final_stage told.stage) None

abbrev pub or_else : Option Stage → Option Stage → Option Stage
or_else None later = later
or_else (Some s) later = Some s

-- the first final report of a number
abbrev pub first_final : ℕ → List Report → Option Stage
first_final n [] = None
first_final n (told ∷ more) = or_else (final_by n told) (first_final n more)

-- refused, or accepted with the first final report among those given
abbrev pub row_of : List Report → Result ℕ Refusal → Result Accepted Refusal
row_of collected (Ok n) = Ok (record { number = n; report = first_final n collected })
row_of collected (Err why) = Err why
