-- Numbers that answers gave and that have no final report.
use Rattle.std.specs.Prelude.{ℕ, Bool, not, List, ◌++◌, sum_by, count_by, ◌==◌}
use Rattle.machine.specs.Calls.{Told}
use Rattle.machine.specs.Balance.{finals_of}
use Rattle.machine.specs.Parts.{Answer}
use Rattle.machine.specs.Runs.{numbers_in}
use Rattle.records.specs.declared.report.Report.{Report}
use Rattle.sheets.specs.Histories.{reports_of}

-- a number without a final report
abbrev pub is_open : List Report → ℕ → Bool
is_open reports n = finals_of n reports == 0

abbrev pub open_by : List Report → Answer Told → ℕ
open_by reports a = count_by (is_open reports) (numbers_in a.outcome)

abbrev pub gives_open : List Report → Answer Told → Bool
gives_open reports a = not (open_by reports a == 0)

-- the numbers that answers gave, without a final report among theirs and the rest's
abbrev pub pending_of : List (Answer Told) → List (Answer Told) → ℕ
pending_of answers rest = sum_by (open_by (reports_of answers ++ reports_of rest)) answers
