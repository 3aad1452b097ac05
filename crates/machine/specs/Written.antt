-- Reports in the order written: the class of every fault among them, their bounds, and that none is missing.
use Rattle.std.specs.Prelude.{◌≡◌, ℕ, ◌≤◌, cond, List, [], ◌∷◌, ◌++◌, reverse, Ok, sum_by, ◌==◌}
use Rattle.std.specs.List.{AllByRecursion}
use Rattle.links.specs.Meaning.{LinkKind}
use Rattle.records.specs.declared.report.Report.{Report}
use Rattle.records.specs.declared.report.Stage.{Stage}
use Rattle.records.specs.declared.report.Stage.TheVariants.{Started, Done, Failed}
use Rattle.records.specs.Faults.{class_of, fault_number}
use Rattle.watches.specs.Meaning.{WatchKind}
use Rattle.machine.specs.Balance.{view_of, all_reports, accepted_as, Pending, run_commands}
use Rattle.machine.specs.Calls.{Call, submit, answer_to, after}
use Rattle.machine.specs.Machine.{Machine, quiet, submit_answer}
use Rattle.machine.specs.Runs.{History, Ran, collected_in}

-- a fault has the class that the table gives its number
abbrev pub Classed : Stage → Type 0
Classed Started = Unit {0}
Classed (Done sent) = Unit {0}
Classed (Failed sent fault) = fault.class ≡ class_of (fault_number fault.kind)

abbrev pub AllClassed : List Report → Type 0
AllClassed reports = AllByRecursion (λ r. Classed r.stage) reports

-- a final report counts at most 28 commands, and its fault was met at no step above 28
abbrev pub Bounded : Stage → Type 0
Bounded Started = Unit {0}
Bounded (Done sent) = sent ≤ 28
Bounded (Failed sent fault) = (sent ≤ 28) × (fault.step ≤ 28)

abbrev pub AllBounded : List Report → Type 0
AllBounded reports = AllByRecursion (λ r. Bounded r.stage) reports

-- all reports there are, collected ones first, oldest first
abbrev pub written : {K0 K1 K2 : LinkKind} {W : WatchKind} → History → Machine K0 K1 K2 W → List Report
written h m = reverse (collected_in h) ++ m.desk.log.reports

-- a call only adds reports behind those that there are
pub record Adds (before after : List Report) : Type 0 where
  pub new : List Report
  pub behind : after ≡ before ++ new
  pub classed : AllClassed new

-- Reports come out in the order written, and every fault in one has the class of the table.
pub record ReportsInOrder (K0 K1 K2 : LinkKind) (W : WatchKind) : Type 0 where
  pub each_call_adds : (h : History) (m : Machine K0 K1 K2 W) (c : Call)
      → Adds (written h m) (written (record { call = c; answer = answer_to m c } ∷ h) (after m c))
  pub all_classed : (h : History) (m : Machine K0 K1 K2 W) → Ran h m → AllClassed (written h m)

-- In every run, a report counts at most 28 commands sent, and names no step above 28.
abbrev pub ReportsBounded : LinkKind → LinkKind → LinkKind → WatchKind → Type 0
ReportsBounded K0 K1 K2 W = (h : History) (m : Machine K0 K1 K2 W) → Ran h m → AllBounded (all_reports h (view_of m))

-- Nor were more than 28 commands sent for the procedure that runs.
abbrev pub RunBounded : LinkKind → LinkKind → LinkKind → WatchKind → Type 0
RunBounded K0 K1 K2 W = (h : History) (m : Machine K0 K1 K2 W) → Ran h m → run_commands m.desk.run ≤ 28

-- the newest of the reports that wait is of a number
pub record Newest (reports : List Report) (n : ℕ) : Type 0 where
  pub before : List Report
  pub stage : Stage
  pub last : reports ≡ before ++ record { number = n; stage = stage } ∷ []

-- what an accepted number's own call reports of it: STARTED where it is pending then
pub record Reported {K0 K1 K2 : LinkKind} {W : WatchKind} (h : History) (m : Machine K0 K1 K2 W) (n : ℕ) : Type 0 where
  pub newest : Newest m.desk.log.reports n
  pub started : Pending h (view_of m) n → newest.stage ≡ Started

-- In every run, a submit that is accepted leaves a report of its number: no STARTED finds the store full.
abbrev pub AcceptedIsReported : LinkKind → LinkKind → LinkKind → WatchKind → Type 0
AcceptedIsReported K0 K1 K2 W =
    (h : History) (m : Machine K0 K1 K2 W) → Ran h m → (bytes : List ℕ) (n : ℕ) → submit_answer m bytes ≡ quiet (Ok n)
    → Reported (record { call = submit bytes; answer = answer_to m (submit bytes) } ∷ h) (after m (submit bytes)) n

abbrev pub is_started : Stage → ℕ
is_started Started = 1
is_started (Done sent) = 0
is_started (Failed sent fault) = 0

-- how many STARTEDs a number has
abbrev pub started_of : ℕ → List Report → ℕ
started_of n reports = sum_by (λ r. cond (r.number == n) (is_started r.stage) 0) reports

-- In every run, each pending number was reported STARTED.
abbrev pub PendingWasStarted : LinkKind → LinkKind → LinkKind → WatchKind → Type 0
PendingWasStarted K0 K1 K2 W =
    (h : History) (m : Machine K0 K1 K2 W) → Ran h m → (n : ℕ) → Pending h (view_of m) n → 1 ≤ started_of n (all_reports h (view_of m))

-- In every run, each accepted number has at most one STARTED, and no other number has any.
abbrev pub StartedOnce : LinkKind → LinkKind → LinkKind → WatchKind → Type 0
StartedOnce K0 K1 K2 W = (h : History) (m : Machine K0 K1 K2 W) → Ran h m → (n : ℕ) → started_of n (all_reports h (view_of m)) ≤ accepted_as n h
