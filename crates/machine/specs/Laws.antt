-- Laws over runs and calls, on any links and watch that keep their meanings.
use Rattle.std.specs.Prelude.{◌≡◌, ◌+◌, ◌<◌, min, Bool, true, false, cond, List, [], ◌∷◌, ◌++◌, map, length, replicate, Ok, Err, Result}
use Rattle.links.specs.Meaning.{LinkKind}
use Rattle.records.specs.declared.event.Event.{Event}
use Rattle.records.specs.declared.refusal.Refusal.{Refusal}
use Rattle.records.specs.declared.report.Report.{Report}
use Rattle.watches.specs.Meaning.{WatchKind}
use Rattle.machine.specs.Balance.{view_of, pending_in, run_commands, Balanced, RunTied}
use Rattle.machine.specs.Calls.{Call, collect, answer_to, after, answers_to, after_all}
use Rattle.machine.specs.Calls.{Told}
use Rattle.machine.specs.Calls.{submitted, delivered, ticked, sampled, collected}
use Rattle.machine.specs.Machine.{Machine, Answer, quiet, free}
use Rattle.machine.specs.Parts.{event, report, nothing}
use Rattle.machine.specs.Runs.{History, Ran, accepted_in, events_raised}

-- Every run that starts from a fresh machine is balanced after each of its calls.
abbrev pub RunsBalance : LinkKind → LinkKind → LinkKind → WatchKind → Type 0
RunsBalance K0 K1 K2 W = (h : History) (m : Machine K0 K1 K2 W) → Ran h m → Balanced h (view_of m)

-- In every run, links hold commands of the procedure just as the run waits for them.
abbrev pub RunsAreTied : LinkKind → LinkKind → LinkKind → WatchKind → Type 0
RunsAreTied K0 K1 K2 W = (h : History) (m : Machine K0 K1 K2 W) → Ran h m → RunTied (view_of m)

-- what waits, as collects hand it out: events before reports, each oldest first
abbrev pub handings : List Event → List Report → List (Answer Told)
handings events reports = map (λ e. quiet (collected (event e))) events ++ map (λ r. quiet (collected (report r))) reports

-- What waits is what collects alone would then hand out, and after that nothing.
abbrev pub WaitingIsHandedOut : LinkKind → LinkKind → LinkKind → WatchKind → Type 0
WaitingIsHandedOut K0 K1 K2 W =
    (m : Machine K0 K1 K2 W)
    → answers_to m (replicate (length m.desk.log.events + length m.desk.log.reports) collect ++ collect ∷ [])
    ≡ handings m.desk.log.events m.desk.log.reports ++ quiet (collected nothing) ∷ []

abbrev pub is_err : {A : Type 0} → Result A Refusal → Bool
is_err (Ok x) = false
is_err (Err refusal) = true

abbrev pub is_refused : Told → Bool
is_refused (submitted r) = is_err r
is_refused (delivered r) = is_err r
is_refused ticked = false
is_refused (sampled r) = is_err r
is_refused (collected x) = false

-- A refused call changes nothing.
abbrev pub RefusalsChangeNothing : LinkKind → LinkKind → LinkKind → WatchKind → Type 0
RefusalsChangeNothing K0 K1 K2 W = (m : Machine K0 K1 K2 W) (c : Call) → is_refused (answer_to m c).outcome ≡ true → after m c ≡ m

-- A refused call raises no event and loses none.
abbrev pub RefusalsAreQuiet : LinkKind → LinkKind → LinkKind → WatchKind → Type 0
RefusalsAreQuiet K0 K1 K2 W =
    (m : Machine K0 K1 K2 W) (c : Call) → is_refused (answer_to m c).outcome ≡ true → ((answer_to m c).raised ≡ 0) × ((answer_to m c).lost ≡ 0)

module _ {K0 K1 K2 : LinkKind} {W : WatchKind} where
  -- the calls of a list that are not refused, and their answers
  unfoldable pub taken_calls : Machine K0 K1 K2 W → List Call → List Call
  taken_calls m [] = []
  taken_calls m (c ∷ calls) = cond (is_refused (answer_to m c).outcome) (taken_calls (after m c) calls) (c ∷ taken_calls (after m c) calls)

  unfoldable pub taken_answers : Machine K0 K1 K2 W → List Call → List (Answer Told)
  taken_answers m [] = []
  taken_answers m (c ∷ calls) =
      cond (is_refused (answer_to m c).outcome) (taken_answers (after m c) calls) (answer_to m c ∷ taken_answers (after m c) calls)

-- So striking the refused calls from a list changes no other answer, nor what the list leaves.
abbrev pub RefusalsCanBeStruck : LinkKind → LinkKind → LinkKind → WatchKind → Type 0
RefusalsCanBeStruck K0 K1 K2 W =
    (m : Machine K0 K1 K2 W) (calls : List Call)
    → (answers_to m (taken_calls m calls) ≡ taken_answers m calls) × (after_all m (taken_calls m calls) ≡ after_all m calls)

-- The count of commands sent for a run stays below the value at which it would stop counting.
abbrev pub SentKeepsCounting : LinkKind → LinkKind → LinkKind → WatchKind → Type 0
SentKeepsCounting K0 K1 K2 W = (h : History) (m : Machine K0 K1 K2 W) → Ran h m → run_commands m.desk.run < 4294967295

-- Free is what is left of the 400 places of the report store, after waiting reports and pending numbers.
abbrev pub FreeIsWhatIsLeft : LinkKind → LinkKind → LinkKind → WatchKind → Type 0
FreeIsWhatIsLeft K0 K1 K2 W =
    (h : History) (m : Machine K0 K1 K2 W) → Ran h m → free m + length m.desk.log.reports + pending_in h (view_of m) ≡ 400

-- The machine's own counts are those of the history; events are counted up to a million.
pub record OwnCounts {K0 K1 K2 : LinkKind} {W : WatchKind} (h : History) (m : Machine K0 K1 K2 W) : Type 0 where
  pub accepted : m.desk.log.accepted ≡ length (accepted_in h)
  pub raised : m.desk.log.raised ≡ min (events_raised h) 1000000

abbrev pub CountsOfTheHistory : LinkKind → LinkKind → LinkKind → WatchKind → Type 0
CountsOfTheHistory K0 K1 K2 W = (h : History) (m : Machine K0 K1 K2 W) → Ran h m → OwnCounts h m
