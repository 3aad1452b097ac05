-- Runs: histories of calls and answers that lead from a fresh machine, and what they tally.
use Rattle.std.specs.Prelude.{◌≡◌, ℕ, ◌+◌, Bool, true, false, cond, List, [], ◌∷◌, ◌++◌, Ok, Err, Result, ◌==◌}
use Rattle.links.specs.Meaning.{LinkKind}
use Rattle.records.specs.declared.refusal.Refusal.{Refusal}
use Rattle.records.specs.declared.report.Report.{Report}
use Rattle.watches.specs.Meaning.{WatchKind}
use Rattle.machine.specs.Calls.{Call, submit, deliver, tick, sample, collect, Told, submitted, delivered, ticked, sampled, collected, answer_to, after, made, Fresh}
use Rattle.machine.specs.Machine.{Machine, Answer, Handed, event, report, nothing}

-- a call that was made, with its answer
pub record Entry : Type 0 where
  pub call : Call
  pub answer : Answer Told

-- what happened, the newest first
abbrev pub History : Type 0
History = List Entry

module _ {K0 K1 K2 : LinkKind} {W : WatchKind} where
  -- a machine fresh from its making, on links and a watch in states that they can be in
  pub record New (m : Machine K0 K1 K2 W) : Type 0 where
    pub l0 : K0.State
    pub l1 : K1.State
    pub l2 : K2.State
    pub w : W.State
    pub ok0 : K0.Ok l0
    pub ok1 : K1.Ok l1
    pub ok2 : K2.Ok l2
    pub ok_watch : W.Ok w
    pub fresh : Fresh K0 K1 K2 W l0 l1 l2 w
    pub is : m ≡ made K0 K1 K2 W l0 l1 l2 w

  -- a history that leads from a fresh machine to this one, each answer being the machine's
  abbrev pub Ran : History → Machine K0 K1 K2 W → Type 0
  Ran [] m = New m
  Ran (e ∷ h) n = (m : Machine K0 K1 K2 W) × Ran h m × (e.answer ≡ answer_to m e.call) × (n ≡ after m e.call)

-- the number that an answer gave
abbrev pub number_by : Result ℕ Refusal → List ℕ
number_by (Ok n) = n ∷ []
number_by (Err refusal) = []

abbrev pub numbers_in : Told → List ℕ
numbers_in (submitted r) = number_by r
numbers_in (delivered r) = []
numbers_in ticked = []
numbers_in (sampled r) = []
numbers_in (collected x) = []

-- the report that an answer handed out
abbrev pub report_by : Handed → List Report
report_by (event e) = []
report_by (report r) = r ∷ []
report_by nothing = []

abbrev pub reports_in : Told → List Report
reports_in (submitted r) = []
reports_in (delivered r) = []
reports_in ticked = []
reports_in (sampled r) = []
reports_in (collected x) = report_by x

-- how many events an answer handed out
abbrev pub event_by : Handed → ℕ
event_by (event e) = 1
event_by (report r) = 0
event_by nothing = 0

abbrev pub events_in : Told → ℕ
events_in (submitted r) = 0
events_in (delivered r) = 0
events_in ticked = 0
events_in (sampled r) = 0
events_in (collected x) = event_by x

-- events of a sample that was answered with this state of the function
abbrev pub state_events : Bool → Result Bool Refusal → ℕ → ℕ
state_events true (Ok state) raised = cond state raised 0
state_events false (Ok state) raised = cond state 0 raised
state_events true (Err refusal) raised = 0
state_events false (Err refusal) raised = 0

abbrev pub sampled_events : Bool → Told → ℕ → ℕ
sampled_events state (submitted r) raised = 0
sampled_events state (delivered r) raised = 0
sampled_events state ticked raised = 0
sampled_events state (sampled r) raised = state_events state r raised
sampled_events state (collected x) raised = 0

-- TROUBLEs (state true) or CLEARs (state false) of a function that a call raised
abbrev pub raised_for : Bool → ℕ → Call → Answer Told → ℕ
raised_for state f (submit bytes) a = 0
raised_for state f (deliver link bytes) a = 0
raised_for state f tick a = 0
raised_for state f (sample g v) a = cond (f == g) (sampled_events state a.outcome a.raised) 0
raised_for state f collect a = 0

-- all of a history: numbers given, reports handed out, events handed out, raised, lost, and those of a function
abbrev pub accepted_in : History → List ℕ
accepted_in [] = []
accepted_in (e ∷ h) = numbers_in e.answer.outcome ++ accepted_in h

abbrev pub collected_in : History → List Report
collected_in [] = []
collected_in (e ∷ h) = reports_in e.answer.outcome ++ collected_in h

abbrev pub events_collected : History → ℕ
events_collected [] = 0
events_collected (e ∷ h) = events_in e.answer.outcome + events_collected h

abbrev pub events_raised : History → ℕ
events_raised [] = 0
events_raised (e ∷ h) = e.answer.raised + events_raised h

abbrev pub events_lost : History → ℕ
events_lost [] = 0
events_lost (e ∷ h) = e.answer.lost + events_lost h

abbrev pub state_changes : Bool → ℕ → History → ℕ
state_changes state f [] = 0
state_changes state f (e ∷ h) = raised_for state f e.call e.answer + state_changes state f h
