-- The balance: what a history and the machine's links, stores and watch always agree on.
use Rattle.std.specs.Prelude.{◌≡◌, ℕ, zero, suc, ◌+◌, ◌≤◌, Bool, true, false, cond, ◌⊎◌, ◌↔◌, List, [], ◌∷◌, ◌++◌, length, is_some, Some, None, sum_by, count_by, Option, ◌==◌, nat_eq}
use Rattle.links.specs.Meaning.{LinkKind, LinkMeaning}
use Rattle.records.specs.declared.event.Event.{Event}
use Rattle.records.specs.declared.report.Report.{Report}
use Rattle.records.specs.declared.report.Stage.{Stage}
use Rattle.records.specs.declared.report.Stage.TheVariants.{Started, Done, Failed}
use Rattle.watches.specs.Meaning.{WatchKind}
use Rattle.machine.specs.declared.state.Hold.{Hold}
use Rattle.machine.specs.declared.state.Owner.{Owner}
use Rattle.machine.specs.declared.state.Owner.TheVariants as owner
use Rattle.machine.specs.declared.state.Run.{Run}
use Rattle.machine.specs.declared.state.RunState.{RunState}
use Rattle.machine.specs.declared.state.RunState.TheVariants.{Sent}
use Rattle.machine.specs.Machine.{Machine}
use Rattle.machine.specs.Runs.{History, accepted_in, collected_in, events_collected, events_raised, events_lost, state_changes}

-- a link by its own meaning, with the note for whom it holds its command
pub record LinkView : Type 0 where
  pub link : LinkMeaning
  pub hold : Option Hold

-- a machine as the balance reads it: its links, the run, what waits in its stores, which functions are in trouble
pub record View : Type 0 where
  pub link0 : LinkView
  pub link1 : LinkView
  pub link2 : LinkView
  pub run : Option Run
  pub events : List Event
  pub reports : List Report
  pub trouble : ℕ → Bool

abbrev pub view_of : {K0 K1 K2 : LinkKind} {W : WatchKind} → Machine K0 K1 K2 W → View
view_of {K0} {K1} {K2} {W} m = record {
  link0 = record { link = K0.means m.seat0.link; hold = m.seat0.hold };
  link1 = record { link = K1.means m.seat1.link; hold = m.seat1.hold };
  link2 = record { link = K2.means m.seat2.link; hold = m.seat2.hold };
  run = m.desk.run;
  events = m.desk.log.events;
  reports = m.desk.log.reports;
  trouble = W.trouble m.watch;
}

-- every report there is: collected or waiting
abbrev pub all_reports : History → View → List Report
all_reports h v = collected_in h ++ v.reports

abbrev pub is_done : Stage → ℕ
is_done Started = 0
is_done (Done sent) = 1
is_done (Failed sent fault) = 0

abbrev pub is_failed : Stage → ℕ
is_failed Started = 0
is_failed (Done sent) = 0
is_failed (Failed sent fault) = 1

-- a final report is DONE or FAILED
abbrev pub is_final : Stage → ℕ
is_final Started = 0
is_final (Done sent) = 1
is_final (Failed sent fault) = 1

-- the commands that a final report counts
abbrev pub sent_by : Stage → ℕ
sent_by Started = 0
sent_by (Done sent) = sent
sent_by (Failed sent fault) = sent

abbrev pub done_in : List Report → ℕ
done_in reports = sum_by (λ r. is_done r.stage) reports

abbrev pub failed_in : List Report → ℕ
failed_in reports = sum_by (λ r. is_failed r.stage) reports

abbrev pub sent_in : List Report → ℕ
sent_in reports = sum_by (λ r. sent_by r.stage) reports

-- how many final reports a number has, and how often it was accepted
abbrev pub finals_of : ℕ → List Report → ℕ
finals_of n reports = sum_by (λ r. cond (r.number == n) (is_final r.stage) 0) reports

abbrev pub accepted_as : ℕ → History → ℕ
accepted_as n h = sum_by (λ k. cond (k == n) 1 0) (accepted_in h)

-- pending: accepted, and no final report yet
pub record Pending (h : History) (v : View) (n : ℕ) : Type 0 where
  pub accepted : accepted_as n h ≡ 1
  pub no_final : finals_of n (all_reports h v) ≡ 0

abbrev pub pending_in : History → View → ℕ
pending_in h v = count_by (λ n. nat_eq (finals_of n (all_reports h v)) 0) (accepted_in h)

abbrev pub number_of : Owner → Option ℕ
number_of (owner.Telecommand n) = Some n
number_of owner.Procedure = None

abbrev pub hold_number : Option Hold → Option ℕ
hold_number None = None
hold_number (Some h) = number_of h.owner

abbrev pub run_number : Option Run → Option ℕ
run_number None = None
run_number (Some r) = Some r.number

-- a link holds the command of a number
pub record Holds (l : LinkView) (n : ℕ) : Type 0 where
  pub held : is_some l.link.held ≡ true
  pub for_it : hold_number l.hold ≡ Some n

-- the procedure of a number runs
abbrev pub Runs : View → ℕ → Type 0
Runs v n = run_number v.run ≡ Some n

abbrev pub owner_in : Option Hold → Option Owner
owner_in None = None
owner_in (Some h) = Some h.owner

-- a link holds a command of the procedure
pub record HoldsForRun (l : LinkView) : Type 0 where
  pub held : is_some l.link.held ≡ true
  pub for_run : owner_in l.hold ≡ Some owner.Procedure

abbrev pub state_in : Option Run → Option RunState
state_in None = None
state_in (Some r) = Some r.state

-- the run waits for a link's answer to its command
abbrev pub Waits : View → ℕ → Type 0
Waits v link = state_in v.run ≡ Some (Sent link)

abbrev pub Carried : View → ℕ → Type 0
Carried v n = Holds v.link0 n ⊎ (Holds v.link1 n ⊎ (Holds v.link2 n ⊎ Runs v n))

-- commands sent so far for pending numbers: one for a telecommand whose command a link holds, and the run's
abbrev pub owners_commands : Owner → ℕ
owners_commands (owner.Telecommand n) = 1
owners_commands owner.Procedure = 0

abbrev pub noted_commands : Option Hold → ℕ
noted_commands None = 0
noted_commands (Some h) = owners_commands h.owner

abbrev pub held_commands : LinkView → ℕ
held_commands l = cond (is_some l.link.held) (noted_commands l.hold) 0

abbrev pub run_commands : Option Run → ℕ
run_commands None = 0
run_commands (Some r) = r.sent

abbrev pub sent_pending : View → ℕ
sent_pending v = held_commands v.link0 + held_commands v.link1 + held_commands v.link2 + run_commands v.run

-- the numbers from one down to 1
abbrev pub down_from : ℕ → List ℕ
down_from zero = []
down_from (suc n) = suc n ∷ down_from n

pub record Balanced (h : History) (v : View) : Type 0 where
  -- accepted = done + failed + pending
  pub numbers : length (accepted_in h) ≡ done_in (all_reports h v) + failed_in (all_reports h v) + pending_in h v
  -- numbers are 1, 2, 3, .. in the order accepted
  pub in_order : accepted_in h ≡ down_from (length (accepted_in h))
  -- each accepted number has at most one final report, and no other number has any
  pub one_final : (n : ℕ) → finals_of n (all_reports h v) ≤ accepted_as n h
  pub accepted_once : (n : ℕ) → accepted_as n h ≤ 1
  -- a number is pending exactly while a link holds its command or its procedure runs
  pub while_carried : (n : ℕ) → Pending h v n ↔ Carried v n
  -- commands taken = commands in final reports + commands sent for pending numbers
  pub commands : v.link0.link.taken + v.link1.link.taken + v.link2.link.taken ≡ sent_in (all_reports h v) + sent_pending v
  -- events raised = collected + waiting + lost
  pub events : events_raised h ≡ events_collected h + length v.events + events_lost h
  -- a function's TROUBLEs outnumber its CLEARs by one exactly while it is in trouble
  pub troubles : (f : ℕ) → state_changes true f h ≡ state_changes false f h + cond (v.trouble f) 1 0
  -- a link's command has an owner exactly while it is held
  pub owner0 : is_some v.link0.link.held ≡ is_some v.link0.hold
  pub owner1 : is_some v.link1.link.held ≡ is_some v.link1.hold
  pub owner2 : is_some v.link2.link.held ≡ is_some v.link2.hold
  -- a place waits for every report that is still owed
  pub room : length v.reports + pending_in h v ≤ 400

-- A link holds a command of the procedure exactly while the run waits for that link, and it waits for no other than these.
pub record RunTied (v : View) : Type 0 where
  pub procedure0 : HoldsForRun v.link0 ↔ Waits v 0
  pub procedure1 : HoldsForRun v.link1 ↔ Waits v 1
  pub procedure2 : HoldsForRun v.link2 ↔ Waits v 2
  pub no_other_link : (link : ℕ) → Waits v link → link ≤ 2
