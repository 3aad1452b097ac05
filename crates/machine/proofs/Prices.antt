-- Prices: what reports, pending numbers and taken commands are worth, and what the desk keeps of it.
use Rattle.std.proofs.Common.{◌≡◌, ℕ, ◌+◌, ◌<◌, ◌≤◌, min, ltb, List, [], ◌∷◌, ◌++◌, length, Some, None, sum_by, Option, refl, ap, ◌∙◌, arith}
use Rattle.std.proofs.lemmas.List.{length_push}
use Rattle.std.proofs.lemmas.List.Sums.{sum_by_push}
use Rattle.std.proofs.lemmas.Bool.{cond_both, cond-true, lt-ltb}
use Rattle.records.specs.declared.fault.Fault.{Fault}
use Rattle.records.specs.declared.report.Report.{Report}
use Rattle.records.specs.declared.report.Stage.{Stage}
use Rattle.records.specs.declared.report.Stage.TheVariants.{Started, Done, Failed}
use Rattle.records.specs.Faults.{at_step}
use Rattle.machine.specs.declared.state.Hold.{Hold}
use Rattle.machine.specs.declared.state.Owner.{Owner}
use Rattle.machine.specs.declared.state.Owner.TheVariants as owner
use Rattle.machine.specs.declared.state.Run.{Run}
use Rattle.machine.specs.declared.state.RunState.{RunState}
use Rattle.machine.specs.declared.state.RunState.TheVariants.{Ready, Sent}
use Rattle.machine.specs.Balance.{sent_by}
use Rattle.machine.specs.Desks.{Desk, put, with_run, reported, procedure_at, settled, steps_of, failed_run, passed}
use Rattle.machine.specs.Machine.{pending_of, pending_in, pending_run}
use Rattle.machine.specs.Seats.{Ending, acknowledged, broken, answered_run, answered_procedure, ended_for, ended}

-- F: a report; g: a number for which so many commands were taken, until its final report; W: commands taken
pub record Price : Type 0 where
  pub F : Report → ℕ
  pub g : ℕ → ℕ → ℕ
  pub W : ℕ → ℕ
  pub w : ℕ
  pub started : (n : ℕ) → F (record { number = n; stage = Started }) ≡ 0
  pub done : (n s : ℕ) → F (record { number = n; stage = Done s }) ≡ g n s
  pub failed : (n s : ℕ) (f : Fault) → F (record { number = n; stage = Failed s f }) ≡ g n s
  pub one_more : (n s : ℕ) → g n (s + 1) ≡ g n s + w
  pub none_taken : W 0 ≡ 0
  pub taken_more : (t : ℕ) → W (t + 1) ≡ W t + w

abbrev pub run_worth : Price → Option Run → ℕ
run_worth P None = 0
run_worth P (Some r) = P.g r.number r.sent

abbrev pub owner_worth : Price → Owner → ℕ
owner_worth P (owner.Telecommand n) = P.g n 1
owner_worth P owner.Procedure = 0

abbrev pub hold_worth : Price → Option Hold → ℕ
hold_worth P None = 0
hold_worth P (Some h) = owner_worth P h.owner

abbrev pub desk_worth : Price → Desk → ℕ
desk_worth P d = sum_by P.F d.log.reports + run_worth P d.run

-- places of the report store that are taken, or owed for the run
abbrev pub desk_debt : Desk → ℕ
desk_debt d = length d.log.reports + pending_run d.run

-- a desk that was handed some worth and some places of the report store, and changed nothing else that counts
pub record Moved (worth : Price → ℕ) (places : ℕ) (d e : Desk) : Type 0 where
  pub worths : (P : Price) → desk_worth P e ≡ desk_worth P d + worth P
  pub debt : desk_debt e ≤ desk_debt d + places
  pub accepted : e.log.accepted ≡ d.log.accepted
  pub events : e.log.events ≡ d.log.events
  pub raised : e.log.raised ≡ d.log.raised

-- a report that finds its place
pub put_room : {A : Type 0} (xs : List A) (x : A) → length xs < 400 → put 400 xs x ≡ xs ++ x ∷ []
put_room xs x h = cond-true (ltb (length xs) 400) (xs ++ x ∷ []) xs (lt-ltb (length xs) 400 h)

pub filed_worth : (P : Price) (xs : List Report) (x : Report) → length xs < 400 → sum_by P.F (put 400 xs x) ≡ sum_by P.F xs + P.F x
filed_worth P xs x h = ap (sum_by P.F) (put_room xs x h) ∙ sum_by_push P.F xs x

pub filed_length : (xs : List Report) (x : Report) → length xs < 400 → length (put 400 xs x) ≡ length xs + 1
filed_length xs x h = ap length (put_room xs x h) ∙ length_push xs x

-- nothing changed
pub stayed : (d : Desk) → Moved (λ P. 0) 0 d d
stayed d = record { worths = λ P. omega arith; debt = omega arith; accepted = refl; events = refl; raised = refl }

-- one report more
pub reported_moved : (d : Desk) (n : ℕ) (stage : Stage) (value : Price → ℕ) → ((P : Price) → P.F (record { number = n; stage = stage }) ≡ value P)
    → length d.log.reports < 400 → Moved value 1 d (reported d n stage)
reported_moved d n stage value is room =
    let x : Report = record { number = n; stage = stage } in
    record {
      worths = λ P. omega (arith, filed_worth P d.log.reports x room, is P);
      debt = omega (arith, filed_length d.log.reports x room);
      accepted = refl;
      events = refl;
      raised = refl;
    }

-- a number that is settled at once is worth what an accepted number is
pub settled_moved : (n : ℕ) (fault : Option Fault) (d : Desk) → length d.log.reports < 400 → Moved (λ P. P.g n 0) 1 d (settled n fault d)
settled_moved n None d room = reported_moved d n (Done 0) (λ P. P.g n 0) (λ P. P.done n 0) room
settled_moved n (Some f) d room = reported_moved d n (Failed 0 f) (λ P. P.g n 0) (λ P. P.failed n 0 f) room

-- the run's final report takes the place and the worth of the run
run_ends : (d : Desk) (r : Run) (stage : Stage) → d.run ≡ Some r → ((P : Price) → P.F (record { number = r.number; stage = stage }) ≡ P.g r.number r.sent)
    → desk_debt d ≤ 400 → Moved (λ P. 0) 0 d (reported (with_run d None) r.number stage)
run_ends d r stage e is room =
    let one : pending_run d.run ≡ 1 = ap pending_run e in
    let x : Report = record { number = r.number; stage = stage } in
    let low : length d.log.reports < 400 = omega (arith, one) in
    record {
      worths = λ P. omega (arith, filed_worth P d.log.reports x low, is P, ap (run_worth P) e);
      debt = omega (arith, filed_length d.log.reports x low, one);
      accepted = refl;
      events = refl;
      raised = refl;
    }

pub failed_moved : (d : Desk) (r : Run) (f : Fault) → d.run ≡ Some r → desk_debt d ≤ 400 → Moved (λ P. 0) 0 d (failed_run (Some r) f d)
failed_moved d r f e room =
    run_ends d r (Failed r.sent (at_step (min (r.step + 1) 255) f)) e (λ P. P.failed r.number r.sent (at_step (min (r.step + 1) 255) f)) room

-- the run of the same number, with as much sent
pub rerun_moved : (d : Desk) (r s : Run) → d.run ≡ Some r → r.number ≡ s.number → r.sent ≡ s.sent → Moved (λ P. 0) 0 d (with_run d (Some s))
rerun_moved d r s e n m =
    let one : pending_run d.run ≡ 1 = ap pending_run e in
    record {
      worths = λ P. let same : run_worth P d.run ≡ P.g s.number s.sent = ap (run_worth P) e ∙ cc in omega (arith, same);
      debt = omega (arith, one);
      accepted = refl;
      events = refl;
      raised = refl;
    }

pub passed_moved : (d : Desk) (r : Run) → d.run ≡ Some r → desk_debt d ≤ 400 → Moved (λ P. 0) 0 d (passed r d)
passed_moved d r e room =
    let next : Run = record { id = r.id; number = r.number; step = r.step + 1; sent = r.sent; state = Ready 0 } in
    cond_both (ltb (r.step + 1) (steps_of (procedure_at d r.id))) (with_run d (Some next)) (reported (with_run d None) r.number (Done r.sent))
    (Moved (λ P. 0) 0 d)
    (λ t. rerun_moved d r next e refl refl)
    (λ t. run_ends d r (Done r.sent) e (λ P. P.done r.number r.sent) room)

answered_moved : (d : Desk) (r : Run) (s : RunState) (x : Ending) → d.run ≡ Some r → desk_debt d ≤ 400 → Moved (λ P. 0) 0 d (answered_run s x r d)
answered_moved d r (Ready spent) x e room = stayed d
answered_moved d r (Sent link) acknowledged e room = passed_moved d r e room
answered_moved d r (Sent link) (broken f) e room = failed_moved d r f e room

procedure_moved : (d : Desk) (run : Option Run) (x : Ending) → d.run ≡ run → desk_debt d ≤ 400 → Moved (λ P. 0) 0 d (answered_procedure run x d)
procedure_moved d None x e room = stayed d
procedure_moved d (Some r) x e room = answered_moved d r r.state x e room

-- a held command that ended hands its owner's worth and place to the desk
ended_for_each : (o : Owner) (x : Ending) (d : Desk) → desk_debt d + pending_of o ≤ 400 → Moved (λ P. owner_worth P o) (pending_of o) d (ended_for o x d)
ended_for_each (owner.Telecommand n) acknowledged d room = reported_moved d n (Done 1) (λ P. P.g n 1) (λ P. P.done n 1) (omega arith)
ended_for_each (owner.Telecommand n) (broken f) d room = reported_moved d n (Failed 1 f) (λ P. P.g n 1) (λ P. P.failed n 1 f) (omega arith)
ended_for_each owner.Procedure x d room = procedure_moved d d.run x refl (omega arith)

pub ended_moved : (h : Option Hold) (x : Ending) (d : Desk) → desk_debt d + pending_in h ≤ 400 → Moved (λ P. hold_worth P h) (pending_in h) d (ended h x d)
ended_moved None x d room = stayed d
ended_moved (Some h) x d room = ended_for_each h.owner x d room

-- the price of commands: each sent one counts
abbrev pub commands : Price
commands = record {
  F = λ r. sent_by r.stage;
  g = λ n s. s;
  W = λ t. t;
  w = 1;
  started = λ n. refl;
  done = λ n s. refl;
  failed = λ n s f. refl;
  one_more = λ n s. refl;
  none_taken = refl;
  taken_more = λ t. refl;
}
