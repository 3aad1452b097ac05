-- That carrying out a telecommand keeps what holds between calls.
use Rattle.std.proofs.Common.{◌≡◌, ℕ, ◌+◌, ◌-◌, ◌<◌, ◌≤◌, Bool, true, false, cond, ◌&&◌, ◌||◌, eqb, ltb, leb, length, is_some, is_ok, Some, None, Ok, Err, sum_by, Option, Result, sym, refl, ap, ◌∙◌, subst, arith}
use Rattle.std.proofs.lemmas.Bool.{cond_both, both_ways}
use Rattle.std.proofs.lemmas.Bool.Decides.{nat_tests}
use Rattle.links.specs.declared.answers.OfferRefusal.{OfferRefusal}
use Rattle.links.specs.Meaning.{LinkKind, Lawful, offer_answer}
use Rattle.records.specs.declared.command.Command.{Command}
use Rattle.records.specs.declared.fault.Fault.{Fault}
use Rattle.records.specs.declared.fault.FaultKind.{FaultKind}
use Rattle.records.specs.declared.fault.FaultKind.TheVariants.{InvalidFunction, UnitStopped, InvalidProcedure, EmptyProcedure, RunningProcedure, ProcedureStopped}
use Rattle.records.specs.declared.report.Report.{Report}
use Rattle.records.specs.declared.report.Stage.TheVariants.{Started}
use Rattle.records.specs.Faults.{fault_of}
use Rattle.telecommands.specs.Fields.{Settings}
use Rattle.telecommands.specs.Fields.{Steps}
use Rattle.telecommands.specs.declared.packet.Telecommand.{Telecommand}
use Rattle.telecommands.specs.declared.packet.Telecommand.TheVariants.{Test, Perform, Load, Delete, Start, Stop, Set}
use Rattle.watches.specs.Meaning.{WatchKind}
use Rattle.machine.specs.declared.state.Owner.TheVariants as owner
use Rattle.machine.specs.declared.state.Procedure.{Procedure}
use Rattle.machine.specs.declared.state.Run.{Run}
use Rattle.machine.specs.declared.state.RunState.{RunState}
use Rattle.machine.specs.declared.state.RunState.TheVariants.{Ready, Sent}
use Rattle.machine.specs.Desks.{Log, Desk, with_run, reported, is_blocked, procedure_at, id_of, settled, failed_run}
use Rattle.machine.specs.Machine.{Machine, pending_run, offer_fault, with_desk, means_at, offered_at, width_of, triggered_by, triggered, performed, withdrawn, stopped_run, stopping, done, stopped, outcome_of, carried_out}
use Rattle.machine.specs.Procedures.{Outcome, failed, setting, is_procedure, loading, deleting, writing, setting_loaded, setting_parameters, starting_loaded, starting, new_run, begun}
use Rattle.machine.proofs.Offers.{AllTies, took, kept, withdrew}
use Rattle.machine.proofs.Prices.{Price, run_worth, Moved, filed_worth, filed_length, reported_moved, settled_moved, failed_moved}
use Rattle.machine.proofs.Ticking.{debt_of, Sound, Kept, desk_kept, ready_unsent, run_failed, kept_then, unchanged}
use Rattle.machine.proofs.Turning.{Ties, sent_to}

-- an outcome that leaves stores, counts and the run as they were
pub record Same (d : Desk) (o : Outcome) : Type 0 where
  pub log : o.desk.log ≡ d.log
  pub run : o.desk.run ≡ d.run

pub setting_same : (width : ℕ) (d : Desk) (activity sid value : ℕ) → Same d (setting width d activity sid value)
setting_same width d activity sid value = record { log = grind (arith, nat_tests); run = grind (arith, nat_tests) }

pub loading_same : (width : ℕ) (d : Desk) (id nop : ℕ) (s : Steps) → Same d (loading width d id nop s)
loading_same width d id nop s = record { log = grind (arith, nat_tests); run = grind (arith, nat_tests) }

pub deleting_same : (d : Desk) (id : ℕ) → Same d (deleting d id)
deleting_same d id = record { log = grind (arith, nat_tests); run = grind (arith, nat_tests) }

pub writing_same : (d : Desk) (id : ℕ) (p : Procedure) (s : Settings) → Same d (writing d id p s)
writing_same d id p s = record { log = grind (arith, nat_tests); run = grind (arith, nat_tests) }

setting_loaded_same : (p : Option Procedure) (d : Desk) (id : ℕ) (s : Settings) → Same d (setting_loaded p d id s)
setting_loaded_same None d id s = record { log = refl; run = refl }
setting_loaded_same (Some p) d id s = writing_same d id p s

chosen : (d : Desk) (b : Bool) (x y : Outcome) → Same d x → Same d y → Same d (cond b x y)
chosen d b x y p q = cond_both b x y (Same d) (λ e. p) (λ e. q)

pub parameters_same : (d : Desk) (id : ℕ) (s : Settings) → Same d (setting_parameters d id s)
parameters_same d id s =
    chosen d (is_procedure id) (setting_loaded (procedure_at d id) d id s) (failed d InvalidProcedure id) (setting_loaded_same (procedure_at d id) d id s)
    (record { log = refl; run = refl })

-- a start that began found no run
pub record StartedFree (d : Desk) (o : Outcome) : Type 0 where
  pub same : Same d o
  pub free : o.fault ≡ None → is_some d.run ≡ false

some_fault : (f : Fault) (P : Type 0) → Some f ≡ None → P
some_fault f P e =
    let z : ◌≡◌ {A = ℕ} 0 1 = cc e in
    let bottom : ⊥ = omega arith in
    absurd bottom

failed_free : (d : Desk) (kind : FaultKind) (parameter : ℕ) → StartedFree d (failed d kind parameter)
failed_free d kind parameter = record {
  same = record { log = refl; run = refl };
  free = some_fault (fault_of kind parameter) (is_some d.run ≡ false);
}

starting_loaded_free : (p : Option Procedure) (d : Desk) (id : ℕ) (s : Settings) → StartedFree d (starting_loaded p d id s)
starting_loaded_free None d id s = failed_free d EmptyProcedure id
starting_loaded_free (Some p) d id s =
    cond_both (is_some d.run) (failed d RunningProcedure (id_of d.run)) (writing d id p s) (StartedFree d)
    (λ e. failed_free d RunningProcedure (id_of d.run))
    (λ e. record { same = writing_same d id p s; free = λ f. e })

pub starting_free : (d : Desk) (id : ℕ) (s : Settings) → StartedFree d (starting d id s)
starting_free d id s =
    cond_both (is_procedure id) (starting_loaded (procedure_at d id) d id s) (failed d InvalidProcedure id) (StartedFree d)
    (λ e. starting_loaded_free (procedure_at d id) d id s)
    (λ e. failed_free d InvalidProcedure id)

-- the same stores and run have the same worth
moved_same : (d e f : Desk) (worth : Price → ℕ) (places : ℕ) → e.log ≡ d.log → e.run ≡ d.run → Moved worth places e f → Moved worth places d f
moved_same d e f worth places log run moved = record {
  worths = λ P. omega (arith, moved.worths P, ap (λ (l : Log). sum_by P.F l.reports) log, ap (run_worth P) run);
  debt = omega (arith, moved.debt, ap (λ (l : Log). length l.reports) log, ap pending_run run);
  accepted = moved.accepted ∙ ap (λ (l : Log). l.accepted) log;
  events = moved.events ∙ ap (λ (l : Log). l.events) log;
  raised = moved.raised ∙ ap (λ (l : Log). l.raised) log;
}

settled_run : (n : ℕ) (f : Option Fault) (d : Desk) → (settled n f d).run ≡ d.run
settled_run n None d = refl
settled_run n (Some f) d = refl

no_run : (run : Option Run) → is_some run ≡ false → run ≡ None
no_run None e = refl
no_run (Some r) e = absurd (both_ways true e refl)

-- a start that began is owed as its number
begun_moved : (d e : Desk) (id n : ℕ) → e.log ≡ d.log → d.run ≡ None → length d.log.reports < 400
    → Moved (λ P. P.g n 0) 2 d (reported (with_run e (Some (new_run id n))) n Started)
begun_moved d e id n log none room =
    let low : length e.log.reports < 400 = omega (arith, ap (λ (l : Log). length l.reports) log) in
    let x : Report = record { number = n; stage = Started } in
    record {
      worths = λ P. omega (arith, filed_worth P e.log.reports x low, P.started n, ap (λ (l : Log). sum_by P.F l.reports) log, ap (run_worth P) none);
      debt = omega (arith, filed_length e.log.reports x low, ap (λ (l : Log). length l.reports) log, ap pending_run none);
      accepted = ap (λ (l : Log). l.accepted) log;
      events = ap (λ (l : Log). l.events) log;
      raised = ap (λ (l : Log). l.raised) log;
    }

module _ {K0 K1 K2 : LinkKind} {W : WatchKind} where
  -- a telecommand that is settled at once
  outcome_kept : (m : Machine K0 K1 K2 W) (n : ℕ) (o : Outcome) → Sound m → debt_of m + 1 ≤ 400 → Same m.desk o
      → Kept m (outcome_of m n o) (λ P. P.g n 0) 0 0
  outcome_kept m n o s room same =
      let low : length o.desk.log.reports < 400 = omega (arith, ap (λ (l : Log). length l.reports) same.log) in
      desk_kept m (settled n o.fault o.desk) (λ P. P.g n 0) 1 s
      (moved_same m.desk o.desk (settled n o.fault o.desk) (λ P. P.g n 0) 1 same.log same.run (settled_moved n o.fault o.desk low))
      room
      (λ place h tie. subst (Ties place h) (sym (settled_run n o.fault o.desk ∙ same.run)) tie)

  -- one that changed nothing
  plain_kept : (m : Machine K0 K1 K2 W) (n : ℕ) (f : Option Fault) → Sound m → debt_of m + 1 ≤ 400 → Kept m (with_desk m (settled n f m.desk)) (λ P. P.g n 0) 0 0
  plain_kept m n f s room = outcome_kept m n (record { desk = m.desk; fault = f }) s room (record { log = refl; run = refl })

  begun_kept : (fault : Option Fault) (m : Machine K0 K1 K2 W) (id n : ℕ) (d : Desk) → Sound m → debt_of m + 2 ≤ 400
      → d.log ≡ m.desk.log → d.run ≡ m.desk.run → (fault ≡ None → is_some m.desk.run ≡ false)
      → Kept m (with_desk m (begun fault id n d)) (λ P. P.g n 0) 0 0
  begun_kept None m id n d s room log run free =
      desk_kept m (reported (with_run d (Some (new_run id n))) n Started) (λ P. P.g n 0) 2 s
      (begun_moved m.desk d id n log (no_run m.desk.run (free refl)) (omega arith))
      room
      (λ place h tie. sym (ap (sent_to place) (no_run m.desk.run (free refl))) ∙ tie)
  begun_kept (Some f) m id n d s room log run free = outcome_kept m n (record { desk = d; fault = Some f }) s (omega arith) (record { log = log; run = run })

  module _ (L0 : Lawful K0) (L1 : Lawful K1) (L2 : Lawful K2) where
    -- a trigger whose command was taken is owed as its number with one sent
    trigger_taken_kept : (m : Machine K0 K1 K2 W) (n link : ℕ) (c : Command) → Sound m → debt_of m + 2 ≤ 400 → is_ok (offer_answer (means_at m link)) ≡ true
        → Kept m (with_desk (offered_at m link c (owner.Telecommand n)) (reported m.desk n Started)) (λ P. P.g n 0) 0 0
    trigger_taken_kept m n link c s room ok =
        let t = took L0 L1 L2 m link c (owner.Telecommand n) s.seated ok in
        let moved = reported_moved m.desk n Started (λ P. 0) (λ P. P.started n) (omega arith) in
        record {
          sound = record {
            seated = record { first = t.seated.first; second = t.seated.second; third = t.seated.third };
            ties = t.ties m.desk.run refl s.ties;
            room = omega (arith, t.debt, moved.debt);
            watch = subst W.Ok (sym t.watch) s.watch;
          };
          worths = λ P. omega (arith, t.worth P, t.taken P, moved.worths P, P.one_more n 0);
          accepted = refl;
          events = refl;
          counted = λ low. omega arith;
          watch = t.watch;
        }

    triggered_by_kept : (a : Result (Unit {0}) OfferRefusal) (m : Machine K0 K1 K2 W) (n link : ℕ) (c : Command) → Sound m → debt_of m + 2 ≤ 400
        → offer_answer (means_at m link) ≡ a → Kept m (triggered_by a m n link c) (λ P. P.g n 0) 0 0
    triggered_by_kept (Ok u) m n link c s room is = trigger_taken_kept m n link c s room (ap (λ (x : Result (Unit {0}) OfferRefusal). is_ok x) is)
    triggered_by_kept (Err refusal) m n link c s room is =
        let f = fault_of (offer_fault refusal) link in
        let same = kept L0 L1 L2 m link c (owner.Telecommand n) s.seated (ap (λ (x : Result (Unit {0}) OfferRefusal). is_ok x) is) in
        subst (λ (k : Machine K0 K1 K2 W). Kept m (with_desk k (settled n (Some f) m.desk)) (λ P. P.g n 0) 0 0) (sym same) (plain_kept m n (Some f) s (omega arith))

    triggered_kept : (m : Machine K0 K1 K2 W) (n link : ℕ) (c : Command) → Sound m → debt_of m + 2 ≤ 400 → Kept m (triggered m n link c) (λ P. P.g n 0) 0 0
    triggered_kept m n link c s room =
        cond_both (is_blocked m.desk link) (with_desk m (settled n (Some (fault_of UnitStopped link)) m.desk)) (triggered_by (offer_answer (means_at m link)) m n link c)
        (λ (k : Machine K0 K1 K2 W). Kept m k (λ P. P.g n 0) 0 0)
        (λ t. plain_kept m n (Some (fault_of UnitStopped link)) s (omega arith))
        (λ t. triggered_by_kept (offer_answer (means_at m link)) m n link c s room refl)

    performed_kept : (m : Machine K0 K1 K2 W) (n function activity sid value : ℕ) → Sound m → debt_of m + 2 ≤ 400
        → Kept m (performed m n function activity sid value) (λ P. P.g n 0) 0 0
    performed_kept m n function activity sid value s room =
        let o = setting (width_of m) m.desk activity sid value in
        let c : Command = record { id = activity; sid = sid; parameter = value } in
        let other = with_desk m (settled n (Some (fault_of InvalidFunction function)) m.desk) in
        cond_both (leb 1 function && leb function 3) (triggered m n (function - 1) c) (cond (eqb function 100) (outcome_of m n o) other)
        (λ (k : Machine K0 K1 K2 W). Kept m k (λ P. P.g n 0) 0 0)
        (λ t. triggered_kept m n (function - 1) c s room)
        (λ t. cond_both (eqb function 100) (outcome_of m n o) other (λ (k : Machine K0 K1 K2 W). Kept m k (λ P. P.g n 0) 0 0)
        (λ u. outcome_kept m n o s (omega arith) (setting_same (width_of m) m.desk activity sid value))
        (λ u. plain_kept m n (Some (fault_of InvalidFunction function)) s (omega arith)))

    -- the run's command withdrawn, and its final report
    withdrawn_kept : (state : RunState) (m : Machine K0 K1 K2 W) (r : Run) (f : Fault) → Sound m → m.desk.run ≡ Some r → r.state ≡ state
        → Kept m (with_desk (withdrawn state m) (failed_run (Some r) f m.desk)) (λ P. 0) 0 0
    withdrawn_kept (Ready spent) m r f s e is = run_failed m r f s e (ready_unsent m.desk.run r spent e is)
    withdrawn_kept (Sent link) m r f s e is =
        let d = failed_run (Some r) f m.desk in
        let moved = failed_moved m.desk r f e (omega (arith, s.room)) in
        let w = withdrew L0 L1 L2 m r link s.seated (subst (AllTies m) e s.ties) is in
        record {
          sound = record {
            seated = record { first = w.seated.first; second = w.seated.second; third = w.seated.third };
            ties = w.ties;
            room = omega (arith, s.room, w.debt, moved.debt);
            watch = subst W.Ok (sym w.watch) s.watch;
          };
          worths = λ P. omega (arith, w.worth P, w.taken P, moved.worths P);
          accepted = moved.accepted;
          events = omega (arith, ap length moved.events);
          counted = λ low. omega (arith, moved.raised);
          watch = w.watch;
        }

    stopping_kept : (run : Option Run) (m : Machine K0 K1 K2 W) (id : ℕ) → Sound m → m.desk.run ≡ run → Kept m (stopping run id m) (λ P. 0) 0 0
    stopping_kept None m id s e = unchanged m s
    stopping_kept (Some r) m id s e =
        cond_both (eqb id 0 || eqb id r.id) (stopped_run r m) m (λ (k : Machine K0 K1 K2 W). Kept m k (λ P. 0) 0 0)
        (λ t. withdrawn_kept r.state m r (fault_of ProcedureStopped r.id) s e refl)
        (λ t. unchanged m s)

    -- a stop owes no more places than before
    withdrawn_debt : (state : RunState) (m : Machine K0 K1 K2 W) (r : Run) (f : Fault) → Sound m → m.desk.run ≡ Some r → r.state ≡ state
        → debt_of (with_desk (withdrawn state m) (failed_run (Some r) f m.desk)) ≤ debt_of m
    withdrawn_debt (Ready spent) m r f s e is = omega (arith, (failed_moved m.desk r f e (omega (arith, s.room))).debt)
    withdrawn_debt (Sent link) m r f s e is =
        let w = withdrew L0 L1 L2 m r link s.seated (subst (AllTies m) e s.ties) is in
        omega (arith, (failed_moved m.desk r f e (omega (arith, s.room))).debt, w.debt)

    pub stopping_debt : (run : Option Run) (m : Machine K0 K1 K2 W) (id : ℕ) → Sound m → m.desk.run ≡ run → debt_of (stopping run id m) ≤ debt_of m
    stopping_debt None m id s e = omega arith
    stopping_debt (Some r) m id s e =
        cond_both (eqb id 0 || eqb id r.id) (stopped_run r m) m (λ (k : Machine K0 K1 K2 W). debt_of k ≤ debt_of m)
        (λ t. withdrawn_debt r.state m r (fault_of ProcedureStopped r.id) s e refl)
        (λ t. omega arith)

    stopped_kept : (m : Machine K0 K1 K2 W) (n id : ℕ) → Sound m → debt_of m + 2 ≤ 400 → Kept m (stopped m n id) (λ P. P.g n 0) 0 0
    stopped_kept m n id s room =
        let ran = m.desk.run in
        let after = stopping ran id m in
        let k = stopping_kept ran m id s refl in
        let low : debt_of after + 1 ≤ 400 = omega (arith, stopping_debt ran m id s refl) in
        cond_both (ltb 16 id) (with_desk m (settled n (Some (fault_of InvalidProcedure id)) m.desk)) (done n after)
        (λ (x : Machine K0 K1 K2 W). Kept m x (λ P. P.g n 0) 0 0)
        (λ t. plain_kept m n (Some (fault_of InvalidProcedure id)) s (omega arith))
        (λ t. kept_then m after (done n after) (λ P. P.g n 0) 0 0 k (plain_kept after n None k.sound low))

    pub carried_kept : (t : Telecommand) (n : ℕ) (m : Machine K0 K1 K2 W) → Sound m → debt_of m + 2 ≤ 400 → Kept m (carried_out t n m) (λ P. P.g n 0) 0 0
    carried_kept Test n m s room = plain_kept m n None s (omega arith)
    carried_kept (Perform function activity sid value) n m s room = performed_kept m n function activity sid value s room
    carried_kept (Load id nop steps) n m s room =
        outcome_kept m n (loading (width_of m) m.desk id nop steps) s (omega arith) (loading_same (width_of m) m.desk id nop steps)
    carried_kept (Delete id) n m s room = outcome_kept m n (deleting m.desk id) s (omega arith) (deleting_same m.desk id)
    carried_kept (Start id settings) n m s room =
        let o = starting m.desk id settings in
        let free = starting_free m.desk id settings in
        begun_kept o.fault m id n o.desk s room free.same.log free.same.run free.free
    carried_kept (Stop id) n m s room = stopped_kept m n id s room
    carried_kept (Set id settings) n m s room = outcome_kept m n (setting_parameters m.desk id settings) s (omega arith) (parameters_same m.desk id settings)
