-- What holds between calls, and that a tick keeps it.
use Rattle.std.proofs.Common.{◌≡◌, ℕ, ◌+◌, ◌<◌, ◌≤◌, min, true, ltb, length, is_ok, Some, None, Ok, Err, Option, Result, sym, refl, ap, ◌∙◌, subst, arith}
use Rattle.std.proofs.lemmas.Bool.{cond_both}
use Rattle.links.specs.declared.answers.OfferRefusal.{OfferRefusal}
use Rattle.links.specs.Meaning.{LinkKind, Lawful, offer_answer}
use Rattle.records.specs.declared.command.Command.{Command}
use Rattle.records.specs.declared.fault.Fault.{Fault}
use Rattle.records.specs.declared.fault.FaultKind.TheVariants.{UnitStopped, ExpectFailed}
use Rattle.records.specs.Faults.{fault_of}
use Rattle.watches.specs.Meaning.{WatchKind}
use Rattle.machine.specs.declared.state.Action.{Action}
use Rattle.machine.specs.declared.state.Action.TheVariants.{Wait, Send, Expect}
use Rattle.machine.specs.declared.state.Hold.{Hold}
use Rattle.machine.specs.declared.state.Owner.TheVariants as owner
use Rattle.machine.specs.declared.state.Run.{Run}
use Rattle.machine.specs.declared.state.RunState.{RunState}
use Rattle.machine.specs.declared.state.RunState.TheVariants.{Ready, Sent}
use Rattle.machine.specs.Desks.{Desk, with_run, is_blocked, procedure_at, failed_run, passed}
use Rattle.machine.specs.Machine.{Machine, pending_run, offer_fault, sent_on, spent_on, action_at, parameter_of, with_desk, means_at, offered_at, sent_by, stepped, stepped_in, stepped_run, turn0, turn1, turn2, after_tick}
use Rattle.machine.proofs.Offers.{AllTies, held_worth, held_debt, taken_worth, AllSeated, place_is, took, kept}
use Rattle.machine.proofs.Prices.{Price, run_worth, desk_worth, desk_debt, Moved, failed_moved, rerun_moved, passed_moved, commands}
use Rattle.machine.proofs.Turning.{Ties, Unsent, sent_at, sent_to, turned, passed_unsent}

-- a run that ended or is before a step waits for no link, as it did before
pub idle_ties : (before now : Option Run) → Unsent before → Unsent now → (place : ℕ) (h : Option Hold) → Ties place h before → Ties place h now
idle_ties before now was is place h tie = is place ∙ sym (was place) ∙ tie

-- a run before a step
pub ready_unsent : (run : Option Run) (r : Run) (spent : ℕ) → run ≡ Some r → r.state ≡ Ready spent → Unsent run
ready_unsent run r spent e is place = ap (sent_to place) e ∙ ap (sent_at place) is

-- how many commands were sent for the run
abbrev pub sent_of : Option Run → ℕ
sent_of None = 0
sent_of (Some r) = r.sent

sent_worth : (run : Option Run) → run_worth commands run ≡ sent_of run
sent_worth None = refl
sent_worth (Some r) = refl

module _ {K0 K1 K2 : LinkKind} {W : WatchKind} where
  abbrev pub worth_of : Price → Machine K0 K1 K2 W → ℕ
  worth_of P m = desk_worth P m.desk + held_worth P m

  -- places of the report store that are taken or owed
  abbrev pub debt_of : Machine K0 K1 K2 W → ℕ
  debt_of m = desk_debt m.desk + held_debt m

  -- what holds between calls
  pub record Sound (m : Machine K0 K1 K2 W) : Type 0 where
    pub seated : AllSeated m
    pub ties : AllTies m m.desk.run
    pub room : debt_of m ≤ 400
    pub watch : W.Ok m.watch

  -- a call that was given some worth, and raised and lost some events
  pub record Kept (m n : Machine K0 K1 K2 W) (worth : Price → ℕ) (raised lost : ℕ) : Type 0 where
    pub sound : Sound n
    pub worths : (P : Price) → worth_of P n + taken_worth P m ≡ worth_of P m + taken_worth P n + worth P
    pub accepted : n.desk.log.accepted ≡ m.desk.log.accepted
    pub events : length n.desk.log.events + lost ≡ length m.desk.log.events + raised
    pub counted : m.desk.log.raised ≤ 1000000 → n.desk.log.raised ≡ min (m.desk.log.raised + raised) 1000000
    pub watch : n.watch ≡ m.watch

  -- a change of the desk alone
  pub desk_kept : (m : Machine K0 K1 K2 W) (d : Desk) (worth : Price → ℕ) (places : ℕ) → Sound m → Moved worth places m.desk d
      → debt_of m + places ≤ 400 → ((place : ℕ) (h : Option Hold) → Ties place h m.desk.run → Ties place h d.run)
      → Kept m (with_desk m d) worth 0 0
  desk_kept m d worth places s moved room ties = record {
    sound = record {
      seated = record { first = s.seated.first; second = s.seated.second; third = s.seated.third };
      ties = (ties 0 m.seat0.hold s.ties.0, ties 1 m.seat1.hold s.ties.1, ties 2 m.seat2.hold s.ties.2);
      room = omega (arith, moved.debt);
      watch = s.watch;
    };
    worths = λ P. omega (arith, moved.worths P);
    accepted = moved.accepted;
    events = omega (arith, ap length moved.events);
    counted = λ low. omega (arith, moved.raised);
    watch = refl;
  }

  -- the desk of a run that ends with a fault, moves on, or waits
  pub run_failed : (m : Machine K0 K1 K2 W) (r : Run) (f : Fault) → Sound m → m.desk.run ≡ Some r → Unsent m.desk.run → Kept m (with_desk m (failed_run (Some r) f m.desk)) (λ P. 0) 0 0
  run_failed m r f s e un =
      desk_kept m (failed_run (Some r) f m.desk) (λ P. 0) 0 s (failed_moved m.desk r f e (omega (arith, s.room))) (omega (arith, s.room))
      (idle_ties m.desk.run None un (λ place. refl))

  run_passed : (m : Machine K0 K1 K2 W) (r : Run) → Sound m → m.desk.run ≡ Some r → Unsent m.desk.run → Kept m (with_desk m (passed r m.desk)) (λ P. 0) 0 0
  run_passed m r s e un =
      desk_kept m (passed r m.desk) (λ P. 0) 0 s (passed_moved m.desk r e (omega (arith, s.room))) (omega (arith, s.room))
      (idle_ties m.desk.run (passed r m.desk).run un (passed_unsent r m.desk))

  run_waited : (m : Machine K0 K1 K2 W) (r : Run) (spent : ℕ) → Sound m → m.desk.run ≡ Some r → Unsent m.desk.run
      → Kept m (with_desk m (with_run m.desk (Some (spent_on r spent)))) (λ P. 0) 0 0
  run_waited m r spent s e un =
      desk_kept m (with_run m.desk (Some (spent_on r spent))) (λ P. 0) 0 s (rerun_moved m.desk r (spent_on r spent) e refl refl) (omega (arith, s.room))
      (idle_ties m.desk.run (Some (spent_on r spent)) un (λ place. refl))

  pub unchanged : (m : Machine K0 K1 K2 W) → Sound m → Kept m m (λ P. 0) 0 0
  unchanged m s = record { sound = s; worths = λ P. omega arith; accepted = refl; events = refl; counted = λ low. omega arith; watch = refl }

  -- one change after another
  pub kept_then : (m n o : Machine K0 K1 K2 W) (worth : Price → ℕ) (raised lost : ℕ) → Kept m n (λ P. 0) raised lost → Kept n o worth 0 0
      → Kept m o worth raised lost
  kept_then m n o worth raised lost a b = record {
    sound = b.sound;
    worths = λ P. omega (arith, a.worths P, b.worths P);
    accepted = b.accepted ∙ a.accepted;
    events = omega (arith, a.events, b.events);
    counted = λ low. let first = a.counted low in omega (arith, first, b.counted (omega (arith, first)));
    watch = b.watch ∙ a.watch;
  }

  module _ (L0 : Lawful K0) (L1 : Lawful K1) (L2 : Lawful K2) where
    -- a run whose command was taken: one more sent, one more taken
    run_sent : (m : Machine K0 K1 K2 W) (r : Run) (link : ℕ) (c : Command) → Sound m → m.desk.run ≡ Some r → Unsent m.desk.run → r.sent < 4294967295
        → is_ok (offer_answer (means_at m link)) ≡ true
        → Kept m (with_desk (offered_at m link c owner.Procedure) (with_run m.desk (Some (sent_on r link)))) (λ P. 0) 0 0
    run_sent m r link c s e un few ok =
        let t = took L0 L1 L2 m link c owner.Procedure s.seated ok in
        let one : pending_run m.desk.run ≡ 1 = ap pending_run e in
        let more : min (r.sent + 1) 4294967295 ≡ r.sent + 1 = omega arith in
        record {
          sound = record {
            seated = record { first = t.seated.first; second = t.seated.second; third = t.seated.third };
            ties = t.sent m.desk.run r link refl (place_is link) un s.ties;
            room = omega (arith, s.room, t.debt, one);
            watch = subst W.Ok (sym t.watch) s.watch;
          };
          worths = λ P. omega (arith, t.worth P, t.taken P, ap (run_worth P) e, ap (P.g r.number) more, P.one_more r.number r.sent);
          accepted = refl;
          events = refl;
          counted = λ low. omega arith;
          watch = t.watch;
        }

    run_sent_by : (a : Result (Unit {0}) OfferRefusal) (m : Machine K0 K1 K2 W) (r : Run) (link : ℕ) (c : Command) → Sound m → m.desk.run ≡ Some r → Unsent m.desk.run
        → r.sent < 4294967295 → offer_answer (means_at m link) ≡ a → Kept m (sent_by a m r link c) (λ P. 0) 0 0
    run_sent_by (Ok u) m r link c s e un few is = run_sent m r link c s e un few (ap (λ (x : Result (Unit {0}) OfferRefusal). is_ok x) is)
    run_sent_by (Err refusal) m r link c s e un few is =
        let f = fault_of (offer_fault refusal) link in
        let same = kept L0 L1 L2 m link c owner.Procedure s.seated (ap (λ (x : Result (Unit {0}) OfferRefusal). is_ok x) is) in
        subst (λ (n : Machine K0 K1 K2 W). Kept m (with_desk n (failed_run (Some r) f m.desk)) (λ P. 0) 0 0) (sym same) (run_failed m r f s e un)

    stepped_kept : (action : Action) (m : Machine K0 K1 K2 W) (r : Run) (spent : ℕ) → Sound m → m.desk.run ≡ Some r → Unsent m.desk.run → r.sent < 4294967295
        → Kept m (stepped action r spent m) (λ P. 0) 0 0
    stepped_kept (Wait ticks) m r spent s e un few =
        cond_both (ltb spent ticks) (with_run m.desk (Some (spent_on r spent))) (passed r m.desk) (λ (d : Desk). Kept m (with_desk m d) (λ P. 0) 0 0)
        (λ t. run_waited m r spent s e un) (λ t. run_passed m r s e un)
    stepped_kept (Send link id sid v) m r spent s e un few =
        let c : Command = record { id = id; sid = sid; parameter = parameter_of (procedure_at m.desk r.id) v } in
        cond_both (is_blocked m.desk link) (with_desk m (failed_run (Some r) (fault_of UnitStopped link) m.desk)) (sent_by (offer_answer (means_at m link)) m r link c)
        (λ (n : Machine K0 K1 K2 W). Kept m n (λ P. 0) 0 0)
        (λ t. run_failed m r (fault_of UnitStopped link) s e un)
        (λ t. run_sent_by (offer_answer (means_at m link)) m r link c s e un few refl)
    stepped_kept (Expect f) m r spent s e un few =
        cond_both (W.trouble m.watch f) (failed_run (Some r) (fault_of ExpectFailed f) m.desk) (passed r m.desk) (λ (d : Desk). Kept m (with_desk m d) (λ P. 0) 0 0)
        (λ t. run_failed m r (fault_of ExpectFailed f) s e un) (λ t. run_passed m r s e un)

    stepped_in_each : (state : RunState) (m : Machine K0 K1 K2 W) (r : Run) → Sound m → m.desk.run ≡ Some r → r.state ≡ state → r.sent < 4294967295
        → Kept m (stepped_in state r m) (λ P. 0) 0 0
    stepped_in_each (Ready spent) m r s e is few =
        stepped_kept (action_at (procedure_at m.desk r.id) r.step) m r spent s e (ready_unsent m.desk.run r spent e is) few
    stepped_in_each (Sent link) m r s e is few = unchanged m s

    step_kept : (run : Option Run) (m : Machine K0 K1 K2 W) → Sound m → m.desk.run ≡ run → sent_of run < 4294967295 → Kept m (stepped_run run m) (λ P. 0) 0 0
    step_kept None m s e few = unchanged m s
    step_kept (Some r) m s e few = stepped_in_each r.state m r s e refl few

    -- the three turns
    abbrev turned_of : Machine K0 K1 K2 W → Machine K0 K1 K2 W
    turned_of m = record { seat0 = (turn0 m).seat; seat1 = (turn1 m).seat; seat2 = (turn2 m).seat; watch = m.watch; desk = (turn2 m).desk }

    turns_kept : (m : Machine K0 K1 K2 W) → Sound m
        → Kept m (turned_of m) (λ P. 0) ((turn0 m).raised + (turn1 m).raised + (turn2 m).raised) ((turn0 m).lost + (turn1 m).lost + (turn2 m).lost)
    turns_kept m s =
        let a = turned L0 0 m.seat0 m.desk s.seated.first (omega (arith, s.room)) in
        let b = turned L1 1 m.seat1 (turn0 m).desk s.seated.second (omega (arith, s.room, a.debt)) in
        let c = turned L2 2 m.seat2 (turn1 m).desk s.seated.third (omega (arith, s.room, a.debt, b.debt)) in
        let tie1 : Ties 1 m.seat1.hold (turn0 m).desk.run = a.other_ties 1 m.seat1.hold (λ x. omega arith) s.ties.0 s.ties.1 in
        let tie2 : Ties 2 m.seat2.hold (turn1 m).desk.run =
        b.other_ties 2 m.seat2.hold (λ x. omega arith) tie1 (a.other_ties 2 m.seat2.hold (λ x. omega arith) s.ties.0 s.ties.2) in
        record {
          sound = record {
            seated = record { first = a.seated; second = b.seated; third = c.seated };
            ties = (
              c.other_ties 0 (turn0 m).seat.hold (λ x. omega arith) tie2 (b.other_ties 0 (turn0 m).seat.hold (λ x. omega arith) tie1 (a.own_tie s.ties.0)),
              c.other_ties 1 (turn1 m).seat.hold (λ x. omega arith) tie2 (b.own_tie tie1),
              c.own_tie tie2,
            );
            room = omega (arith, s.room, a.debt, b.debt, c.debt);
            watch = s.watch;
          };
          worths = λ P. omega (arith, a.worths P, b.worths P, c.worths P, ap P.W a.taken, ap P.W b.taken, ap P.W c.taken);
          accepted = c.accepted ∙ b.accepted ∙ a.accepted;
          events = omega (arith, a.events, b.events, c.events);
          counted = λ low.
              let first = a.counted low in
              let second = b.counted (omega (arith, first)) in
              omega (arith, first, second, c.counted (omega (arith, second)));
          watch = refl;
        }

    pub tick_kept : (m : Machine K0 K1 K2 W) → Sound m → worth_of commands m ≤ 3000000
        → Kept m (after_tick m) (λ P. 0) ((turn0 m).raised + (turn1 m).raised + (turn2 m).raised) ((turn0 m).lost + (turn1 m).lost + (turn2 m).lost)
    tick_kept m s few =
        let a = turns_kept m s in
        let c = turned L0 0 m.seat0 m.desk s.seated.first (omega (arith, s.room)) in
        let e = turned L1 1 m.seat1 (turn0 m).desk s.seated.second (omega (arith, s.room, c.debt)) in
        let f = turned L2 2 m.seat2 (turn1 m).desk s.seated.third (omega (arith, s.room, c.debt, e.debt)) in
        let low : sent_of (turn2 m).desk.run < 4294967295 =
        omega (arith, c.worths commands, e.worths commands, f.worths commands, sent_worth (turn2 m).desk.run, few) in
        let b = step_kept (turn2 m).desk.run (turned_of m) a.sound refl low in
        kept_then m (turned_of m) (after_tick m) (λ P. 0) ((turn0 m).raised + (turn1 m).raised + (turn2 m).raised) ((turn0 m).lost + (turn1 m).lost + (turn2 m).lost) a b
