-- The balance, from what every run keeps.
use Rattle.std.proofs.Common.{◌≡◌, ℕ, ◌+◌, ◌<◌, ◌≤◌, min, Bool, true, false, cond, eqb, ◌⊎◌, ◌↔◌, List, length, is_some, Some, None, Option, sym, refl, ap, ◌∙◌, subst, inl, inr, ⊎_elim, arith}
use Rattle.std.proofs.lemmas.List.Sums.{sum_by-append}
use Rattle.std.proofs.lemmas.Bool.{cases_eq, eqb-true, eq-eqb, ne_eqb, both_ways}
use Rattle.links.specs.Meaning.{LinkKind, Lawful}
use Rattle.records.specs.declared.report.Report.{Report}
use Rattle.watches.specs.Meaning.{WatchKind, LawfulWatch}
use Rattle.machine.specs.declared.state.Hold.{Hold}
use Rattle.machine.specs.declared.state.Owner.{Owner}
use Rattle.machine.specs.declared.state.Owner.TheVariants as owner
use Rattle.machine.specs.declared.state.Run.{Run}
use Rattle.machine.specs.declared.state.RunState.{RunState}
use Rattle.machine.specs.declared.state.RunState.TheVariants.{Ready, Sent}
use Rattle.machine.specs.Balance.{LinkView, View, view_of, all_reports, is_final, done_in, failed_in, sent_in, finals_of, accepted_as, Pending, pending_in, number_of, hold_number, run_number, Holds, Runs, owner_in, HoldsForRun, state_in, Waits, Carried, owners_commands, noted_commands, run_commands, sent_pending, Balanced, RunTied}
use Rattle.machine.specs.Laws.{CountsOfTheHistory}
use Rattle.machine.specs.Machine.{Machine, free, pending_of, pending_run}
use Rattle.machine.specs.Machine.{pending_in as noted_in}
use Rattle.machine.specs.Runs.{History, Ran, accepted_in, collected_in}
use Rattle.machine.proofs.Bounding.{bound}
use Rattle.machine.proofs.Counting.{bit, times_in, once, halves, by_number, zero_sum, zero_either, ones, final_sum}
use Rattle.machine.proofs.Fitting.{FitState, FitRun}
use Rattle.machine.proofs.Offers.{held_worth, held_debt}
use Rattle.machine.proofs.Prices.{Price, run_worth, owner_worth, hold_worth, commands}
use Rattle.machine.proofs.Running.{Good, good, few_sent}
use Rattle.machine.proofs.Turning.{Ties, sent_at, sent_to, is_procedures, procedure_holds}

-- the price of numbers: each counts one until its final report, and that counts one
abbrev numbers : Price
numbers = record {
  F = λ r. is_final r.stage;
  g = λ n s. 1;
  W = λ t. 0;
  w = 0;
  started = λ n. refl;
  done = λ n s. refl;
  failed = λ n s f. refl;
  one_more = λ n s. refl;
  none_taken = refl;
  taken_more = λ t. refl;
}

-- the price of one number
abbrev number : ℕ → Price
number j = record {
  F = λ r. cond (eqb r.number j) (is_final r.stage) 0;
  g = λ n s. cond (eqb n j) 1 0;
  W = λ t. 0;
  w = 0;
  started = λ n. zero_either (eqb n j);
  done = λ n s. refl;
  failed = λ n s f. refl;
  one_more = λ n s. omega arith;
  none_taken = refl;
  taken_more = λ t. refl;
}

-- a note says whose command a link holds, or is worth nothing to a number
owner_says : (j : ℕ) (o : Owner) → (owner_worth (number j) o ≡ 0) ⊎ (number_of o ≡ Some j)
owner_says j (owner.Telecommand n) =
    ⊎_elim (λ (same : n ≡ j). inr (ap Some same)) (λ (other : n ≡ j → ⊥). inl (ap (λ (b : Bool). bit b) (ne_eqb n j other))) (cases_eq n j)
owner_says j owner.Procedure = inl refl

hold_says : (j : ℕ) (h : Option Hold) → (hold_worth (number j) h ≡ 0) ⊎ (hold_number h ≡ Some j)
hold_says j None = inl refl
hold_says j (Some h) = owner_says j h.owner

run_says : (j : ℕ) (run : Option Run) → (run_worth (number j) run ≡ 0) ⊎ (run_number run ≡ Some j)
run_says j None = inl refl
run_says j (Some r) =
    ⊎_elim (λ (same : r.number ≡ j). inr (ap Some same)) (λ (other : r.number ≡ j → ⊥). inl (ap (λ (b : Bool). bit b) (ne_eqb r.number j other)))
    (cases_eq r.number j)

same_some : (a b : ℕ) → Some a ≡ Some b → a ≡ b
same_some a b e = cc

none_some : (a : ℕ) (P : Type 0) → ◌≡◌ {A = Option ℕ} None (Some a) → P
none_some a P e =
    let z : ◌≡◌ {A = ℕ} 0 1 = cc e in
    let bottom : ⊥ = omega arith in
    absurd bottom

owner_worth_one : (j : ℕ) (o : Owner) → number_of o ≡ Some j → owner_worth (number j) o ≡ 1
owner_worth_one j (owner.Telecommand n) e = ap (λ (b : Bool). bit b) (eq-eqb n j (same_some n j e))
owner_worth_one j owner.Procedure e = none_some j (owner_worth (number j) owner.Procedure ≡ 1) e

hold_worth_one : (j : ℕ) (h : Option Hold) → hold_number h ≡ Some j → hold_worth (number j) h ≡ 1
hold_worth_one j None e = none_some j (hold_worth (number j) None ≡ 1) e
hold_worth_one j (Some h) e = owner_worth_one j h.owner e

run_worth_one : (j : ℕ) (run : Option Run) → run_number run ≡ Some j → run_worth (number j) run ≡ 1
run_worth_one j None e = none_some j (run_worth (number j) None ≡ 1) e
run_worth_one j (Some r) e = ap (λ (b : Bool). bit b) (eq-eqb r.number j (same_some r.number j e))

-- a link that holds a number's command is held
held_some : (h : Option Hold) (j : ℕ) → hold_number h ≡ Some j → is_some h ≡ true
held_some None j e = none_some j (is_some {T = Hold} None ≡ true) e
held_some (Some h) j e = refl

-- the price of commands counts what a held link's note counts
owner_commands : (o : Owner) → owner_worth commands o ≡ owners_commands o
owner_commands (owner.Telecommand n) = refl
owner_commands owner.Procedure = refl

hold_commands : (h : Option Hold) (held : Bool) → held ≡ is_some h → hold_worth commands h ≡ cond held (noted_commands h) 0
hold_commands None held e = sym (zero_either held)
hold_commands (Some h) held e = owner_commands h.owner ∙ sym (ap (λ (b : Bool). cond b (owners_commands h.owner) 0) e)

run_commands_counted : (run : Option Run) → run_worth commands run ≡ run_commands run
run_commands_counted None = refl
run_commands_counted (Some r) = refl

-- each pending number is owed one place
owner_places : (o : Owner) → owner_worth numbers o ≡ pending_of o
owner_places (owner.Telecommand n) = refl
owner_places owner.Procedure = refl

hold_places : (h : Option Hold) → hold_worth numbers h ≡ noted_in h
hold_places None = refl
hold_places (Some h) = owner_places h.owner

run_places : (run : Option Run) → run_worth numbers run ≡ pending_run run
run_places None = refl
run_places (Some r) = refl

-- the state in which the run waits for a link, told by its test
abbrev sent_by : ℕ → Option RunState → Bool
sent_by place None = false
sent_by place (Some s) = sent_at place s

sent_by_each : (place : ℕ) (run : Option Run) → sent_to place run ≡ sent_by place (state_in run)
sent_by_each place None = refl
sent_by_each place (Some r) = refl

waits_in : (place : ℕ) (s : RunState) (step sent : ℕ) → FitState s step sent → sent_at place s ≡ true → s ≡ Sent place
waits_in place (Ready spent) step sent fits e = absurd (both_ways false refl e)
waits_in place (Sent link) step sent fits e =
    let same : link ≡ place = omega (arith, fits.1, eqb-true (min link 2) place e) in
    ap Sent same

waits_here : (place : ℕ) (run : Option Run) → FitRun run → sent_to place run ≡ true → state_in run ≡ Some (Sent place)
waits_here place None fits e = absurd (both_ways false refl e)
waits_here place (Some r) fits e = ap Some (waits_in place r.state r.step r.sent fits.1 e)

state_link : (s : RunState) (step sent link : ℕ) → FitState s step sent → Some s ≡ Some (Sent link) → link ≤ 2
state_link (Ready spent) step sent link fits e =
    let z : ◌≡◌ {A = ℕ} 0 1 = cc e in
    let bottom : ⊥ = omega arith in
    absurd bottom
state_link (Sent l) step sent link fits e =
    let same : l ≡ link = cc e in
    omega (arith, fits.1)

run_link : (run : Option Run) (link : ℕ) → FitRun run → state_in run ≡ Some (Sent link) → link ≤ 2
run_link None link fits e =
    let z : ◌≡◌ {A = ℕ} 0 1 = cc e in
    let bottom : ⊥ = omega arith in
    absurd bottom
run_link (Some r) link fits e = state_link r.state r.step r.sent link fits.1 e

-- whose command a link holds, told by its test
abbrev procedure_by : Option Owner → Bool
procedure_by None = false
procedure_by (Some o) = is_procedures o

procedure_by_owner : (h : Option Hold) → procedure_holds h ≡ procedure_by (owner_in h)
procedure_by_owner None = refl
procedure_by_owner (Some h) = refl

owner_procedure : (o : Owner) → is_procedures o ≡ true → o ≡ owner.Procedure
owner_procedure (owner.Telecommand n) e = absurd (both_ways false refl e)
owner_procedure owner.Procedure e = refl

hold_procedure : (h : Option Hold) → procedure_holds h ≡ true → (is_some h ≡ true) × (owner_in h ≡ Some owner.Procedure)
hold_procedure None e = absurd (both_ways false refl e)
hold_procedure (Some h) e = (refl, ap Some (owner_procedure h.owner e))

for_run : (place : ℕ) (l : LinkView) (v : View) → place ≤ 2 → is_some l.link.held ≡ is_some l.hold → FitRun v.run → Ties place l.hold v.run
    → HoldsForRun l ↔ Waits v place
for_run place l v low tied fits tie = (
  λ x. waits_here place v.run fits (tie ∙ procedure_by_owner l.hold ∙ ap procedure_by x.for_run),
  λ w.
      let here : min place 2 ≡ place = omega arith in
      let sent : sent_to place v.run ≡ true = sent_by_each place v.run ∙ ap (sent_by place) w ∙ eq-eqb (min place 2) place here in
      let own = hold_procedure l.hold (sym tie ∙ sent) in
      record { held = tied ∙ own.0; for_run = own.1 },
)

module _ {K0 K1 K2 : LinkKind} {W : WatchKind} where
  module _ (h : History) (m : Machine K0 K1 K2 W) (g : Good h m) where
    abbrev reports : List Report
    reports = all_reports h (view_of m)

    -- a number's final reports and what is carried for it make up its acceptance
    each_number : (n : ℕ) → finals_of n reports + run_worth (number n) m.desk.run + held_worth (number n) m ≡ accepted_as n h
    each_number n = omega (arith, g.ledger (number n), sum_by-append (number n).F (collected_in h) m.desk.log.reports)

    accepted_once : (n : ℕ) → accepted_as n h ≤ 1
    accepted_once n = subst (λ (xs : List ℕ). times_in n xs ≤ 1) (sym g.in_order) (once (length (accepted_in h)) n)

    holds : (l : LinkView) (n : ℕ) → is_some l.link.held ≡ is_some l.hold → hold_number l.hold ≡ Some n → Holds l n
    holds l n tied e = record { held = tied ∙ held_some l.hold n e; for_it = e }

    carried_pending : (n : ℕ) → 1 ≤ run_worth (number n) m.desk.run + held_worth (number n) m → Pending h (view_of m) n
    carried_pending n some = record { accepted = omega (arith, each_number n, accepted_once n); no_final = omega (arith, each_number n, accepted_once n) }

    pending_carried : (n : ℕ) → Pending h (view_of m) n → Carried (view_of m) n
    pending_carried n p =
        let s = g.sound.seated in
        ⊎_elim
        (λ (none0 : hold_worth (number n) m.seat0.hold ≡ 0).
        ⊎_elim
        (λ (none1 : hold_worth (number n) m.seat1.hold ≡ 0).
        ⊎_elim
        (λ (none2 : hold_worth (number n) m.seat2.hold ≡ 0).
        ⊎_elim
        (λ (none3 : run_worth (number n) m.desk.run ≡ 0).
        let bottom : ⊥ = omega (arith, each_number n, p.accepted, p.no_final, none0, none1, none2, none3) in
        absurd bottom)
        (λ (e : run_number m.desk.run ≡ Some n). inr (inr (inr e)))
        (run_says n m.desk.run))
        (λ (e : hold_number m.seat2.hold ≡ Some n). inr (inr (inl (holds (view_of m).link2 n s.third.tied e))))
        (hold_says n m.seat2.hold))
        (λ (e : hold_number m.seat1.hold ≡ Some n). inr (inl (holds (view_of m).link1 n s.second.tied e)))
        (hold_says n m.seat1.hold))
        (λ (e : hold_number m.seat0.hold ≡ Some n). inl (holds (view_of m).link0 n s.first.tied e))
        (hold_says n m.seat0.hold)

    carried_is_pending : (n : ℕ) → Carried (view_of m) n → Pending h (view_of m) n
    carried_is_pending n =
        ⊎_elim (λ (x : Holds (view_of m).link0 n). carried_pending n (omega (arith, hold_worth_one n m.seat0.hold x.for_it)))
        (⊎_elim (λ (x : Holds (view_of m).link1 n). carried_pending n (omega (arith, hold_worth_one n m.seat1.hold x.for_it)))
        (⊎_elim (λ (x : Holds (view_of m).link2 n). carried_pending n (omega (arith, hold_worth_one n m.seat2.hold x.for_it)))
        (λ (e : Runs (view_of m) n). carried_pending n (omega (arith, run_worth_one n m.desk.run e)))))

    one_final : (n : ℕ) → finals_of n reports ≤ accepted_as n h
    one_final n = omega (arith, each_number n)

    -- counted by number
    all_numbers : length (accepted_in h) ≡ done_in reports + failed_in reports + pending_in h (view_of m)
    all_numbers =
        let small : (n : ℕ) → finals_of n reports ≤ 1 = λ n. omega (arith, one_final n, accepted_once n) in
        omega (arith, halves (λ (n : ℕ). finals_of n reports) small (accepted_in h), by_number (accepted_in h) reports one_final accepted_once)

    all_commands : (K0.means m.seat0.link).taken + (K1.means m.seat1.link).taken + (K2.means m.seat2.link).taken ≡ sent_in reports + sent_pending (view_of m)
    all_commands =
        let s = g.sound.seated in
        omega (
          arith,
          g.ledger commands,
          zero_sum (accepted_in h),
          sum_by-append commands.F (collected_in h) m.desk.log.reports,
          hold_commands m.seat0.hold (is_some (K0.means m.seat0.link).held) s.first.tied,
          hold_commands m.seat1.hold (is_some (K1.means m.seat1.link).held) s.second.tied,
          hold_commands m.seat2.hold (is_some (K2.means m.seat2.link).held) s.third.tied,
          run_commands_counted m.desk.run,
        )

    -- what is pending is owed a place
    places : pending_in h (view_of m) ≡ pending_run m.desk.run + held_debt m
    places =
        omega (
          arith,
          all_numbers,
          g.ledger numbers,
          ones (accepted_in h),
          sum_by-append numbers.F (collected_in h) m.desk.log.reports,
          final_sum reports,
          hold_places m.seat0.hold,
          hold_places m.seat1.hold,
          hold_places m.seat2.hold,
          run_places m.desk.run,
        )

    balanced_good : Balanced h (view_of m)
    balanced_good = record {
      numbers = all_numbers;
      in_order = g.in_order;
      one_final = one_final;
      accepted_once = accepted_once;
      while_carried = λ n. (pending_carried n, carried_is_pending n);
      commands = all_commands;
      events = g.events;
      troubles = g.troubles;
      owner0 = g.sound.seated.first.tied;
      owner1 = g.sound.seated.second.tied;
      owner2 = g.sound.seated.third.tied;
      room = omega (arith, places, g.sound.room);
    }

    run_tied : FitRun m.desk.run → RunTied (view_of m)
    run_tied fits = record {
      procedure0 = for_run 0 (view_of m).link0 (view_of m) (omega arith) g.sound.seated.first.tied fits g.sound.ties.0;
      procedure1 = for_run 1 (view_of m).link1 (view_of m) (omega arith) g.sound.seated.second.tied fits g.sound.ties.1;
      procedure2 = for_run 2 (view_of m).link2 (view_of m) (omega arith) g.sound.seated.third.tied fits g.sound.ties.2;
      no_other_link = λ link w. run_link m.desk.run link fits w;
    }

  -- the balance over every run, on any links and watch that keep their meanings
  pub balanced : Lawful K0 → Lawful K1 → Lawful K2 → LawfulWatch W → (h : History) (m : Machine K0 K1 K2 W) → Ran h m → Balanced h (view_of m)
  balanced L0 L1 L2 LW h m ran = balanced_good h m (good L0 L1 L2 LW h m ran)

  pub tied : Lawful K0 → Lawful K1 → Lawful K2 → LawfulWatch W → (h : History) (m : Machine K0 K1 K2 W) → Ran h m → RunTied (view_of m)
  tied L0 L1 L2 LW h m ran = run_tied h m (good L0 L1 L2 LW h m ran) (bound h m ran).fit.run

  -- free, and the machine's own counts
  pub what_is_left : Lawful K0 → Lawful K1 → Lawful K2 → LawfulWatch W → (h : History) (m : Machine K0 K1 K2 W) → Ran h m
      → free m + length m.desk.log.reports + pending_in h (view_of m) ≡ 400
  what_is_left L0 L1 L2 LW h m ran =
      let g = good L0 L1 L2 LW h m ran in
      omega (arith, places h m g, g.sound.room)

  pub own_counts : Lawful K0 → Lawful K1 → Lawful K2 → LawfulWatch W → CountsOfTheHistory K0 K1 K2 W
  own_counts L0 L1 L2 LW h m ran =
      let g = good L0 L1 L2 LW h m ran in
      record { accepted = g.accepted; raised = g.raised }

  pub sent_small : Lawful K0 → Lawful K1 → Lawful K2 → LawfulWatch W → (h : History) (m : Machine K0 K1 K2 W) → Ran h m → run_commands m.desk.run < 4294967295
  sent_small L0 L1 L2 LW h m ran =
      omega (arith, few_sent L0 L1 L2 LW h m (good L0 L1 L2 LW h m ran), run_commands_counted m.desk.run)
