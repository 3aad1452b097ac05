-- What every run keeps.
use Rattle.std.proofs.Common.{◌≡◌, ℕ, suc, ◌+◌, ◌≤◌, min, Bool, true, false, cond, ◌⊎◌, List, [], ◌∷◌, ◌++◌, length, is_some, sum_by, sym, refl, ap, ◌∙◌, subst, ⊎_elim, add-one, arith, length-append}
use Rattle.std.proofs.lemmas.List.Sums.{sum_by-append}
use Rattle.links.specs.Meaning.{LinkKind, LinkMeaning, Lawful, idle}
use Rattle.watches.specs.Meaning.{WatchKind, LawfulWatch}
use Rattle.machine.specs.Balance.{down_from}
use Rattle.machine.specs.Calls.{Call, answer_to, after, made, Fresh}
use Rattle.machine.specs.Calls.{Told}
use Rattle.machine.specs.Machine.{Machine, Answer}
use Rattle.machine.specs.Runs.{History, Ran, numbers_in, reports_in, accepted_in, collected_in, events_collected, events_raised, events_lost, state_changes}
use Rattle.machine.proofs.Calling.{Goes, goes}
use Rattle.machine.proofs.Counting.{zero_sum}
use Rattle.machine.proofs.Offers.{taken_worth}
use Rattle.machine.proofs.Prices.{Price, commands}
use Rattle.machine.proofs.Ticking.{worth_of, Sound}

-- a number that is given is the next one
ordered_by : (new old : List ℕ) (n : ℕ) → length old ≡ n → old ≡ down_from (length old) → (new ≡ []) ⊎ (new ≡ (n + 1) ∷ []) → new ++ old ≡ down_from (length (new ++ old))
ordered_by new old n e o next =
    ⊎_elim
    (λ (none : new ≡ []). subst (λ (x : List ℕ). x ++ old ≡ down_from (length (x ++ old))) (sym none) o)
    (λ (one : new ≡ (n + 1) ∷ []).
    subst (λ (x : List ℕ). x ++ old ≡ down_from (length (x ++ old))) (sym one)
    (ap (λ (k : ℕ). k ∷ old) (add-one n ∙ ap suc (sym e)) ∙ ap (λ (l : List ℕ). suc (length old) ∷ l) o))
    next

module _ {K0 K1 K2 : LinkKind} {W : WatchKind} where
  pub record Good (h : History) (m : Machine K0 K1 K2 W) : Type 0 where
    pub sound : Sound m
    pub ledger : (P : Price) → worth_of P m + sum_by P.F (collected_in h) ≡ taken_worth P m + sum_by (λ k. P.g k 0) (accepted_in h)
    pub accepted : m.desk.log.accepted ≡ length (accepted_in h)
    pub in_order : accepted_in h ≡ down_from (length (accepted_in h))
    pub events : events_raised h ≡ events_collected h + length m.desk.log.events + events_lost h
    pub raised : m.desk.log.raised ≡ min (events_raised h) 1000000
    pub troubles : (f : ℕ) → state_changes true f h ≡ state_changes false f h + cond (W.trouble m.watch f) 1 0

  module _ (L0 : Lawful K0) (L1 : Lawful K1) (L2 : Lawful K2) (LW : LawfulWatch W) where
    -- no more was sent for pending numbers than was taken, and no link takes more than a million
    pub few_sent : (h : History) (m : Machine K0 K1 K2 W) → Good h m → worth_of commands m ≤ 3000000
    few_sent h m g =
        let s = g.sound.seated in
        omega (
          arith,
          g.ledger commands,
          zero_sum (accepted_in h),
          (L0.sound m.seat0.link s.first.ok).count,
          (L1.sound m.seat1.link s.second.ok).count,
          (L2.sound m.seat2.link s.third.ok).count,
        )

    good_more : (h : History) (m n : Machine K0 K1 K2 W) (c : Call) (a : Answer Told) → Good h m → Goes m c a n → Good (record { call = c; answer = a } ∷ h) n
    good_more h m n c a g k = record {
      sound = k.sound;
      ledger = λ P.
          omega (
            arith,
            g.ledger P,
            k.ledger P,
            sum_by-append P.F (reports_in a.outcome) (collected_in h),
            sum_by-append (λ (x : ℕ). P.g x 0) (numbers_in a.outcome) (accepted_in h),
          );
      accepted = omega (arith, k.accepted, g.accepted, length-append (numbers_in a.outcome) (accepted_in h));
      in_order = ordered_by (numbers_in a.outcome) (accepted_in h) m.desk.log.accepted (sym g.accepted) g.in_order k.next;
      events = omega (arith, g.events, k.events);
      raised = omega (arith, g.raised, k.counted (omega (arith, g.raised)));
      troubles = λ f. omega (arith, g.troubles f, k.troubles f);
    }

    good_new : (l0 : K0.State) (l1 : K1.State) (l2 : K2.State) (w : W.State) → K0.Ok l0 → K1.Ok l1 → K2.Ok l2 → W.Ok w → Fresh K0 K1 K2 W l0 l1 l2 w
        → Good [] (made K0 K1 K2 W l0 l1 l2 w)
    good_new l0 l1 l2 w o0 o1 o2 ow f =
        let m0 = L0.abandons l0 o0 ∙ ap (λ (m : LinkMeaning). idle m.taken) f.link_0 in
        let m1 = L1.abandons l1 o1 ∙ ap (λ (m : LinkMeaning). idle m.taken) f.link_1 in
        let m2 = L2.abandons l2 o2 ∙ ap (λ (m : LinkMeaning). idle m.taken) f.link_2 in
        record {
          sound = record {
            seated = record {
              first = record { ok = L0.stays_abandoned l0 o0; tied = ap (λ (m : LinkMeaning). is_some m.held) m0 };
              second = record { ok = L1.stays_abandoned l1 o1; tied = ap (λ (m : LinkMeaning). is_some m.held) m1 };
              third = record { ok = L2.stays_abandoned l2 o2; tied = ap (λ (m : LinkMeaning). is_some m.held) m2 };
            };
            ties = (refl, refl, refl);
            room = omega arith;
            watch = ow;
          };
          ledger = λ P.
              omega (
                arith,
                ap (λ (m : LinkMeaning). P.W m.taken) m0,
                ap (λ (m : LinkMeaning). P.W m.taken) m1,
                ap (λ (m : LinkMeaning). P.W m.taken) m2,
                P.none_taken,
              );
          accepted = refl;
          in_order = refl;
          events = refl;
          raised = refl;
          troubles = λ x. sym (ap (λ (b : Bool). 0 + cond b 1 0) (f.nothing_in_trouble x));
        }

    pub good : (h : History) (m : Machine K0 K1 K2 W) → Ran h m → Good h m
    good [] m new = subst (Good []) (sym new.is) (good_new new.l0 new.l1 new.l2 new.w new.ok0 new.ok1 new.ok2 new.ok_watch new.fresh)
    good (e ∷ h) n ran =
        let m = ran.0 in
        let g = good h m ran.1 in
        let k = goes LW L0 L1 L2 e.call m g.sound (few_sent h m g) in
        let there = good_more h m (after m e.call) e.call (answer_to m e.call) g k in
        subst (Good (e ∷ h)) (sym ran.3)
        (subst (λ (a : Answer Told). Good (record { call = e.call; answer = a } ∷ h) (after m e.call)) (sym ran.2) there)
