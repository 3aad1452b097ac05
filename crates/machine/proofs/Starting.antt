-- In every run, each pending number was reported STARTED.
use Rattle.std.proofs.Common.{◌≡◌, ℕ, ◌≤◌, Bool, cond, eqb, List, [], ◌∷◌, ◌++◌, reverse, Ok, Err, sum_by, Result, sym, refl, ap, subst, ⊎_elim, arith}
use Rattle.std.proofs.lemmas.List.{reverse-append}
use Rattle.std.proofs.lemmas.List.Sums.{sum_by-append, sum_by-cons, sum_by_push}
use Rattle.std.proofs.lemmas.Bool.{cases_eq, eq-eqb, ne_eqb}
use Rattle.links.specs.Meaning.{LinkKind, Lawful}
use Rattle.records.specs.declared.refusal.Refusal.{Refusal}
use Rattle.records.specs.declared.report.Report.{Report}
use Rattle.records.specs.declared.report.Stage.TheVariants.{Started}
use Rattle.watches.specs.Meaning.{WatchKind, LawfulWatch}
use Rattle.machine.specs.Balance.{view_of, all_reports, is_final, Pending}
use Rattle.machine.specs.Calls.{Call, submit, deliver, tick, sample, collect, answer_to, after}
use Rattle.machine.specs.Calls.{Told}
use Rattle.machine.specs.Machine.{Machine, Answer, quiet, submit_answer}
use Rattle.machine.specs.Runs.{History, Ran, number_by, numbers_in, accepted_in, collected_in}
use Rattle.machine.specs.Written.{written, Newest, is_started, started_of, PendingWasStarted}
use Rattle.machine.proofs.Counting.{bit, times_in}
use Rattle.machine.proofs.Ordering.{each_call}
use Rattle.machine.proofs.Reporting.{accepted_reported}

-- a STARTED that is the newest is counted
newest_counts : (n : ℕ) (collected reports : List Report) (x : Newest reports n) → x.stage ≡ Started → 1 ≤ started_of n (collected ++ reports)
newest_counts n collected reports x e =
    let F : Report → ℕ = λ r. cond (eqb r.number n) (is_started r.stage) 0 in
    let last : Report = record { number = n; stage = x.stage } in
    let here : F last ≡ is_started x.stage = ap (λ (b : Bool). cond b (is_started x.stage) 0) (eq-eqb n n refl) in
    omega (arith, sum_by-append F collected reports, ap (started_of n) x.last, sum_by_push F x.before last, here, ap is_started e)

-- a sum over a list is that over its reverse
sum_reverse : (F : Report → ℕ) (xs : List Report) → sum_by F (reverse xs) ≡ sum_by F xs
sum_reverse F [] = refl
sum_reverse F (x ∷ xs) =
    omega (arith, ap (sum_by F) (reverse-append (x ∷ []) xs), sum_by-append F (reverse xs) (x ∷ []), sum_reverse F xs, sum_by-cons F x xs, sum_by-cons F x [])

sum_written : (F : Report → ℕ) (collected reports : List Report) → sum_by F (reverse collected ++ reports) ≡ sum_by F (collected ++ reports)
sum_written F collected reports =
    omega (arith, sum_by-append F (reverse collected) reports, sum_by-append F collected reports, sum_reverse F collected)

given_by : (r : Result ℕ Refusal) (n : ℕ) → times_in n (number_by r) ≡ 1 → r ≡ Ok n
given_by (Err refusal) n e =
    let bottom : ⊥ = omega (arith, e) in
    absurd bottom
given_by (Ok k) n e =
    ⊎_elim
    (λ (same : k ≡ n). ap Ok same)
    (λ (other : k ≡ n → ⊥).
    let bottom : ⊥ = omega (arith, e, sum_by-cons (λ (x : ℕ). bit (eqb x n)) k [], ap bit (ne_eqb k n other)) in
    absurd bottom)
    (cases_eq k n)

module _ {K0 K1 K2 : LinkKind} {W : WatchKind} where
  -- whatever is summed over all reports only grows
  grows : (F : Report → ℕ) (h : History) (m : Machine K0 K1 K2 W) (c : Call)
      → sum_by F (all_reports h (view_of m)) ≤ sum_by F (all_reports (record { call = c; answer = answer_to m c } ∷ h) (view_of (after m c)))
  grows F h m c =
      let k : History = record { call = c; answer = answer_to m c } ∷ h in
      let a = each_call h m c in
      omega (
        arith,
        sum_written F (collected_in h) m.desk.log.reports,
        sum_written F (collected_in k) (after m c).desk.log.reports,
        ap (sum_by F) a.behind,
        sum_by-append F (written h m) a.new,
      )

  -- a number that a call gives
  given : (m : Machine K0 K1 K2 W) (c : Call) (n : ℕ) → times_in n (numbers_in (answer_to m c).outcome) ≡ 1
      → (bytes : List ℕ) × (c ≡ submit bytes) × (submit_answer m bytes ≡ quiet (Ok n))
  given m (submit bytes) n e = (bytes, refl, ap quiet (given_by (submit_answer m bytes).outcome n e))
  given m (deliver link bytes) n e = let bottom : ⊥ = omega (arith, e) in absurd bottom
  given m tick n e = let bottom : ⊥ = omega (arith, e) in absurd bottom
  given m (sample f v) n e = let bottom : ⊥ = omega (arith, e) in absurd bottom
  given m collect n e = let bottom : ⊥ = omega (arith, e) in absurd bottom

  -- a number that is pending after a call was reported STARTED
  abbrev WasStarted : History → Machine K0 K1 K2 W → ℕ → Type 0
  WasStarted h m n = Pending h (view_of m) n → 1 ≤ started_of n (all_reports h (view_of m))

  abbrev StartedBy : History → Machine K0 K1 K2 W → ℕ → Call → Type 0
  StartedBy h m n c = WasStarted (record { call = c; answer = answer_to m c } ∷ h) (after m c) n

  module _ (L0 : Lawful K0) (L1 : Lawful K1) (L2 : Lawful K2) (LW : LawfulWatch W) where
    -- the number that the call gave
    told_now : (h : History) (m : Machine K0 K1 K2 W) → Ran h m → (bytes : List ℕ) (n : ℕ) → submit_answer m bytes ≡ quiet (Ok n) → StartedBy h m n (submit bytes)
    told_now h m ran bytes n e p =
        let x = accepted_reported L0 L1 L2 LW h m ran bytes n e in
        newest_counts n (collected_in h) (after m (submit bytes)).desk.log.reports x.newest (x.started p)

    -- or one that was pending before
    told_more : (h : History) (m : Machine K0 K1 K2 W) (c : Call) → Ran h m → (n : ℕ) → WasStarted h m n → StartedBy h m n c
    told_more h m c ran n before p =
        let new = numbers_in (answer_to m c).outcome in
        let parts = sum_by-append (λ (x : ℕ). bit (eqb x n)) new (accepted_in h) in
        ⊎_elim
        (λ (given_now : times_in n new ≡ 1).
        let g = given m c n given_now in
        subst (StartedBy h m n) (sym g.1) (told_now h m ran g.0 n g.2) p)
        (λ (other : times_in n new ≡ 1 → ⊥).
        let none : times_in n new ≡ 0 = omega (arith, parts, p.accepted) in
        let was : Pending h (view_of m) n = record {
          accepted = omega (arith, parts, p.accepted, none);
          no_final = omega (arith, p.no_final, grows (λ (r : Report). cond (eqb r.number n) (is_final r.stage) 0) h m c);
        } in
        omega (arith, before was, grows (λ (r : Report). cond (eqb r.number n) (is_started r.stage) 0) h m c))
        (cases_eq (times_in n new) 1)

    pub was_started : PendingWasStarted K0 K1 K2 W
    was_started [] m ran n p =
        let bottom : ⊥ = omega (arith, p.accepted) in
        absurd bottom
    was_started (e ∷ h) k ran n p =
        let m = ran.0 in
        let c = e.call in
        let there = told_more h m c ran.1 n (was_started h m ran.1 n) in
        subst (λ (x : Machine K0 K1 K2 W). WasStarted (e ∷ h) x n) (sym ran.3)
        (subst (λ (a : Answer Told). WasStarted (record { call = c; answer = a } ∷ h) (after m c) n) (sym ran.2) there) p
