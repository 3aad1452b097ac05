-- Sums over reports and numbers: what one final report for each number makes of the totals.
use Rattle.std.proofs.Common.{◌≡◌, ℕ, zero, suc, ◌+◌, ◌<◌, ◌≤◌, Bool, true, false, cond, eqb, List, [], ◌∷◌, length, sum_by, count_by, sym, refl, ap, ◌∙◌, ⊎_elim, arith}
use Rattle.std.proofs.lemmas.List.Sums.{sum_by-cons}
use Rattle.std.proofs.lemmas.Bool.{cases_eq, eq-eqb, ne_eqb}
use Rattle.records.specs.declared.report.Report.{Report}
use Rattle.records.specs.declared.report.Stage.{Stage}
use Rattle.records.specs.declared.report.Stage.TheVariants.{Started, Done, Failed}
use Rattle.machine.specs.Balance.{is_done, is_failed, is_final, done_in, failed_in, finals_of, down_from}

abbrev pub bit : Bool → ℕ
bit b = cond b 1 0

-- how often a number stands in a list
abbrev pub times_in : ℕ → List ℕ → ℕ
times_in n xs = sum_by (λ (k : ℕ). bit (eqb k n)) xs

bit_le : (b : Bool) → bit b ≤ 1
bit_le true = omega arith
bit_le false = omega arith

-- a number counts once among the numbers down from another, and not at all above it
once_below : (top n : ℕ) → (times_in n (down_from top) ≤ 1) × (top < n → times_in n (down_from top) ≡ 0)
once_below zero n = (omega arith, λ h. refl)
once_below (suc top) n =
    let more = sum_by-cons (λ (k : ℕ). bit (eqb k n)) (suc top) (down_from top) in
    let ih = once_below top n in
    ⊎_elim
    (λ (same : suc top ≡ n). (omega (arith, more, ih.1 (omega arith), bit_le (eqb (suc top) n)), λ h. omega arith))
    (λ (other : suc top ≡ n → ⊥).
    let none : bit (eqb (suc top) n) ≡ 0 = ap bit (ne_eqb (suc top) n other) in
    (omega (arith, more, ih.0, none), λ h. omega (arith, more, ih.1 (omega arith), none)))
    (cases_eq (suc top) n)

pub once : (top n : ℕ) → times_in n (down_from top) ≤ 1
once top n = (once_below top n).0

half : (x : ℕ) → x ≤ 1 → x + bit (eqb x 0) ≡ 1
half x small =
    ⊎_elim
    (λ (none : x ≡ 0). omega (arith, none, ap bit (eq-eqb x 0 none)))
    (λ (some : x ≡ 0 → ⊥). let positive : 1 ≤ x = omega arith in omega (arith, ap bit (ne_eqb x 0 some)))
    (cases_eq x 0)

-- where each is 0 or 1, the zeros are the rest
pub halves : (g : ℕ → ℕ) → ((n : ℕ) → g n ≤ 1) → (xs : List ℕ) → length xs ≡ sum_by g xs + count_by (λ n. eqb (g n) 0) xs
halves g small [] = refl
halves g small (x ∷ xs) =
    omega (arith, halves g small xs, half (g x) (small x), sum_by-cons g x xs, sum_by-cons (λ (n : ℕ). bit (eqb (g n) 0)) x xs)

pub zero_sum : {A : Type 0} (xs : List A) → sum_by (λ (x : A). 0) xs ≡ 0
zero_sum [] = refl
zero_sum {A} (x ∷ xs) = sum_by-cons (λ (x : A). 0) x xs ∙ omega (arith, zero_sum xs)

sum_same : (f g : ℕ → ℕ) → ((n : ℕ) → f n ≡ g n) → (xs : List ℕ) → sum_by f xs ≡ sum_by g xs
sum_same f g same [] = refl
sum_same f g same (x ∷ xs) = omega (arith, sum_same f g same xs, same x, sum_by-cons f x xs, sum_by-cons g x xs)

sum_both : (f g : ℕ → ℕ) (xs : List ℕ) → sum_by (λ n. f n + g n) xs ≡ sum_by f xs + sum_by g xs
sum_both f g [] = refl
sum_both f g (x ∷ xs) = omega (arith, sum_both f g xs, sum_by-cons f x xs, sum_by-cons g x xs, sum_by-cons (λ n. f n + g n) x xs)

turned_round : (a b : ℕ) → eqb a b ≡ eqb b a
turned_round a b =
    ⊎_elim
    (λ (same : a ≡ b). eq-eqb a b same ∙ sym (eq-eqb b a (sym same)))
    (λ (other : a ≡ b → ⊥). ne_eqb a b other ∙ sym (ne_eqb b a (λ e. other (sym e))))
    (cases_eq a b)

pub zero_either : (b : Bool) → ◌≡◌ {A = ℕ} (cond b 0 0) 0
zero_either true = refl
zero_either false = refl

-- a final report counts at its own number
at_number : (stage : Stage) (k : ℕ) (xs : List ℕ) → is_final stage ≤ times_in k xs → times_in k xs ≤ 1
    → sum_by (λ (n : ℕ). cond (eqb k n) (is_final stage) 0) xs ≡ is_final stage
at_number Started k xs low high = sum_same (λ (n : ℕ). cond (eqb k n) 0 0) (λ (n : ℕ). 0) (λ n. zero_either (eqb k n)) xs ∙ zero_sum xs
at_number (Done sent) k xs low high = omega (arith, sum_same (λ (n : ℕ). bit (eqb k n)) (λ (n : ℕ). bit (eqb n k)) (λ n. ap bit (turned_round k n)) xs)
at_number (Failed sent fault) k xs low high = omega (arith, sum_same (λ (n : ℕ). bit (eqb k n)) (λ (n : ℕ). bit (eqb n k)) (λ n. ap bit (turned_round k n)) xs)

final_parts : (stage : Stage) → is_final stage ≡ is_done stage + is_failed stage
final_parts Started = refl
final_parts (Done sent) = refl
final_parts (Failed sent fault) = refl

own_final : (r : Report) (rs : List Report) → is_final r.stage ≤ finals_of r.number (r ∷ rs)
own_final r rs =
    let more = sum_by-cons (λ (x : Report). cond (eqb x.number r.number) (is_final x.stage) 0) r rs in
    let here : cond (eqb r.number r.number) (is_final r.stage) 0 ≡ is_final r.stage =
    ap (λ (b : Bool). cond b (is_final r.stage) 0) (eq-eqb r.number r.number refl) in
    omega (arith, more, here)

-- where final reports belong to numbers of the list, each of which stands there once, counting by number or by report is the same
pub by_number : (xs : List ℕ) (rs : List Report) → ((k : ℕ) → finals_of k rs ≤ times_in k xs) → ((k : ℕ) → times_in k xs ≤ 1)
    → sum_by (λ n. finals_of n rs) xs ≡ done_in rs + failed_in rs
by_number xs [] low high = zero_sum xs
by_number xs (r ∷ rs) low high =
    let more : (k : ℕ) → finals_of k (r ∷ rs) ≡ cond (eqb r.number k) (is_final r.stage) 0 + finals_of k rs =
    λ k. sum_by-cons (λ (x : Report). cond (eqb x.number k) (is_final x.stage) 0) r rs in
    let tail : (k : ℕ) → finals_of k rs ≤ times_in k xs = λ k. omega (arith, low k, more k) in
    let split = sum_same (λ (n : ℕ). finals_of n (r ∷ rs)) (λ (n : ℕ). cond (eqb r.number n) (is_final r.stage) 0 + finals_of n rs) more xs in
    let parts = sum_both (λ (n : ℕ). cond (eqb r.number n) (is_final r.stage) 0) (λ (n : ℕ). finals_of n rs) xs in
    let own : is_final r.stage ≤ times_in r.number xs = omega (arith, own_final r rs, low r.number) in
    let here = at_number r.stage r.number xs own (high r.number) in
    omega (
      arith,
      split,
      parts,
      here,
      by_number xs rs tail high,
      final_parts r.stage,
      sum_by-cons (λ (x : Report). is_done x.stage) r rs,
      sum_by-cons (λ (x : Report). is_failed x.stage) r rs,
    )

pub ones : (xs : List ℕ) → sum_by (λ (k : ℕ). 1) xs ≡ length xs
ones [] = refl
ones (x ∷ xs) = omega (arith, ones xs, sum_by-cons (λ (k : ℕ). 1) x xs)

pub final_sum : (rs : List Report) → sum_by (λ (r : Report). is_final r.stage) rs ≡ done_in rs + failed_in rs
final_sum [] = refl
final_sum (r ∷ rs) =
    omega (
      arith,
      final_sum rs,
      final_parts r.stage,
      sum_by-cons (λ (x : Report). is_final x.stage) r rs,
      sum_by-cons (λ (x : Report). is_done x.stage) r rs,
      sum_by-cons (λ (x : Report). is_failed x.stage) r rs,
    )
