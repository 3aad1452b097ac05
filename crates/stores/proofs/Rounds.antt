-- How a write behind the last, and a step of the head, show in the places as they wait. Assumes nothing.
use Rattle.std.proofs.Common.{◌≡◌, ℕ, ◌+◌, ◌-◌, ◌<◌, ◌≤◌, List, [], ◌∷◌, ◌++◌, length, get_or, take, drop, set, ap, ◌∙◌, ⊎_elim, append_assoc, append-nil, add-one, arith, length-append, length-drop, length-take}
use lib.Seq.{take-set-lt}
use Rattle.std.proofs.lemmas.List.{drop_all, drop_more, drop-set-add, drop-set-lt, set-append_left, set-append_right, take_all, take-append-le, take_more, take_more_set, take-set-le}
use Rattle.std.proofs.lemmas.Bool.{cases_lt}
use Rattle.std.proofs.lemmas.Bool.Decides.{nat_tests}
use Rattle.stores.specs.Queue.{turned, rounded}

module _ {A : Type 0} where
  pub length_turned : (h : ℕ) (xs : List A) → length (turned h xs) ≡ length xs
  unfolding turned
  length_turned h xs = simp (length-append, length-drop, length-take) (omega arith)

  -- a write at the place n past the head is the write at n
  turned_set : (h n i : ℕ) (xs : List A) (x : A) → h < length xs → n < length xs → i ≡ rounded (length xs) (h + n)
      → turned h (set xs i x) ≡ set (turned h xs) n x
  unfolding turned
  turned_set h n i xs x f g at =
      ⊎_elim
      (λ (low : h + n < length xs).
      let place : i ≡ h + n = grind (arith, nat_tests) in
      let front : drop h (set xs i x) ≡ set (drop h xs) n x = ap (λ k. drop h (set xs k x)) place ∙ drop-set-add h xs n x in
      let back = take-set-le h xs i x (omega arith) in
      let whole = set-append_left (drop h xs) (take h xs) n x (simp length-drop (omega arith)) in
      cc)
      (λ (high : length xs ≤ h + n).
      let place : n - (length xs - h) ≡ i = grind (arith, nat_tests) in
      let front = drop-set-lt h xs i x (omega arith) in
      let back = take-set-lt h xs i x (omega arith) in
      let whole = set-append_right (drop h xs) (take h xs) (length xs - h) n x (length-drop h xs) (omega arith) in
      cc)
      (cases_lt (h + n) (length xs))

  pub one_more : (h n i : ℕ) (xs : List A) (x : A) → h < length xs → n < length xs → i ≡ rounded (length xs) (h + n)
      → take (n + 1) (turned h (set xs i x)) ≡ take n (turned h xs) ++ x ∷ []
  one_more h n i xs x f g at =
      let long = length_turned h xs in
      ap (take (n + 1)) (turned_set h n i xs x f g at) ∙ take_more_set (turned h xs) n x (omega arith)

  -- all but the oldest
  abbrev others : ℕ → List A → List A
  others h xs = drop (h + 1) xs ++ take h xs

  first_then_others : (h : ℕ) (xs : List A) (d : A) → h < length xs → turned h xs ≡ get_or xs h d ∷ others h xs
  unfolding turned
  first_then_others h xs d f = ap (λ ys. ys ++ take h xs) (drop_more xs h d f)

  -- a step of the head brings the first behind the others
  others_then_first : (h k : ℕ) (xs : List A) (d : A) → h < length xs → k ≡ rounded (length xs) (h + 1)
      → turned k xs ≡ others h xs ++ get_or xs h d ∷ []
  unfolding turned
  others_then_first h k xs d f at =
      let more = take_more xs h d f in
      let grouped = append_assoc (drop (h + 1) xs) (take h xs) (get_or xs h d ∷ []) in
      ⊎_elim
      (λ (low : h + 1 < length xs). let place : k ≡ h + 1 = grind (arith, nat_tests) in cc)
      (λ (high : length xs ≤ h + 1).
      let place : k ≡ 0 = grind (arith, nat_tests) in
      let none = drop_all (h + 1) xs high in
      let all = take_all (h + 1) xs high in
      let same = append-nil xs in
      cc)
      (cases_lt (h + 1) (length xs))

  pub one_less : (h n k : ℕ) (xs : List A) (x : A) → h < length xs → n < length xs → x ≡ get_or xs h x → k ≡ rounded (length xs) (h + 1)
      → take (n + 1) (turned h xs) ≡ x ∷ take n (turned k xs)
  one_less h n k xs x f g read at =
      let now = first_then_others h xs x f in
      let later = others_then_first h k xs x f at in
      let short = take-append-le n (others h xs) (get_or xs h x ∷ []) (simp (length-append, length-drop, length-take) (omega arith)) in
      let step : take (n + 1) (get_or xs h x ∷ others h xs) ≡ get_or xs h x ∷ take n (others h xs) = ap (λ k. take k (get_or xs h x ∷ others h xs)) (add-one n) in
      cc
