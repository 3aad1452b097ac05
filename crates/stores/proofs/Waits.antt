-- What waits, and how a put and a take change it, by the numbers of a span. Assumes nothing.
use Rattle.std.proofs.Common.{◌≡◌, ℕ, ◌+◌, ◌-◌, ◌<◌, ◌≤◌, Bool, true, false, cond, ◌&&◌, ltb, List, [], ◌∷◌, ◌++◌, length, get_or, take, set, sym, refl, ap, ◌∙◌, ⊎_elim, arith, length-set}
use Rattle.std.proofs.lemmas.List.{length-take-le, nil_from_length}
use Rattle.std.proofs.lemmas.Bool.{cases_Bool, cond-true, cond-false}
use Rattle.std.proofs.lemmas.Bool.Decides.{nat_tests}
use Rattle.stores.specs.declared.span.Span.{Span}
use Rattle.stores.specs.Queue.{fits_in, turned, waiting, has_room, rounded, without_first}
use Rattle.stores.proofs.Rounds.{length_turned, one_more, one_less}

-- the two numbers of a span that fits
head_within : (size : ℕ) (s : Span) → fits_in size s ≡ true → s.head < size
head_within size s fit = grind (arith, nat_tests)

count_within : (size : ℕ) (s : Span) → fits_in size s ≡ true → s.count ≤ size
count_within size s fit = grind (arith, nat_tests)

abbrev pub with_one_more : Span → Span
with_one_more s = record { head = s.head; count = s.count + 1 }

module _ {A : Type 0} (xs : List A) (s : Span) where
  abbrev fits : Bool
  fits = fits_in (length xs) s

  abbrev row : List A
  row = take s.count (turned s.head xs)

  waiting_fit : fits ≡ true → waiting xs s ≡ row
  unfolding waiting
  waiting_fit fit = cond-true fits row [] fit

  waiting_unfit : fits ≡ false → waiting xs s ≡ []
  unfolding waiting
  waiting_unfit unfit = cond-false fits row [] unfit

  pub length_waiting : length (waiting xs s) ≡ cond fits s.count 0
  length_waiting =
      ⊎_elim
      (λ (fit : fits ≡ true).
      let few = count_within (length xs) s fit in
      let whole = length_turned s.head xs in
      ap length (waiting_fit fit) ∙ length-take-le s.count (turned s.head xs) (omega arith) ∙ sym (cond-true fits s.count 0 fit))
      (λ (unfit : fits ≡ false). ap length (waiting_unfit unfit) ∙ sym (cond-false fits s.count 0 unfit))
      (cases_Bool fits)

  pub none_wait : cond fits s.count 0 ≡ 0 → waiting xs s ≡ []
  none_wait none = nil_from_length (waiting xs s) (length_waiting ∙ none)

  pub room_by_count : has_room xs s ≡ (fits && ltb s.count (length xs))
  room_by_count = let long = length_waiting in grind (arith, nat_tests)

module _ {A : Type 0} (xs : List A) (s : Span) where
  -- a put where there is room
  module _ (i : ℕ) (x : A) (room : (fits_in (length xs) s && ltb s.count (length xs)) ≡ true) where
    fit_with_room : fits_in (length xs) s ≡ true
    fit_with_room = grind (arith, nat_tests)

    fit_with_one_more : fits_in (length (set xs i x)) (with_one_more s) ≡ true
    fit_with_one_more = let same = length-set xs i x in grind (arith, nat_tests)

    pub put_fits : fits_in (length (set xs i x)) (with_one_more s) ≡ fits_in (length xs) s
    put_fits = fit_with_one_more ∙ sym fit_with_room

    pub put_waits : i ≡ rounded (length xs) (s.head + s.count) → waiting (set xs i x) (with_one_more s) ≡ waiting xs s ++ x ∷ []
    put_waits at =
        let below : s.count < length xs = grind (arith, nat_tests) in
        waiting_fit (set xs i x) (with_one_more s) fit_with_one_more
        ∙ one_more s.head s.count i xs x (head_within (length xs) s fit_with_room) below at
        ∙ ap (λ ys. ys ++ x ∷ []) (sym (waiting_fit xs s fit_with_room))

  -- a take where some wait
  module _ (some : cond (fits_in (length xs) s) s.count 0 ≡ 0 → ⊥) where
    fit_with_some : fits_in (length xs) s ≡ true
    fit_with_some = grind (arith, nat_tests)

    fit_without_first : fits_in (length xs) (without_first (length xs) s) ≡ true
    fit_without_first = grind (arith, nat_tests)

    pub take_fits : fits_in (length xs) (without_first (length xs) s) ≡ fits_in (length xs) s
    take_fits = fit_without_first ∙ sym fit_with_some

    pub take_waits : (x : A) → x ≡ get_or xs s.head x → waiting xs s ≡ x ∷ waiting xs (without_first (length xs) s)
    take_waits x read =
        let above : 0 < s.count = grind (arith, nat_tests) in
        let few = count_within (length xs) s fit_with_some in
        let one_and_rest : s.count ≡ (s.count - 1) + 1 = omega arith in
        waiting_fit xs s fit_with_some
        ∙ ap (λ n. take n (turned s.head xs)) one_and_rest
        ∙ one_less s.head (s.count - 1) (rounded (length xs) (s.head + 1)) xs x (head_within (length xs) s fit_with_some) (omega arith) read refl
        ∙ ap (λ ys. x ∷ ys) (sym (waiting_fit xs (without_first (length xs) s) fit_without_first))
