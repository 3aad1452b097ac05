-- What `find_map` gives over a list: the first answer of a function of its elements.
use Rattle.std.proofs.Common.{◌≡◌, ℕ, zero, suc, ◌+◌, ◌<◌, ◌≤◌, true, List, [], ◌∷◌, length, get_or, Some, None, Option, MatchOption, IfSome, IsSomeAnd, IsTrue, sym, refl, ap, ◌∙◌, arith}
use denote.Param.Members.{Mut}
use Rattle.std.specs.Fn.{Called}
use Rattle.std.specs.Iterator.Runs.{Run, AllItemsGive, IsFirstToGive, CallKeepsClosure}
use Rattle.std.specs.Option.{option_map}

abbrev pub first_of : {B C : Type 0} → (B → Option C) → List B → Option C
first_of h [] = None
first_of h (x ∷ xs) = elim (h x) [ None ↦ first_of h xs | Some y ↦ Some y ]

past : {B C : Type 0} (h : B → Option C) (x : B) (xs : List B) → None ≡ h x → first_of h (x ∷ xs) ≡ first_of h xs
past {B} {C} h x xs none = ap (λ (o : Option C). elim o [ None ↦ first_of h xs | Some y ↦ Some y ]) (sym none)

here : {B C : Type 0} (h : B → Option C) (x : B) (xs : List B) (y : C) → Some y ≡ h x → first_of h (x ∷ xs) ≡ Some y
here {B} {C} h x xs y some = ap (λ (o : Option C). elim o [ None ↦ first_of h xs | Some y ↦ Some y ]) (sym some)

none_of : {B C : Type 0} (h : B → Option C) (xs : List B) → ((k : ℕ) (d : B) → k < length xs → None ≡ h (get_or xs k d)) → None ≡ first_of h xs
none_of h [] all = refl
none_of h (x ∷ xs) all = none_of h xs (λ k d inside. all (suc k) d (omega arith)) ∙ sym (past h x xs (all 0 x (omega arith)))

some_at : {B C : Type 0} (h : B → Option C) (xs : List B) (i : ℕ) (y : C) → i < length xs → ((d : B) → Some y ≡ h (get_or xs i d)) → ((k : ℕ) (d : B) → k < i → None ≡ h (get_or xs k d)) → Some y ≡ first_of h xs
some_at h [] i y inside at before = absurd (omega arith)
some_at h (x ∷ xs) zero y inside at before = sym (here h x xs y (at x))
some_at h (x ∷ xs) (suc i) y inside at before =
    some_at h xs i y (omega arith) at (λ k d below. before (suc k) d (omega arith)) ∙ sym (past h x xs (before 0 x (omega arith)))

module _ {A B F C : Type 0} (v : A → B) (g : Mut F (A × Unit {0}) (Option C)) (h : B → Option C) (f : F)
    (tells : (x : A) (r : Option C) (q : F) → Called g f (x, tt) r q → (q ≡ f) × (r ≡ h (v x))) where
  keeps : CallKeepsClosure g f
  keeps a r q called = (tells a.0 r q called).0

  told : (o : Option A) (r : Option C) (y : B) → option_map v o ≡ Some y → IsSomeAnd o (λ x. Called g f (x, tt) r f) → r ≡ h y
  told None r y is called = absurd called
  told (Some x) r y is called = let same : v x ≡ y = cc in (tells x r f called).1 ∙ ap h same

  told_if : (o : Option A) (r : Option C) (y : B) → option_map v o ≡ Some y → IfSome o (λ x. Called g f (x, tt) r f) → r ≡ h y
  told_if None r y is called = cc
  told_if (Some x) r y is called = told (Some x) r y is called

  module _ {S : Type 0} {steps : S → Option A → S → Type 0} (p : Run steps) (xs : List B) (fits : p.len ≤ length xs) (all : p.whole ≡ true → p.len ≡ length xs)
      (reads : (k : ℕ) (d : B) → k < p.len → option_map v (p.at k) ≡ Some (get_or xs k d)) where
    pub first_by_run : (r : Option C)
        → MatchOption r (IsTrue p.whole × AllItemsGive p g f None) (λ y. (i : ℕ) × (i < p.len) × (p.len ≡ i + 1) × IsFirstToGive p g f (Some y) None i)
        → r ≡ first_of h xs
    first_by_run None ran =
        let whole : p.len ≡ length xs = all ran.0 in
        none_of h xs (λ k d inside. told_if (p.at k) None (get_or xs k d) (reads k d (omega arith)) (ran.1 keeps k))
    first_by_run (Some y) ran =
        some_at h xs ran.0 y (omega (arith, ran.1))
        (λ d. told (p.at ran.0) (Some y) (get_or xs ran.0 d) (reads ran.0 d ran.1) (ran.3 keeps).0)
        (λ k d below. told (p.at k) None (get_or xs k d) (reads k d (omega (arith, ran.1))) ((ran.3 keeps).1 k below))
