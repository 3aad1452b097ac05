-- What a watch is: a kind as plain data, and the laws that every kind keeps.
use Rattle.std.specs.Prelude.{◌≡◌, ℕ, ◌≤◌, Bool, false, cond, ◌&&◌, Some, None, Option, ◌≢◌, nat_le}

-- a watch of a width has the functions from 1 to the width
abbrev pub within : ℕ → ℕ → Bool
within width f = nat_le 1 f && nat_le f width

-- A kind: its states, those that a watch can have, how wide each is, which functions are in trouble there, and the
-- state after a function has seen a value.
pub record WatchKind : Type 1 where
  pub State : Type 0
  pub Ok : State → Type 0
  pub width : State → ℕ
  pub trouble : State → ℕ → Bool
  pub seen : State → ℕ → ℕ → State

-- the answer to a value: the function's new state, or a refusal outside the width
abbrev pub see_answer : (K : WatchKind) → K.State → ℕ → ℕ → Option Bool
see_answer K s f v = cond (within (K.width s) f) (Some (K.trouble (K.seen s f v) f)) None

-- What every kind keeps; the rest is the kind's own rule.
pub record LawfulWatch (K : WatchKind) : Type 0 where
  pub at_least_one_function : (s : K.State) → K.Ok s → 1 ≤ K.width s
  pub at_most_23_functions : (s : K.State) → K.Ok s → K.width s ≤ 23
  pub width_never_changes : (s : K.State) (f v : ℕ) → K.Ok s → K.width (K.seen s f v) ≡ K.width s
  pub refusal_changes_nothing : (s : K.State) (f v : ℕ) → K.Ok s → within (K.width s) f ≡ false → K.seen s f v ≡ s
  pub other_functions_as_before : (s : K.State) (f v other : ℕ) → K.Ok s → (other ≢ f)
      → K.trouble (K.seen s f v) other ≡ K.trouble s other
  pub outside_never_in_trouble : (s : K.State) (f : ℕ) → K.Ok s → within (K.width s) f ≡ false → K.trouble s f ≡ false
  pub seeing_keeps_ok : (s : K.State) (f v : ℕ) → K.Ok s → K.Ok (K.seen s f v)
