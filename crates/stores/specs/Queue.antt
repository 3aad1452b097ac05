-- What waits in a queue, oldest first, and what a put and a take make of it.
use Rattle.std.specs.Prelude.{ℕ, ◌+◌, ◌-◌, Bool, cond, ◌&&◌, List, [], ◌∷◌, ◌++◌, length, take, drop, Some, None, Option, nat_le, nat_lt, slice_set}
use Rattle.stores.specs.declared.span.Span.{Span}

-- the span lies within so many places
abbrev pub fits_in : ℕ → Span → Bool
fits_in size s = nat_lt s.head size && nat_le s.count size

-- the places from the head on, and round to the one before it
unfoldable pub turned : {A : Type 0} → ℕ → List A → List A
turned head places = drop head places ++ take head places

-- in a span that does not fit nothing waits
unfoldable pub waiting : {A : Type 0} → List A → Span → List A
waiting places s = cond (fits_in (length places) s) (take s.count (turned s.head places)) []

-- a span that does not fit has no room either
abbrev pub has_room : {A : Type 0} → List A → Span → Bool
has_room places s = fits_in (length places) s && nat_lt (length (waiting places s)) (length places)

-- the newest comes last; when there is no room, all stays as it was
abbrev pub after_put : {A : Type 0} → Bool → List A → A → List A
after_put room others newest = cond room (others ++ newest ∷ []) others

abbrev pub oldest : {A : Type 0} → List A → Option A
oldest [] = None
oldest (x ∷ xs) = Some x

abbrev pub younger : {A : Type 0} → List A → List A
younger [] = []
younger (x ∷ xs) = xs

-- a place counted on past the last, which is one of the first again
abbrev pub rounded : ℕ → ℕ → ℕ
rounded size place = cond (nat_lt place size) place (place - size)

-- the places after a put: only the one behind the last is the newest's now, and where there was no room all are as they were
abbrev pub places_after_put : {A : Type 0} → Bool → List A → Span → A → List A
places_after_put room places s newest = cond room (slice_set places (rounded (length places) (s.head + s.count)) newest) places

abbrev pub without_first : ℕ → Span → Span
without_first size s = record { head = rounded size (s.head + 1); count = s.count - 1 }
