-- The rules of the simple kinds, each of one function.
use Rattle.std.specs.Prelude.{ℕ, Bool, false, cond, not, ◌&&◌, Some, None, Option, ◌==◌, nat_le}
use Rattle.watches.specs.declared.band.Band.{Band}
use Rattle.watches.specs.declared.last_seen.LastSeen.{LastSeen}
use Rattle.watches.specs.Meaning.{within, WatchKind}

-- a kind of one function, by its states, which of them are trouble, and the state that a value brings
abbrev pub one_function : (S : Type 0) → (S → Bool) → (S → ℕ → S) → WatchKind
one_function S bad next = record {
  State = S;
  Ok = λ s. Unit {0};
  width = λ s. 1;
  trouble = λ s f. within 1 f && bad s;
  seen = λ s f v. cond (within 1 f) (next s v) s;
}

-- Still and Moving begin good
abbrev pub nothing_seen : LastSeen
nothing_seen = record { value = None; trouble = false }

-- a kind that compares each value with the one just before it
abbrev pub comparing : (Option ℕ → ℕ → Bool) → WatchKind
comparing rule =
    one_function LastSeen (λ s. s.trouble) (λ s v. record { value = Some v; trouble = rule s.value v })

-- whether a value differs from the one just before it; the first value does not
abbrev pub differs : Option ℕ → ℕ → Bool
differs None v = false
differs (Some before) v = not (v == before)

-- whether a value equals the one just before it; the first value does not
abbrev pub repeats : Option ℕ → ℕ → Bool
repeats None v = false
repeats (Some before) v = v == before

-- in trouble when a value differs from the one just before it
abbrev pub still_kind : WatchKind
still_kind = comparing differs

-- in trouble when a value equals the one just before it
abbrev pub moving_kind : WatchKind
moving_kind = comparing repeats

-- whether a value is between the limits; both limits are inside
abbrev pub inside : Band → ℕ → Bool
inside band v = nat_le band.lowest v && nat_le v band.highest

-- in trouble when a value is not inside; the limits stay
abbrev pub band_kind : WatchKind
band_kind =
    one_function Band (λ s. s.trouble)
    (λ s v. record { lowest = s.lowest; highest = s.highest; trouble = not (inside s v) })
