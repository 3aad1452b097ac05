-- Two watches as one.
use Rattle.std.specs.Prelude.{ℕ, ◌+◌, ◌-◌, min, Bool, false, cond, Some, None, Option, nat_le}
use Rattle.watches.specs.declared.part.Part.{Part}
use Rattle.watches.specs.declared.part.Part.TheVariants.{Left, Right}
use Rattle.watches.specs.Meaning.{within, WatchKind}

-- the width of a pair, by the widths of its parts: their sum, at most 23
abbrev pub pair_width : ℕ → ℕ → ℕ
pair_width left right = min (left + right) 23

-- the part that has a function, with the function's number there; the left's functions come first
abbrev pub part_of : ℕ → ℕ → ℕ → Option Part
part_of left right f =
    cond (within (pair_width left right) f) (Some (cond (nat_le f left) (Left f) (Right (f - left)))) None

-- the state of a function is its state in the part; outside both parts none is in trouble
abbrev pub pair_trouble : (L R : WatchKind) → (L.State × R.State) → Option Part → Bool
pair_trouble L R s (Some (Left f)) = L.trouble s.0 f
pair_trouble L R s (Some (Right f)) = R.trouble s.1 f
pair_trouble L R s None = false

-- only the part that has the function sees the value
abbrev pub pair_seen : (L R : WatchKind) → (L.State × R.State) → Option Part → ℕ → (L.State × R.State)
pair_seen L R s (Some (Left f)) v = (L.seen s.0 f v, s.1)
pair_seen L R s (Some (Right f)) v = (s.0, R.seen s.1 f v)
pair_seen L R s None v = s

-- a kind of any two kinds; its state is the two states
abbrev pub pair_kind : WatchKind → WatchKind → WatchKind
pair_kind L R = record {
  State = L.State × R.State;
  Ok = λ s. L.Ok s.0 × R.Ok s.1;
  width = λ s. pair_width (L.width s.0) (R.width s.1);
  trouble = λ s f. pair_trouble L R s (part_of (L.width s.0) (R.width s.1) f);
  seen = λ s f v. pair_seen L R s (part_of (L.width s.0) (R.width s.1) f) v;
}
