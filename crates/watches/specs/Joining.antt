-- A pair of two lawful kinds is lawful.
use Rattle.std.specs.Prelude.{◌≡◌, ℕ, ◌-◌, false, cond, ◌≢◌, Some, None, Option, nat_le, refl}
use Rattle.std.proofs.Common.{ap, arith}
use Rattle.std.proofs.lemmas.Bool.Decides.{nat_tests}
use Rattle.watches.specs.declared.part.Part.{Part}
use Rattle.watches.specs.declared.part.Part.TheVariants.{Left, Right}
use Rattle.watches.specs.Meaning.{within, WatchKind, LawfulWatch}
use Rattle.watches.specs.Pairs.{pair_width, part_of, pair_trouble, pair_seen, pair_kind}

-- a function outside the pair's width is in neither part
outside : (left right f : ℕ) → within (pair_width left right) f ≡ false → part_of left right f ≡ None
outside left right f out = ap (λ has. cond has (Some (cond (nat_le f left) (Left f) (Right (f - left)))) None) out

-- two functions do not share a place in a part
apart : (left right f g : ℕ) → (g ≢ f) → part_of left right g ≡ part_of left right f → part_of left right g ≡ None
apart left right f g other same = grind (arith, nat_tests)

module _ {L R : WatchKind} (l : LawfulWatch L) (r : LawfulWatch R) where
  left_width : (s : L.State × R.State) (p : Option Part) (v : ℕ) → L.Ok s.0 → L.width (pair_seen L R s p v).0 ≡ L.width s.0
  left_width s (Some (Left f)) v ok = l.width_never_changes s.0 f v ok
  left_width s (Some (Right f)) v ok = refl
  left_width s None v ok = refl

  right_width : (s : L.State × R.State) (p : Option Part) (v : ℕ) → R.Ok s.1 → R.width (pair_seen L R s p v).1 ≡ R.width s.1
  right_width s (Some (Left f)) v ok = refl
  right_width s (Some (Right f)) v ok = r.width_never_changes s.1 f v ok
  right_width s None v ok = refl

  keeps_ok : (s : L.State × R.State) (p : Option Part) (v : ℕ) → L.Ok s.0 × R.Ok s.1
      → L.Ok (pair_seen L R s p v).0 × R.Ok (pair_seen L R s p v).1
  keeps_ok s (Some (Left f)) v ok = (l.seeing_keeps_ok s.0 f v ok.0, ok.1)
  keeps_ok s (Some (Right f)) v ok = (ok.0, r.seeing_keeps_ok s.1 f v ok.1)
  keeps_ok s None v ok = ok

  -- what stands at another place is as before
  other_place : (s : L.State × R.State) (p q : Option Part) (v : ℕ) → L.Ok s.0 × R.Ok s.1 → (q ≡ p → q ≡ None)
      → pair_trouble L R (pair_seen L R s p v) q ≡ pair_trouble L R s q
  other_place s (Some (Left f)) (Some (Left g)) v ok other =
      l.other_functions_as_before s.0 f v g ok.0 (λ e. grind (arith, other (ap (λ n. Some (Left n)) e)))
  other_place s (Some (Left f)) (Some (Right g)) v ok other = refl
  other_place s (Some (Left f)) None v ok other = refl
  other_place s (Some (Right f)) (Some (Left g)) v ok other = refl
  other_place s (Some (Right f)) (Some (Right g)) v ok other =
      r.other_functions_as_before s.1 f v g ok.1 (λ e. grind (arith, other (ap (λ n. Some (Right n)) e)))
  other_place s (Some (Right f)) None v ok other = refl
  other_place s None q v ok other = refl

  pub pair_lawful : LawfulWatch (pair_kind L R)
  pair_lawful = record {
    at_least_one_function = λ s ok. omega (arith, l.at_least_one_function s.0 ok.0);
    at_most_23_functions = λ s ok. omega arith;
    width_never_changes = λ s f v ok.
        let p = part_of (L.width s.0) (R.width s.1) f in
        cc (left_width s p v ok.0, right_width s p v ok.1);
    refusal_changes_nothing = λ s f v ok out.
        ap (λ p. pair_seen L R s p v) (outside (L.width s.0) (R.width s.1) f out);
    other_functions_as_before = λ s f v g ok other.
        let p = part_of (L.width s.0) (R.width s.1) f in
        let q = part_of (L.width s.0) (R.width s.1) g in
        cc (
          left_width s p v ok.0,
          right_width s p v ok.1,
          other_place s p q v ok (apart (L.width s.0) (R.width s.1) f g other),
        );
    outside_never_in_trouble = λ s f ok out.
        ap (λ p. pair_trouble L R s p) (outside (L.width s.0) (R.width s.1) f out);
    seeing_keeps_ok = λ s f v ok. keeps_ok s (part_of (L.width s.0) (R.width s.1) f) v ok;
  }
