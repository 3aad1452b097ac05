-- The bench is a new machine.
use Rattle.std.proofs.Common.{◌≡◌, ℕ, false, ◌&&◌, Some, None, Option, refl, arith}
use Rattle.std.proofs.lemmas.Bool.{and_right}
use Rattle.links.specs.Meaning.{idle}
use Rattle.watches.specs.declared.part.Part.{Part}
use Rattle.watches.specs.declared.part.Part.TheVariants.{Left, Right}
use Rattle.watches.specs.Kinds.{nothing_seen, still_kind, moving_kind, band_kind}
use Rattle.watches.specs.Meaning.{within, WatchKind}
use Rattle.watches.specs.Pairs.{part_of, pair_trouble, pair_kind}
use Rattle.machine.specs.Cases.{bench_watch, bench}
use Rattle.machine.specs.Runs.{New}

-- a pair of watches with nothing in trouble has nothing in trouble
pair_good : (L R : WatchKind) (s : L.State × R.State) → ((f : ℕ) → L.trouble s.0 f ≡ false) → ((f : ℕ) → R.trouble s.1 f ≡ false)
    → (p : Option Part) → pair_trouble L R s p ≡ false
pair_good L R s left right (Some (Left f)) = left f
pair_good L R s left right (Some (Right f)) = right f
pair_good L R s left right None = refl

bench_good : (f : ℕ) → bench_watch.trouble (nothing_seen, (nothing_seen, record { lowest = 100; highest = 200; trouble = false })) f ≡ false
bench_good f =
    let band : band_kind.State = record { lowest = 100; highest = 200; trouble = false } in
    let none : (g : ℕ) → (within 1 g && false) ≡ false = λ g. and_right (within 1 g) false refl in
    pair_good still_kind (pair_kind moving_kind band_kind) (nothing_seen, (nothing_seen, band)) none
    (λ g. pair_good moving_kind band_kind (nothing_seen, band) none none (part_of 1 1 g)) (part_of 1 2 f)

pub bench_new : New bench
bench_new = record {
  l0 = idle 0;
  l1 = record { delay = 0; taken = 0; held = None; polls = 0 };
  l2 = record { delay = 0; taken = 0; held = None; polls = 0 };
  w = (nothing_seen, (nothing_seen, record { lowest = 100; highest = 200; trouble = false }));
  ok0 = record { count = omega arith; idle = λ e. refl };
  ok1 = omega arith;
  ok2 = omega arith;
  ok_watch = (tt, (tt, tt));
  fresh = record { link_0 = refl; link_1 = refl; link_2 = refl; nothing_in_trouble = bench_good };
  is = refl;
}
