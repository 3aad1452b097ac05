-- Places filled one after the other, from the first on.
use Rattle.std.proofs.Common.{◌≡◌, ℕ, ◌+◌, ◌<◌, List, [], ◌∷◌, ◌++◌, map, length, drop, set, sym, ap, ◌∙◌, append_assoc, zero-add}
use Rattle.std.specs.List.{range_with_len}
use Rattle.std.proofs.lemmas.List.FromFn.{length-map-range_with_len, map-range_with_len_more}
use Rattle.std.proofs.lemmas.List.{set_at, drop_more}

pub filled_more : {A : Type 0} (f : ℕ → A) (places : List A) (k : ℕ) → k < length places
    → set (map f (range_with_len 0 k) ++ drop k places) k (f k) ≡ map f (range_with_len 0 (k + 1)) ++ drop (k + 1) places
filled_more f places k h =
    let front = map f (range_with_len 0 k) in
    let rest = drop (k + 1) places in
    ap (λ l. set (front ++ l) k (f k)) (drop_more places k (f k) h)
    ∙ set_at front (lib.ListN.get_or places k (f k)) rest (f k) k (length-map-range_with_len f 0 k)
    ∙ sym (append_assoc front (f k ∷ []) rest)
    ∙ ap (λ l. l ++ rest) (sym (map-range_with_len_more f 0 k k (zero-add k)))
