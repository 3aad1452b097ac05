-- A place that was held to the largest index reads as the place itself: both lie past the end.
use Rattle.std.proofs.Common.{◌≡◌, ℕ, ◌+◌, ◌-◌, ◌^◌, ◌<◌, ◌≤◌, min, List, length, get_or, sym, ap, ◌∙◌, ⊎_elim, arith}
use Rattle.std.proofs.lemmas.List.{get_or_past}
use Rattle.std.proofs.lemmas.Bool.{cases_lt}

pub largest_place : (xs : List ℕ) (i k : ℕ) → length xs < 2 ^ 64 → get_or xs (min i (2 ^ 64 - 1) + k) 0 ≡ get_or xs (i + k) 0
largest_place xs i k few =
    ⊎_elim
    (λ (low : i < 2 ^ 64). let same : min i (2 ^ 64 - 1) ≡ i = omega arith in ap (λ n. get_or xs (n + k) 0) same)
    (λ (high : 2 ^ 64 ≤ i). get_or_past xs (min i (2 ^ 64 - 1) + k) 0 (omega arith) ∙ sym (get_or_past xs (i + k) 0 (omega arith)))
    (cases_lt i (2 ^ 64))
