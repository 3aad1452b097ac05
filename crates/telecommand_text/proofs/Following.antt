-- Texts written one behind another.
use Rattle.std.proofs.Common.{◌≡◌, ℕ, ◌+◌, ◌<◌, List, [], ◌++◌, length, get_or, take, sym, ap, ◌∙◌}
use Rattle.std.specs.declared.fmt.Formatter.{Formatter}
use Rattle.std.specs.Fmt.{HasWritten}
use Rattle.std.specs.List.{flat_map}
use Rattle.std.proofs.lemmas.List.{take_more, flat_map_more}
use Rattle.std.proofs.Output.{has_written_append, has_written_of_eq}

-- the texts of the first elements, with the next one's behind them
pub text_more : {X : Type 0} (text : X → List ℕ) (xs : List X) (i : ℕ) (d : X) → i < length xs
    → flat_map text (take i xs) ++ text (get_or xs i d) ≡ flat_map text (take (i + 1) xs)
text_more text xs i d more = flat_map_more text [] (take i xs) (get_or xs i d) ∙ ap (flat_map text) (sym (take_more xs i d more))

pub written_more : {X W : Type 0} (took : W → List ℕ → W → Type 0) (f g h : Formatter W) (text : X → List ℕ) (xs : List X) (i : ℕ) (d : X) → i < length xs
    → HasWritten took f (flat_map text (take i xs)) g → HasWritten took g (text (get_or xs i d)) h → HasWritten took f (flat_map text (take (i + 1) xs)) h
written_more took f g h text xs i d more so next =
    has_written_of_eq _ _ _ _ _ (text_more text xs i d more) (has_written_append _ _ _ _ _ _ so next)
