use Rattle.std.proofs.Common.{◌≡◌, ℕ, false, eqb, List, [], ◌∷◌, length, Some, fold, refl, ◌∙◌, rules, tests}
use Rattle.std.proofs.lemmas.Bool.{false≢true}
use Rattle.std.proofs.lemmas.Iterator.{YieldsList-from_slice}
use Rattle.std.proofs.lemmas.Iterator.Consumers.{fold_from_yields_List}
use Rattle.bench_text.specs.Numbers.{digit_step, number_of}
use Rattle.bench_text.proofs.numbers.number.Goals as goal

-- the number of a word with at least one byte
some_digits : (word : List ℕ) → false ≡ eqb (length word) 0 → fold digit_step (Some 0) word ≡ number_of word
some_digits [] some = absurd (false≢true some)
some_digits (byte ∷ more) some = refl

pub returns : goal.returns
returns c =
    let folded =
    fold_from_yields_List _ digit_step (Some 0) c.fold.result c.fold.ensures.ran (YieldsList-from_slice c.args.word.now cc)
    (λ a x b q k. search (rules, tests)) in
    record { decimal = folded ∙ some_digits _ c.if-is_empty.ensures }
