-- What became of received bytes, in words.
use Rattle.std.specs.Prelude.{ℕ, List, codes}
use Rattle.links.specs.declared.answers.Receipt.{Receipt}
use Rattle.links.specs.declared.answers.Receipt.TheVariants.{Kept, Ignored}

abbrev pub receipt_word : Receipt → List ℕ
receipt_word Kept = codes "kept"
receipt_word Ignored = codes "ignored"
