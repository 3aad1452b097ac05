-- Lines as they are read from an input whose bytes may be known.
use Rattle.std.specs.Prelude.{◌≡◌, ℕ, ◌<◌, List, length, Option, Result, MatchOption, IfSome, IfOk}
use Rattle.std.specs.Io.BufRead.{take_through, DropsThrough}
use Rattle.std.specs.Io.KnownBytes.{IsAtEnd}
use Rattle.bench_text.specs.declared.line.Line.{Line}
use Rattle.bench_text.specs.Lines.{said_by, read_line}
use Rattle.bench_text.specs.Words.{line_in}

-- from these known bytes to those: nothing comes at their end, else what the first line says, and the line is taken
abbrev pub ComesFrom : {E : Type 0} → Option (List ℕ) → Option (Result Line E) → Option (List ℕ) → Type 0
ComesFrom old r new =
    MatchOption r (IsAtEnd old) (λ item. IfOk item (λ line.
    IfSome old (λ xs. (0 < length xs) × (said_by line ≡ read_line (line_in (take_through 10 xs)))) × DropsThrough old new 10))
