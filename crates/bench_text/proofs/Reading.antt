-- What is known of a line that was read, by the input's known bytes.
use Rattle.std.proofs.Common.{◌≡◌, ℕ, ◌<◌, List, [], ◌∷◌, ◌++◌, length, Some, None, Option, IfSome, ap, ◌∙◌, subst, arith}
use Rattle.std.specs.Io.BufRead.{take_through}
use Rattle.bench_text.specs.declared.line.Line.{Line}
use Rattle.bench_text.specs.Lines.{said_by, read_line}
use Rattle.bench_text.specs.Words.{line_in}

some_left : (xs : List ℕ) → 0 < length (take_through 10 xs) → 0 < length xs
some_left [] some = some
some_left (x ∷ xs) some = omega arith

pub said_of_known : (known : Option (List ℕ)) (held read : List ℕ) (line : Line) → held ≡ [] → 0 < length read → said_by line ≡ read_line (line_in read)
    → IfSome known (λ xs. read ≡ held ++ take_through 10 xs)
    → IfSome known (λ xs. (0 < length xs) × (said_by line ≡ read_line (line_in (take_through 10 xs))))
said_of_known None held read line none some said added = tt
said_of_known (Some xs) held read line none some said added =
    let is : read ≡ take_through 10 xs = added ∙ ap (λ l. l ++ take_through 10 xs) none in
    (some_left xs (subst (λ (l : List ℕ). 0 < length l) is some), said ∙ ap (λ l. read_line (line_in l)) is)
