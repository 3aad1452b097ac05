-- Decimal numbers, and runs of bytes in hexadecimal.
use Rattle.std.specs.Prelude.{ℕ, ◌+◌, ◌-◌, ◌*◌, cond, ◌&&◌, List, [], ◌∷◌, Some, None, vec_items, fold, Option, Vec, nat_le}
use Rattle.bench_text.specs.Words.{is_blank}

-- one more decimal digit, as long as the number is at most the largest long
abbrev pub digit_step : Option ℕ → ℕ → Option ℕ
digit_step None byte = None
digit_step (Some value) byte =
    cond (nat_le 48 byte && nat_le byte 57) (cond (nat_le (value * 10 + (byte - 48)) 4294967295) (Some (value * 10 + (byte - 48))) None) None

-- a word of decimal digits, at least one
abbrev pub number_of : List ℕ → Option ℕ
number_of [] = None
number_of (byte ∷ more) = fold digit_step (Some 0) (byte ∷ more)

abbrev pub hex_digit : ℕ → Option ℕ
hex_digit byte =
    cond (nat_le 48 byte && nat_le byte 57) (Some (byte - 48))
    (cond (nat_le 65 byte && nat_le byte 70) (Some (byte - 65 + 10))
    (cond (nat_le 97 byte && nat_le byte 102) (Some (byte - 97 + 10)) None))

abbrev pub hex_pair : Option ℕ → Option ℕ → Option ℕ
hex_pair None low = None
hex_pair (Some high) None = None
hex_pair (Some high) (Some low) = Some (high * 16 + low)

-- a byte before a run of bytes, where both are there
abbrev pub before : Option ℕ → Option (List ℕ) → Option (List ℕ)
before None run = None
before (Some byte) None = None
before (Some byte) (Some run) = Some (byte ∷ run)

-- blanks, and pairs of digits that stand together
unfoldable pub bytes_of : List ℕ → Option (List ℕ)
bytes_of [] = Some []
bytes_of (high ∷ []) = cond (is_blank high) (Some []) None
bytes_of (high ∷ low ∷ text) = cond (is_blank high) (bytes_of (low ∷ text)) (before (hex_pair (hex_digit high) (hex_digit low)) (bytes_of text))

-- the bytes that a run holds
abbrev pub run_of : {Z : Type 0} → Option (Vec ℕ Z) → Option (List ℕ)
run_of None = None
run_of (Some run) = Some (vec_items run)
