-- Words (16 bits) and longs (32 bits) in a list of bytes, high byte first; a byte past the end is 0.
use Rattle.std.specs.Prelude.{ℕ, ◌+◌, ◌*◌, List, slice_index}

abbrev pub word_at : List ℕ → ℕ → ℕ
word_at bytes at = slice_index bytes at * 256 + slice_index bytes (at + 1)

abbrev pub long_at : List ℕ → ℕ → ℕ
long_at bytes at = word_at bytes at * 65536 + word_at bytes (at + 2)
