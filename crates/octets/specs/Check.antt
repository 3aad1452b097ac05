-- The check word of a list of bytes: generator 0x1021, start 0xFFFF, high bit first, over each byte in turn.
use Rattle.std.specs.Prelude.{◌≡◌, ℕ, zero, suc, ◌*◌, ◌/◌, ◌%◌, ◌<◌, cond, List, [], ◌∷◌, ◌++◌, length, fold, bit_xor, nat_le, slice_index, slice_set}

-- one bit: shifted left, and the generator added where the top bit was set
abbrev pub bit_step : ℕ → ℕ
bit_step word = cond (nat_le 0x8000 word) (bit_xor (word * 2 % 0x10000) 0x1021) (word * 2 % 0x10000)

-- so many bits
unfoldable pub bit_steps : ℕ → ℕ → ℕ
bit_steps zero word = word
bit_steps (suc k) word = bit_step (bit_steps k word)

-- one byte, added at the high end
abbrev pub byte_step : ℕ → ℕ → ℕ
byte_step word byte = bit_steps 8 (bit_xor word (byte * 256))

abbrev pub check_word : List ℕ → ℕ
check_word bytes = fold byte_step 0xFFFF bytes

-- Bytes followed by their own check word have check word 0.
abbrev pub OwnWordLeavesZero : List ℕ → ℕ → Type 0
OwnWordLeavesZero bytes word = check_word (bytes ++ word / 256 ∷ word % 256 ∷ []) ≡ 0

-- A wrong byte, in any of its bits, changes the check word: with the same word it is the byte that stood there.
abbrev pub WrongByteShows : List ℕ → Type 0
WrongByteShows bytes =
    (place byte : ℕ) → place < length bytes → byte < 256 → check_word (slice_set bytes place byte) ≡ check_word bytes
    → byte ≡ slice_index bytes place
