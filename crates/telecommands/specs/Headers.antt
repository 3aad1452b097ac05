-- The header of a packet, and the check word that closes it.
use Rattle.std.specs.Prelude.{ℕ, ◌-◌, cond, List, length, take, Some, None, Option, ◌==◌, nat_lt, slice_index}
use Rattle.octets.specs.Check.{check_word}
use Rattle.octets.specs.Words.{word_at}

-- the first place where the header is wrong: 0x1C80, then two set bits, at 6 a 1, at 9 a 0
abbrev pub wrong_place : List ℕ → Option ℕ
wrong_place p =
    cond (word_at p 0 == 0x1C80)
    (cond (nat_lt (slice_index p 2) 0xC0) (Some 2)
    (cond (slice_index p 6 == 1)
    (cond (slice_index p 9 == 0) None (Some 9))
    (Some 6)))
    (Some 0)

-- the check word over all bytes but the last two
abbrev pub computed_word : List ℕ → ℕ
computed_word p = check_word (take (length p - 2) p)

-- the check word that stands in the packet
abbrev pub stated_word : List ℕ → ℕ
stated_word p = word_at p (length p - 2)
