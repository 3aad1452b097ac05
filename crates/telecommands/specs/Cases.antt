-- Cases at the bounds of a packet's length, for any bytes.
use Rattle.std.specs.Prelude.{◌≡◌, ℕ, true, false, List, length, Err, Result, slice_index_or}
use Rattle.octets.specs.Words.{word_at}
use Rattle.records.specs.declared.refusal.Refusal.{Refusal}
use Rattle.records.specs.declared.refusal.Refusal.TheVariants.{Short, Long, Length}
use Rattle.telecommands.specs.declared.packet.Packet.{Packet}
use Rattle.telecommands.specs.Judgements.{checks}

pub record LengthCases (p : List ℕ) (r : Result Packet Refusal) : Type 0 where
  pub eleven_bytes : length p ≡ 11 → r ≡ Err (Short 11)
  pub bytes_249 : length p ≡ 249 → r ≡ Err (Long 249)
  pub twelve_that_say_eleven : length p ≡ 12 → word_at p 4 ≡ 4 → r ≡ Err (Length 4)
  pub twelve_that_say_twelve : length p ≡ 12 → word_at p 4 ≡ 5 → slice_index_or (checks p) 2 false ≡ true
