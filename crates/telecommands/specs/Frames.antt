-- What each check refuses by itself.
use Rattle.std.specs.Prelude.{ℕ, ◌+◌, min, cond, List, length, Some, None, Ok, Err, Option, Result, ◌==◌, nat_lt, slice_index}
use Rattle.octets.specs.Words.{word_at}
use Rattle.records.specs.declared.refusal.Refusal.{Refusal}
use Rattle.records.specs.declared.refusal.Refusal.TheVariants.{Short, Long, Length, Crc, UnknownType, Shape}
use Rattle.telecommands.specs.declared.packet_type.PacketType.{PacketType}
use Rattle.telecommands.specs.Headers.{computed_word, stated_word}
use Rattle.telecommands.specs.Types.{type_of, data_bytes, data_fits}

abbrev pub length_refusal : List ℕ → Option Refusal
length_refusal p =
    cond (nat_lt (length p) 12) (Some (Short (length p)))
    (cond (nat_lt 248 (length p)) (Some (Long (min (length p) 4294967295)))
    (cond (word_at p 4 + 7 == length p) None (Some (Length (word_at p 4)))))

abbrev pub check_word_refusal : List ℕ → Option Refusal
check_word_refusal p = cond (computed_word p == stated_word p) None (Some (Crc (computed_word p)))

-- the type that was found, or the service and subtype that no type has
abbrev pub named_type : Option PacketType → ℕ → ℕ → Result PacketType Refusal
named_type None service subtype = Err (UnknownType service subtype)
named_type (Some t) service subtype = Ok t

-- the type of a packet, by its bytes 7 and 8
abbrev pub known : List ℕ → Result PacketType Refusal
known p = named_type (type_of (slice_index p 7) (slice_index p 8)) (slice_index p 7) (slice_index p 8)

abbrev pub shape_refusal : PacketType → List ℕ → Option Refusal
shape_refusal t p = cond (data_fits t p) None (Some (Shape (data_bytes p)))
