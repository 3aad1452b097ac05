-- The answer to a packet: what it says, or the first refusal that applies.
use Rattle.std.specs.Prelude.{ℕ, ◌+◌, ◌-◌, ◌/◌, ◌%◌, min, cond, List, length, Some, None, Ok, Err, Option, Result, ◌==◌, nat_lt, slice_index}
use Rattle.octets.specs.Words.{word_at, long_at}
use Rattle.records.specs.declared.refusal.Refusal.{Refusal}
use Rattle.records.specs.declared.refusal.Refusal.TheVariants.{Short, Long, Length, Header, Crc, UnknownType, Shape}
use Rattle.telecommands.specs.declared.packet.Packet.{Packet}
use Rattle.telecommands.specs.declared.packet.Telecommand.{Telecommand}
use Rattle.telecommands.specs.declared.packet.Telecommand.TheVariants.{Test, Perform, Load, Delete, Start, Stop, Set}
use Rattle.telecommands.specs.declared.packet_type.PacketType.{PacketType}
use Rattle.telecommands.specs.declared.packet_type.PacketType.TheVariants.{ConnectionTest, FunctionActivity, ProcedureLoad, ProcedureDelete, ProcedureStart, ProcedureStop, ProcedureSettings}
use Rattle.telecommands.specs.Fields.{Steps, Settings, step_at, setting_at, blank_step, blank_setting, listed}
use Rattle.telecommands.specs.Headers.{wrong_place, computed_word, stated_word}
use Rattle.telecommands.specs.Types.{type_of, data_bytes, data_fits}

-- how many steps a load has
abbrev pub step_count : List ℕ → ℕ
step_count p = (data_bytes p - 4) / 8

-- the steps stand from byte 14 on; the other places are blank
abbrev pub steps_in : List ℕ → Steps
steps_in p = listed (step_at p) blank_step 8 14 28 (step_count p)

-- the settings stand from byte 14 on, as many as the word at 12 says; the other places are blank
abbrev pub settings_in : List ℕ → Settings
settings_in p = listed (setting_at p) blank_setting 6 14 38 (word_at p 12)

abbrev pub telecommand_in : PacketType → List ℕ → Telecommand
telecommand_in ConnectionTest p = Test
telecommand_in FunctionActivity p = Perform (slice_index p 10) (slice_index p 11) (word_at p 12) (long_at p 14)
telecommand_in ProcedureLoad p = Load (word_at p 10) (word_at p 12) (steps_in p)
telecommand_in ProcedureDelete p = Delete (word_at p 10)
telecommand_in ProcedureStart p = Start (word_at p 10) (settings_in p)
telecommand_in ProcedureStop p = Stop (word_at p 10)
telecommand_in ProcedureSettings p = Set (word_at p 10) (settings_in p)

-- the counter is the low 14 bits of the word at 2
abbrev pub packet_in : PacketType → List ℕ → Packet
packet_in t p = record { counter = word_at p 2 % 0x4000; telecommand = telecommand_in t p }

-- the last two checks: a known type, and data that fits it
abbrev pub typed : Option PacketType → List ℕ → Result Packet Refusal
typed None p = Err (UnknownType (slice_index p 7) (slice_index p 8))
typed (Some t) p = cond (data_fits t p) (Ok (packet_in t p)) (Err (Shape (data_bytes p)))

-- the checks from the header on
abbrev pub headed : Option ℕ → List ℕ → Result Packet Refusal
headed (Some place) p = Err (Header place)
headed None p =
    cond (computed_word p == stated_word p) (typed (type_of (slice_index p 7) (slice_index p 8)) p) (Err (Crc (computed_word p)))

abbrev pub read_packet : List ℕ → Result Packet Refusal
read_packet p =
    cond (nat_lt (length p) 12) (Err (Short (length p)))
    (cond (nat_lt 248 (length p)) (Err (Long (min (length p) 4294967295)))
    (cond (word_at p 4 + 7 == length p) (headed (wrong_place p) p)
    (Err (Length (word_at p 4)))))
