-- The types of packets by service and subtype, and the shape that each asks of its data.
use Rattle.std.specs.Prelude.{ℕ, ◌+◌, ◌-◌, ◌*◌, ◌%◌, Bool, cond, ◌&&◌, List, length, Some, None, Option, ◌==◌, nat_le}
use Rattle.octets.specs.Words.{word_at}
use Rattle.telecommands.specs.declared.packet_type.PacketType.{PacketType}
use Rattle.telecommands.specs.declared.packet_type.PacketType.TheVariants.{ConnectionTest, FunctionActivity, ProcedureLoad, ProcedureDelete, ProcedureStart, ProcedureStop, ProcedureSettings}

abbrev pub type_of : ℕ → ℕ → Option PacketType
type_of service subtype =
    cond (service == 17 && subtype == 1) (Some ConnectionTest)
    (cond (service == 8 && subtype == 4) (Some FunctionActivity)
    (cond (service == 18 && subtype == 1) (Some ProcedureLoad)
    (cond (service == 18 && subtype == 2) (Some ProcedureDelete)
    (cond (service == 18 && subtype == 3) (Some ProcedureStart)
    (cond (service == 18 && subtype == 4) (Some ProcedureStop)
    (cond (service == 18 && subtype == 7) (Some ProcedureSettings)
    None))))))

-- how many data bytes a packet has, between the ten bytes of its headers and its check word
abbrev pub data_bytes : List ℕ → ℕ
data_bytes p = length p - 12

-- a load has 1 to 28 steps of 8 bytes after its first 4; settings are as many times 6 bytes as the word at 12 says
abbrev pub data_fits : PacketType → List ℕ → Bool
data_fits ConnectionTest p = data_bytes p == 0
data_fits FunctionActivity p = data_bytes p == 8
data_fits ProcedureLoad p = nat_le 12 (data_bytes p) && nat_le (data_bytes p) 228 && data_bytes p % 8 == 4
data_fits ProcedureDelete p = data_bytes p == 2
data_fits ProcedureStart p = data_bytes p == 4 + 6 * word_at p 12
data_fits ProcedureStop p = data_bytes p == 2
data_fits ProcedureSettings p = data_bytes p == 4 + 6 * word_at p 12
