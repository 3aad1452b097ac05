-- Number, name and parameter of each refusal.
use Rattle.std.specs.Prelude.{ℕ, ◌+◌, ◌*◌, List, codes}
use Rattle.records.specs.declared.refusal.Refusal.{Refusal}
use Rattle.records.specs.declared.refusal.Refusal.TheVariants.{Short, Long, Length, Header, Crc, UnknownType, Shape, Worn, Full, NoLink, NobodyWaits, NoFunction, FunctionOff}

abbrev pub refusal_number : Refusal → ℕ
refusal_number (Short length) = 1
refusal_number (Long length) = 2
refusal_number (Length word) = 3
refusal_number (Header place) = 4
refusal_number (Crc computed) = 5
refusal_number (UnknownType service subtype) = 6
refusal_number (Shape bytes) = 7
refusal_number Worn = 8
refusal_number (Full free) = 9
refusal_number (NoLink link) = 10
refusal_number (NobodyWaits link) = 11
refusal_number (NoFunction function) = 12
refusal_number (FunctionOff function) = 13

abbrev pub refusal_name : Refusal → List ℕ
refusal_name (Short length) = codes "SHORT"
refusal_name (Long length) = codes "LONG"
refusal_name (Length word) = codes "LENGTH"
refusal_name (Header place) = codes "HEADER"
refusal_name (Crc computed) = codes "CRC"
refusal_name (UnknownType service subtype) = codes "TYPE"
refusal_name (Shape bytes) = codes "SHAPE"
refusal_name Worn = codes "WORN"
refusal_name (Full free) = codes "FULL"
refusal_name (NoLink link) = codes "NO LINK"
refusal_name (NobodyWaits link) = codes "NOBODY WAITS"
refusal_name (NoFunction function) = codes "NO FUNCTION"
refusal_name (FunctionOff function) = codes "FUNCTION OFF"

-- a type counts as 256 times its service, and its subtype
abbrev pub refusal_parameter : Refusal → ℕ
refusal_parameter (Short length) = length
refusal_parameter (Long length) = length
refusal_parameter (Length word) = word
refusal_parameter (Header place) = place
refusal_parameter (Crc computed) = computed
refusal_parameter (UnknownType service subtype) = service * 256 + subtype
refusal_parameter (Shape bytes) = bytes
refusal_parameter Worn = 1000000
refusal_parameter (Full free) = free
refusal_parameter (NoLink link) = link
refusal_parameter (NobodyWaits link) = link
refusal_parameter (NoFunction function) = function
refusal_parameter (FunctionOff function) = function
