-- How many steps or settings a telecommand has at most, as every packet that can be read keeps to.
use Rattle.std.specs.Prelude.{ℕ, ◌≤◌, List, Ok, Err, Result}
use Rattle.records.specs.declared.refusal.Refusal.{Refusal}
use Rattle.telecommands.specs.declared.packet.Packet.{Packet}
use Rattle.telecommands.specs.declared.packet.Telecommand.{Telecommand}
use Rattle.telecommands.specs.declared.packet.Telecommand.TheVariants.{Test, Perform, Load, Delete, Start, Stop, Set}
use Rattle.telecommands.specs.Packets.{read_packet}

-- at most 28 steps and 38 settings
abbrev pub Few : Telecommand → Type 0
Few Test = Unit {0}
Few (Perform function activity sid value) = Unit {0}
Few (Load id nop steps) = steps.count ≤ 28
Few (Delete id) = Unit {0}
Few (Start id settings) = settings.count ≤ 38
Few (Stop id) = Unit {0}
Few (Set id settings) = settings.count ≤ 38

-- a packet that is refused has none
abbrev pub FewIn : Result Packet Refusal → Type 0
FewIn (Ok packet) = Few packet.telecommand
FewIn (Err refusal) = Unit {0}

-- Whatever the bytes, a packet that can be read has few steps and few settings.
abbrev pub PacketsAreSmall : Type 0
PacketsAreSmall = (bytes : List ℕ) → FewIn (read_packet bytes)
