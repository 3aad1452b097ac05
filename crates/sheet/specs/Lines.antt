-- A line of the telecommand sheet.
use Rattle.std.specs.Prelude.{ℕ, List, [], ◌++◌, Some, None, Ok, Err, codes, decimal, Option, Result}
use Rattle.records.specs.declared.refusal.Refusal.{Refusal}
use Rattle.records.specs.declared.report.Stage.{Stage}
use Rattle.records.specs.Texts.{refused_text, stage_text}
use Rattle.sheets.specs.declared.row.Accepted.{Accepted}
use Rattle.telecommand_text.specs.Words.{telecommand_text}
use Rattle.telecommands.specs.declared.packet.Packet.{Packet}
use Rattle.sheet.specs.declared.sheet.SheetLine.{SheetLine}

-- what the packet of a submit says, where it can be read
abbrev pub packet_text : Option Packet → List ℕ
packet_text None = []
packet_text (Some packet) = codes ": " ++ telecommand_text packet.telecommand

-- ticked, and with its final report, where that has been collected
abbrev pub accepted_text : ℕ → Option Stage → List ℕ → List ℕ
accepted_text number None packet = codes "[ ] accepted " ++ (decimal number ++ packet)
accepted_text number (Some stage) packet = codes "[x] accepted " ++ (decimal number ++ (packet ++ (codes " -> " ++ stage_text stage)))

abbrev pub row_text : Result Accepted Refusal → List ℕ → List ℕ
row_text (Ok row) packet = accepted_text row.number row.report packet
row_text (Err refusal) packet = refused_text refusal ++ packet

abbrev pub line_text : SheetLine → List ℕ
line_text line = row_text line.row (packet_text line.packet)
