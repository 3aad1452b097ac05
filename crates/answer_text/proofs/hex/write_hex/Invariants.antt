use Rattle.std.proofs.Common.{◌≡◌, ◌++◌, take, string_bytes}
use Rattle.answer_text.specs.Hex.{hex_of}
use Rattle.answer_text.proofs.hex.write_hex.Given as goal

abbrev pub invariant-loop-byte : goal.invariant-loop-byte
invariant-loop-byte l = string_bytes l.line ≡ string_bytes l.initial.line ++ hex_of (take l.byte-index l.bytes)
