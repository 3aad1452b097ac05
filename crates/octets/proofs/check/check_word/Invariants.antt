use Rattle.std.proofs.Common.{◌≡◌, take}
use Rattle.octets.specs.Check.{check_word}
use Rattle.octets.proofs.check.check_word.Given as goal

abbrev pub invariant-loop-byte : goal.invariant-loop-byte
invariant-loop-byte l = l.word ≡ check_word (take l.byte-index l.bytes)
