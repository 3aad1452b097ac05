use Rattle.std.proofs.Common.{◌≡◌, ◌*◌, map, take}
use Rattle.console.specs.Consoles.{answer_of}
use Rattle.sheets.specs.Tallies.{tally_of, Within}
use Rattle.sheets.proofs.tallies.tally.Given as goal

abbrev pub invariant-loop-answer : goal.invariant-loop-answer
invariant-loop-answer l = (l.sum ≡ tally_of (map answer_of (take l.answer-index l.answers))) × Within l.sum (l.answer-index * 4294967295)
