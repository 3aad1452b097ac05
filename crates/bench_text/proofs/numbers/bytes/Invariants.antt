use Rattle.std.proofs.Common.{length, vec_items}
use Rattle.bench_text.proofs.Runs.{ReadTo}
use Rattle.bench_text.proofs.numbers.bytes.Given as goal

abbrev pub invariant-pairs : goal.invariant-pairs
invariant-pairs l = ReadTo l.text l.rest (vec_items l.run)

abbrev pub decreases-pairs : goal.decreases-pairs
decreases-pairs l = length l.rest
