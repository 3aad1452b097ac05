use Rattle.std.proofs.Common.{◌≡◌}
use Rattle.octets.specs.Check.{bit_steps}
use Rattle.octets.proofs.check.byte_step.Given as goal

abbrev pub invariant-loop : goal.invariant-loop
invariant-loop l = l.next ≡ bit_steps l.counter l.initial.next
