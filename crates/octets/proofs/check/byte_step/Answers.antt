use Rattle.std.proofs.Common.{◌≡◌, ◌*◌, ◌%◌, refl, ap, ◌∙◌, add-one, arith}
use Rattle.octets.specs.Check.{bit_step, bit_steps}
use Rattle.octets.proofs.check.byte_step.Goals as goal

pub loop-init : goal.loop-init
unfolding bit_steps
loop-init c = refl

pub loop-preserved : goal.loop-preserved
unfolding bit_steps
loop-preserved c = rw add-one (c.bit_step-next.ensures.next_word ∙ ap bit_step c.loop.invariant)

pub returns : goal.returns
returns c =
    let eight : c.loop.counter ≡ 8 = omega arith in
    let high : c.from.result * 256 % 65536 ≡ c.args.byte * 256 = omega arith in
    record { next_word = cc }
