use Rattle.std.proofs.Common.{refl}
use Rattle.telecommand_text.specs.Words.{next_step_text}
use Rattle.telecommand_text.proofs.Following.{written_more}
use Rattle.telecommand_text.proofs.words.write_steps.Goals as goal

pub loop-step-preserved : goal.loop-step-preserved
loop-step-preserved g c =
    λ plain.
    let so = c.loop-step.invariant plain in
    written_more _ _ _ _ next_step_text c.in-Some.others.now c.loop-step.step-index _ c.loop-step-test.true so (c.in_ok-write_next_step.ensures.semicolon_first so.plain refl)
