use Rattle.std.proofs.Common.{◌≡◌, ◌+◌, ◌*◌, List, map, sym, ap, ◌∙◌, subst, arith, rules}
use Rattle.std.proofs.lemmas.List.{take_all}
use Rattle.console.specs.Consoles.{Answer}
use Rattle.console.specs.Consoles.{answer_of}
use Rattle.sheets.specs.declared.tally.Tally.{Tally}
use Rattle.sheets.specs.Tallies.{tally_of, Tallied}
use Rattle.sheets.proofs.Tallying.{tally_more, within_both, within_more, tallied}
use Rattle.sheets.proofs.tallies.tally.Goals as goal

pub both-sum-requires : goal.both-sum-requires
both-sum-requires c = (within_more _ _ _ (omega arith) c.loop-answer.invariant.1, within_more _ _ _ (omega arith) c.answer_tally.ensures.in_32_bits)

pub loop-answer-init : goal.loop-answer-init
loop-answer-init c = (search rules, record { accepted = omega arith; done = omega arith; failed = omega arith; sent = omega arith; raised = omega arith; collected = omega arith; lost = omega arith })

pub loop-answer-preserved : goal.loop-answer-preserved
loop-answer-preserved c = (
  tally_more c.args.answers.now c.loop-answer.answer-index _ _ _ _ c.loop-answer-test.true c.loop-answer.invariant.0 c.answer_tally.ensures.of_one_answer c.both-sum.ensures.each_sum,
  within_more _ (c.loop-answer.answer-index * 4294967295 + 4294967295) _ (omega arith) (within_both _ _ _ _ _ c.both-sum.ensures.each_sum c.loop-answer.invariant.1 c.answer_tally.ensures.in_32_bits),
)

pub returns : goal.returns
returns c =
    let is : c.loop-answer.sum ≡ tally_of (map answer_of c.args.answers.now) =
    c.loop-answer.invariant.0 ∙ ap (λ (all : List Answer). tally_of (map answer_of all)) (take_all c.loop-answer.answer-index c.args.answers.now c.loop-answer-test.false) in
    record {
      of_the_answers = is;
      of_their_history = λ h of_them. subst (λ (t : Tally). Tallied t h) (sym (is ∙ ap tally_of (sym of_them))) (tallied h);
      bounded = within_more _ _ _ (omega arith) c.loop-answer.invariant.1;
    }
