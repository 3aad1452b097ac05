use Rattle.std.proofs.Common.{Bool, Option, refl, arith}
use Rattle.std.proofs.lemmas.List.{length-replicate}
use Rattle.watches.proofs.InTurn.{one_more, all_answers, last_state}
use Rattle.watches.proofs.examples.see_in_turn.Goals as goal

pub loop-place-init : goal.loop-place-init
loop-place-init g c = record { as_long = omega (arith, length-replicate {A = Option Bool}); answers_so_far = refl; state_so_far = refl }

pub loop-place-preserved : goal.loop-place-preserved
loop-place-preserved g c =
    let more = one_more g.W.Watch.kind c.args.function c.loop-place.invariant (omega arith) in
    rw (c.see.ensures.answer, c.see.ensures.after) more

pub returns-clause-answers : goal.returns-clause-answers
returns-clause-answers g c = all_answers g.W.Watch.kind c.args.function c.loop-place.invariant (omega arith)

pub returns-clause-after : goal.returns-clause-after
returns-clause-after g c = last_state g.W.Watch.kind c.args.function c.loop-place.invariant (omega arith)
