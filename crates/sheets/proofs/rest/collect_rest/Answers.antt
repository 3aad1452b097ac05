use Rattle.std.proofs.Common.{vec_items}
use Rattle.console.specs.Consoles.{answer_of, machine_of}
use Rattle.sheets.proofs.Emptying.{handed_out, one_more, all_out}
use Rattle.sheets.proofs.rest.collect_rest.Goals as goal

pub loop-answer-preserved : goal.loop-answer-preserved
loop-answer-preserved g c =
    one_more (machine_of g.A.Link g.B.Link g.C.Link g.W.Watch c.args.console.now) (machine_of g.A.Link g.B.Link g.C.Link g.W.Watch c.loop-answer.console)
    (vec_items c.loop-answer.rest) c.work-answer.result _ c.loop-answer.invariant c.work-answer.ensures.as_the_machine_does
    (vec_items c.push.new.self) c.in_ok-push.ensures.items c.if-hands_nothing.ensures.of_a_collect

pub loop-answer-smaller : goal.loop-answer-smaller
loop-answer-smaller g c =
    (handed_out (machine_of g.A.Link g.B.Link g.C.Link g.W.Watch c.loop-answer.console) (answer_of c.work-answer.result) _
    c.work-answer.ensures.as_the_machine_does c.if-hands_nothing.ensures.of_a_collect).fewer

pub returns-then-hands_nothing : goal.returns-then-hands_nothing
returns-then-hands_nothing g c =
    let out = all_out (machine_of g.A.Link g.B.Link g.C.Link g.W.Watch c.args.console.now) (machine_of g.A.Link g.B.Link g.C.Link g.W.Watch c.loop-answer.console)
    (vec_items c.loop-answer.rest) c.work-answer.result _ c.loop-answer.invariant c.work-answer.ensures.as_the_machine_does c.if-hands_nothing.ensures.of_a_collect in
    record { all_that_waits = out.0; all_else_as_it_was = out.1 }
