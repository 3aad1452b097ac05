use Rattle.std.proofs.Common.{vec_items}
use Rattle.console.specs.Consoles.{machine_of}
use Rattle.sheets.proofs.Emptying.{Emptying, how_many}
use Rattle.sheets.proofs.rest.collect_rest.Given as goal

abbrev pub invariant-loop-answer : goal.invariant-loop-answer
invariant-loop-answer g l =
    Emptying (machine_of g.A.Link g.B.Link g.C.Link g.W.Watch l.initial.console) (vec_items l.rest) (machine_of g.A.Link g.B.Link g.C.Link g.W.Watch l.console)

abbrev pub decreases-loop-answer : goal.decreases-loop-answer
decreases-loop-answer g l = how_many (machine_of g.A.Link g.B.Link g.C.Link g.W.Watch l.console)
