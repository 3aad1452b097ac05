use Rattle.watches.proofs.InTurn.{Shown}
use Rattle.watches.proofs.examples.see_in_turn.Given as goal

abbrev pub invariant-loop-place : goal.invariant-loop-place
invariant-loop-place g l =
    Shown g.W.Watch.kind l.function (g.W.Watch.state l.initial.watch) (g.W.Watch.state l.watch) l.value-items l.answers l.place
