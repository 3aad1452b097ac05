use Rattle.std.proofs.Common.{◌≡◌, ◌++◌, map, take, drop, replicate}
use Rattle.machine.specs.declared.state.Action.TheVariants.{Wait}
use Rattle.machine.specs.Procedures.{action_of, action_in}
use Rattle.procedures.proofs.steps.Limits.actions.Given as goal

abbrev pub invariant-loop-place : goal.invariant-loop-place
invariant-loop-place l =
    l.actions ≡ map (λ step. action_in (action_of l.self.width l.self.nop step)) (take l.place l.steps) ++ drop l.place (replicate 28 (Wait 0))
