use Rattle.std.proofs.Common.{◌≡◌, ℕ, List, ◌++◌, map, length, take, drop, replicate, ap, ◌∙◌, arith, rules}
use Rattle.std.proofs.lemmas.List.{length-replicate, take_all}
use Rattle.machine.specs.declared.state.Action.{Action}
use Rattle.machine.specs.declared.state.Action.TheVariants.{Wait}
use Rattle.records.specs.declared.step.Step.{Step}
use Rattle.machine.specs.Procedures.{action_of, action_in}
use Rattle.procedures.proofs.Turns.{action_of_step, actions_more}
use Rattle.procedures.proofs.steps.Limits.actions.Goals as goal

pub loop-place-preserved : goal.loop-place-preserved
loop-place-preserved c =
    let w = c.args.self.now.width in
    let n = c.args.self.now.nop in
    let steps = c.args.steps.now in
    let blanks : List Action = replicate 28 (Wait 0) in
    let long : length blanks ≡ 28 = length-replicate 28 (Wait 0) in
    let is = action_of_step w n steps c.loop-place.place c.loop-place-test.true in
    let more = actions_more (λ (s : Step). action_in (action_of w n s)) steps blanks c.loop-place.place
    c.action_at.result c.loop-place-test.true (omega (arith, long, c.requires)) (is ∙ search rules) in
    cc

pub returns : goal.returns
returns c =
    let w = c.args.self.now.width in
    let n = c.args.self.now.nop in
    let steps = c.args.steps.now in
    let f = λ (s : Step). action_in (action_of w n s) in
    let blanks : List Action = replicate 28 (Wait 0) in
    let end : c.loop-place.place ≡ length steps = omega (arith, c.loop-place-test.false, c.loop-place.auto.place-end) in
    let all : take c.loop-place.place steps ≡ steps = take_all c.loop-place.place steps (omega arith) in
    record {
      one_for_each_step = c.loop-place.invariant ∙ ap (λ (xs : List Step). map f xs ++ drop c.loop-place.place blanks) all
          ∙ ap (λ (k : ℕ). map f steps ++ drop k blanks) end;
    }
