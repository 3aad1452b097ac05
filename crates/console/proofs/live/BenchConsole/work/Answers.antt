use Rattle.std.proofs.Common.{◌∷◌, subst}
use mathlib.Core.Logic.{∥∥₁_map}
use Rattle.machine.specs.Balance.{view_of, Balanced, RunTied}
use Rattle.machine.specs.Runs.{History, Ran}
use Rattle.console.specs.Benches.{bench_of}
use Rattle.console.specs.Consoles.{call_of, answer_of, Steps}
use Rattle.console.specs.Lives.{Bench}
use Rattle.console.proofs.live.BenchConsole.work.Goals as goal

pub invariant_of-self-inside : goal.invariant_of-self-inside
invariant_of-self-inside c = (∥∥₁_map c.self.inside.ran (λ p. (_ ∷ p.0, c.work.ensures.goes_on_balanced.run p.0 p.1)), tt)

pub returns-clause-as_the_machine_does : goal.returns-clause-as_the_machine_does
returns-clause-as_the_machine_does c =
    subst (λ (m : Bench). Steps m (call_of c.args.call.now) (answer_of c.work.result) (bench_of c.work.new.self)) c.self.view_is c.work.ensures.as_the_machine_does

pub returns-clause-balanced : goal.returns-clause-balanced
returns-clause-balanced c =
    let after = view_of (bench_of c.work.new.self) in
    subst (λ (m : Bench). ∥ ((h : History) × Ran h m × Balanced (record { call = call_of c.args.call.now; answer = answer_of c.work.result } ∷ h) after × RunTied after) ∥₁)
    c.self.view_is
    (∥∥₁_map c.self.inside.ran (λ p. (p.0, p.1, c.work.ensures.goes_on_balanced.balance p.0 p.1, c.work.ensures.goes_on_balanced.tied p.0 p.1)))
