use Rattle.std.proofs.Common.{◌≡◌, [], sym, subst, rules}
use Rattle.machine.specs.Cases.{bench}
use Rattle.machine.specs.Runs.{New}
use Rattle.machine.proofs.Benching.{bench_new}
use Rattle.console.specs.Benches.{bench_of}
use Rattle.console.specs.Lives.{Bench}
use Rattle.console.proofs.live.BenchConsole.new.Goals as goal

pub invariant_of-result : goal.invariant_of-result
invariant_of-result c =
    let is : bench_of c.new.result ≡ bench = search rules in
    (∣ ([], subst (λ (m : Bench). New m) (sym is) bench_new) ∣₁, tt)
