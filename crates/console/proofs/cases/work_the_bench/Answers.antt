use Rattle.std.proofs.Common.{◌≡◌, map, vec_items, rules}
use Rattle.machine.specs.Calls.{answers_to}
use Rattle.machine.specs.Cases.{bench}
use Rattle.console.specs.Consoles.{call_of, answer_of}
use Rattle.console.proofs.Answering.{answered_so}
use Rattle.console.proofs.cases.work_the_bench.Goals as goal

pub returns-clause-worked_cases : goal.returns-clause-worked_cases
unfolding answers_to
returns-clause-worked_cases c =
    let told : map answer_of (vec_items c.in_ok-answers.answers) ≡ answers_to bench (map call_of c.args.calls.now) = search rules in
    answered_so (map call_of c.args.calls.now) (map answer_of (vec_items c.in_ok-answers.answers)) told
