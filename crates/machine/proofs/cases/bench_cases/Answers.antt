use Rattle.std.proofs.Common.{refl}
use Rattle.octets.specs.Check.{bit_steps}
use Rattle.machine.specs.Calls.{after_all}
use Rattle.machine.specs.Procedures.{first_bad, written_to}
use Rattle.machine.proofs.Benching.{bench_new}
use Rattle.machine.proofs.cases.bench_cases.Goals as goal

pub returns : goal.returns
unfolding bit_steps after_all first_bad written_to
returns c = record {
  as_computed = record {
    trigger_to_an_off_link = refl;
    unanswered = refl;
    answered_in_the_last_tick = refl;
    nothing_after_nineteen = refl;
    turned_down = refl;
    illegal_parameter = refl;
    parameters_written = refl;
    stopped_while_sent = refl;
  };
  new_and_withdrawn = record { is_new = bench_new; late_reply = refl };
}
