-- The worked cases, computed.
use Rattle.std.proofs.Common.{◌≡◌, List, ap, ◌∙◌}
use Rattle.octets.specs.Check.{bit_steps}
use Rattle.machine.specs.Calls.{Told}
use Rattle.machine.specs.Calls.{Call, answers_to}
use Rattle.machine.specs.Cases.{bench}
use Rattle.machine.specs.Parts.{Answer}
use Rattle.machine.specs.Procedures.{first_bad, written_to}
use Rattle.console.specs.Cases.{AnsweredSo}

pub answered_so : (calls : List Call) (answers : List (Answer Told)) → answers ≡ answers_to bench calls → AnsweredSo calls answers
unfolding answers_to bit_steps first_bad written_to
answered_so calls answers told = record {
  trigger_to_an_off_link = λ e. told ∙ ap (answers_to bench) e;
  unanswered = λ e. told ∙ ap (answers_to bench) e;
  answered_in_the_last_tick = λ e. told ∙ ap (answers_to bench) e;
  turned_down = λ e. told ∙ ap (answers_to bench) e;
  illegal_parameter = λ e. told ∙ ap (answers_to bench) e;
  stopped_while_sent = λ e. told ∙ ap (answers_to bench) e;
}
