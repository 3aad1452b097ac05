use Rattle.machine.proofs.Fewness.{few_read}
use Rattle.machine.proofs.laws.packets_are_small.Goals as goal

pub returns : goal.returns
returns c = record { few_steps_and_settings = few_read }
