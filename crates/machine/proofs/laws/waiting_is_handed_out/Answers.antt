use Rattle.machine.proofs.Draining.{drained}
use Rattle.machine.proofs.laws.waiting_is_handed_out.Goals as goal

pub returns : goal.returns
returns g c = record { by_collects_alone = drained }
