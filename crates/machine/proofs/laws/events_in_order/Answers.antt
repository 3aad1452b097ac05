use Rattle.machine.proofs.Raising.{events_in_order}
use Rattle.machine.proofs.laws.events_in_order.Goals as goal

pub returns : goal.returns
returns g c = record { as_raised = events_in_order }
