use Rattle.machine.proofs.Ordering.{in_order}
use Rattle.machine.proofs.laws.reports_in_order.Goals as goal

pub returns : goal.returns
returns g c = record { as_written = in_order }
