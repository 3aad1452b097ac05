use Rattle.machine.proofs.Bounding.{all_bounded, run_bounded}
use Rattle.machine.proofs.laws.reports_bounded.Goals as goal

pub returns : goal.returns
returns g c = record { by_28_steps = all_bounded; the_run_too = run_bounded }
