use Rattle.machine.proofs.Refusing.{unchanged_by, quiet_by, struck}
use Rattle.machine.proofs.laws.refusals_change_nothing.Goals as goal

pub returns : goal.returns
returns g c = record { machine_as_it_was = unchanged_by; no_event_raised_or_lost = quiet_by; can_be_struck = struck }
