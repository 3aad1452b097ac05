use Rattle.machine.proofs.Reporting.{accepted_reported}
use Rattle.machine.proofs.Single.{started_once}
use Rattle.machine.proofs.Starting.{was_started}
use Rattle.machine.proofs.laws.accepted_is_reported.Goals as goal

pub returns : goal.returns
returns g c = record { in_its_own_call = accepted_reported g.met.A.Link.lawful g.met.B.Link.lawful g.met.C.Link.lawful g.met.W.Watch.lawful; started_once = started_once; started_while_pending = was_started g.met.A.Link.lawful g.met.B.Link.lawful g.met.C.Link.lawful g.met.W.Watch.lawful }
