use Rattle.machine.proofs.Balancing.{own_counts}
use Rattle.machine.proofs.laws.own_counts.Goals as goal

pub returns : goal.returns
returns g c = record { those_of_the_history = own_counts g.met.A.Link.lawful g.met.B.Link.lawful g.met.C.Link.lawful g.met.W.Watch.lawful }
