use Rattle.machine.proofs.Balancing.{what_is_left}
use Rattle.machine.proofs.laws.free_places.Goals as goal

pub returns : goal.returns
returns g c = record { left_of_400 = what_is_left g.met.A.Link.lawful g.met.B.Link.lawful g.met.C.Link.lawful g.met.W.Watch.lawful }
