use Rattle.machine.proofs.Balancing.{sent_small}
use Rattle.machine.proofs.laws.sent_keeps_counting.Goals as goal

pub returns : goal.returns
returns g c = record { below_its_largest = sent_small g.met.A.Link.lawful g.met.B.Link.lawful g.met.C.Link.lawful g.met.W.Watch.lawful }
