use Rattle.machine.proofs.Balancing.{balanced, tied}
use Rattle.machine.proofs.laws.runs_balance.Goals as goal

pub returns : goal.returns
returns g c = record { after_each_call = balanced g.met.A.Link.lawful g.met.B.Link.lawful g.met.C.Link.lawful g.met.W.Watch.lawful; links_hold_as_the_run_waits = tied g.met.A.Link.lawful g.met.B.Link.lawful g.met.C.Link.lawful g.met.W.Watch.lawful }
