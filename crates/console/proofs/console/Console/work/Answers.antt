use Rattle.console.proofs.Going.{goes_on}
use Rattle.console.proofs.console.Console.work.Goals as goal

pub returns-clause-goes_on_balanced : goal.returns-clause-goes_on_balanced
returns-clause-goes_on_balanced g c =
    goes_on g.met.A.Link.lawful g.met.B.Link.lawful g.met.C.Link.lawful g.met.W.Watch.lawful _ _ _ _ c.make_call.ensures.as_the_machine_does
