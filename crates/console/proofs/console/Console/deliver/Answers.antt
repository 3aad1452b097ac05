use Rattle.std.proofs.Common.{ap}
use Rattle.machine.specs.Calls.{told, delivered}
use Rattle.console.proofs.Going.{goes_on}
use Rattle.console.proofs.console.Console.deliver.Goals as goal

pub returns-clause-goes_on_balanced : goal.returns-clause-goes_on_balanced
returns-clause-goes_on_balanced g c =
    goes_on g.met.A.Link.lawful g.met.B.Link.lawful g.met.C.Link.lawful g.met.W.Watch.lawful _ _ _ _ (ap (told delivered) c.deliver.ensures.answer, c.deliver.ensures.after)
