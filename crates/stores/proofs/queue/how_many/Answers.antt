use Rattle.std.proofs.Common.{rules}
use Rattle.std.proofs.lemmas.Bool.Decides.{nat_tests}
use Rattle.stores.proofs.Waits.{length_waiting}
use Rattle.stores.proofs.queue.how_many.Goals as goal

pub returns : goal.returns
returns g c = search (rules, length_waiting, nat_tests)
