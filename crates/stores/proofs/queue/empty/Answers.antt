use Rattle.std.proofs.Common.{rules}
use Rattle.std.proofs.lemmas.Bool.Decides.{nat_tests}
use Rattle.stores.proofs.Waits.{none_wait}
use Rattle.stores.proofs.queue.empty.Goals as goal

pub returns : goal.returns
returns g c = search (rules, none_wait, nat_tests)
