use Rattle.std.proofs.Common.{List, map, ap, ◌∙◌}
use Rattle.console.specs.Consoles.{Answer}
use Rattle.console.specs.Consoles.{answer_of, machine_of}
use Rattle.machine.specs.Balance.{view_of}
use Rattle.sheets.proofs.shift.close_shift.Goals as goal

pub returns : goal.returns
returns g c = record {
  totals_of_the_machine = λ h of_them.
      c.totals.ensures.of_their_history h (view_of (machine_of g.A.Link g.B.Link g.C.Link g.W.Watch c.args.console.now)) of_them
      (ap (λ (l : List Answer). map answer_of l) c.as_slice.ensures.value ∙ c.in_ok-rest.ensures.all_that_waits);
  stores_emptied = c.in_ok-rest.ensures.all_else_as_it_was;
}
