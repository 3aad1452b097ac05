use Rattle.std.proofs.Common.{List, map, vec_items, sym, ap, ◌∙◌}
use Rattle.console.specs.Consoles.{Answer, call_of, answer_of, machine_of}
use Rattle.console.specs.Lists.{history_of}
use Rattle.machine.specs.Equipments.{made_of}
use Rattle.sheets.proofs.Closing.{told_by, closed}
use Rattle.sheets.proofs.shift.work_shift.Goals as goal

pub returns : goal.returns
returns g c =
    let answers = map answer_of (vec_items c.in_ok-console.answers) in
    let calls = map call_of c.args.calls.now in
    let begun = made_of g.A.Link g.B.Link g.C.Link g.W.Watch c.args.equipment in
    let answered = c.in_ok-console.ensures.answers_of_the_machine in
    let sliced = ap (λ (l : List Answer). map answer_of l) c.as_slice.ensures.value in
    record {
      answers_of_the_machine = answered;
      balanced_if_fresh = λ fresh.
          closed (history_of calls answers) (machine_of g.A.Link g.B.Link g.C.Link g.W.Watch c.in_ok-console.console) c.in_ok-totals.totals
          (c.in_ok-console.ensures.balanced_after_each_call fresh)
          (c.in_ok-totals.ensures.totals_of_the_machine (history_of calls answers) (told_by begun calls answers answered ∙ sym sliced));
    }
