use Rattle.std.proofs.Common.{map, vec_items, ap, ◌∙◌}
use Rattle.machine.specs.Calls.{answers_to, after_all}
use Rattle.machine.specs.Machine.{Machine}
use Rattle.console.specs.Consoles.{call_of, answer_of, machine_of}
use Rattle.console.proofs.Listing.{listed}
use Rattle.console.proofs.list.run_list.Goals as goal

pub returns : goal.returns
returns g c =
    let m = machine_of g.A.Link g.B.Link g.C.Link g.W.Watch c.new-console.result in
    let left = machine_of g.A.Link g.B.Link g.C.Link g.W.Watch c.work_all.new.console in
    let calls = map call_of c.args.calls.now in
    let answers = map answer_of (vec_items c.in_ok-answers.answers) in
    record {
      answers_of_the_machine = c.in_ok-answers.ensures.answers_of_the_machine
          ∙ ap (λ (x : Machine g.A.Link.kind g.B.Link.kind g.C.Link.kind g.W.Watch.kind). answers_to x calls) c.new-console.ensures.as_the_machine_is_made;
      left_by_all_calls = c.in_ok-answers.ensures.left_by_all_calls
          ∙ ap (λ (x : Machine g.A.Link.kind g.B.Link.kind g.C.Link.kind g.W.Watch.kind). after_all x calls) c.new-console.ensures.as_the_machine_is_made;
      balanced_after_each_call = λ fresh. listed g.met.A.Link.lawful g.met.B.Link.lawful g.met.C.Link.lawful g.met.W.Watch.lawful m left calls answers
          (c.new-console.ensures.runs_begin_if_fresh fresh) c.in_ok-answers.ensures.answers_of_the_machine c.in_ok-answers.ensures.left_by_all_calls;
    }
