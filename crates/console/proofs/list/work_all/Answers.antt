use Rattle.std.proofs.Common.{◌≡◌, ℕ, true, List, [], map, vec_items, Vec, Global, sym, refl, ap, ◌∙◌, rules}
use Rattle.std.proofs.lemmas.List.{take_all}
use Rattle.std.proofs.lemmas.Bool.{both_ways}
use Rattle.machine.specs.Calls.{answers_to, after_all}
use Rattle.records.specs.declared.call.Call.{Call}
use Rattle.console.specs.Consoles.{call_of, answer_of, machine_of}
use Rattle.console.proofs.Listing.{after_none, answers_none, all_more}
use Rattle.console.proofs.list.work_all.Goals as goal

pub loop-call-preserved : goal.loop-call-preserved
loop-call-preserved g c =
    let m = machine_of g.A.Link g.B.Link g.C.Link g.W.Watch c.args.console.now in
    let before = machine_of g.A.Link g.B.Link g.C.Link g.W.Watch c.loop-call.console in
    let after = machine_of g.A.Link g.B.Link g.C.Link g.W.Watch c.work.new.self in
    let both = all_more m before after c.args.calls.now c.loop-call.call-index c.call-item.result (vec_items c.loop-call.answers) (vec_items c.push_reserved.new.self)
    c.work.result c.loop-call-test.true c.call-item.is c.push_reserved.ensures.items c.loop-call.invariant.2 c.loop-call.invariant.3 c.work.ensures.as_the_machine_does in
    (search rules, search rules, both.0, both.1)

pub loop-call-init : goal.loop-call-init
loop-call-init g c =
    let m = machine_of g.A.Link g.B.Link g.C.Link g.W.Watch c.args.console.now in
    let none : vec_items c.in_ok-answers.answers ≡ [] = search rules in
    (search rules, search rules, ap (map answer_of) none ∙ sym (answers_none m), sym (after_none m))

pub returns : goal.returns
returns g c =
    let m = machine_of g.A.Link g.B.Link g.C.Link g.W.Watch c.args.console.now in
    let all = take_all c.loop-call.call-index c.args.calls.now c.loop-call-test.false in
    record {
      answers_of_the_machine = c.loop-call.invariant.2 ∙ ap (λ (cs : List (Call (Vec ℕ Global))). answers_to m (map call_of cs)) all;
      error_changes_nothing = λ e. absurd (both_ways true e refl);
      left_by_all_calls = c.loop-call.invariant.3 ∙ ap (λ (cs : List (Call (Vec ℕ Global))). after_all m (map call_of cs)) all;
    }
