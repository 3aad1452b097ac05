use Rattle.std.proofs.Common.{◌≡◌, ◌≤◌, map, length, take, vec_items, vec_len, vec_capacity}
use Rattle.machine.specs.Calls.{answers_to, after_all}
use Rattle.console.specs.Consoles.{call_of, answer_of, machine_of}
use Rattle.console.proofs.list.work_all.Given as goal

abbrev pub invariant-loop-call : goal.invariant-loop-call
invariant-loop-call g l =
    (vec_len l.answers ≡ l.call-index)
    × (length l.calls ≤ vec_capacity l.answers)
    × (map answer_of (vec_items l.answers) ≡ answers_to (machine_of g.A.Link g.B.Link g.C.Link g.W.Watch l.initial.console) (map call_of (take l.call-index l.calls)))
    × (machine_of g.A.Link g.B.Link g.C.Link g.W.Watch l.console ≡ after_all (machine_of g.A.Link g.B.Link g.C.Link g.W.Watch l.initial.console) (map call_of (take l.call-index l.calls)))
