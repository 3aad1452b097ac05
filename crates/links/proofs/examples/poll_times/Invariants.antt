use Rattle.std.proofs.Common.{◌≡◌}
use Rattle.links.specs.Polls.{polled_times}
use Rattle.links.proofs.examples.poll_times.Given as goal

abbrev pub invariant-loop : goal.invariant-loop
invariant-loop g l = g.L.Link.state l.link ≡ polled_times g.L.Link.kind l.counter (g.L.Link.state l.initial.link)
