use Rattle.std.proofs.Common.{ap, ◌∙◌, rules}
use Rattle.stores.specs.Queue.{oldest, younger}
use Rattle.stores.proofs.Waits.{none_wait, take_fits, take_waits}
use Rattle.stores.proofs.queue.take.Goals as goal

pub returns-then-counted-eq0 : goal.returns-then-counted-eq0
returns-then-counted-eq0 g c = search (rules, none_wait)

pub returns : goal.returns
returns g c =
    let waits =
    take_waits c.args.places.now c.args.span.now
    (λ none. c.if-counted-eq0.false (c.counted.ensures.none_unless_it_fits ∙ none))
    c.index-places-span.result c.index-places-span.is in
    search (rules, take_fits, ap oldest waits, ap younger waits)
