use Rattle.std.proofs.Common.{sym, rules}
use Rattle.stores.proofs.Waits.{room_by_count, put_fits, put_waits}
use Rattle.stores.proofs.queue.put.Goals as goal

pub returns-then-not-has_room : goal.returns-then-not-has_room
returns-then-not-has_room g c = search (rules, room_by_count)

pub returns : goal.returns
returns g c =
    let places = c.args.places.now in
    let span = c.args.span.now in
    let last = c.behind-last.result in
    let room = sym c.if-not-has_room.ensures.fits_with_one_more in
    let fits = put_fits places span last c.args.newest room in
    let waits = put_waits places span last c.args.newest room c.behind-last.ensures.counted_from_the_head in
    search (rules, room_by_count, fits, waits)
