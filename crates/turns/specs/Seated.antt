-- A seat in the code, as the machine's seat.
use Rattle.links.specs.declared.link.Link.{Ghosts}
use Rattle.machine.specs.Seats as machine
use Rattle.turns.specs.declared.seat.Seat.{Seat}

abbrev pub seat_of : {L : Type 0} (x : Ghosts L) → Seat L → machine.Seat x.kind
seat_of x s = record { link = x.state s.link; hold = s.hold }
