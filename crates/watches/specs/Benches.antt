-- The watch of the bench.
use Rattle.std.specs.Prelude.{false}
use Rattle.watches.specs.declared.band.Band.{Band}
use Rattle.watches.specs.declared.last_seen.LastSeen.{LastSeen}
use Rattle.watches.specs.Kinds.{nothing_seen}

-- the state of a new one, of three functions: 1 is a Still, 2 a Moving, 3 a Band of 100 to 200
abbrev pub new_watch : LastSeen × (LastSeen × Band)
new_watch = (nothing_seen, (nothing_seen, record { lowest = 100; highest = 200; trouble = false }))
