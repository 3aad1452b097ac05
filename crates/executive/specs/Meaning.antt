-- The executive in the code, as the machine.
use Rattle.links.specs.declared.link.Link as link
use Rattle.machine.specs.Machine.{Machine}
use Rattle.turns.specs.Seated.{seat_of}
use Rattle.watches.specs.declared.watch.Watch as watch
use Rattle.executive.specs.declared.executive.Executive.{Executive}

module _ {A B C V : Type 0} (x : link.Ghosts A) (y : link.Ghosts B) (z : link.Ghosts C) (w : watch.Ghosts V) where
  abbrev pub meaning : Executive A B C V → Machine x.kind y.kind z.kind w.kind
  meaning e = record {
    seat0 = seat_of x e.seat0;
    seat1 = seat_of y e.seat1;
    seat2 = seat_of z e.seat2;
    watch = w.state e.watch;
    desk = e.desk;
  }
