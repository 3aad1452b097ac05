-- The machine that is made of three links and a watch in the code.
use Rattle.links.specs.declared.link.Link as link
use Rattle.links.specs.declared.processor.Processor.{Processor}
use Rattle.links.specs.declared.wire.Wire.{Wire}
use Rattle.links.specs.Processors.{processor_kind, processor_state}
use Rattle.links.specs.Wires.{wire_kind, wire_state}
use Rattle.watches.specs.declared.band.Band.{Band}
use Rattle.watches.specs.declared.comparing.Comparing.{Comparing}
use Rattle.watches.specs.declared.moving.Repeat.{Repeat}
use Rattle.watches.specs.declared.pair.Pair.{Pair}
use Rattle.watches.specs.declared.still.Change.{Change}
use Rattle.watches.specs.declared.watch.Watch as watch
use Rattle.machine.specs.declared.equipment.Equipment.{Equipment}
use Rattle.machine.specs.Calls.{made, Fresh}
use Rattle.machine.specs.Cases.{bench_watch}
use Rattle.machine.specs.Machine.{Machine}

module _ {A B C V : Type 0} (x : link.Ghosts A) (y : link.Ghosts B) (z : link.Ghosts C) (w : watch.Ghosts V) where
  abbrev pub made_of : Equipment A B C V → Machine x.kind y.kind z.kind w.kind
  made_of e = made x.kind y.kind z.kind w.kind (x.state e.link0) (y.state e.link1) (z.state e.link2) (w.state e.watch)

  -- links that had taken and held nothing, and a watch with nothing in trouble
  abbrev pub FreshOf : Equipment A B C V → Type 0
  FreshOf e = Fresh x.kind y.kind z.kind w.kind (x.state e.link0) (y.state e.link1) (z.state e.link2) (w.state e.watch)

abbrev pub wire_link : link.Ghosts Wire
wire_link = record { kind = wire_kind; state = wire_state; WAIT_LIMIT = 20 }

abbrev pub processor_link : link.Ghosts Processor
processor_link = record { kind = processor_kind; state = processor_state; WAIT_LIMIT = 20 }

-- a Still, a Moving and a Band
abbrev pub BenchWatch : Type 0
BenchWatch = Pair (Comparing Change) (Pair (Comparing Repeat) Band)

abbrev pub three_functions : watch.Ghosts BenchWatch
three_functions = record { kind = bench_watch; state = λ w. (w.left.last, (w.right.left.last, w.right.right)) }

abbrev pub BenchEquipment : Type 0
BenchEquipment = Equipment Wire Processor Processor BenchWatch

abbrev pub bench_made_of : BenchEquipment → Machine wire_kind processor_kind processor_kind bench_watch
bench_made_of e = made_of wire_link processor_link processor_link three_functions e

abbrev pub BenchIsFresh : BenchEquipment → Type 0
BenchIsFresh e = FreshOf wire_link processor_link processor_link three_functions e
