-- The machine that the bench's console is.
use Rattle.links.specs.Processors.{processor_kind}
use Rattle.links.specs.Wires.{wire_kind}
use Rattle.machine.specs.Cases.{bench_watch}
use Rattle.machine.specs.Machine.{Machine}

abbrev pub Bench : Type 0
Bench = Machine wire_kind processor_kind processor_kind bench_watch
