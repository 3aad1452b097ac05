-- The console on the bench's links and watch.
use Rattle.links.specs.declared.processor.Processor.{Processor}
use Rattle.links.specs.declared.wire.Wire.{Wire}
use Rattle.links.specs.Processors.{processor_kind}
use Rattle.links.specs.Wires.{wire_kind}
use Rattle.machine.specs.Cases.{bench_watch}
use Rattle.machine.specs.Equipments.{BenchWatch, wire_link, processor_link, three_functions}
use Rattle.machine.specs.Machine.{Machine}
use Rattle.console.specs.declared.console.Console.{Console}
use Rattle.console.specs.Consoles.{machine_of}

abbrev pub bench_of : Console Wire Processor Processor BenchWatch → Machine wire_kind processor_kind processor_kind bench_watch
bench_of c = machine_of wire_link processor_link processor_link three_functions c
