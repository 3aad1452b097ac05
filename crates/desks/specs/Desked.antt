-- A run that ends on a desk.
use Rattle.std.specs.Prelude.{None}
use Rattle.records.specs.declared.report.Stage.{Stage}
use Rattle.machine.specs.declared.state.Run.{Run}
use Rattle.machine.specs.Desks as machine

-- a run that ended with its final report
abbrev pub run_ended : Run → Stage → machine.Desk → machine.Desk
run_ended r stage d = machine.reported (machine.with_run d None) r.number stage
