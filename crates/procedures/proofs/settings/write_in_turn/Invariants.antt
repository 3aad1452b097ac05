use Rattle.std.proofs.Common.{◌≡◌, drop}
use Rattle.machine.specs.Procedures.{written_to}
use Rattle.procedures.proofs.settings.write_in_turn.Given as goal

abbrev pub invariant-loop-setting : goal.invariant-loop-setting
invariant-loop-setting l = written_to l.nop l.initial.parameters l.settings ≡ written_to l.nop l.parameters (drop l.setting-index l.settings)
