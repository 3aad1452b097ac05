use Rattle.std.proofs.Common.{◌≡◌, ◌++◌, drop, replicate}
use Rattle.telecommands.specs.Fields.{fields_from}
use Rattle.telecommands.proofs.fields.read_fields.Given as goal

abbrev pub invariant-loop-k : goal.invariant-loop-k
invariant-loop-k g l =
    l.items ≡ fields_from (g.F.Field.read l.packet) g.F.Field.SIZE l.from l.k ++ drop l.k (replicate g.row.N g.F.Field.blank)
