-- The operation that a step's number names.
use Rattle.std.specs.Prelude.{ℕ, cond, Some, None, Option, ◌==◌}
use Rattle.records.specs.declared.step.Operation.{Operation}
use Rattle.records.specs.declared.step.Operation.TheVariants.{Send, Wait, Expect}

abbrev pub operation_of : ℕ → Option Operation
operation_of number = cond (number == 1) (Some Send) (cond (number == 2) (Some Wait) (cond (number == 3) (Some Expect) None))
