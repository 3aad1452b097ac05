-- Text that is added to a line.
use Rattle.std.specs.Prelude.{◌≡◌, ℕ, List, ◌++◌, string_bytes, Result, String, OnOk}
use Rattle.std.specs.declared.alloc.AllocError.{AllocError}

-- unless memory ran out, the line holds what it held, and then the text
abbrev pub Added : {Z : Type 0} → Result (Unit {0}) AllocError → List ℕ → String Z → String Z → Type 0
Added r text held holds = OnOk r (string_bytes holds ≡ string_bytes held ++ text)
