-- What a line of text adds to a call list.
use Rattle.std.specs.Prelude.{ℕ, List, [], ◌∷◌, Some, None, Option, Vec}
use Rattle.std.specs.Global.{Global}
use Rattle.bench_text.specs.Lines as text
use Rattle.console.specs.Consoles.{call_of}
use Rattle.machine.specs.Calls as calls
use Rattle.records.specs.declared.call.Call.{Call}
use Rattle.sheets.specs.declared.list.Mark.{Mark}
use Rattle.sheets.specs.declared.list.Mark.TheVariants as mark

-- a question about a message is no call
abbrev pub called_by : text.Said → Option calls.Call
called_by text.skipped = None
called_by text.unreadable = None
called_by (text.submit packet) = Some (calls.submit packet)
called_by (text.deliver link bytes) = Some (calls.deliver link bytes)
called_by text.tick = Some calls.tick
called_by (text.sample f v) = Some (calls.sample f v)
called_by text.collect = Some calls.collect
called_by (text.message link) = None

abbrev pub made_of : Option (Call (Vec ℕ Global)) → Option calls.Call
made_of None = None
made_of (Some c) = Some (call_of c)

-- a line that is skipped does not count
abbrev pub mark_of : text.Said → Option Mark
mark_of text.skipped = None
mark_of text.unreadable = Some mark.Unreadable
mark_of (text.submit packet) = Some mark.Call
mark_of (text.deliver link bytes) = Some mark.Call
mark_of text.tick = Some mark.Call
mark_of (text.sample f v) = Some mark.Call
mark_of text.collect = Some mark.Call
mark_of (text.message link) = Some mark.Question

abbrev pub listed : {X : Type 0} → Option X → List X
listed None = []
listed (Some x) = x ∷ []

abbrev pub calls_in : text.Said → List calls.Call
calls_in said = listed (called_by said)

abbrev pub marks_in : text.Said → List Mark
marks_in said = listed (mark_of said)
