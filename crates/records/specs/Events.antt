-- Number and name of each kind of event.
use Rattle.std.specs.Prelude.{ℕ, List, codes}
use Rattle.records.specs.declared.event.EventKind.{EventKind}
use Rattle.records.specs.declared.event.EventKind.TheVariants.{Trouble, Clear, Nack, NoAck, Odd}

abbrev pub event_number : EventKind → ℕ
event_number Trouble = 1
event_number Clear = 2
event_number Nack = 3
event_number NoAck = 4
event_number Odd = 5

abbrev pub event_name : EventKind → List ℕ
event_name Trouble = codes "TROUBLE"
event_name Clear = codes "CLEAR"
event_name Nack = codes "NACK"
event_name NoAck = codes "NO ACK"
event_name Odd = codes "ODD"
