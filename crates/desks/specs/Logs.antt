-- Accepting, and settling at once, on a log.
use Rattle.std.specs.Prelude.{ℕ, ◌+◌, cond, Some, None, Ok, Err, Option, Result, nat_le, nat_lt}
use Rattle.records.specs.declared.fault.Fault.{Fault}
use Rattle.records.specs.declared.refusal.Refusal.{Refusal}
use Rattle.records.specs.declared.refusal.Refusal.TheVariants.{Worn, Full}
use Rattle.records.specs.declared.report.Stage.TheVariants.{Done, Failed}
use Rattle.machine.specs.Desks as machine
use Rattle.desks.specs.declared.ticket.Ticket.{Ticket}

-- the two refusals of a good packet, with so many places free; else the next number
abbrev pub judged : machine.Log → ℕ → Result ℕ Refusal
judged l free = cond (nat_le 1000000 l.accepted) (Err Worn) (cond (nat_lt free 2) (Err (Full free)) (Ok (l.accepted + 1)))

-- a ticket for the number that was given
abbrev pub issued : Result ℕ Refusal → Result Ticket Refusal
issued (Ok n) = Ok (record { number = n })
issued (Err refusal) = Err refusal

abbrev pub after_judged : Result ℕ Refusal → machine.Log → machine.Log
after_judged (Ok n) l = machine.numbered l
after_judged (Err refusal) l = l

-- the fault of an outcome, if any
abbrev pub fault_in : Result (Unit {0}) Fault → Option Fault
fault_in (Ok u) = None
fault_in (Err fault) = Some fault

-- a number that is settled at once: nothing was sent for it
abbrev pub settled_in : ℕ → Result (Unit {0}) Fault → machine.Log → machine.Log
settled_in n (Ok u) l = machine.filed l n (Done 0)
settled_in n (Err fault) l = machine.filed l n (Failed 0 fault)
