-- What the executive holds beside its links and its watch: statuses, switches, procedures, the run, stores and counts.
use Rattle.std.specs.Prelude.{ℕ, ◌+◌, ◌-◌, min, Bool, true, false, cond, ◌||◌, List, [], ◌∷◌, ◌++◌, length, replicate, Some, None, Option, ◌==◌, nat_lt, slice_index_or, slice_set}
use Rattle.records.specs.declared.event.Event.{Event}
use Rattle.records.specs.declared.fault.Fault.{Fault}
use Rattle.records.specs.declared.report.Report.{Report}
use Rattle.records.specs.declared.report.Stage.{Stage}
use Rattle.records.specs.declared.report.Stage.TheVariants.{Done, Failed}
use Rattle.records.specs.Faults.{at_step}
use Rattle.machine.specs.declared.state.LinkStatus.{LinkStatus}
use Rattle.machine.specs.declared.state.LinkStatus.TheVariants.{Off, On, Stopped}
use Rattle.machine.specs.declared.state.Procedure.{Procedure}
use Rattle.machine.specs.declared.state.Run.{Run}
use Rattle.machine.specs.declared.state.RunState.TheVariants.{Ready}

-- waiting events and reports, oldest first; telecommands accepted; events raised, counted up to a million
pub record Log : Type 0 where
  pub events : List Event
  pub reports : List Report
  pub accepted : ℕ
  pub raised : ℕ

-- behind the others, while fewer than so many wait
abbrev pub put : {A : Type 0} → ℕ → List A → A → List A
put places waiting newest = cond (nat_lt (length waiting) places) (waiting ++ newest ∷ []) waiting

-- with a report behind the others; all 400 places taken, it is not filed
abbrev pub filed : Log → ℕ → Stage → Log
filed l n stage = record { events = l.events; reports = put 400 l.reports (record { number = n; stage = stage }); accepted = l.accepted; raised = l.raised }

-- with an event behind the others; all 32 places taken, it is lost, and counted all the same
abbrev pub raised_in : Log → Event → Log
raised_in l e = record { events = put 32 l.events e; reports = l.reports; accepted = l.accepted; raised = min (l.raised + 1) 1000000 }

abbrev pub lost_in : Log → ℕ
lost_in l = cond (nat_lt (length l.events) 32) 0 1

-- with one more telecommand accepted
abbrev pub numbered : Log → Log
numbered l = record { events = l.events; reports = l.reports; accepted = l.accepted + 1; raised = l.raised }

-- statuses of the three links; which of the 23 functions are on; procedures 1 to 16; the run
pub record Desk : Type 0 where
  pub statuses : List LinkStatus
  pub switches : List Bool
  pub procedures : List (Option Procedure)
  pub run : Option Run
  pub log : Log

abbrev pub empty_log : Log
empty_log = record { events = []; reports = []; accepted = 0; raised = 0 }

abbrev pub new_desk : Desk
new_desk = record { statuses = replicate 3 Off; switches = replicate 23 true; procedures = replicate 16 None; run = None; log = empty_log }

abbrev pub with_log : Desk → Log → Desk
with_log d l = record { statuses = d.statuses; switches = d.switches; procedures = d.procedures; run = d.run; log = l }

abbrev pub with_run : Desk → Option Run → Desk
with_run d run = record { statuses = d.statuses; switches = d.switches; procedures = d.procedures; run = run; log = d.log }

abbrev pub with_status : Desk → ℕ → LinkStatus → Desk
with_status d link status =
    record { statuses = slice_set d.statuses link status; switches = d.switches; procedures = d.procedures; run = d.run; log = d.log }

abbrev pub with_switch : Desk → ℕ → Bool → Desk
with_switch d f on =
    record { statuses = d.statuses; switches = slice_set d.switches (f - 1) on; procedures = d.procedures; run = d.run; log = d.log }

abbrev pub with_procedure : Desk → ℕ → Option Procedure → Desk
with_procedure d id p =
    record { statuses = d.statuses; switches = d.switches; procedures = slice_set d.procedures (id - 1) p; run = d.run; log = d.log }

-- a report on the desk
abbrev pub reported : Desk → ℕ → Stage → Desk
reported d n stage = with_log d (filed d.log n stage)

-- an event on the desk
abbrev pub raised_on : Desk → Event → Desk
raised_on d e = with_log d (raised_in d.log e)

abbrev pub status_at : Desk → ℕ → LinkStatus
status_at d link = slice_index_or d.statuses link Off

abbrev pub status_number : LinkStatus → ℕ
status_number Off = 0
status_number On = 1
status_number Stopped = 2

abbrev pub is_off : LinkStatus → Bool
is_off Off = true
is_off On = false
is_off Stopped = false

abbrev pub is_stopped : LinkStatus → Bool
is_stopped Off = false
is_stopped On = false
is_stopped Stopped = true

-- nothing is offered to a link that is off, nor to any while one is stopped
abbrev pub is_blocked : Desk → ℕ → Bool
is_blocked d link = is_off (status_at d link) || is_stopped (status_at d 0) || is_stopped (status_at d 1) || is_stopped (status_at d 2)

abbrev pub is_on : Desk → ℕ → Bool
is_on d f = slice_index_or d.switches (f - 1) false

abbrev pub procedure_at : Desk → ℕ → Option Procedure
procedure_at d id = slice_index_or d.procedures (id - 1) None

abbrev pub id_of : Option Run → ℕ
id_of None = 0
id_of (Some run) = run.id

-- whether this procedure runs; IDs are from 1
abbrev pub runs : Desk → ℕ → Bool
runs d id = id_of d.run == id

-- a number that is settled at once: nothing was sent for it
abbrev pub settled : ℕ → Option Fault → Desk → Desk
settled n None d = reported d n (Done 0)
settled n (Some f) d = reported d n (Failed 0 f)

-- the run ends with a fault, met at the step where it stands
abbrev pub failed_run : Option Run → Fault → Desk → Desk
failed_run None f d = d
failed_run (Some r) f d = reported (with_run d None) r.number (Failed r.sent (at_step (min (r.step + 1) 255) f))

-- how many steps the procedure that runs has
abbrev pub steps_of : Option Procedure → ℕ
steps_of None = 0
steps_of (Some p) = p.actions.count

-- before the next step, or done after the last
abbrev pub passed : Run → Desk → Desk
passed r d =
    cond (nat_lt (r.step + 1) (steps_of (procedure_at d r.id)))
    (with_run d (Some (record { id = r.id; number = r.number; step = r.step + 1; sent = r.sent; state = Ready 0 })))
    (reported (with_run d None) r.number (Done r.sent))
