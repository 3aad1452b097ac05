-- Steps as actions, if all are good; the two activities that set something.
use Rattle.std.specs.Prelude.{ℕ, Bool, cond, min, List, ◌++◌, map, length, drop, Some, None, Ok, Err, Option, Result, ◌==◌, nat_lt}
use Rattle.std.specs.List.{slice_get}
use Rattle.std.specs.Option.{option_and_then}
use Rattle.records.specs.declared.fault.Fault.{Fault}
use Rattle.records.specs.declared.fault.FaultKind.TheVariants.{InvalidParameter, InvalidProcedure, InvalidStep, EmptyProcedure}
use Rattle.records.specs.declared.step.Step.{Step}
use Rattle.records.specs.Faults.{fault_of}
use Rattle.telecommands.specs.Fields.{Settings, Steps}
use Rattle.machine.specs.declared.state.Action.{Action}
use Rattle.machine.specs.declared.state.Procedure.{Procedure}
use Rattle.machine.specs.Desks.{Desk, procedure_at}
use Rattle.machine.specs.Procedures.{action_of, action_in, first_bad, steps_in, loaded_with, is_procedure, Outcome, setting}

-- what the step at a place does, if there is one and it is good
abbrev pub action_at : ℕ → ℕ → List Step → ℕ → Action
action_at width nop steps place = action_in (option_and_then (action_of width nop) (slice_get steps place))

-- the actions of some steps, before what stood behind that many
abbrev pub actions_from : ℕ → ℕ → List Step → List Action → List Action
actions_from width nop steps before = map (λ step. action_in (action_of width nop step)) steps ++ drop (length steps) before

-- a fault with the number of the first bad step, or the procedure of all
abbrev pub judged_steps : ℕ → ℕ → Steps → Result Procedure Fault
judged_steps width nop s =
    cond (first_bad width nop 1 (steps_in s) == 0) (Ok (loaded_with width nop s)) (Err (fault_of InvalidStep (first_bad width nop 1 (steps_in s))))

-- the fault of an ID that no procedure can have
abbrev pub judged_id : ℕ → Option Fault
judged_id id = cond (is_procedure id) None (Some (fault_of InvalidProcedure id))

abbrev pub loaded_in : Option Procedure → ℕ → Result Procedure Fault
loaded_in None id = Err (fault_of EmptyProcedure id)
loaded_in (Some p) id = Ok p

-- the procedure of an ID, or the fault that there is none
abbrev pub loaded : Desk → ℕ → Result Procedure Fault
loaded d id = cond (is_procedure id) (loaded_in (procedure_at d id) id) (Err (fault_of InvalidProcedure id))

-- 1 is on and 0 is off
abbrev pub switched : ℕ → Result Bool Fault
switched value = cond (nat_lt 1 value) (Err (fault_of InvalidParameter value)) (Ok (value == 1))

-- settings counted up to the largest number that a fault can name; a packet's count is far below
abbrev pub fitted : Settings → Settings
fitted s = record { items = s.items; count = min s.count 4294967295 }

-- the two activities that set something, as in the rule for all
abbrev pub setting_status : Desk → ℕ → ℕ → Outcome
setting_status d sid value = setting 0 d 1 sid value

abbrev pub setting_switch : ℕ → Desk → ℕ → ℕ → Outcome
setting_switch width d sid value = setting width d 2 sid value
