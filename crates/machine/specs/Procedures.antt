-- Telecommands about settings and procedures: what each leaves on the desk, and its fault.
use Rattle.std.specs.Prelude.{ℕ, ◌+◌, ◌-◌, Bool, cond, ◌&&◌, List, [], ◌∷◌, ◌++◌, map, take, drop, replicate, is_some, Some, None, Option, ◌==◌, nat_le, nat_lt, slice_set}
use Rattle.records.specs.declared.fault.Fault.{Fault}
use Rattle.records.specs.declared.fault.FaultKind.{FaultKind}
use Rattle.records.specs.declared.fault.FaultKind.TheVariants.{InvalidActivity, InvalidSid, InvalidParameter, InvalidWatched, InvalidProcedure, IllegalLoad, TooManyParameters, InvalidStep, EmptyProcedure, RunningProcedure, IllegalParameterId}
use Rattle.records.specs.declared.fixed_list.FixedList.{FixedList}
use Rattle.records.specs.declared.report.Stage.TheVariants.{Started}
use Rattle.records.specs.declared.step.Step.{Step}
use Rattle.records.specs.Faults.{fault_of}
use Rattle.telecommands.specs.declared.packet.Setting.{Setting}
use Rattle.telecommands.specs.Fields.{Settings}
use Rattle.telecommands.specs.Fields.{Steps}
use Rattle.watches.specs.Meaning.{within}
use Rattle.machine.specs.declared.state.Action.{Action}
use Rattle.machine.specs.declared.state.Action.TheVariants.{Wait, Send, Expect}
use Rattle.machine.specs.declared.state.LinkStatus.{LinkStatus}
use Rattle.machine.specs.declared.state.LinkStatus.TheVariants.{Off, On}
use Rattle.machine.specs.declared.state.Procedure.{Procedure}
use Rattle.machine.specs.declared.state.Run.{Run}
use Rattle.machine.specs.declared.state.RunState.TheVariants.{Ready}
use Rattle.machine.specs.Desks.{Desk, with_run, with_status, with_switch, with_procedure, reported, settled, procedure_at, id_of, runs}

-- the desk that a telecommand leaves, and the fault with which it failed, if any
pub record Outcome : Type 0 where
  pub desk : Desk
  pub fault : Option Fault

abbrev pub good : Desk → Outcome
good d = record { desk = d; fault = None }

-- failed with nothing changed
abbrev pub failed : Desk → FaultKind → ℕ → Outcome
failed d kind parameter = record { desk = d; fault = Some (fault_of kind parameter) }

abbrev pub status_of : ℕ → LinkStatus
status_of value = cond (value == 1) On Off

-- activity 1 sets a link's status, activity 2 a function on or off; width is that of the watch
abbrev pub setting : ℕ → Desk → ℕ → ℕ → ℕ → Outcome
setting width d activity sid value =
    cond (activity == 1)
    (cond (nat_lt 2 sid) (failed d InvalidSid sid)
    (cond (nat_lt 1 value) (failed d InvalidParameter value) (good (with_status d sid (status_of value)))))
    (cond (activity == 2)
    (cond (within width sid) (cond (nat_lt 1 value) (failed d InvalidParameter value) (good (with_switch d sid (value == 1))))
    (failed d InvalidWatched sid))
    (failed d InvalidActivity activity))

abbrev pub is_procedure : ℕ → Bool
is_procedure id = nat_le 1 id && nat_le id 16

-- what a step does, if it is good; operands that it does not use are 0
abbrev pub action_of : ℕ → ℕ → Step → Option Action
action_of width nop s =
    cond (s.op == 1) (cond (nat_le s.b 2 && nat_le s.v nop) (Some (Send s.b s.w s.u s.v)) None)
    (cond (s.op == 2) (cond (s.b == 0 && s.u == 0 && s.v == 0) (Some (Wait s.w)) None)
    (cond (s.op == 3) (cond (within width s.b && s.w == 0 && s.u == 0 && s.v == 0) (Some (Expect s.b)) None)
    None))

-- the number of the first bad step, counted from one on; 0 where all are good
unfoldable pub first_bad : ℕ → ℕ → ℕ → List Step → ℕ
first_bad width nop number [] = 0
first_bad width nop number (s ∷ steps) = cond (is_some (action_of width nop s)) (first_bad width nop (number + 1) steps) number

abbrev pub action_in : Option Action → Action
action_in None = Wait 0
action_in (Some action) = action

-- the steps that count
abbrev pub steps_in : Steps → List Step
steps_in s = take s.count s.items

-- an action for each step that counts; the other places wait for no tick
abbrev pub actions_for : ℕ → ℕ → Steps → FixedList Action 28
actions_for width nop s = record {
  items = map (λ step. action_in (action_of width nop step)) (steps_in s) ++ drop s.count (replicate 28 (Wait 0));
  count = s.count;
}

abbrev pub loaded_with : ℕ → ℕ → Steps → Procedure
loaded_with width nop s = record {
  nop = nop;
  parameters = replicate 25 0;
  actions = actions_for width nop s;
}

abbrev pub loading : ℕ → Desk → ℕ → ℕ → Steps → Outcome
loading width d id nop s =
    cond (is_procedure id)
    (cond (runs d id) (failed d IllegalLoad id)
    (cond (nat_lt 25 nop) (failed d TooManyParameters nop)
    (cond (first_bad width nop 1 (steps_in s) == 0) (good (with_procedure d id (Some (loaded_with width nop s))))
    (failed d InvalidStep (first_bad width nop 1 (steps_in s))))))
    (failed d InvalidProcedure id)

abbrev pub deleting : Desk → ℕ → Outcome
deleting d id =
    cond (is_procedure id)
    (cond (is_some (procedure_at d id)) (cond (runs d id) (failed d RunningProcedure id) (good (with_procedure d id None)))
    (failed d EmptyProcedure id))
    (failed d InvalidProcedure id)

-- the parameters after settings written in turn, and the first parameter ID that is not one, if any
pub record Written : Type 0 where
  pub parameters : List ℕ
  pub illegal : Option ℕ

unfoldable pub written_to : ℕ → List ℕ → List Setting → Written
written_to nop parameters [] = record { parameters = parameters; illegal = None }
written_to nop parameters (s ∷ settings) =
    cond (nat_le 1 s.id && nat_le s.id nop) (written_to nop (slice_set parameters (s.id - 1) s.value) settings)
    (record { parameters = parameters; illegal = Some s.id })

abbrev pub settings_in : Settings → List Setting
settings_in s = take s.count s.items

abbrev pub with_parameters : Procedure → List ℕ → Procedure
with_parameters p parameters = record { nop = p.nop; parameters = parameters; actions = p.actions }

abbrev pub illegal_fault : Option ℕ → Option Fault
illegal_fault None = None
illegal_fault (Some id) = Some (fault_of IllegalParameterId id)

-- settings of a loaded procedure: too many are not written at all, those before an illegal one stay written
abbrev pub writing : Desk → ℕ → Procedure → Settings → Outcome
writing d id p s =
    cond (nat_lt p.nop s.count) (failed d TooManyParameters s.count)
    (record {
      desk = with_procedure d id (Some (with_parameters p (written_to p.nop p.parameters (settings_in s)).parameters));
      fault = illegal_fault (written_to p.nop p.parameters (settings_in s)).illegal;
    })

abbrev pub setting_loaded : Option Procedure → Desk → ℕ → Settings → Outcome
setting_loaded None d id s = failed d EmptyProcedure id
setting_loaded (Some p) d id s = writing d id p s

abbrev pub setting_parameters : Desk → ℕ → Settings → Outcome
setting_parameters d id s = cond (is_procedure id) (setting_loaded (procedure_at d id) d id s) (failed d InvalidProcedure id)

abbrev pub starting_loaded : Option Procedure → Desk → ℕ → Settings → Outcome
starting_loaded None d id s = failed d EmptyProcedure id
starting_loaded (Some p) d id s = cond (is_some d.run) (failed d RunningProcedure (id_of d.run)) (writing d id p s)

abbrev pub starting : Desk → ℕ → Settings → Outcome
starting d id s = cond (is_procedure id) (starting_loaded (procedure_at d id) d id s) (failed d InvalidProcedure id)

-- a run before its first step
abbrev pub new_run : ℕ → ℕ → Run
new_run id n = record { id = id; number = n; step = 0; sent = 0; state = Ready 0 }

-- a start that began is reported and runs; one that failed is settled
abbrev pub begun : Option Fault → ℕ → ℕ → Desk → Desk
begun None id n d = reported (with_run d (Some (new_run id n))) n Started
begun (Some f) id n d = settled n (Some f) d
