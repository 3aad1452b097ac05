-- Worked cases: lists of calls on the bench with their answers.
use Rattle.std.specs.Prelude.{◌≡◌, ℕ, List, [], ◌∷◌, ◌++◌, replicate, Ok, Err}
use Rattle.links.specs.declared.answers.Receipt.TheVariants.{Kept}
use Rattle.machine.specs.Parts as out
use Rattle.machine.specs.Calls.{Told}
use Rattle.machine.specs.Calls.{submitted, delivered, ticked, collected}
use Rattle.machine.specs.Calls.{Call, submit, deliver, tick, collect}
use Rattle.machine.specs.Cases.{trigger1, trigger2, load_three, set_three, start_three, told, ticks, triggered, calls_stopped_while_sent}
use Rattle.machine.specs.Parts.{Answer, quiet}
use Rattle.records.specs.declared.event.EventKind.{EventKind}
use Rattle.records.specs.declared.event.EventKind.TheVariants.{Nack, NoAck}
use Rattle.records.specs.declared.fault.FaultKind.TheVariants as fault
use Rattle.records.specs.declared.refusal.Refusal.TheVariants.{NobodyWaits}
use Rattle.records.specs.declared.report.Stage.{Stage}
use Rattle.records.specs.declared.report.Stage.TheVariants.{Started, Done, Failed}
use Rattle.records.specs.Faults.{fault_of, nack_fault, at_step}

abbrev accepted : ℕ → Answer Told
accepted n = quiet (submitted (Ok n))

abbrev quiet_tick : Answer Told
quiet_tick = quiet ticked

-- a tick that raised one event
abbrev loud_tick : Answer Told
loud_tick = record { outcome = ticked; raised = 1; lost = 0 }

abbrev reported : ℕ → Stage → Answer Told
reported n stage = quiet (collected (out.report (told n stage)))

abbrev event_of : EventKind → ℕ → ℕ → Answer Told
event_of kind place value = quiet (collected (out.event (record { kind = kind; place = place; value = value })))

abbrev collects : ℕ → List Call
collects n = replicate n collect

-- the wire on, a trigger to it taken, and its reports so far collected
abbrev trigger_taken : List (Answer Told)
trigger_taken = accepted 1 ∷ accepted 2 ∷ accepted 3 ∷ reported 1 (Done 0) ∷ reported 2 (Done 0) ∷ reported 3 Started ∷ []

-- if the calls of a list were these, its answers were those
pub record AnsweredSo (calls : List Call) (answers : List (Answer Told)) : Type 0 where
  -- fresh, all links are off
  pub trigger_to_an_off_link : calls ≡ submit trigger1 ∷ collect ∷ [] → answers ≡ accepted 1 ∷ reported 1 (Failed 0 (fault_of fault.UnitStopped 0)) ∷ []
  -- twenty ticks without a reply
  pub unanswered : calls ≡ triggered ++ ticks 20 ++ collects 3
      → answers ≡ trigger_taken ++ replicate 19 quiet_tick ++ loud_tick ∷ event_of NoAck 0 0 ∷ reported 3 (Failed 1 (fault_of fault.NoAck 0)) ∷ quiet (collected out.nothing) ∷ []
  -- a reply that the twentieth tick polls is in time
  pub answered_in_the_last_tick : calls ≡ triggered ++ ticks 19 ++ deliver 0 (0x00 ∷ 0x84 ∷ []) ∷ tick ∷ collect ∷ []
      → answers ≡ trigger_taken ++ replicate 19 quiet_tick ++ quiet (delivered (Ok Kept)) ∷ quiet_tick ∷ reported 3 (Done 1) ∷ []
  -- a NACK's code and detail are reported, and the stopped link blocks the others too
  pub turned_down : calls ≡ triggered ++ deliver 0 (0x00 ∷ 0xF4 ∷ 0x00 ∷ 0xA7 ∷ 0x00 ∷ 0x00 ∷ 0x00 ∷ 0x22 ∷ []) ∷ tick ∷ submit trigger2 ∷ collects 3
      → answers ≡ trigger_taken ++ quiet (delivered (Ok Kept)) ∷ loud_tick ∷ accepted 4 ∷ event_of Nack 0 0x00A7 ∷ reported 3 (Failed 1 (nack_fault 0 0x00A7 34))
      ∷ reported 4 (Failed 0 (fault_of fault.UnitStopped 1)) ∷ []
  -- a start that fails at an illegal parameter
  pub illegal_parameter : calls ≡ submit load_three ∷ submit set_three ∷ submit start_three ∷ collects 3
      → answers ≡ accepted 1 ∷ accepted 2 ∷ accepted 3 ∷ reported 1 (Done 0) ∷ reported 2 (Done 0) ∷ reported 3 (Failed 0 (fault_of fault.IllegalParameterId 22)) ∷ []
  -- the run's final report, then the stop's own; a reply that comes late finds nobody waiting
  pub stopped_while_sent : calls ≡ calls_stopped_while_sent ++ deliver 0 (0x00 ∷ 0x84 ∷ []) ∷ collects 5
      → answers ≡ accepted 1 ∷ accepted 2 ∷ accepted 3 ∷ quiet_tick ∷ accepted 4 ∷ quiet (delivered (Err (NobodyWaits 0))) ∷ reported 1 (Done 0) ∷ reported 2 (Done 0)
      ∷ reported 3 Started ∷ reported 3 (Failed 1 (at_step 1 (fault_of fault.ProcedureStopped 4))) ∷ reported 4 (Done 0) ∷ []
