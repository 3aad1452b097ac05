-- Submit: its answer, and what each telecommand does.
use Rattle.std.specs.Prelude.{ℕ, ◌+◌, ◌-◌, cond, ◌&&◌, ◌||◌, List, Some, None, Ok, Err, Option, Result, ◌==◌, nat_le, nat_lt}
use Rattle.links.specs.declared.answers.OfferRefusal.{OfferRefusal}
use Rattle.links.specs.Meaning.{LinkKind, offer_answer}
use Rattle.records.specs.declared.command.Command.{Command}
use Rattle.records.specs.declared.fault.FaultKind.TheVariants.{InvalidFunction, UnitStopped, InvalidProcedure, ProcedureStopped}
use Rattle.records.specs.declared.refusal.Refusal.{Refusal}
use Rattle.records.specs.declared.refusal.Refusal.TheVariants.{Worn, Full}
use Rattle.records.specs.declared.report.Stage.TheVariants.{Started}
use Rattle.records.specs.Faults.{fault_of}
use Rattle.telecommands.specs.declared.packet.Packet.{Packet}
use Rattle.telecommands.specs.declared.packet.Telecommand.{Telecommand}
use Rattle.telecommands.specs.declared.packet.Telecommand.TheVariants.{Test, Perform, Load, Delete, Start, Stop, Set}
use Rattle.telecommands.specs.Packets.{read_packet}
use Rattle.watches.specs.Meaning.{WatchKind}
use Rattle.machine.specs.declared.state.Owner.TheVariants as owner
use Rattle.machine.specs.declared.state.Run.{Run}
use Rattle.machine.specs.declared.state.RunState.{RunState}
use Rattle.machine.specs.declared.state.RunState.TheVariants.{Ready, Sent}
use Rattle.machine.specs.Desks.{numbered, with_log, reported, is_blocked, settled, failed_run}
use Rattle.machine.specs.Procedures.{Outcome, setting, loading, deleting, setting_parameters, starting, begun}
use Rattle.machine.specs.Parts.{offer_fault, quiet, Answer}
use Rattle.machine.specs.Executive.{with_desk, means_at, offered_at, abandoned_at, free, width_of, Machine}

module _ {K0 K1 K2 : LinkKind} {W : WatchKind} where
  -- an offer for a telecommand, by its answer
  abbrev pub triggered_by : Result (Unit {0}) OfferRefusal → Machine K0 K1 K2 W → ℕ → ℕ → Command → Machine K0 K1 K2 W
  triggered_by (Ok u) m n link c = with_desk (offered_at m link c (owner.Telecommand n)) (reported m.desk n Started)
  triggered_by (Err refusal) m n link c =
      with_desk (offered_at m link c (owner.Telecommand n)) (settled n (Some (fault_of (offer_fault refusal) link)) m.desk)

  abbrev pub triggered : Machine K0 K1 K2 W → ℕ → ℕ → Command → Machine K0 K1 K2 W
  triggered m n link c =
      cond (is_blocked m.desk link) (with_desk m (settled n (Some (fault_of UnitStopped link)) m.desk))
      (triggered_by (offer_answer (means_at m link)) m n link c)

  -- function IDs 1 to 3 are the links; 100 sets links' statuses and switches watched functions
  abbrev pub performed : Machine K0 K1 K2 W → ℕ → ℕ → ℕ → ℕ → ℕ → Machine K0 K1 K2 W
  performed m n function activity sid value =
      cond (nat_le 1 function && nat_le function 3) (triggered m n (function - 1) (record { id = activity; sid = sid; parameter = value }))
      (cond (function == 100) (with_desk m (settled n (setting (width_of m) m.desk activity sid value).fault (setting (width_of m) m.desk activity sid value).desk))
      (with_desk m (settled n (Some (fault_of InvalidFunction function)) m.desk)))

  -- the run's command, if a link holds one, is abandoned
  abbrev pub withdrawn : RunState → Machine K0 K1 K2 W → Machine K0 K1 K2 W
  withdrawn (Ready spent) m = m
  withdrawn (Sent link) m = abandoned_at m link

  abbrev pub stopped_run : Run → Machine K0 K1 K2 W → Machine K0 K1 K2 W
  stopped_run r m = with_desk (withdrawn r.state m) (failed_run (Some r) (fault_of ProcedureStopped r.id) m.desk)

  -- 0 stops whichever runs
  abbrev pub stopping : Option Run → ℕ → Machine K0 K1 K2 W → Machine K0 K1 K2 W
  stopping None id m = m
  stopping (Some r) id m = cond (id == 0 || id == r.id) (stopped_run r m) m

  abbrev pub done : ℕ → Machine K0 K1 K2 W → Machine K0 K1 K2 W
  done n m = with_desk m (settled n None m.desk)

  abbrev pub stopped : Machine K0 K1 K2 W → ℕ → ℕ → Machine K0 K1 K2 W
  stopped m n id =
      cond (nat_lt 16 id) (with_desk m (settled n (Some (fault_of InvalidProcedure id)) m.desk)) (done n (stopping m.desk.run id m))

  abbrev pub outcome_of : Machine K0 K1 K2 W → ℕ → Outcome → Machine K0 K1 K2 W
  outcome_of m n o = with_desk m (settled n o.fault o.desk)

  -- what each telecommand does, under its accepted number
  abbrev pub carried_out : Telecommand → ℕ → Machine K0 K1 K2 W → Machine K0 K1 K2 W
  carried_out Test n m = done n m
  carried_out (Perform function activity sid value) n m = performed m n function activity sid value
  carried_out (Load id nop steps) n m = outcome_of m n (loading (width_of m) m.desk id nop steps)
  carried_out (Delete id) n m = outcome_of m n (deleting m.desk id)
  carried_out (Start id settings) n m =
      with_desk m (begun (starting m.desk id settings).fault id n (starting m.desk id settings).desk)
  carried_out (Stop id) n m = stopped m n id
  carried_out (Set id settings) n m = outcome_of m n (setting_parameters m.desk id settings)

  -- one more accepted
  abbrev pub numbered_in : Machine K0 K1 K2 W → Machine K0 K1 K2 W
  numbered_in m = with_desk m (with_log m.desk (numbered m.desk.log))

  abbrev pub acceptance : Machine K0 K1 K2 W → Result Packet Refusal → Result ℕ Refusal
  acceptance m (Err refusal) = Err refusal
  acceptance m (Ok packet) =
      cond (nat_le 1000000 m.desk.log.accepted) (Err Worn) (cond (nat_lt (free m) 2) (Err (Full (free m))) (Ok (m.desk.log.accepted + 1)))

  abbrev pub submit_answer : Machine K0 K1 K2 W → List ℕ → Answer (Result ℕ Refusal)
  submit_answer m bytes = quiet (acceptance m (read_packet bytes))

  abbrev pub submitted_by : Result ℕ Refusal → Result Packet Refusal → Machine K0 K1 K2 W → Machine K0 K1 K2 W
  submitted_by (Err refusal) read m = m
  submitted_by (Ok n) (Err refusal) m = m
  submitted_by (Ok n) (Ok packet) m = carried_out packet.telecommand n (numbered_in m)

  abbrev pub after_submit : Machine K0 K1 K2 W → List ℕ → Machine K0 K1 K2 W
  after_submit m bytes = submitted_by (acceptance m (read_packet bytes)) (read_packet bytes) m
