-- Worked cases of the machine, over the bench's kinds or over any machine.
use Rattle.std.specs.Prelude.{◌≡◌, ℕ, ◌+◌, ◌<◌, false, List, [], ◌∷◌, ◌++◌, length, take, replicate, Some, None, Ok, Err, Option}
use Rattle.links.specs.Meaning.{LinkKind, idle}
use Rattle.links.specs.Processors.{processor_kind}
use Rattle.links.specs.Wires.{wire_kind}
use Rattle.octets.specs.Words.{word_at}
use Rattle.records.specs.declared.fault.FaultKind.TheVariants.{UnitStopped, IllegalParameterId, ProcedureStopped, NoAck}
use Rattle.records.specs.declared.refusal.Refusal.TheVariants.{Short, Long, Length, Full, NobodyWaits}
use Rattle.records.specs.declared.report.Report.{Report}
use Rattle.records.specs.declared.report.Stage.{Stage}
use Rattle.records.specs.declared.report.Stage.TheVariants.{Started, Done, Failed}
use Rattle.records.specs.Faults.{fault_of, nack_fault, at_step}
use Rattle.telecommands.specs.declared.packet.Packet.{Packet}
use Rattle.telecommands.specs.Packets.{read_packet}
use Rattle.watches.specs.Kinds.{nothing_seen, still_kind, moving_kind, band_kind}
use Rattle.watches.specs.Meaning.{WatchKind}
use Rattle.watches.specs.Pairs.{pair_kind}
use Rattle.machine.specs.declared.state.Procedure.{Procedure}
use Rattle.machine.specs.Calls.{Call, submit, deliver, tick, collect, after_all, made}
use Rattle.machine.specs.Desks.{procedure_at}
use Rattle.machine.specs.Machine.{Machine, quiet, free, submit_answer, deliver_answer}
use Rattle.machine.specs.Runs.{New}

-- the bench: a wire, two processors of delay 0; Still, Moving, and Band 100 to 200
abbrev pub bench_watch : WatchKind
bench_watch = pair_kind still_kind (pair_kind moving_kind band_kind)

abbrev pub bench : Machine wire_kind processor_kind processor_kind bench_watch
bench =
    made wire_kind processor_kind processor_kind bench_watch (idle 0) (record { delay = 0; taken = 0; held = None; polls = 0 })
    (record { delay = 0; taken = 0; held = None; polls = 0 })
    (nothing_seen, (nothing_seen, record { lowest = 100; highest = 200; trouble = false }))

-- sets link 0 on
abbrev pub switch_on0 : List ℕ
switch_on0 = 0x1C ∷ 0x80 ∷ 0xC0 ∷ 0x01 ∷ 0x00 ∷ 0x0D ∷ 0x01 ∷ 0x08 ∷ 0x04 ∷ 0x00 ∷ 0x64 ∷ 0x01 ∷ 0x00 ∷ 0x00 ∷ 0x00 ∷ 0x00 ∷ 0x00 ∷ 0x01 ∷ 0x01 ∷ 0xFE ∷ []

-- sets link 1 on
abbrev pub switch_on1 : List ℕ
switch_on1 = 0x1C ∷ 0x80 ∷ 0xC0 ∷ 0x01 ∷ 0x00 ∷ 0x0D ∷ 0x01 ∷ 0x08 ∷ 0x04 ∷ 0x00 ∷ 0x64 ∷ 0x01 ∷ 0x00 ∷ 0x01 ∷ 0x00 ∷ 0x00 ∷ 0x00 ∷ 0x01 ∷ 0xAB ∷ 0xAF ∷ []

-- a trigger to function ID 1, link 0: command 0x21, SID 5, parameter 100
abbrev pub trigger1 : List ℕ
trigger1 = 0x1C ∷ 0x80 ∷ 0xC0 ∷ 0x01 ∷ 0x00 ∷ 0x0D ∷ 0x01 ∷ 0x08 ∷ 0x04 ∷ 0x00 ∷ 0x01 ∷ 0x21 ∷ 0x00 ∷ 0x05 ∷ 0x00 ∷ 0x00 ∷ 0x00 ∷ 0x64 ∷ 0xB5 ∷ 0x5A ∷ []

-- a trigger to function ID 2, link 1: command 7
abbrev pub trigger2 : List ℕ
trigger2 = 0x1C ∷ 0x80 ∷ 0xC0 ∷ 0x01 ∷ 0x00 ∷ 0x0D ∷ 0x01 ∷ 0x08 ∷ 0x04 ∷ 0x00 ∷ 0x02 ∷ 0x07 ∷ 0x00 ∷ 0x00 ∷ 0x00 ∷ 0x00 ∷ 0x00 ∷ 0x00 ∷ 0xBD ∷ 0x89 ∷ []

-- loads procedure 3 with three parameters and a wait
abbrev pub load_three : List ℕ
load_three = 0x1C ∷ 0x80 ∷ 0xC0 ∷ 0x01 ∷ 0x00 ∷ 0x11 ∷ 0x01 ∷ 0x12 ∷ 0x01 ∷ 0x00 ∷ 0x00 ∷ 0x03 ∷ 0x00 ∷ 0x03 ∷ 0x02 ∷ 0x00 ∷ 0x00 ∷ 0x09 ∷ 0x00 ∷ 0x00 ∷ 0x00 ∷ 0x00 ∷ 0x48 ∷ 0xE4 ∷ []

-- sets its parameters to 5, 6, 7
abbrev pub set_three : List ℕ
set_three = 0x1C ∷ 0x80 ∷ 0xC0 ∷ 0x01 ∷ 0x00 ∷ 0x1B ∷ 0x01 ∷ 0x12 ∷ 0x07 ∷ 0x00 ∷ 0x00 ∷ 0x03 ∷ 0x00 ∷ 0x03 ∷ 0x00 ∷ 0x01 ∷ 0x00 ∷ 0x00 ∷ 0x00 ∷ 0x05 ∷ 0x00 ∷ 0x02 ∷ 0x00 ∷ 0x00 ∷ 0x00 ∷ 0x06 ∷ 0x00 ∷ 0x03 ∷ 0x00 ∷ 0x00 ∷ 0x00 ∷ 0x07 ∷ 0x66 ∷ 0xAA ∷ []

-- starts it with (1,100), (22,101), (3,102)
abbrev pub start_three : List ℕ
start_three = 0x1C ∷ 0x80 ∷ 0xC0 ∷ 0x01 ∷ 0x00 ∷ 0x1B ∷ 0x01 ∷ 0x12 ∷ 0x03 ∷ 0x00 ∷ 0x00 ∷ 0x03 ∷ 0x00 ∷ 0x03 ∷ 0x00 ∷ 0x01 ∷ 0x00 ∷ 0x00 ∷ 0x00 ∷ 0x64 ∷ 0x00 ∷ 0x16 ∷ 0x00 ∷ 0x00 ∷ 0x00 ∷ 0x65 ∷ 0x00 ∷ 0x03 ∷ 0x00 ∷ 0x00 ∷ 0x00 ∷ 0x66 ∷ 0x9B ∷ 0x18 ∷ []

-- loads procedure 4, a lone SEND to link 0
abbrev pub load_send : List ℕ
load_send = 0x1C ∷ 0x80 ∷ 0xC0 ∷ 0x01 ∷ 0x00 ∷ 0x11 ∷ 0x01 ∷ 0x12 ∷ 0x01 ∷ 0x00 ∷ 0x00 ∷ 0x04 ∷ 0x00 ∷ 0x00 ∷ 0x01 ∷ 0x00 ∷ 0x00 ∷ 0x21 ∷ 0x00 ∷ 0x05 ∷ 0x00 ∷ 0x00 ∷ 0x65 ∷ 0x01 ∷ []

-- starts it
abbrev pub start_send : List ℕ
start_send = 0x1C ∷ 0x80 ∷ 0xC0 ∷ 0x01 ∷ 0x00 ∷ 0x09 ∷ 0x01 ∷ 0x12 ∷ 0x03 ∷ 0x00 ∷ 0x00 ∷ 0x04 ∷ 0x00 ∷ 0x00 ∷ 0xA3 ∷ 0xEC ∷ []

-- stops whichever procedure runs
abbrev pub stop_any : List ℕ
stop_any = 0x1C ∷ 0x80 ∷ 0xC0 ∷ 0x01 ∷ 0x00 ∷ 0x07 ∷ 0x01 ∷ 0x12 ∷ 0x04 ∷ 0x00 ∷ 0x00 ∷ 0x00 ∷ 0x87 ∷ 0xBE ∷ []

-- a report of a number
abbrev pub told : ℕ → Stage → Report
told n stage = record { number = n; stage = stage }

-- the reports that wait after some calls on the bench, oldest first
abbrev reports_after : List Call → List Report
reports_after calls = (after_all bench calls).desk.log.reports

abbrev pub ticks : ℕ → List Call
ticks n = replicate n tick

abbrev parameters_of : Option Procedure → List ℕ
parameters_of None = []
parameters_of (Some p) = take p.nop p.parameters

-- the wire is on, a trigger to it was taken, and what was reported so far is collected
abbrev pub triggered : List Call
triggered = submit switch_on0 ∷ submit switch_on1 ∷ submit trigger1 ∷ collect ∷ collect ∷ collect ∷ []

-- a run of the procedure that waits for link 0, stopped
abbrev pub calls_stopped_while_sent : List Call
calls_stopped_while_sent = submit switch_on0 ∷ submit load_send ∷ submit start_send ∷ tick ∷ submit stop_any ∷ []

pub record BenchCases : Type 0 where
  -- fresh, all links are off
  pub trigger_to_an_off_link : reports_after (submit trigger1 ∷ []) ≡ told 1 (Failed 0 (fault_of UnitStopped 0)) ∷ []
  -- twenty ticks without a reply
  pub unanswered : reports_after (triggered ++ ticks 20) ≡ told 3 (Failed 1 (fault_of NoAck 0)) ∷ []
  -- a reply that the twentieth tick polls is in time, not too late
  pub answered_in_the_last_tick : reports_after (triggered ++ ticks 19 ++ deliver 0 (0x00 ∷ 0x84 ∷ []) ∷ tick ∷ []) ≡ told 3 (Done 1) ∷ []
  pub nothing_after_nineteen : reports_after (triggered ++ ticks 19) ≡ []
  -- a NACK's code and detail are reported, and the stopped link blocks the others too, not only itself
  pub turned_down :
      reports_after (triggered ++ deliver 0 (0x00 ∷ 0xF4 ∷ 0x00 ∷ 0xA7 ∷ 0x00 ∷ 0x00 ∷ 0x00 ∷ 0x22 ∷ []) ∷ tick ∷ submit trigger2 ∷ [])
      ≡ told 3 (Failed 1 (nack_fault 0 0x00A7 34)) ∷ told 4 (Failed 0 (fault_of UnitStopped 1)) ∷ []
  -- a start that failed at an illegal parameter has written those before it
  pub illegal_parameter :
      reports_after (submit load_three ∷ submit set_three ∷ submit start_three ∷ [])
      ≡ told 1 (Done 0) ∷ told 2 (Done 0) ∷ told 3 (Failed 0 (fault_of IllegalParameterId 22)) ∷ []
  pub parameters_written : parameters_of (procedure_at (after_all bench (submit load_three ∷ submit set_three ∷ submit start_three ∷ [])).desk 3) ≡ 100 ∷ 6 ∷ 7 ∷ []
  -- the run's final report, then the stop's own
  pub stopped_while_sent :
      reports_after (submit switch_on0 ∷ submit load_send ∷ submit start_send ∷ tick ∷ submit stop_any ∷ [])
      ≡ told 1 (Done 0) ∷ told 2 (Done 0) ∷ told 3 Started ∷ told 3 (Failed 1 (at_step 1 (fault_of ProcedureStopped 4))) ∷ told 4 (Done 0) ∷ []

pub record MoreBenchCases : Type 0 where
  -- runs begin at the bench
  pub is_new : New bench
  -- the command was withdrawn, so a reply that comes late finds nobody waiting
  pub late_reply : deliver_answer (after_all bench calls_stopped_while_sent) 0 (0x00 ∷ 0x84 ∷ []) ≡ quiet (Err (NobodyWaits 0))

-- Over any machine.
pub record AnyMachineCases (K0 K1 K2 : LinkKind) (W : WatchKind) : Type 0 where
  pub eleven_bytes : (m : Machine K0 K1 K2 W) (bytes : List ℕ) → length bytes ≡ 11 → submit_answer m bytes ≡ quiet (Err (Short 11))
  pub bytes_249 : (m : Machine K0 K1 K2 W) (bytes : List ℕ) → length bytes ≡ 249 → submit_answer m bytes ≡ quiet (Err (Long 249))
  pub twelve_that_say_eleven : (m : Machine K0 K1 K2 W) (bytes : List ℕ) → length bytes ≡ 12 → word_at bytes 4 ≡ 4
      → submit_answer m bytes ≡ quiet (Err (Length 4))
  pub free_2_accepts : (m : Machine K0 K1 K2 W) (bytes : List ℕ) (packet : Packet) → read_packet bytes ≡ Ok packet
      → m.desk.log.accepted < 1000000 → free m ≡ 2 → submit_answer m bytes ≡ quiet (Ok (m.desk.log.accepted + 1))
  pub free_1_refuses : (m : Machine K0 K1 K2 W) (bytes : List ℕ) (packet : Packet) → read_packet bytes ≡ Ok packet
      → m.desk.log.accepted < 1000000 → free m ≡ 1 → submit_answer m bytes ≡ quiet (Err (Full 1))
