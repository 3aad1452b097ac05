-- A number is reported STARTED at most once: only by the call that gave it.
use Rattle.std.proofs.Common.{◌≡◌, ℕ, ◌+◌, ◌-◌, ◌≤◌, min, cond, ◌&&◌, ◌||◌, eqb, ltb, leb, List, [], ◌∷◌, ◌++◌, length, is_some, Some, None, Ok, Err, Option, Result, sym, refl, ap, subst, arith}
use Rattle.std.proofs.lemmas.List.Sums.{sum_by-append, sum_by-cons, sum_by_push}
use Rattle.std.proofs.lemmas.Bool.{cond_both}
use Rattle.links.specs.declared.answers.OfferRefusal.{OfferRefusal}
use Rattle.links.specs.Meaning.{LinkKind, offer_answer}
use Rattle.records.specs.declared.command.Command.{Command}
use Rattle.records.specs.declared.command.Reply.{Reply}
use Rattle.records.specs.declared.command.Reply.TheVariants.{Ack, Nack, Odd}
use Rattle.records.specs.declared.event.Event.{Event}
use Rattle.records.specs.declared.event.EventKind.TheVariants as event
use Rattle.records.specs.declared.fault.Fault.{Fault}
use Rattle.records.specs.declared.fault.FaultKind.TheVariants as fault
use Rattle.records.specs.declared.refusal.Refusal.{Refusal}
use Rattle.records.specs.declared.report.Report.{Report}
use Rattle.records.specs.declared.report.Stage.{Stage}
use Rattle.records.specs.declared.report.Stage.TheVariants.{Started, Done, Failed}
use Rattle.records.specs.Faults.{fault_of, nack_fault, at_step}
use Rattle.telecommands.specs.declared.packet.Packet.{Packet}
use Rattle.telecommands.specs.declared.packet.Telecommand.{Telecommand}
use Rattle.telecommands.specs.declared.packet.Telecommand.TheVariants.{Test, Perform, Load, Delete, Start, Stop, Set}
use Rattle.telecommands.specs.Packets.{read_packet}
use Rattle.watches.specs.Meaning.{WatchKind}
use Rattle.machine.specs.Calls.{Told}
use Rattle.machine.specs.declared.state.Action.{Action}
use Rattle.machine.specs.declared.state.Action.TheVariants.{Wait, Send, Expect}
use Rattle.machine.specs.declared.state.Hold.{Hold}
use Rattle.machine.specs.declared.state.LinkStatus.TheVariants.{Stopped}
use Rattle.machine.specs.declared.state.Owner.{Owner}
use Rattle.machine.specs.declared.state.Owner.TheVariants as owner
use Rattle.machine.specs.declared.state.Run.{Run}
use Rattle.machine.specs.declared.state.RunState.{RunState}
use Rattle.machine.specs.declared.state.RunState.TheVariants.{Ready, Sent}
use Rattle.machine.specs.Balance.{view_of, all_reports, accepted_as}
use Rattle.machine.specs.Calls.{Call, submit, deliver, tick, sample, collect, answer_to, after}
use Rattle.machine.specs.Desks.{Log, Desk, with_run, with_status, reported, raised_on, is_blocked, procedure_at, settled, steps_of, failed_run, passed}
use Rattle.machine.specs.Machine.{Machine, Answer, collected_from, handed, spent_on, action_at, offer_fault, parameter_of, with_desk, with_seats, means_at, received_at, width_of, triggered_by, triggered, performed, stopped_run, stopping, done, stopped, outcome_of, carried_out, numbered_in, acceptance, submitted_by, sent_by, stepped, stepped_in, stepped_run, turn0, turn1, turn2, changes, trouble_after, sample_refusal, after_sample_by}
use Rattle.machine.specs.Procedures.{Outcome, setting, loading, deleting, setting_parameters, starting, new_run, begun}
use Rattle.machine.specs.Runs.{History, number_by, numbers_in, report_by, accepted_in, collected_in}
use Rattle.machine.specs.Seats.{Seat, Ending, acknowledged, broken, answered_run, answered_procedure, ended_for, ended, link_event, Turn, older, age_of, loudly, polled_turn, turn, seat_received}
use Rattle.machine.specs.Written.{is_started, started_of, StartedOnce}
use Rattle.machine.proofs.Counting.{bit, times_in, zero_either}
use Rattle.machine.proofs.Submitting.{Same, setting_same, loading_same, deleting_same, parameters_same, starting_free}

-- no more STARTEDs of a number than before
abbrev Starts : ℕ → Desk → Desk → Type 0
Starts n d e = started_of n e.log.reports ≤ started_of n d.log.reports

-- no more than before, but one for the number that is given
abbrev StartsAs : ℕ → ℕ → Desk → Desk → Type 0
StartsAs j n d e = started_of n e.log.reports ≤ started_of n d.log.reports + bit (eqb j n)

filed : (n : ℕ) (d : Desk) (j : ℕ) (stage : Stage)
    → started_of n (reported d j stage).log.reports ≤ started_of n d.log.reports + cond (eqb j n) (is_started stage) 0
filed n d j stage =
    let F : Report → ℕ = λ r. cond (eqb r.number n) (is_started r.stage) 0 in
    let xs = d.log.reports in
    let x : Report = record { number = j; stage = stage } in
    cond_both (ltb (length xs) 400) (xs ++ x ∷ []) xs (λ (ys : List Report). started_of n ys ≤ started_of n xs + F x)
    (λ e. omega (arith, sum_by_push F xs x)) (λ e. omega arith)

done_starts : (n : ℕ) (d : Desk) (j sent : ℕ) → Starts n d (reported d j (Done sent))
done_starts n d j sent = omega (arith, filed n d j (Done sent), zero_either (eqb j n))

failed_starts : (n : ℕ) (d : Desk) (j sent : ℕ) (f : Fault) → Starts n d (reported d j (Failed sent f))
failed_starts n d j sent f = omega (arith, filed n d j (Failed sent f), zero_either (eqb j n))

settled_starts : (n j : ℕ) (f : Option Fault) (d : Desk) → Starts n d (settled j f d)
settled_starts n j None d = done_starts n d j 0
settled_starts n j (Some f) d = failed_starts n d j 0 f

begun_starts : (n : ℕ) (f : Option Fault) (id j : ℕ) (d : Desk) → StartsAs j n d (begun f id j d)
begun_starts n None id j d = filed n (with_run d (Some (new_run id j))) j Started
begun_starts n (Some f) id j d = omega (arith, settled_starts n j (Some f) d)

ended_run : (n : ℕ) (r : Run) (f : Fault) (d : Desk) → Starts n d (failed_run (Some r) f d)
ended_run n r f d = failed_starts n (with_run d None) r.number r.sent (at_step (min (r.step + 1) 255) f)

passed_starts : (n : ℕ) (r : Run) (d : Desk) → Starts n d (passed r d)
passed_starts n r d =
    let next : Run = record { id = r.id; number = r.number; step = r.step + 1; sent = r.sent; state = Ready 0 } in
    cond_both (ltb (r.step + 1) (steps_of (procedure_at d r.id))) (with_run d (Some next)) (reported (with_run d None) r.number (Done r.sent)) (Starts n d)
    (λ t. omega arith)
    (λ t. done_starts n (with_run d None) r.number r.sent)

answered_starts : (n : ℕ) (s : RunState) (x : Ending) (r : Run) (d : Desk) → Starts n d (answered_run s x r d)
answered_starts n (Ready spent) x r d = omega arith
answered_starts n (Sent link) acknowledged r d = passed_starts n r d
answered_starts n (Sent link) (broken f) r d = ended_run n r f d

procedure_starts : (n : ℕ) (run : Option Run) (x : Ending) (d : Desk) → Starts n d (answered_procedure run x d)
procedure_starts n None x d = omega arith
procedure_starts n (Some r) x d = answered_starts n r.state x r d

ended_for_each : (n : ℕ) (o : Owner) (x : Ending) (d : Desk) → Starts n d (ended_for o x d)
ended_for_each n (owner.Telecommand j) acknowledged d = done_starts n d j 1
ended_for_each n (owner.Telecommand j) (broken f) d = failed_starts n d j 1 f
ended_for_each n owner.Procedure x d = procedure_starts n d.run x d

ended_starts : (n : ℕ) (h : Option Hold) (x : Ending) (d : Desk) → Starts n d (ended h x d)
ended_starts n None x d = omega arith
ended_starts n (Some h) x d = ended_for_each n h.owner x d

module _ {K : LinkKind} where
  polled_starts : (n : ℕ) (due : Option Reply) (place : ℕ) (s : Seat K) (d : Desk) → Starts n d (polled_turn due place s d).desk
  polled_starts n (Some Ack) place s d = ended_starts n s.hold acknowledged d
  polled_starts n (Some (Nack code detail)) place s d =
      ended_starts n s.hold (broken (nack_fault place code detail)) (raised_on (with_status d place Stopped) (link_event event.Nack place code))
  polled_starts n (Some Odd) place s d = ended_starts n s.hold (broken (fault_of fault.Odd place)) (raised_on d (link_event event.Odd place 0))
  polled_starts n None place s d =
      cond_both (ltb (age_of s.hold + 1) K.limit)
      (record { seat = record { link = K.polled s.link; hold = older s.hold }; desk = d; raised = 0; lost = 0 })
      (loudly (K.abandoned (K.polled s.link)) s.hold (link_event event.NoAck place 0) (fault_of fault.NoAck place) d)
      (λ (t : Turn K). Starts n d t.desk)
      (λ t. omega arith)
      (λ t. ended_starts n s.hold (broken (fault_of fault.NoAck place)) (raised_on d (link_event event.NoAck place 0)))

  turn_starts : (n place : ℕ) (s : Seat K) (d : Desk) → Starts n d (turn place s d).desk
  turn_starts n place s d =
      cond_both (is_some (K.means s.link).held) (polled_turn (K.means s.link).due place s d) (record { seat = s; desk = d; raised = 0; lost = 0 })
      (λ (t : Turn K). Starts n d t.desk)
      (λ t. polled_starts n (K.means s.link).due place s d)
      (λ t. omega arith)

-- what collect hands out is counted with what was collected
collected_starts : (n : ℕ) (events : List Event) (reports : List Report) (h : History) (l : Log) → l.reports ≡ reports
    → started_of n ((report_by (handed events reports) ++ collected_in h) ++ (collected_from events reports l).reports) ≤ started_of n (collected_in h ++ l.reports)
collected_starts n (e ∷ events) reports h l are = omega arith
collected_starts n [] (r ∷ reports) h l are =
    let F : Report → ℕ = λ x. cond (eqb x.number n) (is_started x.stage) 0 in
    omega (
      arith,
      sum_by-cons F r (collected_in h ++ reports),
      sum_by-append F (collected_in h) reports,
      sum_by-append F (collected_in h) l.reports,
      ap (started_of n) are,
      sum_by-cons F r reports,
    )
collected_starts n [] [] h l are = omega arith

-- what was collected counts the same on both sides
beside : (n : ℕ) (collected before now : List Report) (more : ℕ) → started_of n now ≤ started_of n before + more
    → started_of n (collected ++ now) ≤ started_of n (collected ++ before) + more
beside n collected before now more low =
    let F : Report → ℕ = λ x. cond (eqb x.number n) (is_started x.stage) 0 in
    omega (arith, low, sum_by-append F collected now, sum_by-append F collected before)

module _ {K0 K1 K2 : LinkKind} {W : WatchKind} where
  abbrev On : ℕ → Machine K0 K1 K2 W → Machine K0 K1 K2 W → Type 0
  On n m k = Starts n m.desk k.desk

  abbrev OnAs : ℕ → ℕ → Machine K0 K1 K2 W → Machine K0 K1 K2 W → Type 0
  OnAs j n m k = StartsAs j n m.desk k.desk

  triggered_by_kept : (n : ℕ) (a : Result (Unit {0}) OfferRefusal) (m : Machine K0 K1 K2 W) (j link : ℕ) (c : Command) → OnAs j n m (triggered_by a m j link c)
  triggered_by_kept n (Ok u) m j link c = filed n m.desk j Started
  triggered_by_kept n (Err refusal) m j link c = omega (arith, settled_starts n j (Some (fault_of (offer_fault refusal) link)) m.desk)

  triggered_starts : (n : ℕ) (m : Machine K0 K1 K2 W) (j link : ℕ) (c : Command) → OnAs j n m (triggered m j link c)
  triggered_starts n m j link c =
      cond_both (is_blocked m.desk link) (with_desk m (settled j (Some (fault_of fault.UnitStopped link)) m.desk)) (triggered_by (offer_answer (means_at m link)) m j link c)
      (OnAs j n m)
      (λ t. omega (arith, settled_starts n j (Some (fault_of fault.UnitStopped link)) m.desk))
      (λ t. triggered_by_kept n (offer_answer (means_at m link)) m j link c)

  effect_starts : (n : ℕ) (m : Machine K0 K1 K2 W) (j : ℕ) (o : Outcome) → Same m.desk o → OnAs j n m (outcome_of m j o)
  effect_starts n m j o same = omega (arith, settled_starts n j o.fault o.desk, ap (λ (l : Log). started_of n l.reports) same.log)

  performed_starts : (n : ℕ) (m : Machine K0 K1 K2 W) (j function activity sid value : ℕ) → OnAs j n m (performed m j function activity sid value)
  performed_starts n m j function activity sid value =
      let o = setting (width_of m) m.desk activity sid value in
      let c : Command = record { id = activity; sid = sid; parameter = value } in
      let other = with_desk m (settled j (Some (fault_of fault.InvalidFunction function)) m.desk) in
      cond_both (leb 1 function && leb function 3) (triggered m j (function - 1) c) (cond (eqb function 100) (outcome_of m j o) other) (OnAs j n m)
      (λ t. triggered_starts n m j (function - 1) c)
      (λ t. cond_both (eqb function 100) (outcome_of m j o) other (OnAs j n m)
      (λ u. effect_starts n m j o (setting_same (width_of m) m.desk activity sid value))
      (λ u. omega (arith, settled_starts n j (Some (fault_of fault.InvalidFunction function)) m.desk)))

  stopping_starts : (n : ℕ) (run : Option Run) (m : Machine K0 K1 K2 W) (id : ℕ) → On n m (stopping run id m)
  stopping_starts n None m id = omega arith
  stopping_starts n (Some r) m id =
      cond_both (eqb id 0 || eqb id r.id) (stopped_run r m) m (On n m)
      (λ t. ended_run n r (fault_of fault.ProcedureStopped r.id) m.desk) (λ t. omega arith)

  stopped_starts : (n : ℕ) (m : Machine K0 K1 K2 W) (j id : ℕ) → OnAs j n m (stopped m j id)
  stopped_starts n m j id =
      let after = stopping m.desk.run id m in
      cond_both (ltb 16 id) (with_desk m (settled j (Some (fault_of fault.InvalidProcedure id)) m.desk)) (done j after) (OnAs j n m)
      (λ t. omega (arith, settled_starts n j (Some (fault_of fault.InvalidProcedure id)) m.desk))
      (λ t. omega (arith, stopping_starts n m.desk.run m id, settled_starts n j None after.desk))

  carried_starts : (n : ℕ) (t : Telecommand) (j : ℕ) (m : Machine K0 K1 K2 W) → OnAs j n m (carried_out t j m)
  carried_starts n Test j m = omega (arith, settled_starts n j None m.desk)
  carried_starts n (Perform function activity sid value) j m = performed_starts n m j function activity sid value
  carried_starts n (Load id nop steps) j m = effect_starts n m j (loading (width_of m) m.desk id nop steps) (loading_same (width_of m) m.desk id nop steps)
  carried_starts n (Delete id) j m = effect_starts n m j (deleting m.desk id) (deleting_same m.desk id)
  carried_starts n (Start id settings) j m =
      let o = starting m.desk id settings in
      omega (arith, begun_starts n o.fault id j o.desk, ap (λ (l : Log). started_of n l.reports) (starting_free m.desk id settings).same.log)
  carried_starts n (Stop id) j m = stopped_starts n m j id
  carried_starts n (Set id settings) j m = effect_starts n m j (setting_parameters m.desk id settings) (parameters_same m.desk id settings)

  submitted_starts : (n : ℕ) (a : Result ℕ Refusal) (read : Result Packet Refusal) (m : Machine K0 K1 K2 W)
      → started_of n (submitted_by a read m).desk.log.reports ≤ started_of n m.desk.log.reports + times_in n (number_by a)
  submitted_starts n (Err refusal) read m = omega arith
  submitted_starts n (Ok j) (Err refusal) m = omega arith
  submitted_starts n (Ok j) (Ok packet) m =
      omega (arith, carried_starts n packet.telecommand j (numbered_in m), sum_by-cons (λ (x : ℕ). bit (eqb x n)) j [])

  received_starts : (n : ℕ) (m : Machine K0 K1 K2 W) (link : ℕ) (bytes : List ℕ) → On n m (received_at m link bytes)
  received_starts n m link bytes =
      let a = with_seats m (seat_received bytes m.seat0) m.seat1 m.seat2 in
      let b = with_seats m m.seat0 (seat_received bytes m.seat1) m.seat2 in
      let c = with_seats m m.seat0 m.seat1 (seat_received bytes m.seat2) in
      cond_both (eqb link 0) a (cond (eqb link 1) b c) (On n m) (λ t. omega arith)
      (λ t. cond_both (eqb link 1) b c (On n m) (λ u. omega arith) (λ u. omega arith))

  delivered_starts : (n : ℕ) (m : Machine K0 K1 K2 W) (link : ℕ) (bytes : List ℕ) → On n m (after m (deliver link bytes))
  delivered_starts n m link bytes =
      cond_both (ltb 2 link) m (cond (is_some (means_at m link).held) (received_at m link bytes) m) (On n m)
      (λ t. omega arith)
      (λ t. cond_both (is_some (means_at m link).held) (received_at m link bytes) m (On n m) (λ u. received_starts n m link bytes) (λ u. omega arith))

  sent_by_each : (n : ℕ) (a : Result (Unit {0}) OfferRefusal) (m : Machine K0 K1 K2 W) (r : Run) (link : ℕ) (c : Command) → On n m (sent_by a m r link c)
  sent_by_each n (Ok u) m r link c = omega arith
  sent_by_each n (Err refusal) m r link c = ended_run n r (fault_of (offer_fault refusal) link) m.desk

  stepped_starts : (n : ℕ) (action : Action) (m : Machine K0 K1 K2 W) (r : Run) (spent : ℕ) → On n m (stepped action r spent m)
  stepped_starts n (Wait ticks) m r spent =
      cond_both (ltb spent ticks) (with_run m.desk (Some (spent_on r spent))) (passed r m.desk) (Starts n m.desk)
      (λ t. omega arith) (λ t. passed_starts n r m.desk)
  stepped_starts n (Send link id sid v) m r spent =
      let c : Command = record { id = id; sid = sid; parameter = parameter_of (procedure_at m.desk r.id) v } in
      cond_both (is_blocked m.desk link) (with_desk m (failed_run (Some r) (fault_of fault.UnitStopped link) m.desk)) (sent_by (offer_answer (means_at m link)) m r link c)
      (On n m)
      (λ t. ended_run n r (fault_of fault.UnitStopped link) m.desk)
      (λ t. sent_by_each n (offer_answer (means_at m link)) m r link c)
  stepped_starts n (Expect f) m r spent =
      cond_both (W.trouble m.watch f) (failed_run (Some r) (fault_of fault.ExpectFailed f) m.desk) (passed r m.desk) (Starts n m.desk)
      (λ t. ended_run n r (fault_of fault.ExpectFailed f) m.desk) (λ t. passed_starts n r m.desk)

  stepped_in_each : (n : ℕ) (state : RunState) (m : Machine K0 K1 K2 W) (r : Run) → On n m (stepped_in state r m)
  stepped_in_each n (Ready spent) m r = stepped_starts n (action_at (procedure_at m.desk r.id) r.step) m r spent
  stepped_in_each n (Sent link) m r = omega arith

  step_starts : (n : ℕ) (run : Option Run) (m : Machine K0 K1 K2 W) → On n m (stepped_run run m)
  step_starts n None m = omega arith
  step_starts n (Some r) m = stepped_in_each n r.state m r

  ticked_starts : (n : ℕ) (m : Machine K0 K1 K2 W) → On n m (after m tick)
  ticked_starts n m =
      let turned : Machine K0 K1 K2 W = record { seat0 = (turn0 m).seat; seat1 = (turn1 m).seat; seat2 = (turn2 m).seat; watch = m.watch; desk = (turn2 m).desk } in
      omega (
        arith,
        turn_starts n 0 m.seat0 m.desk,
        turn_starts n 1 m.seat1 (turn0 m).desk,
        turn_starts n 2 m.seat2 (turn1 m).desk,
        step_starts n (turn2 m).desk.run turned,
      )

  sampled_starts : (n : ℕ) (refusal : Option Refusal) (m : Machine K0 K1 K2 W) (f v : ℕ) → On n m (after_sample_by refusal m f v)
  sampled_starts n (Some refusal) m f v = omega arith
  sampled_starts n None m f v =
      let e : Event = record { kind = cond (trouble_after m f v) event.Trouble event.Clear; place = f; value = v } in
      cond_both (changes m f v) (raised_on m.desk e) m.desk (Starts n m.desk) (λ t. omega arith) (λ t. omega arith)

  -- the reports that wait, by the call; collect hands one out
  waiting_starts : (n : ℕ) (h : History) (m : Machine K0 K1 K2 W) (c : Call)
      → started_of n (all_reports (record { call = c; answer = answer_to m c } ∷ h) (view_of (after m c)))
      ≤ started_of n (all_reports h (view_of m)) + times_in n (numbers_in (answer_to m c).outcome)
  waiting_starts n h m (submit bytes) =
      let read = read_packet bytes in
      beside n (collected_in h) m.desk.log.reports (after m (submit bytes)).desk.log.reports (times_in n (number_by (acceptance m read))) (submitted_starts n (acceptance m read) read m)
  waiting_starts n h m (deliver link bytes) =
      beside n (collected_in h) m.desk.log.reports (after m (deliver link bytes)).desk.log.reports 0 (omega (arith, delivered_starts n m link bytes))
  waiting_starts n h m tick = beside n (collected_in h) m.desk.log.reports (after m tick).desk.log.reports 0 (omega (arith, ticked_starts n m))
  waiting_starts n h m (sample f v) =
      beside n (collected_in h) m.desk.log.reports (after m (sample f v)).desk.log.reports 0 (omega (arith, sampled_starts n (sample_refusal m f) m f v))
  waiting_starts n h m collect = omega (arith, collected_starts n m.desk.log.events m.desk.log.reports h m.desk.log refl)

  once_more : (h : History) (m : Machine K0 K1 K2 W) (c : Call) (n : ℕ) → started_of n (all_reports h (view_of m)) ≤ accepted_as n h
      → started_of n (all_reports (record { call = c; answer = answer_to m c } ∷ h) (view_of (after m c))) ≤ accepted_as n (record { call = c; answer = answer_to m c } ∷ h)
  once_more h m c n before =
      omega (arith, before, waiting_starts n h m c, sum_by-append (λ (x : ℕ). bit (eqb x n)) (numbers_in (answer_to m c).outcome) (accepted_in h))

  pub started_once : StartedOnce K0 K1 K2 W
  started_once [] m new n = subst (λ (x : Machine K0 K1 K2 W). started_of n (all_reports [] (view_of x)) ≤ accepted_as n []) (sym new.is) (omega arith)
  started_once (e ∷ h) k ran n =
      let m = ran.0 in
      let c = e.call in
      let there = once_more h m c n (started_once h m ran.1 n) in
      subst (λ (x : Machine K0 K1 K2 W). started_of n (all_reports (e ∷ h) (view_of x)) ≤ accepted_as n (e ∷ h)) (sym ran.3)
      (subst
      (λ (a : Answer Told).
      started_of n (all_reports (record { call = c; answer = a } ∷ h) (view_of (after m c))) ≤ accepted_as n (record { call = c; answer = a } ∷ h))
      (sym ran.2) there)
