-- Every call keeps the desk fit, so in every run reports keep to 28 steps and 28 commands, and the run to the three links.
use Rattle.std.proofs.Common.{◌≡◌, ℕ, ◌+◌, ◌-◌, ◌≤◌, cond, ◌&&◌, ◌||◌, eqb, ltb, leb, List, [], ◌∷◌, is_some, Some, None, Ok, Err, Option, Result, sym, refl, subst, arith}
use Rattle.std.proofs.ByRecursion.{All-append}
use Rattle.std.proofs.lemmas.Bool.{cond_both}
use Rattle.links.specs.declared.answers.OfferRefusal.{OfferRefusal}
use Rattle.links.specs.Meaning.{LinkKind, offer_answer}
use Rattle.records.specs.declared.command.Command.{Command}
use Rattle.records.specs.declared.command.Reply.{Reply}
use Rattle.records.specs.declared.command.Reply.TheVariants.{Ack, Nack, Odd}
use Rattle.records.specs.declared.event.Event.{Event}
use Rattle.records.specs.declared.event.EventKind.TheVariants as event
use Rattle.records.specs.declared.fault.FaultKind.TheVariants as fault
use Rattle.records.specs.declared.refusal.Refusal.{Refusal}
use Rattle.records.specs.declared.report.Report.{Report}
use Rattle.records.specs.declared.report.Stage.TheVariants.{Started, Done, Failed}
use Rattle.records.specs.Faults.{fault_of, nack_fault}
use Rattle.telecommands.specs.declared.packet.Packet.{Packet}
use Rattle.telecommands.specs.declared.packet.Telecommand.{Telecommand}
use Rattle.telecommands.specs.declared.packet.Telecommand.TheVariants.{Test, Perform, Load, Delete, Start, Stop, Set}
use Rattle.telecommands.specs.Packets.{read_packet}
use Rattle.watches.specs.Meaning.{WatchKind}
use Rattle.machine.specs.Calls.{Told}
use Rattle.machine.specs.declared.state.Action.{Action}
use Rattle.machine.specs.declared.state.Action.TheVariants.{Wait, Send, Expect}
use Rattle.machine.specs.declared.state.Hold.{Hold}
use Rattle.machine.specs.declared.state.LinkStatus.TheVariants.{Stopped}
use Rattle.machine.specs.declared.state.Owner.{Owner}
use Rattle.machine.specs.declared.state.Owner.TheVariants as owner
use Rattle.machine.specs.declared.state.Run.{Run}
use Rattle.machine.specs.declared.state.RunState.{RunState}
use Rattle.machine.specs.declared.state.RunState.TheVariants.{Ready, Sent}
use Rattle.machine.specs.Balance.{view_of, all_reports, run_commands}
use Rattle.machine.specs.Calls.{Call, submit, deliver, tick, sample, collect, answer_to, after}
use Rattle.machine.specs.Desks.{Desk, with_log, with_run, with_status, raised_on, is_blocked, procedure_at, settled, failed_run, passed}
use Rattle.machine.specs.Machine.{Machine, Answer, collected_from, handed, spent_on, action_at, offer_fault, parameter_of, with_desk, with_seats, means_at, received_at, width_of, triggered_by, triggered, performed, stopped_run, stopping, done, stopped, outcome_of, carried_out, numbered_in, acceptance, submitted_by, sent_by, stepped, stepped_in, stepped_run, turn0, turn1, turn2, changes, trouble_after, sample_refusal, after_sample_by}
use Rattle.machine.specs.Procedures.{setting, loading, deleting, setting_parameters, starting}
use Rattle.machine.specs.Sizes.{Few, FewIn}
use Rattle.machine.specs.Runs.{History, Ran, report_by, collected_in}
use Rattle.machine.specs.Seats.{Seat, Ending, acknowledged, broken, answered_run, answered_procedure, ended_for, ended, link_event, Turn, older, age_of, loudly, polled_turn, turn, seat_received}
use Rattle.machine.specs.Written.{Bounded, AllBounded}
use Rattle.machine.proofs.Adding.{RightEnd}
use Rattle.machine.proofs.Fewness.{few_read}
use Rattle.machine.proofs.Fitting.{Fit, FitRun, FitState, Sends, fit_same, reported_fit, settled_fit, failed_fit, passed_fit, spent_fit, sent_fit, loaded_at, action_sends, setting_fit, loading_fit, deleting_fit, parameters_fit, starting_fit, begun_fit, fit_made, run_few}
use Rattle.machine.proofs.Ordering.{setting_right, loading_right, deleting_right, parameters_right, starting_right}

-- the ends of held commands
answered_fit : (s : RunState) (x : Ending) (r : Run) (d : Desk) → Fit d → FitRun (Some r) → Fit (answered_run s x r d)
answered_fit (Ready spent) x r d fit now = fit
answered_fit (Sent link) acknowledged r d fit now = passed_fit r d fit now
answered_fit (Sent link) (broken f) r d fit now = failed_fit r f d fit now

procedure_fit : (run : Option Run) (x : Ending) (d : Desk) → Fit d → FitRun run → Fit (answered_procedure run x d)
procedure_fit None x d fit now = fit
procedure_fit (Some r) x d fit now = answered_fit r.state x r d fit now

ended_for_each : (o : Owner) (x : Ending) (d : Desk) → RightEnd x → Fit d → Fit (ended_for o x d)
ended_for_each (owner.Telecommand n) acknowledged d right fit = reported_fit d n (Done 1) fit (omega arith)
ended_for_each (owner.Telecommand n) (broken f) d right fit = reported_fit d n (Failed 1 f) fit (omega arith, omega (arith, right.1))
ended_for_each owner.Procedure x d right fit = procedure_fit d.run x d fit fit.run

ended_fit : (h : Option Hold) (x : Ending) (d : Desk) → RightEnd x → Fit d → Fit (ended h x d)
ended_fit None x d right fit = fit
ended_fit (Some h) x d right fit = ended_for_each h.owner x d right fit

raised_fit : (d : Desk) (e : Event) → Fit d → Fit (raised_on d e)
raised_fit d e fit = fit_same d (raised_on d e) refl refl refl fit

module _ {K : LinkKind} where
  polled_fit : (due : Option Reply) (place : ℕ) (s : Seat K) (d : Desk) → Fit d → Fit (polled_turn due place s d).desk
  polled_fit (Some Ack) place s d fit = ended_fit s.hold acknowledged d tt fit
  polled_fit (Some (Nack code detail)) place s d fit =
      let e = link_event event.Nack place code in
      let blocked = with_status d place Stopped in
      ended_fit s.hold (broken (nack_fault place code detail)) (raised_on blocked e) (refl, refl) (raised_fit blocked e (fit_same d blocked refl refl refl fit))
  polled_fit (Some Odd) place s d fit =
      let e = link_event event.Odd place 0 in
      ended_fit s.hold (broken (fault_of fault.Odd place)) (raised_on d e) (refl, refl) (raised_fit d e fit)
  polled_fit None place s d fit =
      let e = link_event event.NoAck place 0 in
      cond_both (ltb (age_of s.hold + 1) K.limit)
      (record { seat = record { link = K.polled s.link; hold = older s.hold }; desk = d; raised = 0; lost = 0 })
      (loudly (K.abandoned (K.polled s.link)) s.hold e (fault_of fault.NoAck place) d)
      (λ (t : Turn K). Fit t.desk)
      (λ t. fit)
      (λ t. ended_fit s.hold (broken (fault_of fault.NoAck place)) (raised_on d e) (refl, refl) (raised_fit d e fit))

  turn_fit : (place : ℕ) (s : Seat K) (d : Desk) → Fit d → Fit (turn place s d).desk
  turn_fit place s d fit =
      cond_both (is_some (K.means s.link).held) (polled_turn (K.means s.link).due place s d) (record { seat = s; desk = d; raised = 0; lost = 0 })
      (λ (t : Turn K). Fit t.desk)
      (λ t. polled_fit (K.means s.link).due place s d fit)
      (λ t. fit)

-- what collect hands out was a report that waited
collected_fit : (events : List Event) (reports : List Report) (d : Desk) → d.log.reports ≡ reports → Fit d
    → AllBounded (report_by (handed events reports)) × Fit (with_log d (collected_from events reports d.log))
collected_fit (e ∷ events) reports d is fit = (tt, fit_same d (with_log d (collected_from (e ∷ events) reports d.log)) refl refl refl fit)
collected_fit [] (r ∷ reports) d is fit =
    let all = subst AllBounded is fit.reports in
    ((all.0, tt), record { procedures = fit.procedures; run = fit.run; reports = all.1 })
collected_fit [] [] d is fit = (tt, fit)

module _ {K0 K1 K2 : LinkKind} {W : WatchKind} where
  abbrev Fits : Machine K0 K1 K2 W → Type 0
  Fits m = Fit m.desk

  triggered_by_kept : (a : Result (Unit {0}) OfferRefusal) (m : Machine K0 K1 K2 W) (n link : ℕ) (c : Command) → Fits m → Fits (triggered_by a m n link c)
  triggered_by_kept (Ok u) m n link c fit = reported_fit m.desk n Started fit tt
  triggered_by_kept (Err refusal) m n link c fit = settled_fit n (Some (fault_of (offer_fault refusal) link)) m.desk (refl, refl) fit

  triggered_fit : (m : Machine K0 K1 K2 W) (n link : ℕ) (c : Command) → Fits m → Fits (triggered m n link c)
  triggered_fit m n link c fit =
      cond_both (is_blocked m.desk link) (with_desk m (settled n (Some (fault_of fault.UnitStopped link)) m.desk)) (triggered_by (offer_answer (means_at m link)) m n link c)
      Fits
      (λ t. settled_fit n (Some (fault_of fault.UnitStopped link)) m.desk (refl, refl) fit)
      (λ t. triggered_by_kept (offer_answer (means_at m link)) m n link c fit)

  performed_fit : (m : Machine K0 K1 K2 W) (n function activity sid value : ℕ) → Fits m → Fits (performed m n function activity sid value)
  performed_fit m n function activity sid value fit =
      let o = setting (width_of m) m.desk activity sid value in
      let c : Command = record { id = activity; sid = sid; parameter = value } in
      let other = with_desk m (settled n (Some (fault_of fault.InvalidFunction function)) m.desk) in
      cond_both (leb 1 function && leb function 3) (triggered m n (function - 1) c) (cond (eqb function 100) (outcome_of m n o) other) Fits
      (λ t. triggered_fit m n (function - 1) c fit)
      (λ t. cond_both (eqb function 100) (outcome_of m n o) other Fits
      (λ u. settled_fit n o.fault o.desk (setting_right (width_of m) m.desk activity sid value) (setting_fit (width_of m) m.desk activity sid value fit))
      (λ u. settled_fit n (Some (fault_of fault.InvalidFunction function)) m.desk (refl, refl) fit))

  stopping_fit : (run : Option Run) (m : Machine K0 K1 K2 W) (id : ℕ) → FitRun run → Fits m → Fits (stopping run id m)
  stopping_fit None m id now fit = fit
  stopping_fit (Some r) m id now fit =
      cond_both (eqb id 0 || eqb id r.id) (stopped_run r m) m Fits
      (λ t. failed_fit r (fault_of fault.ProcedureStopped r.id) m.desk fit now)
      (λ t. fit)

  stopped_fit : (m : Machine K0 K1 K2 W) (n id : ℕ) → Fits m → Fits (stopped m n id)
  stopped_fit m n id fit =
      let after = stopping m.desk.run id m in
      cond_both (ltb 16 id) (with_desk m (settled n (Some (fault_of fault.InvalidProcedure id)) m.desk)) (done n after) Fits
      (λ t. settled_fit n (Some (fault_of fault.InvalidProcedure id)) m.desk (refl, refl) fit)
      (λ t. settled_fit n None after.desk tt (stopping_fit m.desk.run m id fit.run fit))

  carried_fit : (t : Telecommand) (n : ℕ) (m : Machine K0 K1 K2 W) → Few t → Fits m → Fits (carried_out t n m)
  carried_fit Test n m few fit = settled_fit n None m.desk tt fit
  carried_fit (Perform function activity sid value) n m few fit = performed_fit m n function activity sid value fit
  carried_fit (Load id nop steps) n m few fit =
      let o = loading (width_of m) m.desk id nop steps in
      settled_fit n o.fault o.desk (loading_right (width_of m) m.desk id nop steps) (loading_fit (width_of m) m.desk id nop steps few fit)
  carried_fit (Delete id) n m few fit =
      let o = deleting m.desk id in
      settled_fit n o.fault o.desk (deleting_right m.desk id) (deleting_fit m.desk id fit)
  carried_fit (Start id settings) n m few fit =
      let o = starting m.desk id settings in
      begun_fit o.fault id n o.desk (starting_right m.desk id settings) (starting_fit m.desk id settings fit)
  carried_fit (Stop id) n m few fit = stopped_fit m n id fit
  carried_fit (Set id settings) n m few fit =
      let o = setting_parameters m.desk id settings in
      settled_fit n o.fault o.desk (parameters_right m.desk id settings) (parameters_fit m.desk id settings fit)

  submitted_fit : (a : Result ℕ Refusal) (read : Result Packet Refusal) (m : Machine K0 K1 K2 W) → FewIn read → Fits m → Fits (submitted_by a read m)
  submitted_fit (Err refusal) read m few fit = fit
  submitted_fit (Ok n) (Err refusal) m few fit = fit
  submitted_fit (Ok n) (Ok packet) m few fit =
      carried_fit packet.telecommand n (numbered_in m) few (fit_same m.desk (numbered_in m).desk refl refl refl fit)

  received_fit : (m : Machine K0 K1 K2 W) (link : ℕ) (bytes : List ℕ) → Fits m → Fits (received_at m link bytes)
  received_fit m link bytes fit =
      let a = with_seats m (seat_received bytes m.seat0) m.seat1 m.seat2 in
      let b = with_seats m m.seat0 (seat_received bytes m.seat1) m.seat2 in
      let c = with_seats m m.seat0 m.seat1 (seat_received bytes m.seat2) in
      cond_both (eqb link 0) a (cond (eqb link 1) b c) Fits (λ t. fit)
      (λ t. cond_both (eqb link 1) b c Fits (λ u. fit) (λ u. fit))

  delivered_fit : (m : Machine K0 K1 K2 W) (link : ℕ) (bytes : List ℕ) → Fits m → Fits (after m (deliver link bytes))
  delivered_fit m link bytes fit =
      cond_both (ltb 2 link) m (cond (is_some (means_at m link).held) (received_at m link bytes) m) Fits
      (λ t. fit)
      (λ t. cond_both (is_some (means_at m link).held) (received_at m link bytes) m Fits (λ u. received_fit m link bytes fit) (λ u. fit))

  sent_by_each : (a : Result (Unit {0}) OfferRefusal) (m : Machine K0 K1 K2 W) (r : Run) (link : ℕ) (c : Command) → FitRun (Some r) → r.sent ≤ r.step → link ≤ 2
      → Fits m → Fits (sent_by a m r link c)
  sent_by_each (Ok u) m r link c now few low fit = sent_fit r link m.desk fit now few low
  sent_by_each (Err refusal) m r link c now few low fit = failed_fit r (fault_of (offer_fault refusal) link) m.desk fit now

  stepped_fit : (action : Action) (m : Machine K0 K1 K2 W) (r : Run) (spent : ℕ) → Sends action → FitRun (Some r) → r.sent ≤ r.step → Fits m → Fits (stepped action r spent m)
  stepped_fit (Wait ticks) m r spent sends now few fit =
      cond_both (ltb spent ticks) (with_run m.desk (Some (spent_on r spent))) (passed r m.desk) Fit
      (λ t. spent_fit r spent m.desk fit now few) (λ t. passed_fit r m.desk fit now)
  stepped_fit (Send link id sid v) m r spent sends now few fit =
      let c : Command = record { id = id; sid = sid; parameter = parameter_of (procedure_at m.desk r.id) v } in
      cond_both (is_blocked m.desk link) (with_desk m (failed_run (Some r) (fault_of fault.UnitStopped link) m.desk)) (sent_by (offer_answer (means_at m link)) m r link c)
      Fits
      (λ t. failed_fit r (fault_of fault.UnitStopped link) m.desk fit now)
      (λ t. sent_by_each (offer_answer (means_at m link)) m r link c now few sends fit)
  stepped_fit (Expect f) m r spent sends now few fit =
      cond_both (W.trouble m.watch f) (failed_run (Some r) (fault_of fault.ExpectFailed f) m.desk) (passed r m.desk) Fit
      (λ t. failed_fit r (fault_of fault.ExpectFailed f) m.desk fit now) (λ t. passed_fit r m.desk fit now)

  stepped_in_each : (state : RunState) (m : Machine K0 K1 K2 W) (r : Run) → FitRun (Some r) → FitState state r.step r.sent → Fits m → Fits (stepped_in state r m)
  stepped_in_each (Ready spent) m r now few fit =
      let p = procedure_at m.desk r.id in
      stepped_fit (action_at p r.step) m r spent (action_sends p r.step (loaded_at m.desk r.id fit)) now few fit
  stepped_in_each (Sent link) m r now few fit = fit

  step_fit : (run : Option Run) (m : Machine K0 K1 K2 W) → FitRun run → Fits m → Fits (stepped_run run m)
  step_fit None m now fit = fit
  step_fit (Some r) m now fit = stepped_in_each r.state m r now now.1 fit

  ticked_fit : (m : Machine K0 K1 K2 W) → Fits m → Fits (after m tick)
  ticked_fit m fit =
      let turned : Machine K0 K1 K2 W = record { seat0 = (turn0 m).seat; seat1 = (turn1 m).seat; seat2 = (turn2 m).seat; watch = m.watch; desk = (turn2 m).desk } in
      let fit2 = turn_fit 2 m.seat2 (turn1 m).desk (turn_fit 1 m.seat1 (turn0 m).desk (turn_fit 0 m.seat0 m.desk fit)) in
      step_fit (turn2 m).desk.run turned fit2.run fit2

  sampled_fit : (refusal : Option Refusal) (m : Machine K0 K1 K2 W) (f v : ℕ) → Fits m → Fits (after_sample_by refusal m f v)
  sampled_fit (Some refusal) m f v fit = fit
  sampled_fit None m f v fit =
      let e : Event = record { kind = cond (trouble_after m f v) event.Trouble event.Clear; place = f; value = v } in
      cond_both (changes m f v) (raised_on m.desk e) m.desk Fit (λ t. raised_fit m.desk e fit) (λ t. fit)

  -- a machine fit to go on after what was collected
  pub record Bound (h : History) (m : Machine K0 K1 K2 W) : Type 0 where
    pub collected : AllBounded (collected_in h)
    pub fit : Fits m

  each_call : (h : History) (m : Machine K0 K1 K2 W) (c : Call) → Bound h m → Bound (record { call = c; answer = answer_to m c } ∷ h) (after m c)
  each_call h m (submit bytes) b = record { collected = b.collected; fit = submitted_fit (acceptance m (read_packet bytes)) (read_packet bytes) m (few_read bytes) b.fit }
  each_call h m (deliver link bytes) b = record { collected = b.collected; fit = delivered_fit m link bytes b.fit }
  each_call h m tick b = record { collected = b.collected; fit = ticked_fit m b.fit }
  each_call h m (sample f v) b = record { collected = b.collected; fit = sampled_fit (sample_refusal m f) m f v b.fit }
  each_call h m collect b =
      let events = m.desk.log.events in
      let reports = m.desk.log.reports in
      let out = collected_fit events reports m.desk refl b.fit in
      record {
        collected = All-append (λ (r : Report). Bounded r.stage) (report_by (handed events reports)) (collected_in h) out.0 b.collected;
        fit = out.1;
      }

  pub bound : (h : History) (m : Machine K0 K1 K2 W) → Ran h m → Bound h m
  bound [] m new = record { collected = tt; fit = subst Fits (sym new.is) fit_made }
  bound (e ∷ h) n ran =
      let m = ran.0 in
      let c = e.call in
      let there = each_call h m c (bound h m ran.1) in
      subst (Bound (e ∷ h)) (sym ran.3)
      (subst (λ (a : Answer Told). Bound (record { call = c; answer = a } ∷ h) (after m c)) (sym ran.2) there)

  pub all_bounded : (h : History) (m : Machine K0 K1 K2 W) → Ran h m → AllBounded (all_reports h (view_of m))
  all_bounded h m ran =
      let b = bound h m ran in
      All-append (λ (r : Report). Bounded r.stage) (collected_in h) m.desk.log.reports b.collected b.fit.reports

  pub run_bounded : (h : History) (m : Machine K0 K1 K2 W) → Ran h m → run_commands m.desk.run ≤ 28
  run_bounded h m ran = run_few m.desk.run (bound h m ran).fit.run
