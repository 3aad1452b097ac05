-- Reports come out in the order written, each with the class of the table.
use Rattle.std.proofs.Common.{◌≡◌, ℕ, ◌-◌, Bool, cond, ◌&&◌, ◌||◌, eqb, ltb, leb, List, [], ◌∷◌, ◌++◌, reverse, is_some, Some, None, Ok, Err, Option, Result, sym, refl, ap, ◌∙◌, subst, append_assoc}
use Rattle.std.proofs.ByRecursion.{All-append}
use Rattle.std.proofs.lemmas.List.{reverse-append}
use Rattle.std.proofs.lemmas.Bool.{cond_both}
use Rattle.links.specs.declared.answers.OfferRefusal.{OfferRefusal}
use Rattle.links.specs.Meaning.{LinkKind, offer_answer}
use Rattle.records.specs.declared.command.Command.{Command}
use Rattle.records.specs.declared.event.Event.{Event}
use Rattle.records.specs.declared.event.EventKind.TheVariants.{Trouble, Clear}
use Rattle.records.specs.declared.fault.Fault.{Fault}
use Rattle.records.specs.declared.fault.FaultKind.TheVariants.{InvalidFunction, InvalidActivity, InvalidSid, InvalidParameter, InvalidWatched, UnitStopped, InvalidProcedure, IllegalLoad, TooManyParameters, InvalidStep, EmptyProcedure, RunningProcedure, ExpectFailed, ProcedureStopped}
use Rattle.records.specs.declared.refusal.Refusal.{Refusal}
use Rattle.records.specs.declared.report.Report.{Report}
use Rattle.records.specs.declared.report.Stage.TheVariants.{Started}
use Rattle.records.specs.Faults.{fault_of}
use Rattle.telecommands.specs.declared.packet.Packet.{Packet}
use Rattle.telecommands.specs.Fields.{Settings}
use Rattle.telecommands.specs.Fields.{Steps}
use Rattle.telecommands.specs.declared.packet.Telecommand.{Telecommand}
use Rattle.telecommands.specs.declared.packet.Telecommand.TheVariants.{Test, Perform, Load, Delete, Start, Stop, Set}
use Rattle.telecommands.specs.Packets.{read_packet}
use Rattle.watches.specs.Meaning.{WatchKind, within}
use Rattle.machine.specs.declared.state.Action.{Action}
use Rattle.machine.specs.declared.state.Action.TheVariants.{Wait, Send, Expect}
use Rattle.machine.specs.declared.state.Procedure.{Procedure}
use Rattle.machine.specs.declared.state.Run.{Run}
use Rattle.machine.specs.declared.state.RunState.{RunState}
use Rattle.machine.specs.declared.state.RunState.TheVariants.{Ready, Sent}
use Rattle.machine.specs.Calls.{Call, submit, deliver, tick, sample, collect, answer_to, after}
use Rattle.machine.specs.Calls.{Told}
use Rattle.machine.specs.Desks.{Log, Desk, with_run, with_status, with_switch, with_procedure, raised_on, is_blocked, procedure_at, id_of, runs, settled, failed_run, passed}
use Rattle.machine.specs.Machine.{Machine, Answer, collected_from, handed, spent_on, action_at, offer_fault, parameter_of, with_desk, with_seats, means_at, received_at, width_of, triggered_by, triggered, performed, stopped_run, stopping, done, stopped, outcome_of, carried_out, numbered_in, acceptance, submitted_by, sent_by, stepped, stepped_in, stepped_run, turn0, turn1, turn2, changes, trouble_after, sample_refusal, after_sample_by}
use Rattle.machine.specs.Procedures.{Outcome, good, failed, status_of, setting, is_procedure, first_bad, steps_in, loaded_with, loading, deleting, written_to, settings_in, illegal_fault, writing, setting_loaded, setting_parameters, starting_loaded, starting, new_run, begun}
use Rattle.machine.specs.Runs.{History, Ran, report_by, collected_in}
use Rattle.machine.specs.Seats.{seat_received}
use Rattle.machine.specs.Written.{Classed, AllClassed, written, Adds, ReportsInOrder}
use Rattle.machine.proofs.Adding.{RightIf, adds_none, adds_then, Wrote, wrote, settled_wrote, failed_wrote, passed_wrote, turn_wrote}
use Rattle.machine.proofs.Submitting.{Same, setting_same, loading_same, deleting_same, parameters_same, starting_free}

abbrev pub RightO : Outcome → Type 0
RightO o = RightIf o.fault

right_of : (b : Bool) (x y : Outcome) → RightO x → RightO y → RightO (cond b x y)
right_of b x y p q = cond_both b x y RightO (λ e. p) (λ e. q)

pub setting_right : (width : ℕ) (d : Desk) (activity sid value : ℕ) → RightO (setting width d activity sid value)
setting_right width d activity sid value =
    let on = good (with_status d sid (status_of value)) in
    let switched = good (with_switch d sid (eqb value 1)) in
    let bad = failed d InvalidParameter value in
    let valued = cond (ltb 1 value) bad on in
    let valued2 = cond (ltb 1 value) bad switched in
    let first = cond (ltb 2 sid) (failed d InvalidSid sid) valued in
    let second = cond (within width sid) valued2 (failed d InvalidWatched sid) in
    right_of (eqb activity 1) first (cond (eqb activity 2) second (failed d InvalidActivity activity))
    (right_of (ltb 2 sid) (failed d InvalidSid sid) valued (refl, refl) (right_of (ltb 1 value) bad on (refl, refl) tt))
    (right_of (eqb activity 2) second (failed d InvalidActivity activity)
    (right_of (within width sid) valued2 (failed d InvalidWatched sid) (right_of (ltb 1 value) bad switched (refl, refl) tt) (refl, refl)) (refl, refl))

pub loading_right : (width : ℕ) (d : Desk) (id nop : ℕ) (s : Steps) → RightO (loading width d id nop s)
loading_right width d id nop s =
    let bad = first_bad width nop 1 (steps_in s) in
    let loaded = good (with_procedure d id (Some (loaded_with width nop s))) in
    let judged = cond (eqb bad 0) loaded (failed d InvalidStep bad) in
    let few = cond (ltb 25 nop) (failed d TooManyParameters nop) judged in
    let idle = cond (runs d id) (failed d IllegalLoad id) few in
    right_of (is_procedure id) idle (failed d InvalidProcedure id)
    (right_of (runs d id) (failed d IllegalLoad id) few (refl, refl)
    (right_of (ltb 25 nop) (failed d TooManyParameters nop) judged (refl, refl) (right_of (eqb bad 0) loaded (failed d InvalidStep bad) tt (refl, refl))))
    (refl, refl)

pub deleting_right : (d : Desk) (id : ℕ) → RightO (deleting d id)
deleting_right d id =
    let gone = good (with_procedure d id None) in
    let idle = cond (runs d id) (failed d RunningProcedure id) gone in
    let loaded = cond (is_some (procedure_at d id)) idle (failed d EmptyProcedure id) in
    right_of (is_procedure id) loaded (failed d InvalidProcedure id)
    (right_of (is_some (procedure_at d id)) idle (failed d EmptyProcedure id) (right_of (runs d id) (failed d RunningProcedure id) gone (refl, refl) tt) (refl, refl))
    (refl, refl)

illegal_right : (id : Option ℕ) → RightIf (illegal_fault id)
illegal_right None = tt
illegal_right (Some id) = (refl, refl)

writing_right : (d : Desk) (id : ℕ) (p : Procedure) (s : Settings) → RightO (writing d id p s)
writing_right d id p s =
    cond_both (ltb p.nop s.count) (failed d TooManyParameters s.count) _ RightO
    (λ e. (refl, refl))
    (λ e. illegal_right (written_to p.nop p.parameters (settings_in s)).illegal)

setting_loaded_right : (p : Option Procedure) (d : Desk) (id : ℕ) (s : Settings) → RightO (setting_loaded p d id s)
setting_loaded_right None d id s = (refl, refl)
setting_loaded_right (Some p) d id s = writing_right d id p s

pub parameters_right : (d : Desk) (id : ℕ) (s : Settings) → RightO (setting_parameters d id s)
parameters_right d id s =
    right_of (is_procedure id) (setting_loaded (procedure_at d id) d id s) (failed d InvalidProcedure id) (setting_loaded_right (procedure_at d id) d id s) (refl, refl)

starting_loaded_right : (p : Option Procedure) (d : Desk) (id : ℕ) (s : Settings) → RightO (starting_loaded p d id s)
starting_loaded_right None d id s = (refl, refl)
starting_loaded_right (Some p) d id s =
    right_of (is_some d.run) (failed d RunningProcedure (id_of d.run)) (writing d id p s) (refl, refl) (writing_right d id p s)

pub starting_right : (d : Desk) (id : ℕ) (s : Settings) → RightO (starting d id s)
starting_right d id s = right_of (is_procedure id) (starting_loaded (procedure_at d id) d id s) (failed d InvalidProcedure id) (starting_loaded_right (procedure_at d id) d id s) (refl, refl)

-- an outcome's report
outcome_wrote : (n : ℕ) (d : Desk) (o : Outcome) → Same d o → RightO o → Wrote d (settled n o.fault o.desk)
outcome_wrote n d o same right =
    adds_then d.log.reports o.desk.log.reports (settled n o.fault o.desk).log.reports
    (adds_none d.log.reports o.desk.log.reports (ap (λ (l : Log). l.reports) same.log))
    (settled_wrote n o.fault o.desk right)

begun_wrote : (f : Option Fault) (id n : ℕ) (d e : Desk) → e.log ≡ d.log → RightIf f → Wrote d (begun f id n e)
begun_wrote None id n d e same right =
    adds_then d.log.reports e.log.reports (begun None id n e).log.reports
    (adds_none d.log.reports e.log.reports (ap (λ (l : Log). l.reports) same)) (wrote (with_run e (Some (new_run id n))) n Started tt)
begun_wrote (Some f) id n d e same right =
    adds_then d.log.reports e.log.reports (begun (Some f) id n e).log.reports
    (adds_none d.log.reports e.log.reports (ap (λ (l : Log). l.reports) same)) (settled_wrote n (Some f) e right)

collected_adds : (events : List Event) (reports : List Report) (h : History) (l : Log) → l.events ≡ events → l.reports ≡ reports
    → Adds (reverse (collected_in h) ++ l.reports) (reverse (report_by (handed events reports) ++ collected_in h) ++ (collected_from events reports l).reports)
collected_adds (e ∷ events) reports h l is are = adds_none (reverse (collected_in h) ++ l.reports) (reverse (collected_in h) ++ l.reports) refl
collected_adds [] (r ∷ reports) h l is are =
    adds_none (reverse (collected_in h) ++ l.reports) (reverse (r ∷ collected_in h) ++ reports)
    (ap (λ (xs : List Report). xs ++ reports) (reverse-append (r ∷ []) (collected_in h))
    ∙ append_assoc (reverse (collected_in h)) (r ∷ []) reports ∙ ap (λ (xs : List Report). reverse (collected_in h) ++ xs) (sym are))
collected_adds [] [] h l is are = adds_none (reverse (collected_in h) ++ l.reports) (reverse (collected_in h) ++ l.reports) refl

classed_more : (xs ys : List Report) → AllClassed xs → Adds xs ys → AllClassed ys
classed_more xs ys all a = subst AllClassed (sym a.behind) (All-append (λ (r : Report). Classed r.stage) xs a.new all a.classed)

module _ {K0 K1 K2 : LinkKind} {W : WatchKind} where
  abbrev WroteOn : Machine K0 K1 K2 W → Machine K0 K1 K2 W → Type 0
  WroteOn m n = Wrote m.desk n.desk

  stays : (m : Machine K0 K1 K2 W) → WroteOn m m
  stays m = adds_none m.desk.log.reports m.desk.log.reports refl

  triggered_by_kept : (a : Result (Unit {0}) OfferRefusal) (m : Machine K0 K1 K2 W) (n link : ℕ) (c : Command) → WroteOn m (triggered_by a m n link c)
  triggered_by_kept (Ok u) m n link c = wrote m.desk n Started tt
  triggered_by_kept (Err refusal) m n link c = settled_wrote n (Some (fault_of (offer_fault refusal) link)) m.desk (refl, refl)

  triggered_wrote : (m : Machine K0 K1 K2 W) (n link : ℕ) (c : Command) → WroteOn m (triggered m n link c)
  triggered_wrote m n link c =
      cond_both (is_blocked m.desk link) (with_desk m (settled n (Some (fault_of UnitStopped link)) m.desk)) (triggered_by (offer_answer (means_at m link)) m n link c)
      (WroteOn m)
      (λ t. settled_wrote n (Some (fault_of UnitStopped link)) m.desk (refl, refl))
      (λ t. triggered_by_kept (offer_answer (means_at m link)) m n link c)

  performed_wrote : (m : Machine K0 K1 K2 W) (n function activity sid value : ℕ) → WroteOn m (performed m n function activity sid value)
  performed_wrote m n function activity sid value =
      let o = setting (width_of m) m.desk activity sid value in
      let c : Command = record { id = activity; sid = sid; parameter = value } in
      let other = with_desk m (settled n (Some (fault_of InvalidFunction function)) m.desk) in
      cond_both (leb 1 function && leb function 3) (triggered m n (function - 1) c) (cond (eqb function 100) (outcome_of m n o) other) (WroteOn m)
      (λ t. triggered_wrote m n (function - 1) c)
      (λ t. cond_both (eqb function 100) (outcome_of m n o) other (WroteOn m)
      (λ u. outcome_wrote n m.desk o (setting_same (width_of m) m.desk activity sid value) (setting_right (width_of m) m.desk activity sid value))
      (λ u. settled_wrote n (Some (fault_of InvalidFunction function)) m.desk (refl, refl)))

  stopping_wrote : (run : Option Run) (m : Machine K0 K1 K2 W) (id : ℕ) → WroteOn m (stopping run id m)
  stopping_wrote None m id = stays m
  stopping_wrote (Some r) m id =
      cond_both (eqb id 0 || eqb id r.id) (stopped_run r m) m (WroteOn m)
      (λ t. failed_wrote (Some r) (fault_of ProcedureStopped r.id) m.desk (refl, refl))
      (λ t. stays m)

  stopped_wrote : (m : Machine K0 K1 K2 W) (n id : ℕ) → WroteOn m (stopped m n id)
  stopped_wrote m n id =
      let after = stopping m.desk.run id m in
      cond_both (ltb 16 id) (with_desk m (settled n (Some (fault_of InvalidProcedure id)) m.desk)) (done n after) (WroteOn m)
      (λ t. settled_wrote n (Some (fault_of InvalidProcedure id)) m.desk (refl, refl))
      (λ t. adds_then m.desk.log.reports after.desk.log.reports (done n after).desk.log.reports (stopping_wrote m.desk.run m id) (settled_wrote n None after.desk tt))

  carried_wrote : (t : Telecommand) (n : ℕ) (m : Machine K0 K1 K2 W) → WroteOn m (carried_out t n m)
  carried_wrote Test n m = settled_wrote n None m.desk tt
  carried_wrote (Perform function activity sid value) n m = performed_wrote m n function activity sid value
  carried_wrote (Load id nop steps) n m =
      outcome_wrote n m.desk (loading (width_of m) m.desk id nop steps) (loading_same (width_of m) m.desk id nop steps) (loading_right (width_of m) m.desk id nop steps)
  carried_wrote (Delete id) n m = outcome_wrote n m.desk (deleting m.desk id) (deleting_same m.desk id) (deleting_right m.desk id)
  carried_wrote (Start id settings) n m =
      let o = starting m.desk id settings in
      begun_wrote o.fault id n m.desk o.desk (starting_free m.desk id settings).same.log (starting_right m.desk id settings)
  carried_wrote (Stop id) n m = stopped_wrote m n id
  carried_wrote (Set id settings) n m =
      outcome_wrote n m.desk (setting_parameters m.desk id settings) (parameters_same m.desk id settings) (parameters_right m.desk id settings)

  submitted_wrote : (a : Result ℕ Refusal) (read : Result Packet Refusal) (m : Machine K0 K1 K2 W) → WroteOn m (submitted_by a read m)
  submitted_wrote (Err refusal) read m = stays m
  submitted_wrote (Ok n) (Err refusal) m = stays m
  submitted_wrote (Ok n) (Ok packet) m = carried_wrote packet.telecommand n (numbered_in m)

  received_wrote : (m : Machine K0 K1 K2 W) (link : ℕ) (bytes : List ℕ) → WroteOn m (received_at m link bytes)
  received_wrote m link bytes =
      let a = with_seats m (seat_received bytes m.seat0) m.seat1 m.seat2 in
      let b = with_seats m m.seat0 (seat_received bytes m.seat1) m.seat2 in
      let c = with_seats m m.seat0 m.seat1 (seat_received bytes m.seat2) in
      cond_both (eqb link 0) a (cond (eqb link 1) b c) (WroteOn m) (λ t. stays m)
      (λ t. cond_both (eqb link 1) b c (WroteOn m) (λ u. stays m) (λ u. stays m))

  delivered_wrote : (m : Machine K0 K1 K2 W) (link : ℕ) (bytes : List ℕ) → WroteOn m (after m (deliver link bytes))
  delivered_wrote m link bytes =
      cond_both (ltb 2 link) m (cond (is_some (means_at m link).held) (received_at m link bytes) m) (WroteOn m)
      (λ t. stays m)
      (λ t. cond_both (is_some (means_at m link).held) (received_at m link bytes) m (WroteOn m) (λ u. received_wrote m link bytes) (λ u. stays m))

  sent_by_each : (a : Result (Unit {0}) OfferRefusal) (m : Machine K0 K1 K2 W) (r : Run) (link : ℕ) (c : Command) → WroteOn m (sent_by a m r link c)
  sent_by_each (Ok u) m r link c = adds_none m.desk.log.reports m.desk.log.reports refl
  sent_by_each (Err refusal) m r link c = failed_wrote (Some r) (fault_of (offer_fault refusal) link) m.desk (refl, refl)

  stepped_wrote : (action : Action) (m : Machine K0 K1 K2 W) (r : Run) (spent : ℕ) → WroteOn m (stepped action r spent m)
  stepped_wrote (Wait ticks) m r spent =
      cond_both (ltb spent ticks) (with_run m.desk (Some (spent_on r spent))) (passed r m.desk) (Wrote m.desk)
      (λ t. adds_none m.desk.log.reports m.desk.log.reports refl) (λ t. passed_wrote r m.desk)
  stepped_wrote (Send link id sid v) m r spent =
      let c : Command = record { id = id; sid = sid; parameter = parameter_of (procedure_at m.desk r.id) v } in
      cond_both (is_blocked m.desk link) (with_desk m (failed_run (Some r) (fault_of UnitStopped link) m.desk)) (sent_by (offer_answer (means_at m link)) m r link c)
      (WroteOn m)
      (λ t. failed_wrote (Some r) (fault_of UnitStopped link) m.desk (refl, refl))
      (λ t. sent_by_each (offer_answer (means_at m link)) m r link c)
  stepped_wrote (Expect f) m r spent =
      cond_both (W.trouble m.watch f) (failed_run (Some r) (fault_of ExpectFailed f) m.desk) (passed r m.desk) (Wrote m.desk)
      (λ t. failed_wrote (Some r) (fault_of ExpectFailed f) m.desk (refl, refl)) (λ t. passed_wrote r m.desk)

  stepped_in_each : (state : RunState) (m : Machine K0 K1 K2 W) (r : Run) → WroteOn m (stepped_in state r m)
  stepped_in_each (Ready spent) m r = stepped_wrote (action_at (procedure_at m.desk r.id) r.step) m r spent
  stepped_in_each (Sent link) m r = stays m

  step_wrote : (run : Option Run) (m : Machine K0 K1 K2 W) → WroteOn m (stepped_run run m)
  step_wrote None m = stays m
  step_wrote (Some r) m = stepped_in_each r.state m r

  ticked_wrote : (m : Machine K0 K1 K2 W) → WroteOn m (after m tick)
  ticked_wrote m =
      let turned : Machine K0 K1 K2 W = record { seat0 = (turn0 m).seat; seat1 = (turn1 m).seat; seat2 = (turn2 m).seat; watch = m.watch; desk = (turn2 m).desk } in
      let old = m.desk.log.reports in
      let a = adds_then old (turn0 m).desk.log.reports (turn1 m).desk.log.reports (turn_wrote 0 m.seat0 m.desk) (turn_wrote 1 m.seat1 (turn0 m).desk) in
      let b = adds_then old (turn1 m).desk.log.reports (turn2 m).desk.log.reports a (turn_wrote 2 m.seat2 (turn1 m).desk) in
      adds_then old (turn2 m).desk.log.reports (after m tick).desk.log.reports b (step_wrote (turn2 m).desk.run turned)

  sampled_wrote : (refusal : Option Refusal) (m : Machine K0 K1 K2 W) (f v : ℕ) → WroteOn m (after_sample_by refusal m f v)
  sampled_wrote (Some refusal) m f v = stays m
  sampled_wrote None m f v =
      let e : Event = record { kind = cond (trouble_after m f v) Trouble Clear; place = f; value = v } in
      cond_both (changes m f v) (raised_on m.desk e) m.desk (Wrote m.desk)
      (λ t. adds_none m.desk.log.reports m.desk.log.reports refl) (λ t. adds_none m.desk.log.reports m.desk.log.reports refl)

  -- what was collected comes before what waits
  behind_collected : (h : History) (m n : Machine K0 K1 K2 W) → WroteOn m n → Adds (written h m) (reverse (collected_in h) ++ n.desk.log.reports)
  behind_collected h m n a = record {
    new = a.new;
    behind = ap (λ (l : List Report). reverse (collected_in h) ++ l) a.behind ∙ sym (append_assoc (reverse (collected_in h)) m.desk.log.reports a.new);
    classed = a.classed;
  }

  pub each_call : (h : History) (m : Machine K0 K1 K2 W) (c : Call) → Adds (written h m) (written (record { call = c; answer = answer_to m c } ∷ h) (after m c))
  each_call h m (submit bytes) =
      behind_collected h m (after m (submit bytes)) (submitted_wrote (acceptance m (read_packet bytes)) (read_packet bytes) m)
  each_call h m (deliver link bytes) = behind_collected h m (after m (deliver link bytes)) (delivered_wrote m link bytes)
  each_call h m tick = behind_collected h m (after m tick) (ticked_wrote m)
  each_call h m (sample f v) = behind_collected h m (after m (sample f v)) (sampled_wrote (sample_refusal m f) m f v)
  each_call h m collect = collected_adds m.desk.log.events m.desk.log.reports h m.desk.log refl refl

  all_classed : (h : History) (m : Machine K0 K1 K2 W) → Ran h m → AllClassed (written h m)
  all_classed [] m new = subst (λ (x : Machine K0 K1 K2 W). AllClassed (written [] x)) (sym new.is) tt
  all_classed (e ∷ h) n ran =
      let m = ran.0 in
      let c = e.call in
      let there = classed_more (written h m) (written (record { call = c; answer = answer_to m c } ∷ h) (after m c)) (all_classed h m ran.1) (each_call h m c) in
      subst (λ (x : Machine K0 K1 K2 W). AllClassed (written (e ∷ h) x)) (sym ran.3)
      (subst (λ (a : Answer Told). AllClassed (written (record { call = c; answer = a } ∷ h) (after m c))) (sym ran.2) there)

  pub in_order : ReportsInOrder K0 K1 K2 W
  in_order = record { each_call_adds = each_call; all_classed = all_classed }
