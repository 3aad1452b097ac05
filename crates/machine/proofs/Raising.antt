-- Every call adds events behind those that there are: those it raised, less those it lost.
use Rattle.std.proofs.Common.{◌≡◌, ℕ, ◌+◌, ◌-◌, ◌≤◌, Bool, true, false, cond, ◌&&◌, ◌||◌, eqb, ltb, leb, List, [], ◌∷◌, ◌++◌, reverse, length, is_some, Some, None, Ok, Err, Option, Result, sym, refl, ap, ◌∙◌, append_assoc, append-nil, arith, length-append}
use Rattle.std.specs.List.{AllByRecursion}
use Rattle.std.proofs.ByRecursion.{All-append}
use Rattle.std.proofs.lemmas.List.{reverse-append}
use Rattle.std.proofs.lemmas.Bool.{cond_both}
use Rattle.links.specs.declared.answers.OfferRefusal.{OfferRefusal}
use Rattle.links.specs.Meaning.{LinkKind, offer_answer}
use Rattle.records.specs.declared.command.Command.{Command}
use Rattle.records.specs.declared.command.Reply.{Reply}
use Rattle.records.specs.declared.command.Reply.TheVariants.{Ack, Nack, Odd}
use Rattle.records.specs.declared.event.Event.{Event}
use Rattle.records.specs.declared.event.EventKind.TheVariants as event
use Rattle.records.specs.declared.fault.Fault.{Fault}
use Rattle.records.specs.declared.fault.FaultKind.TheVariants as fault
use Rattle.records.specs.declared.refusal.Refusal.{Refusal}
use Rattle.records.specs.declared.report.Report.{Report}
use Rattle.records.specs.declared.report.Stage.TheVariants.{Done}
use Rattle.records.specs.Faults.{fault_of, nack_fault}
use Rattle.telecommands.specs.declared.packet.Packet.{Packet}
use Rattle.telecommands.specs.declared.packet.Telecommand.{Telecommand}
use Rattle.telecommands.specs.declared.packet.Telecommand.TheVariants.{Test, Perform, Load, Delete, Start, Stop, Set}
use Rattle.telecommands.specs.Packets.{read_packet}
use Rattle.watches.specs.Meaning.{WatchKind}
use Rattle.machine.specs.Calls.{Told}
use Rattle.machine.specs.Calls.{sampled}
use Rattle.machine.specs.declared.state.Action.{Action}
use Rattle.machine.specs.declared.state.Action.TheVariants.{Wait, Send, Expect}
use Rattle.machine.specs.declared.state.Hold.{Hold}
use Rattle.machine.specs.declared.state.LinkStatus.TheVariants.{Stopped}
use Rattle.machine.specs.declared.state.Owner.{Owner}
use Rattle.machine.specs.declared.state.Owner.TheVariants as owner
use Rattle.machine.specs.declared.state.Run.{Run}
use Rattle.machine.specs.declared.state.RunState.{RunState}
use Rattle.machine.specs.declared.state.RunState.TheVariants.{Ready, Sent}
use Rattle.machine.specs.Calls.{Call, submit, deliver, tick, sample, collect, answer_to, after}
use Rattle.machine.specs.Desks.{Log, Desk, lost_in, with_run, with_status, reported, raised_on, is_blocked, procedure_at, settled, steps_of, failed_run, passed}
use Rattle.machine.specs.Machine.{Machine, Answer, collected_from, handed, spent_on, action_at, parameter_of, with_desk, with_seats, means_at, received_at, width_of, triggered_by, triggered, performed, stopped_run, stopping, done, stopped, outcome_of, carried_out, numbered_in, acceptance, submitted_by, sent_by, stepped, stepped_in, stepped_run, turn0, turn1, turn2, changes, trouble_after, sample_refusal, sampled_by, after_sample_by}
use Rattle.machine.specs.Procedures.{Outcome, setting, loading, deleting, setting_parameters, starting, begun}
use Rattle.machine.specs.Raised.{handed_by, handed_in, stored, OfLink, Tells, AddsEvents, EventsInOrder}
use Rattle.machine.specs.Runs.{History}
use Rattle.machine.specs.Seats.{Seat, Ending, acknowledged, broken, answered_run, answered_procedure, ended_for, ended, link_event, Turn, older, age_of, loudly, polled_turn, turn, seat_received}
use Rattle.machine.proofs.Submitting.{Same, setting_same, loading_same, deleting_same, parameters_same, starting_free}

-- reports are no events
abbrev Alike : Desk → Desk → Type 0
Alike d e = e.log.events ≡ d.log.events

settled_alike : (n : ℕ) (f : Option Fault) (d : Desk) → Alike d (settled n f d)
settled_alike n None d = refl
settled_alike n (Some f) d = refl

begun_alike : (f : Option Fault) (id n : ℕ) (d : Desk) → Alike d (begun f id n d)
begun_alike None id n d = refl
begun_alike (Some f) id n d = refl

passed_alike : (r : Run) (d : Desk) → Alike d (passed r d)
passed_alike r d =
    let next : Run = record { id = r.id; number = r.number; step = r.step + 1; sent = r.sent; state = Ready 0 } in
    cond_both (ltb (r.step + 1) (steps_of (procedure_at d r.id))) (with_run d (Some next)) (reported (with_run d None) r.number (Done r.sent)) (Alike d)
    (λ t. refl) (λ t. refl)

answered_alike : (s : RunState) (x : Ending) (r : Run) (d : Desk) → Alike d (answered_run s x r d)
answered_alike (Ready spent) x r d = refl
answered_alike (Sent link) acknowledged r d = passed_alike r d
answered_alike (Sent link) (broken f) r d = refl

procedure_alike : (run : Option Run) (x : Ending) (d : Desk) → Alike d (answered_procedure run x d)
procedure_alike None x d = refl
procedure_alike (Some r) x d = answered_alike r.state x r d

ended_for_each : (o : Owner) (x : Ending) (d : Desk) → Alike d (ended_for o x d)
ended_for_each (owner.Telecommand n) acknowledged d = refl
ended_for_each (owner.Telecommand n) (broken f) d = refl
ended_for_each owner.Procedure x d = procedure_alike d.run x d

ended_alike : (h : Option Hold) (x : Ending) (d : Desk) → Alike d (ended h x d)
ended_alike None x d = refl
ended_alike (Some h) x d = ended_for_each h.owner x d

-- events added by a change that raised and lost some
record More (Of : Event → Type 0) (before after : List Event) (raised lost : ℕ) : Type 0 where
  pub new : List Event
  pub behind : after ≡ before ++ new
  pub counted : length new + lost ≡ raised
  pub told : AllByRecursion Of new

no_more : (Of : Event → Type 0) (xs ys : List Event) → ys ≡ xs → More Of xs ys 0 0
no_more Of xs ys e = record { new = []; behind = e ∙ sym (append-nil xs); counted = refl; told = tt }

more_then : (Of : Event → Type 0) (xs ys zs : List Event) (raised lost raised2 lost2 : ℕ) → More Of xs ys raised lost → More Of ys zs raised2 lost2
    → More Of xs zs (raised + raised2) (lost + lost2)
more_then Of xs ys zs raised lost raised2 lost2 a b = record {
  new = a.new ++ b.new;
  behind = b.behind ∙ ap (λ (l : List Event). l ++ b.new) a.behind ∙ append_assoc xs a.new b.new;
  counted = omega (arith, a.counted, b.counted, length-append a.new b.new);
  told = All-append Of a.new b.new a.told b.told;
}

-- an event is stored, or lost where all places are taken
one_more : (Of : Event → Type 0) (room : Bool) (xs : List Event) (x : Event) → Of x → More Of xs (cond room (xs ++ x ∷ []) xs) 1 (cond room 0 1)
one_more Of true xs x of = record { new = x ∷ []; behind = refl; counted = refl; told = (of, tt) }
one_more Of false xs x of = record { new = []; behind = sym (append-nil xs); counted = refl; told = tt }

abbrev RaisedOn : Desk → Desk → ℕ → ℕ → Type 0
RaisedOn d e raised lost = More OfLink d.log.events e.log.events raised lost

ended_more : (h : Option Hold) (x : Ending) (d : Desk) → RaisedOn d (ended h x d) 0 0
ended_more h x d = no_more OfLink d.log.events (ended h x d).log.events (ended_alike h x d)

loud_more : (h : Option Hold) (x : Event) (f : Fault) (d : Desk) → OfLink x → RaisedOn d (ended h (broken f) (raised_on d x)) 1 (lost_in d.log)
loud_more h x f d of =
    let told = raised_on d x in
    let room = ltb (length d.log.events) 32 in
    let a = one_more OfLink room d.log.events x of in
    let b = ended_more h (broken f) told in
    let both = more_then OfLink d.log.events told.log.events (ended h (broken f) told).log.events 1 (lost_in d.log) 0 0 a b in
    record { new = both.new; behind = both.behind; counted = omega (arith, both.counted); told = both.told }

module _ {K : LinkKind} where
  abbrev TurnRaised : Desk → Turn K → Type 0
  TurnRaised d t = RaisedOn d t.desk t.raised t.lost

  polled_more : (due : Option Reply) (place : ℕ) (s : Seat K) (d : Desk) → place ≤ 2 → TurnRaised d (polled_turn due place s d)
  polled_more (Some Ack) place s d low = ended_more s.hold acknowledged d
  polled_more (Some (Nack code detail)) place s d low =
      loud_more s.hold (link_event event.Nack place code) (nack_fault place code detail) (with_status d place Stopped) (record { kind = refl; place = low; value = λ no. absurd (no refl) })
  polled_more (Some Odd) place s d low = loud_more s.hold (link_event event.Odd place 0) (fault_of fault.Odd place) d (record { kind = refl; place = low; value = λ no. refl })
  polled_more None place s d low =
      cond_both (ltb (age_of s.hold + 1) K.limit)
      (record { seat = record { link = K.polled s.link; hold = older s.hold }; desk = d; raised = 0; lost = 0 })
      (loudly (K.abandoned (K.polled s.link)) s.hold (link_event event.NoAck place 0) (fault_of fault.NoAck place) d)
      (TurnRaised d)
      (λ t. no_more OfLink d.log.events d.log.events refl)
      (λ t. loud_more s.hold (link_event event.NoAck place 0) (fault_of fault.NoAck place) d (record { kind = refl; place = low; value = λ no. refl }))

  turn_more : (place : ℕ) (s : Seat K) (d : Desk) → place ≤ 2 → TurnRaised d (turn place s d)
  turn_more place s d low =
      cond_both (is_some (K.means s.link).held) (polled_turn (K.means s.link).due place s d) (record { seat = s; desk = d; raised = 0; lost = 0 })
      (TurnRaised d)
      (λ t. polled_more (K.means s.link).due place s d low)
      (λ t. no_more OfLink d.log.events d.log.events refl)

-- what is handed out was the oldest that waited
collected_events : (events : List Event) (reports : List Report) (h : History) (l : Log) → l.events ≡ events
    → reverse (handed_by (handed events reports) ++ handed_in h) ++ (collected_from events reports l).events ≡ reverse (handed_in h) ++ l.events
collected_events (e ∷ events) reports h l is =
    ap (λ (xs : List Event). xs ++ events) (reverse-append (e ∷ []) (handed_in h))
    ∙ append_assoc (reverse (handed_in h)) (e ∷ []) events ∙ ap (λ (xs : List Event). reverse (handed_in h) ++ xs) (sym is)
collected_events [] (r ∷ reports) h l is = ap (λ (xs : List Event). reverse (handed_in h) ++ xs) (sym is)
collected_events [] [] h l is = refl

module _ {K0 K1 K2 : LinkKind} {W : WatchKind} where
  abbrev AlikeOn : Machine K0 K1 K2 W → Machine K0 K1 K2 W → Type 0
  AlikeOn m n = Alike m.desk n.desk

  triggered_by_kept : (a : Result (Unit {0}) OfferRefusal) (m : Machine K0 K1 K2 W) (n link : ℕ) (c : Command) → AlikeOn m (triggered_by a m n link c)
  triggered_by_kept (Ok u) m n link c = refl
  triggered_by_kept (Err refusal) m n link c = refl

  triggered_alike : (m : Machine K0 K1 K2 W) (n link : ℕ) (c : Command) → AlikeOn m (triggered m n link c)
  triggered_alike m n link c =
      cond_both (is_blocked m.desk link) (with_desk m (settled n (Some (fault_of fault.UnitStopped link)) m.desk)) (triggered_by (offer_answer (means_at m link)) m n link c)
      (AlikeOn m)
      (λ t. refl)
      (λ t. triggered_by_kept (offer_answer (means_at m link)) m n link c)

  effect_alike : (m : Machine K0 K1 K2 W) (n : ℕ) (o : Outcome) → Same m.desk o → AlikeOn m (outcome_of m n o)
  effect_alike m n o same = settled_alike n o.fault o.desk ∙ ap (λ (l : Log). l.events) same.log

  performed_alike : (m : Machine K0 K1 K2 W) (n function activity sid value : ℕ) → AlikeOn m (performed m n function activity sid value)
  performed_alike m n function activity sid value =
      let o = setting (width_of m) m.desk activity sid value in
      let c : Command = record { id = activity; sid = sid; parameter = value } in
      let other = with_desk m (settled n (Some (fault_of fault.InvalidFunction function)) m.desk) in
      cond_both (leb 1 function && leb function 3) (triggered m n (function - 1) c) (cond (eqb function 100) (outcome_of m n o) other) (AlikeOn m)
      (λ t. triggered_alike m n (function - 1) c)
      (λ t. cond_both (eqb function 100) (outcome_of m n o) other (AlikeOn m)
      (λ u. effect_alike m n o (setting_same (width_of m) m.desk activity sid value))
      (λ u. refl))

  stopping_alike : (run : Option Run) (m : Machine K0 K1 K2 W) (id : ℕ) → AlikeOn m (stopping run id m)
  stopping_alike None m id = refl
  stopping_alike (Some r) m id = cond_both (eqb id 0 || eqb id r.id) (stopped_run r m) m (AlikeOn m) (λ t. refl) (λ t. refl)

  stopped_alike : (m : Machine K0 K1 K2 W) (n id : ℕ) → AlikeOn m (stopped m n id)
  stopped_alike m n id =
      cond_both (ltb 16 id) (with_desk m (settled n (Some (fault_of fault.InvalidProcedure id)) m.desk)) (done n (stopping m.desk.run id m)) (AlikeOn m)
      (λ t. refl)
      (λ t. stopping_alike m.desk.run m id)

  carried_alike : (t : Telecommand) (n : ℕ) (m : Machine K0 K1 K2 W) → AlikeOn m (carried_out t n m)
  carried_alike Test n m = refl
  carried_alike (Perform function activity sid value) n m = performed_alike m n function activity sid value
  carried_alike (Load id nop steps) n m = effect_alike m n (loading (width_of m) m.desk id nop steps) (loading_same (width_of m) m.desk id nop steps)
  carried_alike (Delete id) n m = effect_alike m n (deleting m.desk id) (deleting_same m.desk id)
  carried_alike (Start id settings) n m =
      let o = starting m.desk id settings in
      begun_alike o.fault id n o.desk ∙ ap (λ (l : Log). l.events) (starting_free m.desk id settings).same.log
  carried_alike (Stop id) n m = stopped_alike m n id
  carried_alike (Set id settings) n m = effect_alike m n (setting_parameters m.desk id settings) (parameters_same m.desk id settings)

  submitted_alike : (a : Result ℕ Refusal) (read : Result Packet Refusal) (m : Machine K0 K1 K2 W) → AlikeOn m (submitted_by a read m)
  submitted_alike (Err refusal) read m = refl
  submitted_alike (Ok n) (Err refusal) m = refl
  submitted_alike (Ok n) (Ok packet) m = carried_alike packet.telecommand n (numbered_in m)

  received_alike : (m : Machine K0 K1 K2 W) (link : ℕ) (bytes : List ℕ) → AlikeOn m (received_at m link bytes)
  received_alike m link bytes =
      let a = with_seats m (seat_received bytes m.seat0) m.seat1 m.seat2 in
      let b = with_seats m m.seat0 (seat_received bytes m.seat1) m.seat2 in
      let c = with_seats m m.seat0 m.seat1 (seat_received bytes m.seat2) in
      cond_both (eqb link 0) a (cond (eqb link 1) b c) (AlikeOn m) (λ t. refl)
      (λ t. cond_both (eqb link 1) b c (AlikeOn m) (λ u. refl) (λ u. refl))

  delivered_alike : (m : Machine K0 K1 K2 W) (link : ℕ) (bytes : List ℕ) → AlikeOn m (after m (deliver link bytes))
  delivered_alike m link bytes =
      cond_both (ltb 2 link) m (cond (is_some (means_at m link).held) (received_at m link bytes) m) (AlikeOn m)
      (λ t. refl)
      (λ t. cond_both (is_some (means_at m link).held) (received_at m link bytes) m (AlikeOn m) (λ u. received_alike m link bytes) (λ u. refl))

  sent_by_each : (a : Result (Unit {0}) OfferRefusal) (m : Machine K0 K1 K2 W) (r : Run) (link : ℕ) (c : Command) → AlikeOn m (sent_by a m r link c)
  sent_by_each (Ok u) m r link c = refl
  sent_by_each (Err refusal) m r link c = refl

  stepped_alike : (action : Action) (m : Machine K0 K1 K2 W) (r : Run) (spent : ℕ) → AlikeOn m (stepped action r spent m)
  stepped_alike (Wait ticks) m r spent =
      cond_both (ltb spent ticks) (with_run m.desk (Some (spent_on r spent))) (passed r m.desk) (Alike m.desk)
      (λ t. refl) (λ t. passed_alike r m.desk)
  stepped_alike (Send link id sid v) m r spent =
      let c : Command = record { id = id; sid = sid; parameter = parameter_of (procedure_at m.desk r.id) v } in
      cond_both (is_blocked m.desk link) (with_desk m (failed_run (Some r) (fault_of fault.UnitStopped link) m.desk)) (sent_by (offer_answer (means_at m link)) m r link c)
      (AlikeOn m)
      (λ t. refl)
      (λ t. sent_by_each (offer_answer (means_at m link)) m r link c)
  stepped_alike (Expect f) m r spent =
      cond_both (W.trouble m.watch f) (failed_run (Some r) (fault_of fault.ExpectFailed f) m.desk) (passed r m.desk) (Alike m.desk)
      (λ t. refl) (λ t. passed_alike r m.desk)

  stepped_in_each : (state : RunState) (m : Machine K0 K1 K2 W) (r : Run) → AlikeOn m (stepped_in state r m)
  stepped_in_each (Ready spent) m r = stepped_alike (action_at (procedure_at m.desk r.id) r.step) m r spent
  stepped_in_each (Sent link) m r = refl

  step_alike : (run : Option Run) (m : Machine K0 K1 K2 W) → AlikeOn m (stepped_run run m)
  step_alike None m = refl
  step_alike (Some r) m = stepped_in_each r.state m r

  ticked_more : (m : Machine K0 K1 K2 W)
      → More OfLink m.desk.log.events (after m tick).desk.log.events (answer_to m tick).raised (answer_to m tick).lost
  ticked_more m =
      let turned : Machine K0 K1 K2 W = record { seat0 = (turn0 m).seat; seat1 = (turn1 m).seat; seat2 = (turn2 m).seat; watch = m.watch; desk = (turn2 m).desk } in
      let old = m.desk.log.events in
      let a = turn_more 0 m.seat0 m.desk (omega arith) in
      let b = turn_more 1 m.seat1 (turn0 m).desk (omega arith) in
      let c = turn_more 2 m.seat2 (turn1 m).desk (omega arith) in
      let ab = more_then OfLink old (turn0 m).desk.log.events (turn1 m).desk.log.events (turn0 m).raised (turn0 m).lost (turn1 m).raised (turn1 m).lost a b in
      let all = more_then OfLink old (turn1 m).desk.log.events (turn2 m).desk.log.events ((turn0 m).raised + (turn1 m).raised) ((turn0 m).lost + (turn1 m).lost) (turn2 m).raised (turn2 m).lost ab c in
      record { new = all.new; behind = step_alike (turn2 m).desk.run turned ∙ all.behind; counted = all.counted; told = all.told }

  sampled_more : (refusal : Option Refusal) (m : Machine K0 K1 K2 W) (f v : ℕ)
      → More (Tells (sample f v) (sampled (sampled_by refusal m f v).outcome)) m.desk.log.events (after_sample_by refusal m f v).desk.log.events
      (sampled_by refusal m f v).raised (sampled_by refusal m f v).lost
  sampled_more (Some refusal) m f v = no_more (Tells (sample f v) (sampled (Err refusal))) m.desk.log.events m.desk.log.events refl
  sampled_more None m f v = told_by (changes m f v) m f v
    where
      told_by : (change : Bool) (m : Machine K0 K1 K2 W) (f v : ℕ)
          → More (Tells (sample f v) (sampled (Ok (trouble_after m f v)))) m.desk.log.events
          (cond change (raised_on m.desk (record { kind = cond (trouble_after m f v) event.Trouble event.Clear; place = f; value = v })) m.desk).log.events
          (cond change 1 0) (cond change (lost_in m.desk.log) 0)
      told_by true m f v =
          let x : Event = record { kind = cond (trouble_after m f v) event.Trouble event.Clear; place = f; value = v } in
          one_more (Tells (sample f v) (sampled (Ok (trouble_after m f v)))) (ltb (length m.desk.log.events) 32) m.desk.log.events x refl
      told_by false m f v = no_more (Tells (sample f v) (sampled (Ok (trouble_after m f v)))) m.desk.log.events m.desk.log.events refl

  -- what was collected comes before what waits
  behind_handed : (h : History) (c : Call) (a : Answer Told) (m n : Machine K0 K1 K2 W)
      → More (Tells c a.outcome) m.desk.log.events n.desk.log.events a.raised a.lost
      → AddsEvents c a (stored h m) (reverse (handed_in h) ++ n.desk.log.events)
  behind_handed h c a m n more = record {
    new = more.new;
    behind = ap (λ (l : List Event). reverse (handed_in h) ++ l) more.behind ∙ sym (append_assoc (reverse (handed_in h)) m.desk.log.events more.new);
    counted = more.counted;
    told = more.told;
  }

  pub events_in_order : EventsInOrder K0 K1 K2 W
  events_in_order h m (submit bytes) =
      let c = submit bytes in
      behind_handed h c (answer_to m c) m (after m c)
      (no_more (Tells c (answer_to m c).outcome) m.desk.log.events (after m c).desk.log.events (submitted_alike (acceptance m (read_packet bytes)) (read_packet bytes) m))
  events_in_order h m (deliver link bytes) =
      let c = deliver link bytes in
      behind_handed h c (answer_to m c) m (after m c)
      (no_more (Tells c (answer_to m c).outcome) m.desk.log.events (after m c).desk.log.events (delivered_alike m link bytes))
  events_in_order h m tick = behind_handed h tick (answer_to m tick) m (after m tick) (ticked_more m)
  events_in_order h m (sample f v) = behind_handed h (sample f v) (answer_to m (sample f v)) m (after m (sample f v)) (sampled_more (sample_refusal m f) m f v)
  events_in_order h m collect = record {
    new = [];
    behind = collected_events m.desk.log.events m.desk.log.reports h m.desk.log refl ∙ sym (append-nil (stored h m));
    counted = refl;
    told = tt;
  }
