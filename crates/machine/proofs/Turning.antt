-- A link's turn in a tick keeps what is owed: its note and its link agree, and nothing is lost but an event that is counted.
use Rattle.std.proofs.Common.{◌≡◌, ℕ, ◌+◌, ◌≤◌, min, Bool, true, false, cond, eqb, ltb, List, [], ◌∷◌, ◌++◌, length, set, is_some, Some, None, Option, sym, refl, ap, ◌∙◌, ⊎_elim, arith}
use Rattle.std.proofs.lemmas.List.{length_push}
use Rattle.std.proofs.lemmas.Bool.{cond_both, cases_Bool, eqb-true, ne_eqb}
use Rattle.links.specs.Meaning.{LinkKind, LinkMeaning, Lawful, idle, after_poll}
use Rattle.records.specs.declared.command.Command.{Command}
use Rattle.records.specs.declared.command.Reply.{Reply}
use Rattle.records.specs.declared.command.Reply.TheVariants.{Ack, Nack, Odd}
use Rattle.records.specs.declared.event.Event.{Event}
use Rattle.records.specs.declared.event.EventKind.TheVariants as event
use Rattle.records.specs.declared.fault.Fault.{Fault}
use Rattle.records.specs.declared.fault.FaultKind.TheVariants as fault
use Rattle.records.specs.declared.report.Stage.TheVariants.{Done}
use Rattle.records.specs.Faults.{fault_of, nack_fault}
use Rattle.machine.specs.declared.state.Hold.{Hold}
use Rattle.machine.specs.declared.state.LinkStatus.{LinkStatus}
use Rattle.machine.specs.declared.state.LinkStatus.TheVariants.{Stopped}
use Rattle.machine.specs.declared.state.Owner.{Owner}
use Rattle.machine.specs.declared.state.Owner.TheVariants as owner
use Rattle.machine.specs.declared.state.Run.{Run}
use Rattle.machine.specs.declared.state.RunState.{RunState}
use Rattle.machine.specs.declared.state.RunState.TheVariants.{Ready, Sent}
use Rattle.machine.specs.Desks.{Desk, put, with_run, reported, raised_on, procedure_at, steps_of, passed}
use Rattle.machine.specs.Machine.{pending_in}
use Rattle.machine.specs.Seats.{Seat, Ending, acknowledged, broken, answered_run, answered_procedure, ended_for, ended, link_event, Turn, older, age_of, quietly, loudly, polled_turn, turn}
use Rattle.machine.proofs.Prices.{Price, hold_worth, desk_worth, desk_debt, ended_moved}

-- whether a run waits for the reply of a link
abbrev pub sent_at : ℕ → RunState → Bool
sent_at place (Ready spent) = false
sent_at place (Sent link) = eqb (min link 2) place

abbrev pub sent_to : ℕ → Option Run → Bool
sent_to place None = false
sent_to place (Some r) = sent_at place r.state

abbrev pub is_procedures : Owner → Bool
is_procedures (owner.Telecommand n) = false
is_procedures owner.Procedure = true

abbrev pub procedure_holds : Option Hold → Bool
procedure_holds None = false
procedure_holds (Some h) = is_procedures h.owner

-- a link's command is the procedure's exactly while the run waits for that link
abbrev pub Ties : ℕ → Option Hold → Option Run → Type 0
Ties place h run = sent_to place run ≡ procedure_holds h

-- a run that waits for no link
abbrev pub Unsent : Option Run → Type 0
Unsent run = (place : ℕ) → sent_to place run ≡ false

pub passed_unsent : (r : Run) (d : Desk) → Unsent (passed r d).run
passed_unsent r d place =
    cond_both (ltb (r.step + 1) (steps_of (procedure_at d r.id)))
    (with_run d (Some (record { id = r.id; number = r.number; step = r.step + 1; sent = r.sent; state = Ready 0 })))
    (reported (with_run d None) r.number (Done r.sent)) (λ (e : Desk). sent_to place e.run ≡ false) (λ t. refl) (λ t. refl)

answered_unsent : (place : ℕ) (r : Run) (s : RunState) (x : Ending) (d : Desk) → d.run ≡ Some r → r.state ≡ s → sent_to place (answered_run s x r d).run ≡ false
answered_unsent place r (Ready spent) x d e f = ap (sent_to place) e ∙ ap (sent_at place) f
answered_unsent place r (Sent link) acknowledged d e f = passed_unsent r d place
answered_unsent place r (Sent link) (broken y) d e f = refl

procedure_unsent : (place : ℕ) (run : Option Run) (x : Ending) (d : Desk) → d.run ≡ run → sent_to place (answered_procedure run x d).run ≡ false
procedure_unsent place None x d e = ap (sent_to place) e
procedure_unsent place (Some r) x d e = answered_unsent place r r.state x d e refl

-- a run waits for one link alone
sent_at_once : (place other : ℕ) (s : RunState) → (place ≡ other → ⊥) → sent_at place s ≡ true → sent_at other s ≡ false
sent_at_once place other (Ready spent) ne e = refl
sent_at_once place other (Sent link) ne e = ne_eqb (min link 2) other (λ same. ne (sym (eqb-true (min link 2) place e) ∙ same))

pub sent_once : (place other : ℕ) (run : Option Run) → (place ≡ other → ⊥) → sent_to place run ≡ true → sent_to other run ≡ false
sent_once place other None ne e = refl
sent_once place other (Some r) ne e = sent_at_once place other r.state ne e

for_unsent : (place age : ℕ) (o : Owner) (x : Ending) (d : Desk) → Ties place (Some (record { owner = o; age = age })) d.run → sent_to place (ended_for o x d).run ≡ false
for_unsent place age (owner.Telecommand n) acknowledged d tie = tie
for_unsent place age (owner.Telecommand n) (broken f) d tie = tie
for_unsent place age owner.Procedure x d tie = procedure_unsent place d.run x d refl

-- after a held command ended the run does not wait for its link
ended_unsent : (place : ℕ) (h : Option Hold) (x : Ending) (d : Desk) → Ties place h d.run → sent_to place (ended h x d).run ≡ false
ended_unsent place None x d tie = tie
ended_unsent place (Some h) x d tie = for_unsent place h.age h.owner x d tie

-- nor is another link's tie broken: where the command was the procedure's, the run waited for no other link
for_others : (place other age : ℕ) (h : Option Hold) (o : Owner) (x : Ending) (d : Desk) → (place ≡ other → ⊥)
    → Ties place (Some (record { owner = o; age = age })) d.run → Ties other h d.run → Ties other h (ended_for o x d).run
for_others place other age h (owner.Telecommand n) acknowledged d ne own tie = tie
for_others place other age h (owner.Telecommand n) (broken f) d ne own tie = tie
for_others place other age h owner.Procedure x d ne own tie =
    procedure_unsent other d.run x d refl ∙ sym (sent_once place other d.run ne own) ∙ tie

ended_others : (place other : ℕ) (g h : Option Hold) (x : Ending) (d : Desk) → (place ≡ other → ⊥)
    → Ties place g d.run → Ties other h d.run → Ties other h (ended g x d).run
ended_others place other None h x d ne own tie = tie
ended_others place other (Some g) h x d ne own tie = for_others place other g.age h g.owner x d ne own tie

-- an event is stored or lost
pub raised_or_lost : (xs : List Event) (e : Event) → length (put 32 xs e) + cond (ltb (length xs) 32) 0 1 ≡ length xs + 1
raised_or_lost xs e =
    ⊎_elim
    (λ (room : ltb (length xs) 32 ≡ true). ap (λ (b : Bool). length (cond b (xs ++ e ∷ []) xs) + cond b 0 1) room ∙ omega (arith, length_push xs e))
    (λ (full : ltb (length xs) 32 ≡ false). ap (λ (b : Bool). length (cond b (xs ++ e ∷ []) xs) + cond b 0 1) full)
    (cases_Bool (ltb (length xs) 32))

-- a seat whose note agrees with its link
pub record Seated {K : LinkKind} (s : Seat K) : Type 0 where
  pub ok : K.Ok s.link
  pub tied : is_some (K.means s.link).held ≡ is_some s.hold

pub record Turned {K : LinkKind} (place : ℕ) (s : Seat K) (d : Desk) (t : Turn K) : Type 0 where
  pub seated : Seated t.seat
  pub taken : (K.means t.seat.link).taken ≡ (K.means s.link).taken
  pub worths : (P : Price) → desk_worth P t.desk + hold_worth P t.seat.hold ≡ desk_worth P d + hold_worth P s.hold
  pub debt : desk_debt t.desk + pending_in t.seat.hold ≤ desk_debt d + pending_in s.hold
  pub accepted : t.desk.log.accepted ≡ d.log.accepted
  pub events : length t.desk.log.events + t.lost ≡ length d.log.events + t.raised
  pub counted : d.log.raised ≤ 1000000 → t.desk.log.raised ≡ min (d.log.raised + t.raised) 1000000
  pub own_tie : Ties place s.hold d.run → Ties place t.seat.hold t.desk.run
  pub other_ties : (other : ℕ) (h : Option Hold) → (place ≡ other → ⊥) → Ties place s.hold d.run → Ties other h d.run → Ties other h t.desk.run

-- other statuses
abbrev restatused : Desk → List LinkStatus → Desk
restatused d statuses = record { statuses = statuses; switches = d.switches; procedures = d.procedures; run = d.run; log = d.log }

older_held : (h : Option Hold) → is_some (older h) ≡ is_some h
older_held None = refl
older_held (Some h) = refl

older_worth : (P : Price) (h : Option Hold) → hold_worth P (older h) ≡ hold_worth P h
older_worth P None = refl
older_worth P (Some h) = refl

older_pending : (h : Option Hold) → pending_in (older h) ≡ pending_in h
older_pending None = refl
older_pending (Some h) = refl

older_owner : (h : Option Hold) → procedure_holds (older h) ≡ procedure_holds h
older_owner None = refl
older_owner (Some h) = refl

module _ {K : LinkKind} (L : Lawful K) where
  -- a link that answered is idle
  answered_idle : (s : K.State) (reply : Reply) → K.Ok s → (K.means s).due ≡ Some reply → K.means (K.polled s) ≡ idle (K.means s).taken
  answered_idle s reply ok e =
      L.polls s ok ∙ ap (λ (due : Option Reply). after_poll due (K.means s) (K.means (K.polled s)).due) e

  -- one that did not still holds its command
  silent : (s : K.State) → K.Ok s → (K.means s).due ≡ None
      → ((K.means (K.polled s)).taken ≡ (K.means s).taken) × ((K.means (K.polled s)).held ≡ (K.means s).held)
  silent s ok e =
      let same = L.polls s ok ∙ ap (λ (due : Option Reply). after_poll due (K.means s) (K.means (K.polled s)).due) e in
      (ap (λ (m : LinkMeaning). m.taken) same, ap (λ (m : LinkMeaning). m.held) same)

  -- a command that ended, of a link that is idle now
  quiet_turn : (place : ℕ) (s : Seat K) (d : Desk) (link : K.State) → desk_debt d + pending_in s.hold ≤ 400
      → K.Ok link → K.means link ≡ idle (K.means s.link).taken → Turned place s d (quietly link s.hold d)
  quiet_turn place s d link room ok e =
      let moved = ended_moved s.hold acknowledged d room in
      record {
        seated = record { ok = ok; tied = ap (λ (m : LinkMeaning). is_some m.held) e };
        taken = ap (λ (m : LinkMeaning). m.taken) e;
        worths = λ P. omega (arith, moved.worths P);
        debt = omega (arith, moved.debt);
        accepted = moved.accepted;
        events = omega (arith, ap length moved.events);
        counted = λ low. omega (arith, moved.raised);
        own_tie = λ tie. ended_unsent place s.hold acknowledged d tie;
        other_ties = λ other h ne own tie. ended_others place other s.hold h acknowledged d ne own tie;
      }

  -- one that ended with an event first; statuses do not count
  loud_turn : (place : ℕ) (s : Seat K) (d : Desk) (statuses : List LinkStatus) (link : K.State) (x : Event) (f : Fault) → desk_debt d + pending_in s.hold ≤ 400
      → K.Ok link → K.means link ≡ idle (K.means s.link).taken → Turned place s d (loudly link s.hold x f (restatused d statuses))
  loud_turn place s d statuses link x f room ok e =
      let told = raised_on (restatused d statuses) x in
      let moved = ended_moved s.hold (broken f) told room in
      record {
        seated = record { ok = ok; tied = ap (λ (m : LinkMeaning). is_some m.held) e };
        taken = ap (λ (m : LinkMeaning). m.taken) e;
        worths = λ P. omega (arith, moved.worths P);
        debt = omega (arith, moved.debt);
        accepted = moved.accepted;
        events = omega (arith, ap length moved.events, raised_or_lost d.log.events x);
        counted = λ low. omega (arith, moved.raised);
        own_tie = λ tie. ended_unsent place s.hold (broken f) told tie;
        other_ties = λ other h ne own tie. ended_others place other s.hold h (broken f) told ne own tie;
      }

  waiting_turn : (place : ℕ) (s : Seat K) (d : Desk) → Seated s → (K.means s.link).due ≡ None
      → Turned place s d (record { seat = record { link = K.polled s.link; hold = older s.hold }; desk = d; raised = 0; lost = 0 })
  waiting_turn place s d seat e =
      let same = silent s.link seat.ok e in
      record {
        seated = record {
          ok = L.stays_polled s.link seat.ok;
          tied = ap (λ (held : Option Command). is_some held) same.1 ∙ seat.tied ∙ sym (older_held s.hold);
        };
        taken = same.0;
        worths = λ P. omega (arith, older_worth P s.hold);
        debt = omega (arith, older_pending s.hold);
        accepted = refl;
        events = refl;
        counted = λ low. omega arith;
        own_tie = λ tie. tie ∙ sym (older_owner s.hold);
        other_ties = λ other h ne own tie. tie;
      }

  abandoned_idle : (s : K.State) → K.Ok s → (K.means s).due ≡ None → K.means (K.abandoned (K.polled s)) ≡ idle (K.means s).taken
  abandoned_idle s ok e = L.abandons (K.polled s) (L.stays_polled s ok) ∙ ap idle (silent s ok e).0

  polled_turn_kept : (due : Option Reply) (place : ℕ) (s : Seat K) (d : Desk) → (K.means s.link).due ≡ due → Seated s
      → desk_debt d + pending_in s.hold ≤ 400 → Turned place s d (polled_turn due place s d)
  polled_turn_kept (Some Ack) place s d e seat room =
      quiet_turn place s d (K.polled s.link) room (L.stays_polled s.link seat.ok) (answered_idle s.link Ack seat.ok e)
  polled_turn_kept (Some (Nack code detail)) place s d e seat room =
      loud_turn place s d (set d.statuses place Stopped) (K.polled s.link) (link_event event.Nack place code) (nack_fault place code detail) room
      (L.stays_polled s.link seat.ok) (answered_idle s.link (Nack code detail) seat.ok e)
  polled_turn_kept (Some Odd) place s d e seat room =
      loud_turn place s d d.statuses (K.polled s.link) (link_event event.Odd place 0) (fault_of fault.Odd place) room
      (L.stays_polled s.link seat.ok) (answered_idle s.link Odd seat.ok e)
  polled_turn_kept None place s d e seat room =
      cond_both (ltb (age_of s.hold + 1) K.limit)
      (record { seat = record { link = K.polled s.link; hold = older s.hold }; desk = d; raised = 0; lost = 0 })
      (loudly (K.abandoned (K.polled s.link)) s.hold (link_event event.NoAck place 0) (fault_of fault.NoAck place) d)
      (Turned place s d)
      (λ t. waiting_turn place s d seat e)
      (λ t. loud_turn place s d d.statuses (K.abandoned (K.polled s.link)) (link_event event.NoAck place 0) (fault_of fault.NoAck place) room
      (L.stays_abandoned (K.polled s.link) (L.stays_polled s.link seat.ok)) (abandoned_idle s.link seat.ok e))

  idle_turn : (place : ℕ) (s : Seat K) (d : Desk) → Seated s → Turned place s d (record { seat = s; desk = d; raised = 0; lost = 0 })
  idle_turn place s d seat = record {
    seated = seat;
    taken = refl;
    worths = λ P. refl;
    debt = omega arith;
    accepted = refl;
    events = refl;
    counted = λ low. omega arith;
    own_tie = λ tie. tie;
    other_ties = λ other h ne own tie. tie;
  }

  pub turned : (place : ℕ) (s : Seat K) (d : Desk) → Seated s → desk_debt d + pending_in s.hold ≤ 400 → Turned place s d (turn place s d)
  turned place s d seat room =
      cond_both (is_some (K.means s.link).held) (polled_turn (K.means s.link).due place s d) (record { seat = s; desk = d; raised = 0; lost = 0 })
      (Turned place s d)
      (λ t. polled_turn_kept (K.means s.link).due place s d refl seat room)
      (λ t. idle_turn place s d seat)
