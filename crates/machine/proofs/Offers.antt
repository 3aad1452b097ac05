-- What holds between calls, and what an offer or a withdrawal at one of the three links keeps of it.
use Rattle.std.proofs.Common.{◌≡◌, ℕ, ◌+◌, min, Bool, true, false, cond, eqb, ltb, is_some, is_ok, Some, None, Ok, Err, Option, Result, sym, refl, ap, ◌∙◌, arith}
use Rattle.std.proofs.lemmas.Bool.{ne_eqb, eq-eqb, both_ways}
use Rattle.std.proofs.lemmas.Bool.Decides.{nat_tests}
use Rattle.links.specs.declared.answers.OfferRefusal.{OfferRefusal}
use Rattle.links.specs.declared.answers.OfferRefusal.TheVariants.{Busy, Spent}
use Rattle.links.specs.Meaning.{LinkKind, LinkMeaning, Lawful, offer_answer, after_offer}
use Rattle.records.specs.declared.command.Command.{Command}
use Rattle.records.specs.declared.command.Reply.{Reply}
use Rattle.watches.specs.Meaning.{WatchKind}
use Rattle.machine.specs.declared.state.Hold.{Hold}
use Rattle.machine.specs.declared.state.Owner.{Owner}
use Rattle.machine.specs.declared.state.Owner.TheVariants as owner
use Rattle.machine.specs.declared.state.Run.{Run}
use Rattle.machine.specs.declared.state.RunState.TheVariants.{Sent}
use Rattle.machine.specs.Machine.{Machine, pending_of, pending_in, with_seats, means_at, offered_at, abandoned_at, sent_on}
use Rattle.machine.specs.Seats.{Seat, held_after, seat_offered, seat_abandoned}
use Rattle.machine.proofs.Prices.{Price, owner_worth, hold_worth}
use Rattle.machine.proofs.Turning.{Seated, Ties, Unsent, sent_to, sent_at, procedure_holds, is_procedures, sent_once}

-- no note where nothing is held
none_held : (h : Option Hold) → is_some h ≡ false → h ≡ None
none_held None e = refl
none_held (Some h) e = absurd (both_ways true e refl)

-- an offer that is taken finds an idle link
abbrev answer_by : Bool → Bool → Result (Unit {0}) OfferRefusal
answer_by busy room = cond busy (Err Busy) (cond room (Ok tt) (Err Spent))

taken_idle : (held : Option Command) (room : Bool) → is_ok (answer_by (is_some held) room) ≡ true → is_some held ≡ false
taken_idle None room e = refl
taken_idle (Some c) room e = absurd (both_ways false refl e)

abbrev Accepts : {K : LinkKind} → Seat K → Type 0
Accepts {K} s = is_ok (offer_answer (K.means s.link)) ≡ true

abbrev Refuses : {K : LinkKind} → Seat K → Type 0
Refuses {K} s = is_ok (offer_answer (K.means s.link)) ≡ false

-- for a procedure's command nothing is owed beside the run
owes_nothing_for : (P : Price) (o : Owner) → is_procedures o ≡ true → owner_worth P o ≡ 0
owes_nothing_for P (owner.Telecommand n) e = absurd (both_ways false refl e)
owes_nothing_for P owner.Procedure e = refl

owes_nothing : (P : Price) (h : Option Hold) → procedure_holds h ≡ true → hold_worth P h ≡ 0
owes_nothing P None e = refl
owes_nothing P (Some h) e = owes_nothing_for P h.owner e

owes_no_place_for : (o : Owner) → is_procedures o ≡ true → pending_of o ≡ 0
owes_no_place_for (owner.Telecommand n) e = absurd (both_ways false refl e)
owes_no_place_for owner.Procedure e = refl

owes_no_place : (h : Option Hold) → procedure_holds h ≡ true → pending_in h ≡ 0
owes_no_place None e = refl
owes_no_place (Some h) e = owes_no_place_for h.owner e

-- what a seat is after its link took a command
pub record SeatTook {K : LinkKind} (s t : Seat K) (o : Owner) : Type 0 where
  pub seated : Seated t
  pub none_before : s.hold ≡ None
  pub held_now : t.hold ≡ Some (record { owner = o; age = 0 })
  pub taken : (K.means t.link).taken ≡ (K.means s.link).taken + 1

held_by : (a : Result (Unit {0}) OfferRefusal) (o : Owner) (h : Option Hold) → is_ok a ≡ true → held_after a o h ≡ Some (record { owner = o; age = 0 })
held_by (Ok u) o h e = refl
held_by (Err r) o h e = absurd (both_ways false refl e)

kept_by : (a : Result (Unit {0}) OfferRefusal) (o : Owner) (h : Option Hold) → is_ok a ≡ false → held_after a o h ≡ h
kept_by (Ok u) o h e = absurd (both_ways true e refl)
kept_by (Err r) o h e = refl

after_taken : (a : Result (Unit {0}) OfferRefusal) (m : LinkMeaning) (c : Command) (due : Option Reply) → is_ok a ≡ true
    → after_offer a m c due ≡ record { taken = m.taken + 1; held = Some c; due = due }
after_taken (Ok u) m c due e = refl
after_taken (Err r) m c due e = absurd (both_ways false refl e)

module _ {K : LinkKind} (L : Lawful K) where
  pub seat_took : (s : Seat K) (c : Command) (o : Owner) → Seated s → Accepts s → SeatTook s (seat_offered c o s) o
  seat_took s c o seat e =
      let m = K.means s.link in
      let means = L.offers s.link c seat.ok ∙ after_taken (offer_answer m) m c (K.means (K.offered s.link c)).due e in
      let free = taken_idle m.held (ltb m.taken 1000000) e in
      let now = held_by (offer_answer m) o s.hold e in
      record {
        seated = record {
          ok = L.stays_offered s.link c seat.ok;
          tied = ap (λ (x : LinkMeaning). is_some x.held) means ∙ sym (ap (λ (h : Option Hold). is_some h) now);
        };
        none_before = none_held s.hold (sym seat.tied ∙ free);
        held_now = now;
        taken = ap (λ (x : LinkMeaning). x.taken) means;
      }

  -- a refused offer leaves the seat as it was
  pub seat_kept : (s : Seat K) (c : Command) (o : Owner) → Seated s → Refuses s → seat_offered c o s ≡ s
  seat_kept s c o seat e =
      ap (λ (link : K.State). record { link = link; hold = held_after (offer_answer (K.means s.link)) o s.hold }) (L.refuses s.link c seat.ok e)
      ∙ ap (λ (h : Option Hold). record { link = s.link; hold = h }) (kept_by (offer_answer (K.means s.link)) o s.hold e)

  pub seat_abandoned_seated : (s : Seat K) → Seated s → Seated (seat_abandoned s)
  seat_abandoned_seated s seat = record {
    ok = L.stays_abandoned s.link seat.ok;
    tied = ap (λ (x : LinkMeaning). is_some x.held) (L.abandons s.link seat.ok);
  }

  pub abandoned_taken : (s : Seat K) → Seated s → (K.means (seat_abandoned s).link).taken ≡ (K.means s.link).taken
  abandoned_taken s seat = ap (λ (x : LinkMeaning). x.taken) (L.abandons s.link seat.ok)

-- the place of a link, by the tests that find it
abbrev pub place_by : Bool → Bool → ℕ
place_by first second = cond first 0 (cond second 1 2)

pub place_is : (link : ℕ) → min link 2 ≡ place_by (eqb link 0) (eqb link 1)
place_is link = grind (arith, nat_tests)

-- a link that held nothing and took a command for a telecommand
tie_now : (place : ℕ) (before now : Option Hold) (run : Option Run) → before ≡ None → procedure_holds now ≡ false → Ties place before run → Ties place now run
tie_now place before now run e none tie = tie ∙ ap procedure_holds e ∙ sym none

-- one that took a command for the run waits at its own place alone
here : (place link : ℕ) (now : Option Hold) (r : Run) → min link 2 ≡ place → procedure_holds now ≡ true → Ties place now (Some (sent_on r link))
here place link now r e own = eq-eqb (min link 2) place e ∙ sym own

elsewhere : (place link other : ℕ) (h : Option Hold) (r : Run) → min link 2 ≡ place → (place ≡ other → ⊥) → procedure_holds h ≡ false
    → Ties other h (Some (sent_on r link))
elsewhere place link other h r e ne none = ne_eqb (min link 2) other (λ same. ne (sym e ∙ same)) ∙ sym none

module _ {K0 K1 K2 : LinkKind} {W : WatchKind} where
  -- a link's command is the procedure's exactly while the run waits for that link
  abbrev pub AllTies : Machine K0 K1 K2 W → Option Run → Type 0
  AllTies m run = Ties 0 m.seat0.hold run × Ties 1 m.seat1.hold run × Ties 2 m.seat2.hold run

  -- what the three links' held commands are worth, the places owed for them, and the worth of all that was taken
  abbrev pub held_worth : Price → Machine K0 K1 K2 W → ℕ
  held_worth P m = hold_worth P m.seat0.hold + hold_worth P m.seat1.hold + hold_worth P m.seat2.hold

  abbrev pub held_debt : Machine K0 K1 K2 W → ℕ
  held_debt m = pending_in m.seat0.hold + pending_in m.seat1.hold + pending_in m.seat2.hold

  abbrev pub taken_worth : Price → Machine K0 K1 K2 W → ℕ
  taken_worth P m = P.W (K0.means m.seat0.link).taken + P.W (K1.means m.seat1.link).taken + P.W (K2.means m.seat2.link).taken

  pub record AllSeated (m : Machine K0 K1 K2 W) : Type 0 where
    pub first : Seated m.seat0
    pub second : Seated m.seat1
    pub third : Seated m.seat2

  -- a machine after one of its links took a command for an owner; its desk and watch are as they were
  pub record Took (m n : Machine K0 K1 K2 W) (place : ℕ) (o : Owner) : Type 0 where
    pub seated : AllSeated n
    pub worth : (P : Price) → held_worth P n ≡ held_worth P m + owner_worth P o
    pub debt : held_debt n ≡ held_debt m + pending_of o
    pub taken : (P : Price) → taken_worth P n ≡ taken_worth P m + P.w
    pub ties : (run : Option Run) → is_procedures o ≡ false → AllTies m run → AllTies n run
    pub sent : (run : Option Run) (r : Run) (link : ℕ) → is_procedures o ≡ true → min link 2 ≡ place → Unsent run → AllTies m run → AllTies n (Some (sent_on r link))
    pub desk : n.desk ≡ m.desk
    pub watch : n.watch ≡ m.watch

  abbrev means_by : Bool → Bool → Machine K0 K1 K2 W → LinkMeaning
  means_by first second m = cond first (K0.means m.seat0.link) (cond second (K1.means m.seat1.link) (K2.means m.seat2.link))

  abbrev offered_by : Bool → Bool → Machine K0 K1 K2 W → Command → Owner → Machine K0 K1 K2 W
  offered_by first second m c o =
      cond first (with_seats m (seat_offered c o m.seat0) m.seat1 m.seat2)
      (cond second (with_seats m m.seat0 (seat_offered c o m.seat1) m.seat2)
      (with_seats m m.seat0 m.seat1 (seat_offered c o m.seat2)))

  module _ (L0 : Lawful K0) (L1 : Lawful K1) (L2 : Lawful K2) where
    took_by : (first second : Bool) (m : Machine K0 K1 K2 W) (c : Command) (o : Owner) → AllSeated m
        → is_ok (offer_answer (means_by first second m)) ≡ true → Took m (offered_by first second m c o) (place_by first second) o
    took_by true second m c o seats e =
        let t = seat_took L0 m.seat0 c o seats.first e in
        record {
          seated = record { first = t.seated; second = seats.second; third = seats.third };
          worth = λ P. omega (arith, ap (hold_worth P) t.none_before, ap (hold_worth P) t.held_now);
          debt = omega (arith, ap pending_in t.none_before, ap pending_in t.held_now);
          taken = λ P. omega (arith, ap P.W t.taken, P.taken_more (K0.means m.seat0.link).taken);
          ties = λ run own ties. (tie_now 0 m.seat0.hold (seat_offered c o m.seat0).hold run t.none_before (ap procedure_holds t.held_now ∙ own) ties.0, ties.1, ties.2);
          sent = λ run r link own at un ties. (
            here 0 link (seat_offered c o m.seat0).hold r at (ap procedure_holds t.held_now ∙ own),
            elsewhere 0 link 1 m.seat1.hold r at (λ x. omega arith) (sym ties.1 ∙ un 1),
            elsewhere 0 link 2 m.seat2.hold r at (λ x. omega arith) (sym ties.2 ∙ un 2),
          );
          desk = refl;
          watch = refl;
        }
    took_by false true m c o seats e =
        let t = seat_took L1 m.seat1 c o seats.second e in
        record {
          seated = record { first = seats.first; second = t.seated; third = seats.third };
          worth = λ P. omega (arith, ap (hold_worth P) t.none_before, ap (hold_worth P) t.held_now);
          debt = omega (arith, ap pending_in t.none_before, ap pending_in t.held_now);
          taken = λ P. omega (arith, ap P.W t.taken, P.taken_more (K1.means m.seat1.link).taken);
          ties = λ run own ties. (ties.0, tie_now 1 m.seat1.hold (seat_offered c o m.seat1).hold run t.none_before (ap procedure_holds t.held_now ∙ own) ties.1, ties.2);
          sent = λ run r link own at un ties. (
            elsewhere 1 link 0 m.seat0.hold r at (λ x. omega arith) (sym ties.0 ∙ un 0),
            here 1 link (seat_offered c o m.seat1).hold r at (ap procedure_holds t.held_now ∙ own),
            elsewhere 1 link 2 m.seat2.hold r at (λ x. omega arith) (sym ties.2 ∙ un 2),
          );
          desk = refl;
          watch = refl;
        }
    took_by false false m c o seats e =
        let t = seat_took L2 m.seat2 c o seats.third e in
        record {
          seated = record { first = seats.first; second = seats.second; third = t.seated };
          worth = λ P. omega (arith, ap (hold_worth P) t.none_before, ap (hold_worth P) t.held_now);
          debt = omega (arith, ap pending_in t.none_before, ap pending_in t.held_now);
          taken = λ P. omega (arith, ap P.W t.taken, P.taken_more (K2.means m.seat2.link).taken);
          ties = λ run own ties. (ties.0, ties.1, tie_now 2 m.seat2.hold (seat_offered c o m.seat2).hold run t.none_before (ap procedure_holds t.held_now ∙ own) ties.2);
          sent = λ run r link own at un ties. (
            elsewhere 2 link 0 m.seat0.hold r at (λ x. omega arith) (sym ties.0 ∙ un 0),
            elsewhere 2 link 1 m.seat1.hold r at (λ x. omega arith) (sym ties.1 ∙ un 1),
            here 2 link (seat_offered c o m.seat2).hold r at (ap procedure_holds t.held_now ∙ own),
          );
          desk = refl;
          watch = refl;
        }

    kept_by_all : (first second : Bool) (m : Machine K0 K1 K2 W) (c : Command) (o : Owner) → AllSeated m
        → is_ok (offer_answer (means_by first second m)) ≡ false → offered_by first second m c o ≡ m
    kept_by_all true second m c o seats e = ap (λ (s : Seat K0). with_seats m s m.seat1 m.seat2) (seat_kept L0 m.seat0 c o seats.first e)
    kept_by_all false true m c o seats e = ap (λ (s : Seat K1). with_seats m m.seat0 s m.seat2) (seat_kept L1 m.seat1 c o seats.second e)
    kept_by_all false false m c o seats e = ap (λ (s : Seat K2). with_seats m m.seat0 m.seat1 s) (seat_kept L2 m.seat2 c o seats.third e)

    pub took : (m : Machine K0 K1 K2 W) (link : ℕ) (c : Command) (o : Owner) → AllSeated m → is_ok (offer_answer (means_at m link)) ≡ true
        → Took m (offered_at m link c o) (place_by (eqb link 0) (eqb link 1)) o
    took m link c o seats e = took_by (eqb link 0) (eqb link 1) m c o seats e

    pub kept : (m : Machine K0 K1 K2 W) (link : ℕ) (c : Command) (o : Owner) → AllSeated m → is_ok (offer_answer (means_at m link)) ≡ false
        → offered_at m link c o ≡ m
    kept m link c o seats e = kept_by_all (eqb link 0) (eqb link 1) m c o seats e

    -- a run's command is withdrawn: its link held it for the procedure, so nothing is owed for it, and no link holds one for it now
    pub record Withdrew (m n : Machine K0 K1 K2 W) : Type 0 where
      pub seated : AllSeated n
      pub worth : (P : Price) → held_worth P n ≡ held_worth P m
      pub debt : held_debt n ≡ held_debt m
      pub taken : (P : Price) → taken_worth P n ≡ taken_worth P m
      pub ties : AllTies n None
      pub desk : n.desk ≡ m.desk
      pub watch : n.watch ≡ m.watch

    abbrev abandoned_by : Bool → Bool → Machine K0 K1 K2 W → Machine K0 K1 K2 W
    abandoned_by first second m =
        cond first (with_seats m (seat_abandoned m.seat0) m.seat1 m.seat2)
        (cond second (with_seats m m.seat0 (seat_abandoned m.seat1) m.seat2)
        (with_seats m m.seat0 m.seat1 (seat_abandoned m.seat2)))

    withdrew_by : (first second : Bool) (m : Machine K0 K1 K2 W) (run : Option Run) → AllSeated m → AllTies m run → sent_to (place_by first second) run ≡ true
        → Withdrew m (abandoned_by first second m)
    withdrew_by true second m run seats ties sent =
        let own : procedure_holds m.seat0.hold ≡ true = sym ties.0 ∙ sent in
        record {
          seated = record { first = seat_abandoned_seated L0 m.seat0 seats.first; second = seats.second; third = seats.third };
          worth = λ P. omega (arith, owes_nothing P m.seat0.hold own);
          debt = omega (arith, owes_no_place m.seat0.hold own);
          taken = λ P. omega (arith, ap P.W (abandoned_taken L0 m.seat0 seats.first));
          ties = (refl, sym (sent_once 0 1 run (λ x. omega arith) sent) ∙ ties.1, sym (sent_once 0 2 run (λ x. omega arith) sent) ∙ ties.2);
          desk = refl;
          watch = refl;
        }
    withdrew_by false true m run seats ties sent =
        let own : procedure_holds m.seat1.hold ≡ true = sym ties.1 ∙ sent in
        record {
          seated = record { first = seats.first; second = seat_abandoned_seated L1 m.seat1 seats.second; third = seats.third };
          worth = λ P. omega (arith, owes_nothing P m.seat1.hold own);
          debt = omega (arith, owes_no_place m.seat1.hold own);
          taken = λ P. omega (arith, ap P.W (abandoned_taken L1 m.seat1 seats.second));
          ties = (sym (sent_once 1 0 run (λ x. omega arith) sent) ∙ ties.0, refl, sym (sent_once 1 2 run (λ x. omega arith) sent) ∙ ties.2);
          desk = refl;
          watch = refl;
        }
    withdrew_by false false m run seats ties sent =
        let own : procedure_holds m.seat2.hold ≡ true = sym ties.2 ∙ sent in
        record {
          seated = record { first = seats.first; second = seats.second; third = seat_abandoned_seated L2 m.seat2 seats.third };
          worth = λ P. omega (arith, owes_nothing P m.seat2.hold own);
          debt = omega (arith, owes_no_place m.seat2.hold own);
          taken = λ P. omega (arith, ap P.W (abandoned_taken L2 m.seat2 seats.third));
          ties = (sym (sent_once 2 0 run (λ x. omega arith) sent) ∙ ties.0, sym (sent_once 2 1 run (λ x. omega arith) sent) ∙ ties.1, refl);
          desk = refl;
          watch = refl;
        }

    pub withdrew : (m : Machine K0 K1 K2 W) (r : Run) (link : ℕ) → AllSeated m → AllTies m (Some r) → r.state ≡ Sent link → Withdrew m (abandoned_at m link)
    withdrew m r link seats ties e =
        let waits : sent_to (place_by (eqb link 0) (eqb link 1)) (Some r) ≡ true =
        ap (sent_at (place_by (eqb link 0) (eqb link 1))) e ∙ eq-eqb (min link 2) (place_by (eqb link 0) (eqb link 1)) (place_is link) in
        withdrew_by (eqb link 0) (eqb link 1) m (Some r) seats ties waits
