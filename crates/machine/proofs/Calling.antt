-- What each of the five calls keeps, told by its answer.
use Rattle.std.proofs.Common.{◌≡◌, ℕ, ◌+◌, ◌≤◌, min, Bool, true, false, cond, eqb, ltb, leb, ◌⊎◌, List, [], ◌∷◌, length, is_some, Some, None, Ok, Err, sum_by, Option, Result, sym, refl, ap, ◌∙◌, subst, inl, inr, ⊎_elim, arith}
use Rattle.std.proofs.lemmas.List.Sums.{sum_by-cons}
use Rattle.std.proofs.lemmas.Bool.{cond_both, cases_Bool, eqb-true, eqb-false, ltb-false}
use Rattle.links.specs.declared.answers.Receipt.{Receipt}
use Rattle.links.specs.Meaning.{LinkKind, Lawful, is_kept}
use Rattle.records.specs.declared.command.Command.{Command}
use Rattle.records.specs.declared.event.Event.{Event}
use Rattle.records.specs.declared.event.EventKind.TheVariants.{Trouble, Clear}
use Rattle.records.specs.declared.refusal.Refusal.{Refusal}
use Rattle.records.specs.declared.refusal.Refusal.TheVariants.{Worn, Full}
use Rattle.records.specs.declared.report.Report.{Report}
use Rattle.telecommands.specs.declared.packet.Packet.{Packet}
use Rattle.telecommands.specs.Packets.{read_packet}
use Rattle.watches.specs.Meaning.{WatchKind, LawfulWatch}
use Rattle.machine.specs.Calls.{Call, submit, deliver, tick, sample, collect, told, answer_to, after}
use Rattle.machine.specs.Calls.{Told}
use Rattle.machine.specs.Calls.{submitted, delivered, sampled, collected}
use Rattle.machine.specs.Desks.{lost_in, with_log, raised_on}
use Rattle.machine.specs.Machine.{Machine, Answer, differ, collected_from, handed, with_desk, with_seats, means_at, received_at, free, numbered_in, acceptance, submitted_by, carried_out, deliver_answer, sample_refusal, trouble_after, changes, sampled_by, watched, after_sample_by}
use Rattle.machine.specs.Parts as out
use Rattle.machine.specs.Runs.{numbers_in, reports_in, events_in, state_events, raised_for}
use Rattle.machine.specs.Seats.{Seat, seat_received}
use Rattle.machine.proofs.Offers.{AllTies, taken_worth}
use Rattle.machine.proofs.Prices.{Price, desk_worth, desk_debt, commands}
use Rattle.machine.proofs.Submitting.{carried_kept}
use Rattle.machine.proofs.Ticking.{worth_of, debt_of, Sound, tick_kept}
use Rattle.machine.proofs.Turning.{Seated, raised_or_lost}

-- the events of a function, by its states before and after
counted : (before now : Bool) → state_events true (Ok now) (cond (differ before now) 1 0) + cond before 1 0 ≡ state_events false (Ok now) (cond (differ before now) 1 0) + cond now 1 0
counted true true = refl
counted true false = refl
counted false true = refl
counted false false = refl

-- at the function that was sampled, and at any other
counted_at : (here before now x y : Bool) → (here ≡ true → (x ≡ before) × (y ≡ now)) → (here ≡ false → y ≡ x)
    → cond here (state_events true (Ok now) (cond (differ before now) 1 0)) 0 + cond x 1 0
    ≡ cond here (state_events false (Ok now) (cond (differ before now) 1 0)) 0 + cond y 1 0
counted_at true before now x y same other =
    let trouble = state_events true (Ok now) (cond (differ before now) 1 0) in
    let clear = state_events false (Ok now) (cond (differ before now) 1 0) in
    ap (λ (b : Bool). trouble + cond b 1 0) (same refl).0 ∙ counted before now ∙ sym (ap (λ (b : Bool). clear + cond b 1 0) (same refl).1)
counted_at false before now x y same other = sym (ap (λ (b : Bool). 0 + cond b 1 0) (other refl))

-- received bytes leave taken and held as they were
received_same : {K : LinkKind} → Lawful K → (s : K.State) (bytes : List ℕ) → K.Ok s
    → ((K.means (K.received s bytes)).taken ≡ (K.means s).taken) × ((K.means (K.received s bytes)).held ≡ (K.means s).held)
received_same {K} L s bytes ok =
    ⊎_elim
    (λ (kept : is_kept (K.means s) (K.means (K.received s bytes)) ≡ true). L.keeps_bytes s bytes ok kept)
    (λ (ignored : is_kept (K.means s) (K.means (K.received s bytes)) ≡ false).
    let same = L.ignores_bytes s bytes ok ignored in
    (ap (λ (x : K.State). (K.means x).taken) same, ap (λ (x : K.State). (K.means x).held) same))
    (cases_Bool (is_kept (K.means s) (K.means (K.received s bytes))))

seat_received_seated : {K : LinkKind} → Lawful K → (s : Seat K) (bytes : List ℕ) → Seated s
    → Seated (seat_received bytes s) × ((K.means (seat_received bytes s).link).taken ≡ (K.means s.link).taken)
seat_received_seated {K} L s bytes seat =
    let same = received_same L s.link bytes seat.ok in
    (record { ok = L.stays_received s.link bytes seat.ok; tied = ap (λ (held : Option Command). is_some held) same.1 ∙ seat.tied }, same.0)

module _ {K0 K1 K2 : LinkKind} {W : WatchKind} where
  -- a call took the machine from m to n and gave this answer
  pub record Goes (m : Machine K0 K1 K2 W) (c : Call) (a : Answer Told) (n : Machine K0 K1 K2 W) : Type 0 where
    pub sound : Sound n
    pub ledger : (P : Price) → worth_of P n + sum_by P.F (reports_in a.outcome) + taken_worth P m
        ≡ worth_of P m + taken_worth P n + sum_by (λ k. P.g k 0) (numbers_in a.outcome)
    pub accepted : n.desk.log.accepted ≡ m.desk.log.accepted + length (numbers_in a.outcome)
    pub next : (numbers_in a.outcome ≡ []) ⊎ (numbers_in a.outcome ≡ (m.desk.log.accepted + 1) ∷ [])
    pub events : length n.desk.log.events + events_in a.outcome + a.lost ≡ length m.desk.log.events + a.raised
    pub counted : m.desk.log.raised ≤ 1000000 → n.desk.log.raised ≡ min (m.desk.log.raised + a.raised) 1000000
    pub troubles : (f : ℕ) → raised_for true f c a + cond (W.trouble m.watch f) 1 0 ≡ raised_for false f c a + cond (W.trouble n.watch f) 1 0

  pub numbered_sound : (m : Machine K0 K1 K2 W) → Sound m → Sound (numbered_in m)
  numbered_sound m s = record {
    seated = record { first = s.seated.first; second = s.seated.second; third = s.seated.third };
    ties = s.ties;
    room = s.room;
    watch = s.watch;
  }

  -- a call that only left the machine as it was
  same_goes : (m : Machine K0 K1 K2 W) (c : Call) (a : Answer Told) → Sound m → ((f : ℕ) → raised_for true f c a ≡ raised_for false f c a) → numbers_in a.outcome ≡ [] → reports_in a.outcome ≡ [] → events_in a.outcome ≡ 0
      → a.raised ≡ 0 → a.lost ≡ 0 → Goes m c a m
  same_goes m c a s quiet e f g h i = record {
    sound = s;
    ledger = λ P. omega (arith, ap (sum_by P.F) f, ap (sum_by (λ (k : ℕ). P.g k 0)) e);
    accepted = omega (arith, ap length e);
    next = inl e;
    events = omega (arith, g, h, i);
    counted = λ low. omega (arith, h);
    troubles = λ x. omega (arith, quiet x);
  }

  module _ (L0 : Lawful K0) (L1 : Lawful K1) (L2 : Lawful K2) where
    accepted_goes : (bytes : List ℕ) (packet : Packet) (m : Machine K0 K1 K2 W) → Sound m → debt_of m + 2 ≤ 400
        → Goes m (submit bytes) (record { outcome = submitted (Ok (m.desk.log.accepted + 1)); raised = 0; lost = 0 })
        (carried_out packet.telecommand (m.desk.log.accepted + 1) (numbered_in m))
    accepted_goes bytes packet m s room =
        let n = m.desk.log.accepted + 1 in
        let k = carried_kept L0 L1 L2 packet.telecommand n (numbered_in m) (numbered_sound m s) room in
        record {
          sound = k.sound;
          ledger = λ P. omega (arith, k.worths P, sum_by-cons (λ (x : ℕ). P.g x 0) n []);
          accepted = k.accepted;
          next = inr refl;
          events = omega (arith, k.events);
          counted = k.counted;
          troubles = λ f. sym (ap (λ (w : W.State). 0 + cond (W.trouble w f) 1 0) k.watch);
        }

    -- the two refusals of a good packet, by their tests
    judged : (worn full : Bool) (bytes : List ℕ) (packet : Packet) (m : Machine K0 K1 K2 W) → Sound m → (full ≡ false → debt_of m + 2 ≤ 400)
        → Goes m (submit bytes)
        (record { outcome = submitted (cond worn (Err Worn) (cond full (Err (Full (free m))) (Ok (m.desk.log.accepted + 1)))); raised = 0; lost = 0 })
        (submitted_by (cond worn (Err Worn) (cond full (Err (Full (free m))) (Ok (m.desk.log.accepted + 1)))) (Ok packet) m)
    judged true full bytes packet m s room =
        same_goes m (submit bytes) (record { outcome = submitted (Err Worn); raised = 0; lost = 0 }) s (λ f. refl) refl refl refl refl refl
    judged false true bytes packet m s room =
        same_goes m (submit bytes) (record { outcome = submitted (Err (Full (free m))); raised = 0; lost = 0 }) s (λ f. refl) refl refl refl refl refl
    judged false false bytes packet m s room = accepted_goes bytes packet m s (room refl)

    read_goes : (read : Result Packet Refusal) (bytes : List ℕ) (m : Machine K0 K1 K2 W) → Sound m
        → Goes m (submit bytes) (record { outcome = submitted (acceptance m read); raised = 0; lost = 0 }) (submitted_by (acceptance m read) read m)
    read_goes (Err refusal) bytes m s =
        same_goes m (submit bytes) (record { outcome = submitted (Err refusal); raised = 0; lost = 0 }) s (λ f. refl) refl refl refl refl refl
    read_goes (Ok packet) bytes m s =
        judged (leb 1000000 m.desk.log.accepted) (ltb (free m) 2) bytes packet m s (λ e. omega (arith, ltb-false (free m) 2 e, s.room))

    submit_goes : (m : Machine K0 K1 K2 W) (bytes : List ℕ) → Sound m → Goes m (submit bytes) (answer_to m (submit bytes)) (after m (submit bytes))
    submit_goes m bytes s = read_goes (read_packet bytes) bytes m s

    tick_goes : (m : Machine K0 K1 K2 W) → Sound m → worth_of commands m ≤ 3000000 → Goes m tick (answer_to m tick) (after m tick)
    tick_goes m s few =
        let k = tick_kept L0 L1 L2 m s few in
        record {
          sound = k.sound;
          ledger = λ P. omega (arith, k.worths P);
          accepted = k.accepted ∙ omega arith;
          next = inl refl;
          events = omega (arith, k.events);
          counted = k.counted;
          troubles = λ f. sym (ap (λ (w : W.State). 0 + cond (W.trouble w f) 1 0) k.watch);
        }

  -- collect hands out an event, else a report, else nothing
  collected_goes : (events : List Event) (reports : List Report) (m : Machine K0 K1 K2 W) → Sound m → m.desk.log.events ≡ events → m.desk.log.reports ≡ reports
      → Goes m collect (record { outcome = collected (handed events reports); raised = 0; lost = 0 }) (with_desk m (with_log m.desk (collected_from events reports m.desk.log)))
  collected_goes (e ∷ events) reports m s is are = record {
    sound = record {
      seated = record { first = s.seated.first; second = s.seated.second; third = s.seated.third };
      ties = s.ties;
      room = s.room;
      watch = s.watch;
    };
    ledger = λ P. omega arith;
    accepted = omega arith;
    next = inl refl;
    events = omega (arith, ap length is);
    counted = λ low. omega arith;
    troubles = λ f. refl;
  }
  collected_goes [] (r ∷ reports) m s is are = record {
    sound = record {
      seated = record { first = s.seated.first; second = s.seated.second; third = s.seated.third };
      ties = s.ties;
      room = omega (arith, s.room, ap length are);
      watch = s.watch;
    };
    ledger = λ P. omega (arith, ap (sum_by P.F) are, sum_by-cons P.F r reports, sum_by-cons P.F r []);
    accepted = omega arith;
    next = inl refl;
    events = omega (arith, ap length is);
    counted = λ low. omega arith;
    troubles = λ f. refl;
  }
  collected_goes [] [] m s is are = same_goes m collect (record { outcome = collected out.nothing; raised = 0; lost = 0 }) s (λ f. refl) refl refl refl refl refl

  collect_goes : (m : Machine K0 K1 K2 W) → Sound m → Goes m collect (answer_to m collect) (after m collect)
  collect_goes m s = collected_goes m.desk.log.events m.desk.log.reports m s refl refl

  -- bytes for a link: taken and held stay
  module _ (L0 : Lawful K0) (L1 : Lawful K1) (L2 : Lawful K2) where
    abbrev received_by : Bool → Bool → Machine K0 K1 K2 W → List ℕ → Machine K0 K1 K2 W
    received_by first second m bytes =
        cond first (with_seats m (seat_received bytes m.seat0) m.seat1 m.seat2)
        (cond second (with_seats m m.seat0 (seat_received bytes m.seat1) m.seat2)
        (with_seats m m.seat0 m.seat1 (seat_received bytes m.seat2)))

    received_goes : (first second : Bool) (m : Machine K0 K1 K2 W) (link : ℕ) (bytes : List ℕ) (x : Result Receipt Refusal) → Sound m
        → Goes m (deliver link bytes) (record { outcome = delivered x; raised = 0; lost = 0 }) (received_by first second m bytes)
    received_goes true second m link bytes x s =
        let r = seat_received_seated L0 m.seat0 bytes s.seated.first in
        record {
          sound = record { seated = record { first = r.0; second = s.seated.second; third = s.seated.third }; ties = s.ties; room = s.room; watch = s.watch };
          ledger = λ P. omega (arith, ap P.W r.1);
          accepted = omega arith;
          next = inl refl;
          events = omega arith;
          counted = λ low. omega arith;
          troubles = λ f. refl;
        }
    received_goes false true m link bytes x s =
        let r = seat_received_seated L1 m.seat1 bytes s.seated.second in
        record {
          sound = record { seated = record { first = s.seated.first; second = r.0; third = s.seated.third }; ties = s.ties; room = s.room; watch = s.watch };
          ledger = λ P. omega (arith, ap P.W r.1);
          accepted = omega arith;
          next = inl refl;
          events = omega arith;
          counted = λ low. omega arith;
          troubles = λ f. refl;
        }
    received_goes false false m link bytes x s =
        let r = seat_received_seated L2 m.seat2 bytes s.seated.third in
        record {
          sound = record { seated = record { first = s.seated.first; second = s.seated.second; third = r.0 }; ties = s.ties; room = s.room; watch = s.watch };
          ledger = λ P. omega (arith, ap P.W r.1);
          accepted = omega arith;
          next = inl refl;
          events = omega arith;
          counted = λ low. omega arith;
          troubles = λ f. refl;
        }

    deliver_goes : (m : Machine K0 K1 K2 W) (link : ℕ) (bytes : List ℕ) → Sound m → Goes m (deliver link bytes) (answer_to m (deliver link bytes)) (after m (deliver link bytes))
    deliver_goes m link bytes s =
        let x = (deliver_answer m link bytes).outcome in
        let a : Answer Told = record { outcome = delivered x; raised = 0; lost = 0 } in
        let stay = same_goes m (deliver link bytes) a s (λ f. refl) refl refl refl refl refl in
        cond_both (ltb 2 link) m (cond (is_some (means_at m link).held) (received_at m link bytes) m) (Goes m (deliver link bytes) a)
        (λ t. stay)
        (λ t. cond_both (is_some (means_at m link).held) (received_at m link bytes) m (Goes m (deliver link bytes) a)
        (λ u. received_goes (eqb link 0) (eqb link 1) m link bytes x s)
        (λ u. stay))

  -- a sample: the counts by whether the state changes
  module _ (LW : LawfulWatch W) where
    abbrev sampled_answer : Machine K0 K1 K2 W → ℕ → ℕ → Answer Told
    sampled_answer m f v = record {
      outcome = sampled (Ok (trouble_after m f v));
      raised = cond (changes m f v) 1 0;
      lost = cond (changes m f v) (lost_in m.desk.log) 0;
    }

    watched_troubles : (m : Machine K0 K1 K2 W) (f v : ℕ) → Sound m → (x : ℕ)
        → raised_for true x (sample f v) (sampled_answer m f v) + cond (W.trouble m.watch x) 1 0
        ≡ raised_for false x (sample f v) (sampled_answer m f v) + cond (W.trouble (W.seen m.watch f v) x) 1 0
    watched_troubles m f v s x =
        counted_at (eqb x f) (W.trouble m.watch f) (trouble_after m f v) (W.trouble m.watch x) (W.trouble (W.seen m.watch f v) x)
        (λ e. (ap (W.trouble m.watch) (eqb-true x f e), ap (W.trouble (W.seen m.watch f v)) (eqb-true x f e)))
        (λ e. LW.other_functions_as_before m.watch f v x s.watch (eqb-false x f e))

    -- the desk after a sample, by whether the state changed
    told_by : (change : Bool) (m : Machine K0 K1 K2 W) (e : Event) → Sound m
        → (length (cond change (raised_on m.desk e) m.desk).log.events + cond change (lost_in m.desk.log) 0 ≡ length m.desk.log.events + cond change 1 0)
        × ((P : Price) → desk_worth P (cond change (raised_on m.desk e) m.desk) ≡ desk_worth P m.desk)
        × (desk_debt (cond change (raised_on m.desk e) m.desk) ≡ desk_debt m.desk)
        × ((cond change (raised_on m.desk e) m.desk).log.accepted ≡ m.desk.log.accepted)
        × ((cond change (raised_on m.desk e) m.desk).run ≡ m.desk.run)
        × (m.desk.log.raised ≤ 1000000 → (cond change (raised_on m.desk e) m.desk).log.raised ≡ min (m.desk.log.raised + cond change 1 0) 1000000)
    told_by true m e s = (raised_or_lost m.desk.log.events e, λ P. refl, refl, refl, refl, λ low. refl)
    told_by false m e s = (refl, λ P. refl, refl, refl, refl, λ low. omega arith)

    sampled_goes : (m : Machine K0 K1 K2 W) (f v : ℕ) (e : Event) → Sound m
        → Goes m (sample f v) (sampled_answer m f v) (watched m f v (cond (changes m f v) (raised_on m.desk e) m.desk))
    sampled_goes m f v e s =
        let t = told_by (changes m f v) m e s in
        record {
          sound = record {
            seated = record { first = s.seated.first; second = s.seated.second; third = s.seated.third };
            ties = subst (AllTies m) (sym t.4) s.ties;
            room = omega (arith, s.room, t.2);
            watch = LW.seeing_keeps_ok m.watch f v s.watch;
          };
          ledger = λ P. omega (arith, t.1 P);
          accepted = omega (arith, t.3);
          next = inl refl;
          events = omega (arith, t.0);
          counted = t.5;
          troubles = watched_troubles m f v s;
        }

    sampled_by_kept : (refusal : Option Refusal) (m : Machine K0 K1 K2 W) (f v : ℕ) → Sound m
        → Goes m (sample f v) (told sampled (sampled_by refusal m f v)) (after_sample_by refusal m f v)
    sampled_by_kept (Some refusal) m f v s =
        same_goes m (sample f v) (record { outcome = sampled (Err refusal); raised = 0; lost = 0 }) s (λ x. refl) refl refl refl refl refl
    sampled_by_kept None m f v s = sampled_goes m f v (record { kind = cond (trouble_after m f v) Trouble Clear; place = f; value = v }) s

    module _ (L0 : Lawful K0) (L1 : Lawful K1) (L2 : Lawful K2) where
      pub goes : (c : Call) (m : Machine K0 K1 K2 W) → Sound m → worth_of commands m ≤ 3000000 → Goes m c (answer_to m c) (after m c)
      goes (submit bytes) m s few = submit_goes L0 L1 L2 m bytes s
      goes (deliver link bytes) m s few = deliver_goes L0 L1 L2 m link bytes s
      goes tick m s few = tick_goes L0 L1 L2 m s few
      goes (sample f v) m s few = sampled_by_kept (sample_refusal m f) m f v s
      goes collect m s few = collect_goes m s
