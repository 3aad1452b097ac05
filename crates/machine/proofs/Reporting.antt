-- An accepted number is reported in its own call: the store has a place for it.
use Rattle.std.proofs.Common.{◌≡◌, ℕ, ◌+◌, ◌-◌, ◌<◌, ◌≤◌, Bool, true, false, cond, ◌&&◌, eqb, ltb, leb, List, ◌++◌, length, Some, None, Ok, Err, Option, Result, refl, ap, subst, arith}
use Rattle.std.proofs.lemmas.List.Sums.{sum_by-append, sum_by_push}
use Rattle.std.proofs.lemmas.Bool.{cond_both, ltb-false, eq-eqb}
use Rattle.links.specs.declared.answers.OfferRefusal.{OfferRefusal}
use Rattle.links.specs.Meaning.{LinkKind, Lawful, offer_answer}
use Rattle.records.specs.declared.command.Command.{Command}
use Rattle.records.specs.declared.fault.Fault.{Fault}
use Rattle.records.specs.declared.fault.FaultKind.TheVariants as fault
use Rattle.records.specs.declared.refusal.Refusal.{Refusal}
use Rattle.records.specs.declared.refusal.Refusal.TheVariants.{Worn, Full}
use Rattle.records.specs.declared.report.Report.{Report}
use Rattle.records.specs.declared.report.Stage.{Stage}
use Rattle.records.specs.declared.report.Stage.TheVariants.{Started, Done, Failed}
use Rattle.records.specs.Faults.{fault_of}
use Rattle.telecommands.specs.declared.packet.Packet.{Packet}
use Rattle.telecommands.specs.declared.packet.Telecommand.{Telecommand}
use Rattle.telecommands.specs.declared.packet.Telecommand.TheVariants.{Test, Perform, Load, Delete, Start, Stop, Set}
use Rattle.telecommands.specs.Packets.{read_packet}
use Rattle.watches.specs.Meaning.{WatchKind, LawfulWatch}
use Rattle.machine.specs.Balance.{is_final, finals_of}
use Rattle.machine.specs.Calls.{submit, after}
use Rattle.machine.specs.Desks.{Log, Desk, with_run, reported, is_blocked, settled}
use Rattle.machine.specs.Machine.{Machine, Answer, offer_fault, with_desk, means_at, free, width_of, triggered_by, triggered, performed, stopping, done, stopped, outcome_of, carried_out, numbered_in, acceptance, submitted_by}
use Rattle.machine.specs.Procedures.{Outcome, setting, loading, deleting, setting_parameters, starting, new_run, begun}
use Rattle.machine.specs.Runs.{collected_in}
use Rattle.machine.specs.Written.{Newest, AcceptedIsReported}
use Rattle.machine.proofs.Calling.{numbered_sound}
use Rattle.machine.proofs.Prices.{put_room}
use Rattle.machine.proofs.Running.{good}
use Rattle.machine.proofs.Submitting.{Same, setting_same, loading_same, deleting_same, parameters_same, starting_free, stopping_debt}
use Rattle.machine.proofs.Ticking.{debt_of, Sound}

abbrev NewestOn : Desk → ℕ → Type 0
NewestOn d n = Newest d.log.reports n

reported_newest : (d : Desk) (n : ℕ) (stage : Stage) → length d.log.reports < 400 → NewestOn (reported d n stage) n
reported_newest d n stage room = record { before = d.log.reports; stage = stage; last = put_room d.log.reports (record { number = n; stage = stage }) room }

settled_newest : (n : ℕ) (f : Option Fault) (d : Desk) → length d.log.reports < 400 → NewestOn (settled n f d) n
settled_newest n None d room = reported_newest d n (Done 0) room
settled_newest n (Some f) d room = reported_newest d n (Failed 0 f) room

begun_newest : (f : Option Fault) (id n : ℕ) (d : Desk) → length d.log.reports < 400 → NewestOn (begun f id n d) n
begun_newest None id n d room = reported_newest (with_run d (Some (new_run id n))) n Started room
begun_newest (Some f) id n d room = settled_newest n (Some f) d room

refused : (refusal : Refusal) (n : ℕ) (P : Type 0) → ◌≡◌ {A = Result ℕ Refusal} (Err refusal) (Ok n) → P
refused refusal n P e =
    let z : ◌≡◌ {A = ℕ} 0 1 = cc e in
    let bottom : ⊥ = omega arith in
    absurd bottom

-- a report that is not final is STARTED
not_final : (stage : Stage) → is_final stage ≡ 0 → stage ≡ Started
not_final Started e = refl
not_final (Done sent) e =
    let bottom : ⊥ = omega (arith, e) in
    absurd bottom
not_final (Failed sent f) e =
    let bottom : ⊥ = omega (arith, e) in
    absurd bottom

-- the newest of a number with no final report is STARTED
newest_started : (n : ℕ) (collected reports : List Report) (x : Newest reports n) → finals_of n (collected ++ reports) ≡ 0 → x.stage ≡ Started
newest_started n collected reports x none =
    let F : Report → ℕ = λ r. cond (eqb r.number n) (is_final r.stage) 0 in
    let last : Report = record { number = n; stage = x.stage } in
    let here : F last ≡ is_final x.stage = ap (λ (b : Bool). cond b (is_final x.stage) 0) (eq-eqb n n refl) in
    not_final x.stage (omega (arith, none, sum_by-append F collected reports, ap (finals_of n) x.last, sum_by_push F x.before last, here))

module _ {K0 K1 K2 : LinkKind} {W : WatchKind} where
  abbrev NewestIn : ℕ → Machine K0 K1 K2 W → Type 0
  NewestIn n m = NewestOn m.desk n

  triggered_by_kept : (a : Result (Unit {0}) OfferRefusal) (m : Machine K0 K1 K2 W) (n link : ℕ) (c : Command) → length m.desk.log.reports < 400
      → NewestIn n (triggered_by a m n link c)
  triggered_by_kept (Ok u) m n link c room = reported_newest m.desk n Started room
  triggered_by_kept (Err refusal) m n link c room = settled_newest n (Some (fault_of (offer_fault refusal) link)) m.desk room

  triggered_newest : (m : Machine K0 K1 K2 W) (n link : ℕ) (c : Command) → length m.desk.log.reports < 400 → NewestIn n (triggered m n link c)
  triggered_newest m n link c room =
      cond_both (is_blocked m.desk link) (with_desk m (settled n (Some (fault_of fault.UnitStopped link)) m.desk)) (triggered_by (offer_answer (means_at m link)) m n link c)
      (NewestIn n)
      (λ t. settled_newest n (Some (fault_of fault.UnitStopped link)) m.desk room)
      (λ t. triggered_by_kept (offer_answer (means_at m link)) m n link c room)

  effect_newest : (m : Machine K0 K1 K2 W) (n : ℕ) (o : Outcome) → Same m.desk o → length m.desk.log.reports < 400 → NewestIn n (outcome_of m n o)
  effect_newest m n o same room = settled_newest n o.fault o.desk (omega (arith, ap (λ (l : Log). length l.reports) same.log))

  performed_newest : (m : Machine K0 K1 K2 W) (n function activity sid value : ℕ) → length m.desk.log.reports < 400
      → NewestIn n (performed m n function activity sid value)
  performed_newest m n function activity sid value room =
      let o = setting (width_of m) m.desk activity sid value in
      let c : Command = record { id = activity; sid = sid; parameter = value } in
      let other = with_desk m (settled n (Some (fault_of fault.InvalidFunction function)) m.desk) in
      cond_both (leb 1 function && leb function 3) (triggered m n (function - 1) c) (cond (eqb function 100) (outcome_of m n o) other) (NewestIn n)
      (λ t. triggered_newest m n (function - 1) c room)
      (λ t. cond_both (eqb function 100) (outcome_of m n o) other (NewestIn n)
      (λ u. effect_newest m n o (setting_same (width_of m) m.desk activity sid value) room)
      (λ u. settled_newest n (Some (fault_of fault.InvalidFunction function)) m.desk room))

  module _ (L0 : Lawful K0) (L1 : Lawful K1) (L2 : Lawful K2) where
    stopped_newest : (m : Machine K0 K1 K2 W) (n id : ℕ) → Sound m → debt_of m + 2 ≤ 400 → NewestIn n (stopped m n id)
    stopped_newest m n id s room =
        let after = stopping m.desk.run id m in
        let low : length after.desk.log.reports < 400 = omega (arith, stopping_debt L0 L1 L2 m.desk.run m id s refl) in
        cond_both (ltb 16 id) (with_desk m (settled n (Some (fault_of fault.InvalidProcedure id)) m.desk)) (done n after) (NewestIn n)
        (λ t. settled_newest n (Some (fault_of fault.InvalidProcedure id)) m.desk (omega arith))
        (λ t. settled_newest n None after.desk low)

    carried_newest : (t : Telecommand) (n : ℕ) (m : Machine K0 K1 K2 W) → Sound m → debt_of m + 2 ≤ 400 → NewestIn n (carried_out t n m)
    carried_newest Test n m s room = settled_newest n None m.desk (omega arith)
    carried_newest (Perform function activity sid value) n m s room = performed_newest m n function activity sid value (omega arith)
    carried_newest (Load id nop steps) n m s room =
        effect_newest m n (loading (width_of m) m.desk id nop steps) (loading_same (width_of m) m.desk id nop steps) (omega arith)
    carried_newest (Delete id) n m s room = effect_newest m n (deleting m.desk id) (deleting_same m.desk id) (omega arith)
    carried_newest (Start id settings) n m s room =
        let o = starting m.desk id settings in
        begun_newest o.fault id n o.desk (omega (arith, ap (λ (l : Log). length l.reports) (starting_free m.desk id settings).same.log))
    carried_newest (Stop id) n m s room = stopped_newest m n id s room
    carried_newest (Set id settings) n m s room = effect_newest m n (setting_parameters m.desk id settings) (parameters_same m.desk id settings) (omega arith)

    judged_newest : (worn full : Bool) (packet : Packet) (m : Machine K0 K1 K2 W) (n : ℕ) → Sound m → (full ≡ false → debt_of m + 2 ≤ 400)
        → cond worn (Err Worn) (cond full (Err (Full (free m))) (Ok (m.desk.log.accepted + 1))) ≡ Ok n
        → NewestIn n (submitted_by (cond worn (Err Worn) (cond full (Err (Full (free m))) (Ok (m.desk.log.accepted + 1)))) (Ok packet) m)
    judged_newest true full packet m n s room e = refused Worn n (NewestIn n m) e
    judged_newest false true packet m n s room e = refused (Full (free m)) n (NewestIn n m) e
    judged_newest false false packet m n s room e =
        let k = m.desk.log.accepted + 1 in
        let same : k ≡ n = cc e in
        subst (λ (j : ℕ). NewestIn j (carried_out packet.telecommand k (numbered_in m))) same
        (carried_newest packet.telecommand k (numbered_in m) (numbered_sound m s) (room refl))

    read_newest : (read : Result Packet Refusal) (m : Machine K0 K1 K2 W) (n : ℕ) → Sound m → acceptance m read ≡ Ok n
        → NewestIn n (submitted_by (acceptance m read) read m)
    read_newest (Err refusal) m n s e = refused refusal n (NewestIn n m) e
    read_newest (Ok packet) m n s e =
        judged_newest (leb 1000000 m.desk.log.accepted) (ltb (free m) 2) packet m n s (λ t. omega (arith, ltb-false (free m) 2 t, s.room)) e

    pub accepted_reported : LawfulWatch W → AcceptedIsReported K0 K1 K2 W
    accepted_reported LW h m ran bytes n e =
        let s = (good L0 L1 L2 LW h m ran).sound in
        let x = read_newest (read_packet bytes) m n s (ap (λ (a : Answer (Result ℕ Refusal)). a.outcome) e) in
        record { newest = x; started = λ p. newest_started n (collected_in h) (after m (submit bytes)).desk.log.reports x p.no_final }
