-- What a send leaves, by its answer alone; a log that is left on a machine.
use Rattle.std.proofs.Common.{◌≡◌, ℕ, Bool, true, false, cond, Some, Ok, Err, Result, eqb, sym, refl, ap, ◌∙◌}
use Rattle.desks.specs.declared.chain.LinkFault.{LinkFault}
use Rattle.desks.specs.declared.chain.LinkFault.TheVariants.{Stopped}
use Rattle.desks.specs.declared.chain.StepFault.{StepFault}
use Rattle.desks.specs.Chains.{link_fault, in_step, stands_at}
use Rattle.links.specs.declared.answers.OfferRefusal.{OfferRefusal}
use Rattle.links.specs.declared.answers.OfferRefusal.TheVariants.{Busy, Spent}
use Rattle.links.specs.Meaning.{LinkKind, offer_answer}
use Rattle.machine.specs.declared.state.Owner.{Owner}
use Rattle.machine.specs.declared.state.Owner.TheVariants as owner
use Rattle.machine.specs.declared.state.Run.{Run}
use Rattle.machine.specs.Desks.{Desk, Log, with_log, with_run, reported, settled, is_blocked, failed_run}
use Rattle.machine.specs.Machine.{Machine, sent_on, with_desk, means_at, offered_at, triggered_by, triggered, sent_by, sending}
use Rattle.records.specs.declared.command.Command.{Command}
use Rattle.records.specs.declared.fault.FaultKind.TheVariants.{UnitStopped}
use Rattle.records.specs.declared.report.Stage.TheVariants.{Started}
use Rattle.records.specs.Faults.{fault_of}
use Rattle.watches.specs.Meaning.{WatchKind}
use Rattle.executive.specs.Sends.{offered_to, send_answer, after_send, finished_step}

-- what holds of both ways holds of the one taken
both_ways : {A B : Type 0} (f : A → B) (b : Bool) (x y : A) {v : B} → f x ≡ v → f y ≡ v → f (cond b x y) ≡ v
both_ways f true x y p q = p
both_ways f false x y p q = q

module _ {K0 K1 K2 : LinkKind} {W : WatchKind} where
  -- the log that is left on a machine, where the machine is the same as another
  pub left_on : {x y : Machine K0 K1 K2 W} → x ≡ y → (next : Log → Log) (l : Log) → l ≡ next x.desk.log
      → with_desk x (with_log x.desk l) ≡ with_desk y (with_log y.desk (next y.desk.log))
  left_on {x} {y} same next l is =
      ap (λ (z : Machine K0 K1 K2 W). with_desk z (with_log z.desk l)) same
      ∙ ap (λ (k : Log). with_desk y (with_log y.desk k)) (is ∙ ap (λ (z : Machine K0 K1 K2 W). next z.desk.log) same)

  -- a send leaves the desk as it was
  desk_kept : (m sent : Machine K0 K1 K2 W) (link : ℕ) (c : Command) (o : Owner) → sent ≡ after_send m link c o → sent.desk ≡ m.desk
  desk_kept m sent link c o after = ap (λ (x : Machine K0 K1 K2 W). x.desk) after ∙ both_ways (λ (x : Machine K0 K1 K2 W). x.desk) (is_blocked m.desk link) _ _ refl
      (both_ways (λ (x : Machine K0 K1 K2 W). x.desk) (eqb link 0) _ _ refl (both_ways (λ (x : Machine K0 K1 K2 W). x.desk) (eqb link 1) _ _ refl refl))

  -- a trigger's number is parked or settled
  abbrev pub parked : Result (Unit {0}) LinkFault → ℕ → Desk → Machine K0 K1 K2 W → Machine K0 K1 K2 W
  parked (Ok u) n d m = with_desk m (reported d n Started)
  parked (Err f) n d m = with_desk m (settled n (Some (link_fault f)) d)

  parked_by : (blocked : Bool) (a : Result (Unit {0}) OfferRefusal) (m : Machine K0 K1 K2 W) (n link : ℕ) (c : Command)
      → cond blocked (with_desk m (settled n (Some (fault_of UnitStopped link)) m.desk)) (triggered_by a m n link c)
      ≡ parked (cond blocked (Err (Stopped link)) (offered_to link a)) n m.desk (cond blocked m (offered_at m link c (owner.Telecommand n)))
  parked_by true a m n link c = refl
  parked_by false (Ok u) m n link c = refl
  parked_by false (Err Busy) m n link c = refl
  parked_by false (Err Spent) m n link c = refl

  pub triggered_is : (m : Machine K0 K1 K2 W) (n link : ℕ) (c : Command)
      → triggered m n link c ≡ parked (send_answer m link) n m.desk (after_send m link c (owner.Telecommand n))
  triggered_is m n link c = parked_by (is_blocked m.desk link) (offer_answer (means_at m link)) m n link c

  pub triggers : (m sent : Machine K0 K1 K2 W) (a : Result (Unit {0}) LinkFault) (n link : ℕ) (c : Command) → a ≡ send_answer m link
      → sent ≡ after_send m link c (owner.Telecommand n) → parked a n sent.desk sent ≡ triggered m n link c
  triggers m sent a n link c answer after =
      ap (λ (d : Desk). parked a n d sent) (desk_kept m sent link c (owner.Telecommand n) after)
      ∙ ap (λ (x : Machine K0 K1 K2 W). parked a n m.desk x) after
      ∙ ap (λ (x : Result (Unit {0}) LinkFault). parked x n m.desk (after_send m link c (owner.Telecommand n))) answer
      ∙ sym (triggered_is m n link c)

  -- a run waits for its link, or has ended
  abbrev pub awaited : Result (Unit {0}) LinkFault → Run → ℕ → Desk → Machine K0 K1 K2 W → Machine K0 K1 K2 W
  awaited (Ok u) r link d m = with_desk m (with_run d (Some (sent_on r link)))
  awaited (Err f) r link d m = with_desk m (failed_run (Some r) (link_fault f) d)

  awaited_by : (blocked : Bool) (a : Result (Unit {0}) OfferRefusal) (m : Machine K0 K1 K2 W) (r : Run) (link : ℕ) (c : Command)
      → cond blocked (with_desk m (failed_run (Some r) (fault_of UnitStopped link) m.desk)) (sent_by a m r link c)
      ≡ awaited (cond blocked (Err (Stopped link)) (offered_to link a)) r link m.desk (cond blocked m (offered_at m link c owner.Procedure))
  awaited_by true a m r link c = refl
  awaited_by false (Ok u) m r link c = refl
  awaited_by false (Err Busy) m r link c = refl
  awaited_by false (Err Spent) m r link c = refl

  pub sending_is : (m : Machine K0 K1 K2 W) (r : Run) (link : ℕ) (c : Command)
      → sending m r link c ≡ awaited (send_answer m link) r link m.desk (after_send m link c owner.Procedure)
  sending_is m r link c = awaited_by (is_blocked m.desk link) (offer_answer (means_at m link)) m r link c

  pub sends : (m sent : Machine K0 K1 K2 W) (a : Result (Unit {0}) LinkFault) (r : Run) (link : ℕ) (c : Command) → a ≡ send_answer m link
      → sent ≡ after_send m link c owner.Procedure → awaited a r link sent.desk sent ≡ sending m r link c
  sends m sent a r link c answer after =
      ap (λ (d : Desk). awaited a r link d sent) (desk_kept m sent link c owner.Procedure after)
      ∙ ap (λ (x : Machine K0 K1 K2 W). awaited a r link m.desk x) after
      ∙ ap (λ (x : Result (Unit {0}) LinkFault). awaited x r link m.desk (after_send m link c owner.Procedure)) answer
      ∙ sym (sending_is m r link c)

  -- what the code leaves of the run, before a fault is reported
  abbrev pub held : Result (Unit {0}) StepFault → Run → ℕ → Machine K0 K1 K2 W → Machine K0 K1 K2 W
  held (Ok u) r link m = with_desk m (with_run m.desk (Some (sent_on r link)))
  held (Err f) r link m = m

  finished_step_is : (a : Result (Unit {0}) LinkFault) (r : Run) (link : ℕ) (sent : Machine K0 K1 K2 W)
      → finished_step (in_step (stands_at r) a) r (held (in_step (stands_at r) a) r link sent) ≡ awaited a r link sent.desk sent
  finished_step_is (Ok u) r link sent = refl
  finished_step_is (Err f) r link sent = refl

  pub steps : (m sent : Machine K0 K1 K2 W) (a : Result (Unit {0}) LinkFault) (b : Result (Unit {0}) StepFault) (r : Run) (link : ℕ) (c : Command) → b ≡ in_step (stands_at r) a
      → a ≡ send_answer m link → sent ≡ after_send m link c owner.Procedure
      → finished_step b r (held b r link sent) ≡ sending m r link c
  steps m sent a b r link c is answer after =
      ap (λ (x : Result (Unit {0}) StepFault). finished_step x r (held x r link sent)) is ∙ finished_step_is a r link sent ∙ sends m sent a r link c answer after
