-- A refused call changes nothing, so refused calls can be struck from a list.
use Rattle.std.proofs.Common.{◌≡◌, ℕ, Bool, true, false, cond, ltb, List, [], ◌∷◌, is_some, Some, None, Ok, Err, Option, Result, sym, refl, ap, ◌∙◌}
use Rattle.std.proofs.lemmas.Bool.{both_ways}
use Rattle.links.specs.declared.answers.Receipt.{Receipt}
use Rattle.links.specs.Meaning.{LinkKind}
use Rattle.records.specs.declared.refusal.Refusal.{Refusal}
use Rattle.records.specs.declared.refusal.Refusal.TheVariants.{NoLink, NobodyWaits}
use Rattle.telecommands.specs.declared.packet.Packet.{Packet}
use Rattle.telecommands.specs.Packets.{read_packet}
use Rattle.watches.specs.Meaning.{WatchKind}
use Rattle.machine.specs.Calls.{Call, submit, deliver, tick, sample, collect, answer_to, after, answers_to, after_all}
use Rattle.machine.specs.Calls.{Told}
use Rattle.machine.specs.Laws.{is_err, is_refused, taken_calls, taken_answers}
use Rattle.machine.specs.Machine.{Machine, Answer, means_at, received_at, acceptance, submitted_by, sample_refusal, sampled_by, after_sample_by}

module _ {K0 K1 K2 : LinkKind} {W : WatchKind} where
  submit_refused : (a : Result ℕ Refusal) (read : Result Packet Refusal) (m : Machine K0 K1 K2 W) → is_err a ≡ true → submitted_by a read m ≡ m
  submit_refused (Err refusal) read m e = refl
  submit_refused (Ok n) read m e = absurd (both_ways false refl e)

  deliver_refused : (above held : Bool) (m n : Machine K0 K1 K2 W) (link : ℕ) (x : Receipt)
      → is_err (cond above (Err (NoLink link)) (cond held (Ok x) (Err (NobodyWaits link)))) ≡ true → cond above m (cond held n m) ≡ m
  deliver_refused true held m n link x e = refl
  deliver_refused false true m n link x e = absurd (both_ways false refl e)
  deliver_refused false false m n link x e = refl

  sample_refused : (refusal : Option Refusal) (m : Machine K0 K1 K2 W) (f v : ℕ) → is_err (sampled_by refusal m f v).outcome ≡ true → after_sample_by refusal m f v ≡ m
  sample_refused (Some refusal) m f v e = refl
  sample_refused None m f v e = absurd (both_ways false refl e)

  pub unchanged_by : (m : Machine K0 K1 K2 W) (c : Call) → is_refused (answer_to m c).outcome ≡ true → after m c ≡ m
  unchanged_by m (submit bytes) e = submit_refused (acceptance m (read_packet bytes)) (read_packet bytes) m e
  unchanged_by m (deliver link bytes) e = deliver_refused (ltb 2 link) (is_some (means_at m link).held) m (received_at m link bytes) link _ e
  unchanged_by m tick e = absurd (both_ways false refl e)
  unchanged_by m (sample f v) e = sample_refused (sample_refusal m f) m f v e
  unchanged_by m collect e = absurd (both_ways false refl e)

  sample_quiet : (refusal : Option Refusal) (m : Machine K0 K1 K2 W) (f v : ℕ) → is_err (sampled_by refusal m f v).outcome ≡ true
      → ((sampled_by refusal m f v).raised ≡ 0) × ((sampled_by refusal m f v).lost ≡ 0)
  sample_quiet (Some refusal) m f v e = (refl, refl)
  sample_quiet None m f v e = absurd (both_ways false refl e)

  pub quiet_by : (m : Machine K0 K1 K2 W) (c : Call) → is_refused (answer_to m c).outcome ≡ true → ((answer_to m c).raised ≡ 0) × ((answer_to m c).lost ≡ 0)
  quiet_by m (submit bytes) e = (refl, refl)
  quiet_by m (deliver link bytes) e = (refl, refl)
  quiet_by m tick e = absurd (both_ways false refl e)
  quiet_by m (sample f v) e = sample_quiet (sample_refusal m f) m f v e
  quiet_by m collect e = (refl, refl)

  -- one call more, refused or not
  struck_by : (refused : Bool) (m : Machine K0 K1 K2 W) (c : Call) (calls taken : List Call) (answers : List (Answer Told)) → (refused ≡ true → after m c ≡ m)
      → answers_to (after m c) taken ≡ answers → after_all (after m c) taken ≡ after_all (after m c) calls
      → (answers_to m (cond refused taken (c ∷ taken)) ≡ cond refused answers (answer_to m c ∷ answers))
      × (after_all m (cond refused taken (c ∷ taken)) ≡ after_all (after m c) calls)
  unfolding answers_to after_all
  struck_by true m c calls taken answers same a b =
      (ap (λ (x : Machine K0 K1 K2 W). answers_to x taken) (sym (same refl)) ∙ a, ap (λ (x : Machine K0 K1 K2 W). after_all x taken) (sym (same refl)) ∙ b)
  struck_by false m c calls taken answers same a b = (ap (λ (rest : List (Answer Told)). answer_to m c ∷ rest) a, b)

  pub struck : (m : Machine K0 K1 K2 W) (calls : List Call)
      → (answers_to m (taken_calls m calls) ≡ taken_answers m calls) × (after_all m (taken_calls m calls) ≡ after_all m calls)
  unfolding answers_to after_all taken_calls taken_answers
  struck m [] = (refl, refl)
  struck m (c ∷ calls) =
      let rest = struck (after m c) calls in
      struck_by (is_refused (answer_to m c).outcome) m c calls (taken_calls (after m c) calls) (taken_answers (after m c) calls) (unchanged_by m c) rest.0 rest.1
