-- Deliver, sample and collect: their answers, and what they leave.
use Rattle.std.specs.Prelude.{ℕ, Bool, cond, List, is_some, Some, None, Ok, Err, Option, Result, nat_le, nat_lt}
use Rattle.links.specs.declared.answers.Receipt.{Receipt}
use Rattle.links.specs.Meaning.{LinkKind, receipt}
use Rattle.records.specs.declared.event.EventKind.TheVariants.{Trouble, Clear}
use Rattle.records.specs.declared.refusal.Refusal.{Refusal}
use Rattle.records.specs.declared.refusal.Refusal.TheVariants.{Worn, NoLink, NobodyWaits, NoFunction, FunctionOff}
use Rattle.watches.specs.Meaning.{WatchKind, within}
use Rattle.machine.specs.Desks.{Desk, lost_in, with_log, raised_on, is_on}
use Rattle.machine.specs.Parts.{quiet, differ, collected_from, handed, Answer, Handed}
use Rattle.machine.specs.Executive.{with_desk, means_at, received_at, width_of, Machine}

module _ {K0 K1 K2 : LinkKind} {W : WatchKind} where
  abbrev pub deliver_answer : Machine K0 K1 K2 W → ℕ → List ℕ → Answer (Result Receipt Refusal)
  deliver_answer m link bytes =
      quiet (cond (nat_lt 2 link) (Err (NoLink link))
      (cond (is_some (means_at m link).held) (Ok (receipt (means_at m link) (means_at (received_at m link bytes) link))) (Err (NobodyWaits link))))

  abbrev pub after_deliver : Machine K0 K1 K2 W → ℕ → List ℕ → Machine K0 K1 K2 W
  after_deliver m link bytes = cond (nat_lt 2 link) m (cond (is_some (means_at m link).held) (received_at m link bytes) m)

  abbrev pub sample_refusal : Machine K0 K1 K2 W → ℕ → Option Refusal
  sample_refusal m f =
      cond (nat_le 1000000 m.desk.log.raised) (Some Worn)
      (cond (within (width_of m) f) (cond (is_on m.desk f) None (Some (FunctionOff f))) (Some (NoFunction f)))

  -- the state of a function after it saw a value, and whether that is another one
  abbrev pub trouble_after : Machine K0 K1 K2 W → ℕ → ℕ → Bool
  trouble_after m f v = W.trouble (W.seen m.watch f v) f

  abbrev pub changes : Machine K0 K1 K2 W → ℕ → ℕ → Bool
  changes m f v = differ (W.trouble m.watch f) (trouble_after m f v)

  abbrev pub sampled_by : Option Refusal → Machine K0 K1 K2 W → ℕ → ℕ → Answer (Result Bool Refusal)
  sampled_by (Some refusal) m f v = quiet (Err refusal)
  sampled_by None m f v = record {
    outcome = Ok (trouble_after m f v);
    raised = cond (changes m f v) 1 0;
    lost = cond (changes m f v) (lost_in m.desk.log) 0;
  }

  abbrev pub sample_answer : Machine K0 K1 K2 W → ℕ → ℕ → Answer (Result Bool Refusal)
  sample_answer m f v = sampled_by (sample_refusal m f) m f v

  abbrev pub watched : Machine K0 K1 K2 W → ℕ → ℕ → Desk → Machine K0 K1 K2 W
  watched m f v d = record { seat0 = m.seat0; seat1 = m.seat1; seat2 = m.seat2; watch = W.seen m.watch f v; desk = d }

  abbrev pub after_sample_by : Option Refusal → Machine K0 K1 K2 W → ℕ → ℕ → Machine K0 K1 K2 W
  after_sample_by (Some refusal) m f v = m
  after_sample_by None m f v =
      watched m f v (cond (changes m f v) (raised_on m.desk (record { kind = cond (trouble_after m f v) Trouble Clear; place = f; value = v })) m.desk)

  abbrev pub after_sample : Machine K0 K1 K2 W → ℕ → ℕ → Machine K0 K1 K2 W
  after_sample m f v = after_sample_by (sample_refusal m f) m f v

  abbrev pub collect_answer : Machine K0 K1 K2 W → Answer Handed
  collect_answer m = quiet (handed m.desk.log.events m.desk.log.reports)

  abbrev pub after_collect : Machine K0 K1 K2 W → Machine K0 K1 K2 W
  after_collect m = with_desk m (with_log m.desk (collected_from m.desk.log.events m.desk.log.reports m.desk.log))
