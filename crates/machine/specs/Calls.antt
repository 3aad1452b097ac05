-- The five calls with what they carry, their answers, and lists of calls.
use Rattle.std.specs.Prelude.{◌≡◌, ℕ, Bool, false, List, [], ◌∷◌, None, Result}
use Rattle.links.specs.declared.answers.Receipt.{Receipt}
use Rattle.links.specs.Meaning.{LinkKind, idle}
use Rattle.records.specs.declared.refusal.Refusal.{Refusal}
use Rattle.watches.specs.Meaning.{WatchKind}
use Rattle.machine.specs.Desks.{new_desk}
use Rattle.machine.specs.Machine.{Machine, Answer, Handed, submit_answer, after_submit, deliver_answer, after_deliver, tick_answer, after_tick, sample_answer, after_sample, collect_answer, after_collect}

pub data Call : Type 0 where
  submit : List ℕ → Call
  deliver : ℕ → List ℕ → Call
  tick : Call
  sample : ℕ → ℕ → Call
  collect : Call

-- the outcome of a call
pub data Told : Type 0 where
  submitted : Result ℕ Refusal → Told
  delivered : Result Receipt Refusal → Told
  ticked : Told
  sampled : Result Bool Refusal → Told
  collected : Handed → Told

abbrev pub told : {A : Type 0} → (A → Told) → Answer A → Answer Told
told f a = record { outcome = f a.outcome; raised = a.raised; lost = a.lost }

module _ {K0 K1 K2 : LinkKind} {W : WatchKind} where
  abbrev pub answer_to : Machine K0 K1 K2 W → Call → Answer Told
  answer_to m (submit bytes) = told submitted (submit_answer m bytes)
  answer_to m (deliver link bytes) = told delivered (deliver_answer m link bytes)
  answer_to m tick = told (λ u. ticked) (tick_answer m)
  answer_to m (sample f v) = told sampled (sample_answer m f v)
  answer_to m collect = told collected (collect_answer m)

  abbrev pub after : Machine K0 K1 K2 W → Call → Machine K0 K1 K2 W
  after m (submit bytes) = after_submit m bytes
  after m (deliver link bytes) = after_deliver m link bytes
  after m tick = after_tick m
  after m (sample f v) = after_sample m f v
  after m collect = after_collect m

  -- the answers to a list of calls, each made on what those before it left
  unfoldable pub answers_to : Machine K0 K1 K2 W → List Call → List (Answer Told)
  answers_to m [] = []
  answers_to m (c ∷ calls) = answer_to m c ∷ answers_to (after m c) calls

  -- the machine after a list of calls
  unfoldable pub after_all : Machine K0 K1 K2 W → List Call → Machine K0 K1 K2 W
  after_all m [] = m
  after_all m (c ∷ calls) = after_all (after m c) calls

-- a machine made of three links and a watch: held commands are abandoned
abbrev pub made : (K0 K1 K2 : LinkKind) (W : WatchKind) → K0.State → K1.State → K2.State → W.State → Machine K0 K1 K2 W
made K0 K1 K2 W l0 l1 l2 w = record {
  seat0 = record { link = K0.abandoned l0; hold = None };
  seat1 = record { link = K1.abandoned l1; hold = None };
  seat2 = record { link = K2.abandoned l2; hold = None };
  watch = w;
  desk = new_desk;
}

-- fresh: made of links that had taken and held nothing, and a watch with nothing in trouble
pub record Fresh (K0 K1 K2 : LinkKind) (W : WatchKind) (l0 : K0.State) (l1 : K1.State) (l2 : K2.State) (w : W.State) : Type 0 where
  pub link_0 : K0.means l0 ≡ idle 0
  pub link_1 : K1.means l1 ≡ idle 0
  pub link_2 : K2.means l2 ≡ idle 0
  pub nothing_in_trouble : (f : ℕ) → W.trouble w f ≡ false
