-- Values shown in turn: some have been seen, the others are still to come.
use Rattle.std.proofs.Common.{◌≡◌, ℕ, ◌+◌, ◌<◌, ◌≤◌, Bool, Option, List, ◌++◌, length, get_or, set, take, drop, add-one, append_assoc, append-nil, arith, sym, ap, ◌∙◌}
use Rattle.std.proofs.lemmas.List.{take_all, drop_all}
use Rattle.std.proofs.Math.ListN.{length-set}
use Rattle.std.proofs.Math.Seq.{drop-cons, take-suc-set}
use Rattle.watches.specs.Examples.{answers_in_turn, state_in_turn}
use Rattle.watches.specs.Meaning.{WatchKind, see_answer}

module _ (K : WatchKind) (f : ℕ) where
  pub record Shown (before now : K.State) (values : List ℕ) (answers : List (Option Bool)) (seen : ℕ) : Type 0 where
    pub as_long : length answers ≡ length values
    pub answers_so_far : answers_in_turn K before f values ≡ take seen answers ++ answers_in_turn K now f (drop seen values)
    pub state_so_far : state_in_turn K before f values ≡ state_in_turn K now f (drop seen values)

  module _ {before now : K.State} {values : List ℕ} {answers : List (Option Bool)} {seen : ℕ} (shown : Shown before now values answers seen) where
    pub one_more : seen < length values
        → Shown before (K.seen now f (get_or values seen 0)) values (set answers seen (see_answer K now f (get_or values seen 0))) (seen + 1)
    one_more more =
        let next = drop-cons values seen 0 more in
        let within : seen < length answers = omega (arith, shown.as_long) in
        record {
          as_long = length-set answers seen _ ∙ shown.as_long;
          answers_so_far =
              rw (add-one, take-suc-set answers seen _ within, append_assoc)
              (shown.answers_so_far ∙ ap (λ vs. take seen answers ++ answers_in_turn K now f vs) next);
          state_so_far = rw add-one (shown.state_so_far ∙ ap (state_in_turn K now f) next);
        }

    pub all_answers : length values ≤ seen → answers ≡ answers_in_turn K before f values
    all_answers past =
        let e = take_all seen answers (omega (arith, shown.as_long)) in
        let none = drop_all seen values past in
        sym (shown.answers_so_far ∙ ap (λ vs. take seen answers ++ answers_in_turn K now f vs) none ∙ append-nil (take seen answers) ∙ e)

    pub last_state : length values ≤ seen → now ≡ state_in_turn K before f values
    last_state past = sym (shown.state_so_far ∙ ap (state_in_turn K now f) (drop_all seen values past))
