-- Sums over answers, one answer more, and their bounds.
use Rattle.std.proofs.Common.{◌≡◌, ℕ, ◌+◌, ◌<◌, ◌≤◌, List, [], ◌∷◌, ◌++◌, map, length, get_or, take, sym, refl, ap, ◌∙◌, subst, arith}
use Rattle.std.proofs.lemmas.List.{length-append, map_more}
use Rattle.std.proofs.lemmas.List.Sums.{fold_push, sum_by-append}
use Rattle.console.specs.Consoles.{Answer}
use Rattle.console.specs.Consoles.{answer_of}
use Rattle.machine.specs.Calls.{Told}
use Rattle.machine.specs.Balance.{is_done, is_failed, sent_by}
use Rattle.machine.specs.Parts as parts
use Rattle.machine.specs.Runs.{History, numbers_in, reports_in, accepted_in, collected_in}
use Rattle.records.specs.declared.report.Report.{Report}
use Rattle.sheets.specs.declared.tally.Tally.{Tally}
use Rattle.sheets.specs.Histories.{answers_in}
use Rattle.sheets.specs.Tallies.{no_tally, answer_tally, both_tallies, tally_of, Tallied, Within}

tally_push : (answers : List (parts.Answer Told)) (a : parts.Answer Told) → tally_of (answers ++ a ∷ []) ≡ both_tallies (tally_of answers) (answer_tally a)
tally_push answers a = fold_push (λ t x. both_tallies t (answer_tally x)) no_tally answers a

pub tally_more : (answers : List Answer) (i : ℕ) (d : Answer) (t u s : Tally) → i < length answers → t ≡ tally_of (map answer_of (take i answers))
    → u ≡ answer_tally (answer_of (get_or answers i d)) → s ≡ both_tallies t u → s ≡ tally_of (map answer_of (take (i + 1) answers))
tally_more answers i d t u s more so next is =
    is ∙ (λ j. both_tallies (so j) (next j)) ∙ sym (tally_push (map answer_of (take i answers)) (answer_of (get_or answers i d)))
    ∙ ap tally_of (sym (map_more answer_of answers i d more))

pub within_both : (t u s : Tally) (m n : ℕ) → s ≡ both_tallies t u → Within t m → Within u n → Within s (m + n)
within_both t u s m n is small-t small-u =
    subst (λ (x : Tally). Within x (m + n)) (sym is)
    (record {
      accepted = omega (arith, small-t.accepted, small-u.accepted);
      done = omega (arith, small-t.done, small-u.done);
      failed = omega (arith, small-t.failed, small-u.failed);
      sent = omega (arith, small-t.sent, small-u.sent);
      raised = omega (arith, small-t.raised, small-u.raised);
      collected = omega (arith, small-t.collected, small-u.collected);
      lost = omega (arith, small-t.lost, small-u.lost);
    })

pub within_more : (t : Tally) (m n : ℕ) → m ≤ n → Within t m → Within t n
within_more t m n le small = record {
  accepted = omega (arith, small.accepted);
  done = omega (arith, small.done);
  failed = omega (arith, small.failed);
  sent = omega (arith, small.sent);
  raised = omega (arith, small.raised);
  collected = omega (arith, small.collected);
  lost = omega (arith, small.lost);
}

swapped : (a b x c : ℕ) → a ≡ b → c ≡ x + b → a + x ≡ c
swapped a b x c same sum = omega arith

pub tallied : (h : History) → Tallied (tally_of (answers_in h)) h
tallied [] = record { accepted = refl; done = refl; failed = refl; sent = refl; raised = refl; collected = refl; lost = refl }
tallied (e ∷ h) =
    let so = tallied h in
    let o = e.answer.outcome in
    let push = tally_push (answers_in h) e.answer in
    record {
      accepted = ap (λ (t : Tally). t.accepted) push ∙ swapped _ _ _ _ so.accepted (length-append (numbers_in o) (accepted_in h));
      done = ap (λ (t : Tally). t.done) push ∙ swapped _ _ _ _ so.done (sum_by-append (λ (r : Report). is_done r.stage) (reports_in o) (collected_in h));
      failed = ap (λ (t : Tally). t.failed) push ∙ swapped _ _ _ _ so.failed (sum_by-append (λ (r : Report). is_failed r.stage) (reports_in o) (collected_in h));
      sent = ap (λ (t : Tally). t.sent) push ∙ swapped _ _ _ _ so.sent (sum_by-append (λ (r : Report). sent_by r.stage) (reports_in o) (collected_in h));
      raised = ap (λ (t : Tally). t.raised) push ∙ swapped _ _ _ _ so.raised refl;
      collected = ap (λ (t : Tally). t.collected) push ∙ swapped _ _ _ _ so.collected refl;
      lost = ap (λ (t : Tally). t.lost) push ∙ swapped _ _ _ _ so.lost refl;
    }
