-- The totals of a shift, from the sums over its answers and over what waits.
use Rattle.std.proofs.Common.{◌≡◌, ℕ, ◌+◌, List, [], ◌∷◌, length, fold, ap, ◌∙◌, arith}
use Rattle.std.proofs.lemmas.List.Sums.{sum_by-append, sum_by-cons}
use Rattle.machine.specs.Parts as out
use Rattle.machine.specs.Calls.{Told}
use Rattle.machine.specs.Calls.{collected}
use Rattle.machine.specs.Balance.{View, is_done, is_failed, sent_by, done_in, failed_in, sent_in, pending_in, Balanced}
use Rattle.machine.specs.Laws.{handings}
use Rattle.machine.specs.Parts.{Answer, quiet}
use Rattle.machine.specs.Runs.{History, collected_in}
use Rattle.records.specs.declared.event.Event.{Event}
use Rattle.records.specs.declared.report.Report.{Report}
use Rattle.sheets.specs.declared.tally.Tally.{Tally}
use Rattle.sheets.specs.declared.tally.Totals.{Totals}
use Rattle.sheets.specs.Tallies.{no_tally, answer_tally, both_tallies, tally_of, Tallied}
use Rattle.sheets.specs.Totals.{Totalled, AddsUp}

-- a sum with these events and reports handed out besides
record Besides (t : Tally) (events : List Event) (reports : List Report) (s : Tally) : Type 0 where
  done : s.done ≡ t.done + done_in reports
  failed : s.failed ≡ t.failed + failed_in reports
  sent : s.sent ≡ t.sent + sent_in reports
  collected : s.collected ≡ t.collected + length events

abbrev sum_from : Tally → List (Answer Told) → Tally
sum_from t answers = fold (λ u a. both_tallies u (answer_tally a)) t answers

reports_besides : (t : Tally) (reports : List Report) → Besides t [] reports (sum_from t (handings [] reports))
reports_besides t [] = record { done = omega arith; failed = omega arith; sent = omega arith; collected = omega arith }
reports_besides t (r ∷ reports) =
    let so = reports_besides (both_tallies t (answer_tally (quiet (collected (out.report r))))) reports in
    record {
      done = omega (arith, so.done, sum_by-cons (λ (x : Report). is_done x.stage) r reports);
      failed = omega (arith, so.failed, sum_by-cons (λ (x : Report). is_failed x.stage) r reports);
      sent = omega (arith, so.sent, sum_by-cons (λ (x : Report). sent_by x.stage) r reports);
      collected = omega (arith, so.collected);
    }

all_besides : (t : Tally) (events : List Event) (reports : List Report) → Besides t events reports (sum_from t (handings events reports))
all_besides t [] reports = reports_besides t reports
all_besides t (e ∷ events) reports =
    let so = all_besides (both_tallies t (answer_tally (quiet (collected (out.event e))))) events reports in
    record {
      done = omega (arith, so.done);
      failed = omega (arith, so.failed);
      sent = omega (arith, so.sent);
      collected = omega (arith, so.collected);
    }

sum_of_both : (all one other x y xy : ℕ) → all ≡ one + other → one ≡ x → other ≡ 0 + y → xy ≡ x + y → all ≡ xy
sum_of_both all one other x y xy sum so also append = omega arith

module _ (during later all : Tally) (p : ℕ) (h : History) (v : View) (both : all ≡ both_tallies during later) (so : Tallied during h)
    (waits : later ≡ tally_of (handings v.events v.reports)) (unfinished : p ≡ pending_in h v) where
  rest : Besides no_tally v.events v.reports (tally_of (handings v.events v.reports))
  rest = all_besides no_tally v.events v.reports

  pub totalled : Totalled (record { accepted = during.accepted; done = all.done; failed = all.failed; pending = p; sent = all.sent; raised = during.raised; collected = during.collected; waiting = later.collected; lost = during.lost }) h v
  totalled = record {
    accepted = so.accepted;
    done = sum_of_both _ _ _ _ _ _ (ap (λ (t : Tally). t.done) both) so.done (ap (λ (t : Tally). t.done) waits ∙ rest.done) (sum_by-append (λ (r : Report). is_done r.stage) (collected_in h) v.reports);
    failed = sum_of_both _ _ _ _ _ _ (ap (λ (t : Tally). t.failed) both) so.failed (ap (λ (t : Tally). t.failed) waits ∙ rest.failed) (sum_by-append (λ (r : Report). is_failed r.stage) (collected_in h) v.reports);
    pending = unfinished;
    sent = sum_of_both _ _ _ _ _ _ (ap (λ (t : Tally). t.sent) both) so.sent (ap (λ (t : Tally). t.sent) waits ∙ rest.sent) (sum_by-append (λ (r : Report). sent_by r.stage) (collected_in h) v.reports);
    raised = so.raised;
    collected = so.collected;
    waiting = omega (arith, ap (λ (t : Tally). t.collected) waits, rest.collected);
    lost = so.lost;
  }

-- the machine's balance is that of the totals
pub balances : (t : Totals) (h : History) (v : View) → Totalled t h v → Balanced h v → AddsUp t
balances t h v so balanced = record {
  numbers = omega (arith, so.accepted, so.done, so.failed, so.pending, balanced.numbers);
  events = omega (arith, so.raised, so.collected, so.waiting, so.lost, balanced.events);
}
