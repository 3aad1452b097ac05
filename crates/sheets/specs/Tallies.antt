-- What answers add up to, by the machine's tallies.
use Rattle.std.specs.Prelude.{◌≡◌, ℕ, ◌+◌, ◌≤◌, List, length, fold}
use Rattle.machine.specs.Calls.{Told}
use Rattle.machine.specs.Balance.{is_done, is_failed, sent_by, done_in, failed_in, sent_in}
use Rattle.machine.specs.Parts.{Answer}
use Rattle.machine.specs.Runs.{History, numbers_in, reports_in, events_in, accepted_in, collected_in, events_raised, events_collected, events_lost}
use Rattle.records.specs.declared.report.Stage.{Stage}
use Rattle.sheets.specs.declared.tally.Tally.{Tally}

abbrev pub no_tally : Tally
no_tally = record { accepted = 0; done = 0; failed = 0; sent = 0; raised = 0; collected = 0; lost = 0 }

-- of a report in this stage
abbrev pub stage_tally : Stage → Tally
stage_tally s = record { accepted = 0; done = is_done s; failed = is_failed s; sent = sent_by s; raised = 0; collected = 0; lost = 0 }

abbrev pub answer_tally : Answer Told → Tally
answer_tally a = record {
  accepted = length (numbers_in a.outcome);
  done = done_in (reports_in a.outcome);
  failed = failed_in (reports_in a.outcome);
  sent = sent_in (reports_in a.outcome);
  raised = a.raised;
  collected = events_in a.outcome;
  lost = a.lost;
}

abbrev pub both_tallies : Tally → Tally → Tally
both_tallies t u = record {
  accepted = t.accepted + u.accepted;
  done = t.done + u.done;
  failed = t.failed + u.failed;
  sent = t.sent + u.sent;
  raised = t.raised + u.raised;
  collected = t.collected + u.collected;
  lost = t.lost + u.lost;
}

abbrev pub tally_of : List (Answer Told) → Tally
tally_of answers = fold (λ t a. both_tallies t (answer_tally a)) no_tally answers

-- each sum is that of the history
pub record Tallied (t : Tally) (h : History) : Type 0 where
  pub accepted : t.accepted ≡ length (accepted_in h)
  pub done : t.done ≡ done_in (collected_in h)
  pub failed : t.failed ≡ failed_in (collected_in h)
  pub sent : t.sent ≡ sent_in (collected_in h)
  pub raised : t.raised ≡ events_raised h
  pub collected : t.collected ≡ events_collected h
  pub lost : t.lost ≡ events_lost h

-- each sum is at most this
pub record Within (t : Tally) (most : ℕ) : Type 0 where
  pub accepted : t.accepted ≤ most
  pub done : t.done ≤ most
  pub failed : t.failed ≤ most
  pub sent : t.sent ≤ most
  pub raised : t.raised ≤ most
  pub collected : t.collected ≤ most
  pub lost : t.lost ≤ most
