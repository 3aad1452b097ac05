-- The totals of a shift by the machine's balance.
use Rattle.std.specs.Prelude.{◌≡◌, ◌+◌, Bool, false, cond, List, length, ◌==◌}
use Rattle.machine.specs.Calls.{Told}
use Rattle.machine.specs.Balance.{View, all_reports, done_in, failed_in, sent_in, pending_in}
use Rattle.machine.specs.Parts.{Answer}
use Rattle.machine.specs.Runs.{History, accepted_in, events_raised, events_collected, events_lost}
use Rattle.sheets.specs.declared.tally.Totals.{Totals}
use Rattle.sheets.specs.Pending.{pending_of}
use Rattle.sheets.specs.Tallies.{tally_of}

-- of the answers of a shift, and of the rest that was handed out after it
abbrev pub totals_of : List (Answer Told) → List (Answer Told) → Totals
totals_of answers rest = record {
  accepted = (tally_of answers).accepted;
  done = (tally_of answers).done + (tally_of rest).done;
  failed = (tally_of answers).failed + (tally_of rest).failed;
  pending = pending_of answers rest;
  sent = (tally_of answers).sent + (tally_of rest).sent;
  raised = (tally_of answers).raised;
  collected = (tally_of answers).collected;
  waiting = (tally_of rest).collected;
  lost = (tally_of answers).lost;
}

-- each total is that of the history and of what waits at its end
pub record Totalled (t : Totals) (h : History) (v : View) : Type 0 where
  pub accepted : t.accepted ≡ length (accepted_in h)
  pub done : t.done ≡ done_in (all_reports h v)
  pub failed : t.failed ≡ failed_in (all_reports h v)
  pub pending : t.pending ≡ pending_in h v
  pub sent : t.sent ≡ sent_in (all_reports h v)
  pub raised : t.raised ≡ events_raised h
  pub collected : t.collected ≡ events_collected h
  pub waiting : t.waiting ≡ length v.events
  pub lost : t.lost ≡ events_lost h

pub record AddsUp (t : Totals) : Type 0 where
  pub numbers : t.accepted ≡ t.done + t.failed + t.pending
  pub events : t.raised ≡ t.collected + t.waiting + t.lost

abbrev pub adds_up : Totals → Bool
adds_up t = cond (t.accepted == t.done + t.failed + t.pending) (t.raised == t.collected + t.waiting + t.lost) false
