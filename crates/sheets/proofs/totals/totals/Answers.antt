use Rattle.std.proofs.Common.{ap, ◌∙◌, rules}
use Rattle.sheets.specs.Tallies.{tally_of}
use Rattle.sheets.proofs.Totalling.{totalled}
use Rattle.sheets.proofs.totals.totals.Goals as goal

pub returns : goal.returns
returns c = record {
  of_the_answers = search rules;
  of_their_history = λ h v of_them waits.
      totalled _ _ _ _ h v c.both-all.ensures.each_sum (c.tally-during.ensures.of_their_history h of_them)
      (c.tally-after.ensures.of_the_answers ∙ ap tally_of waits) (c.pending.ensures.of_their_history h v of_them waits);
}
