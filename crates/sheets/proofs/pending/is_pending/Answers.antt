use Rattle.std.proofs.Common.{map}
use Rattle.console.specs.Consoles.{answer_of}
use Rattle.sheets.specs.Histories.{reports_of}
use Rattle.sheets.proofs.Waiting.{open_in_second, final_in_first}
use Rattle.sheets.proofs.pending.is_pending.Goals as goal

pub returns-then-is_none : goal.returns-then-is_none
returns-then-is_none c = record {
  no_final_report =
      open_in_second c.args.number (reports_of (map answer_of c.args.answers.now)) (reports_of (map answer_of c.args.rest.now))
      _ _ c.final_report.ensures.first_handed_out c.is_none.ensures c.if-is_none.true
      _ _ c.final_report-then-is_none.ensures.first_handed_out c.is_none-then-is_none.ensures;
}

pub returns-else-is_none : goal.returns-else-is_none
returns-else-is_none c = record {
  no_final_report =
      final_in_first c.args.number (reports_of (map answer_of c.args.answers.now)) (reports_of (map answer_of c.args.rest.now))
      _ _ c.final_report.ensures.first_handed_out c.is_none.ensures c.if-is_none.false;
}
