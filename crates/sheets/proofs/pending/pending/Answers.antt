use Rattle.std.proofs.Common.{◌≡◌, ◌++◌, map, count_by, ◌∙◌, rules}
use Rattle.console.specs.Consoles.{answer_of}
use Rattle.sheets.specs.Histories.{reports_of}
use Rattle.sheets.specs.Pending.{gives_open}
use Rattle.sheets.proofs.Waiting.{pending_is, open_counted}
use Rattle.sheets.proofs.pending.pending.Goals as goal

pub returns : goal.returns
returns c =
    let answers = map answer_of c.args.answers.now in
    let rest = map answer_of c.args.rest.now in
    let reports = reports_of answers ++ reports_of rest in
    let counted : c.count.result ≡ count_by (λ a. gives_open reports (answer_of a)) c.args.answers.now = search rules in
    let is = counted ∙ open_counted reports c.args.answers.now in
    record { of_the_answers = is; of_their_history = λ h v of_them waits. is ∙ pending_is answers rest h v of_them waits }
