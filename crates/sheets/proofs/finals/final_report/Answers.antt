use Rattle.std.proofs.Common.{◌≡◌, ap, ◌∙◌, rules, tests}
use Rattle.sheets.proofs.Finding.{final_at, found_in, found_is_first, first_collected, some_if_any}
use Rattle.sheets.proofs.Firsts.{first_of, first_by_run}
use Rattle.sheets.proofs.finals.final_report.Goals as goal

pub returns : goal.returns
returns c =
    let run = c.find_map.ensures.runs in
    let reads = c.iter.ensures.runs run.0 run.0.seen in
    let same : run.0.from.rest.now ≡ c.args.answers.now = cc in
    let is : c.find_map.result ≡ found_in c.args.number c.args.answers.now =
    first_by_run (λ y. y.now) _ (final_at c.args.number) _ (λ x r q k. search (rules, tests)) run.0 run.0.from.rest.now reads.0 reads.1 reads.2 c.find_map.result run.2
    ∙ ap (first_of (final_at c.args.number)) same ∙ found_is_first c.args.number c.args.answers.now in
    record {
      first_handed_out = is;
      first_collected = first_collected c.args.number c.args.answers.now _ is;
      some_if_any_collected = some_if_any c.args.number c.args.answers.now _ is;
    }
