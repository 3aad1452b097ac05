use Rattle.std.proofs.Common.{◌≡◌, ℕ, map, get_or, sym, refl, rules, tests, arith}
use Rattle.std.specs.List.{range_with_len}
use Rattle.std.proofs.lemmas.Iterator.{YieldsList-from_range, YieldsList-from_map, items_from_collect}
use Rattle.std.proofs.lemmas.List.FromFn.{fill_by_all}
use Rattle.machine.specs.Machine.{message_of}
use Rattle.bench.proofs.session.message.Goals as goal

pub returns : goal.returns
returns c =
    let sends = message_of c.args.console.now c.args.link in
    let byte_at : ℕ → ℕ = λ at. get_or sends at 0 in
    let all : sends ≡ map byte_at (range_with_len 0 c.message_length.result) =
    fill_by_all byte_at sends c.message_length.result 0 (sym c.message_length.ensures.of_the_message) (λ k h. refl) in
    let collected =
    items_from_collect c.collect.result c.collect.ensures.ran
    (YieldsList-from_map _ byte_at (YieldsList-from_range 0 c.message_length.result c.message_length.result (cc) (omega arith)) c.map.ensures.closure (λ x r q k. search (rules, tests))) in
    record { all_its_bytes = rw all collected }
