use Rattle.std.proofs.Common.{rules}
use Rattle.bench_text.proofs.Runs.{past_blank, at_last, at_no_pair, past_pair, at_end}
use Rattle.bench_text.proofs.numbers.bytes.Goals as goal

pub pairs-preserved-then-is_blank : goal.pairs-preserved-then-is_blank
pairs-preserved-then-is_blank c =
    past_blank _ _ _ c.pairs.invariant c.in-len1-up.len_at_least c.if-is_blank.ensures.three_of_them

pub returns-in-len1 : goal.returns-in-len1
returns-in-len1 c =
    record { pairs_of_digits = at_last _ _ _ c.pairs.invariant c.in-len1.len_at_least c.in-len1.len_below c.if-is_blank.ensures.three_of_them }

pub returns-in_default : goal.returns-in_default
returns-in_default c =
    record { pairs_of_digits = at_no_pair _ _ _ c.pairs.invariant c.in-len2-up.len_at_least c.if-is_blank.ensures.three_of_them c.in_default.ensures.high_half_first }

pub pairs-preserved : goal.pairs-preserved
pairs-preserved c =
    past_pair _ _ _ c.pairs.invariant c.in-len2-up.len_at_least c.if-is_blank.ensures.three_of_them _ _ c.in-Some.ensures.high_half_first c.in_ok-push-in-len2-up.ensures.items

pub returns-in-empty : goal.returns-in-empty
returns-in-empty c =
    record { pairs_of_digits = at_end _ _ _ c.pairs.invariant (search rules) }
