use Rattle.std.proofs.Common.{rules}
use Rattle.std.proofs.lemmas.List.Sums.{prefix_len-le-length}
use Rattle.std.proofs.lemmas.List.{take_rest}
use Rattle.bench_text.proofs.words.split_word.Goals as goal

pub slice_bounds-trimmed-count : goal.slice_bounds-trimmed-count
slice_bounds-trimmed-count c = search (rules, prefix_len-le-length)

pub slice_bounds-trimmed-start : goal.slice_bounds-trimmed-start
slice_bounds-trimmed-start c = search (rules, prefix_len-le-length)

pub split_at-requires : goal.split_at-requires
split_at-requires c = search (rules, prefix_len-le-length)

pub returns : goal.returns
returns c = search (rules, take_rest)
