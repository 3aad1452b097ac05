use Rattle.std.proofs.Common.{◌+◌, add-zero, arith}
use Rattle.octets.proofs.Past.{largest_place}
use Rattle.octets.proofs.words.long_at.Goals as goal

pub returns : goal.returns
returns c =
    let third = simp add-zero at (largest_place c.args.bytes.now (c.args.at + 2) 0 (omega arith)) in
    let fourth = largest_place c.args.bytes.now (c.args.at + 2) 1 (omega arith) in
    record { two_words = cc }
