use Rattle.std.proofs.Common.{◌+◌, add-zero, arith}
use Rattle.octets.proofs.Past.{largest_place}
use Rattle.octets.proofs.words.word_at.Goals as goal

pub returns : goal.returns
returns c =
    let low = simp add-zero at (largest_place c.args.bytes.now (c.args.at + 1) 0 (omega arith)) in
    record { two_bytes = cc }
