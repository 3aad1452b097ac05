use Rattle.std.proofs.Common.{◌≡◌, ◌+◌, ◌*◌, length, replicate, arith}
use Rattle.std.proofs.lemmas.List.{length-replicate}
use Rattle.telecommands.proofs.Filling.{filled_more}
use Rattle.telecommands.proofs.fields.read_fields.Goals as goal

pub loop-k-preserved : goal.loop-k-preserved
loop-k-preserved g c =
    let blanks = replicate g.row.N g.F.Field.blank in
    let long : length blanks ≡ g.row.N = length-replicate g.row.N g.F.Field.blank in
    let more =
    filled_more (λ k. g.F.Field.read c.args.packet.now (c.args.from + g.F.Field.SIZE * k)) blanks c.loop-k.k (omega (arith, long, c.requires.0)) in
    cc
