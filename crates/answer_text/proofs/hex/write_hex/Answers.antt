use Rattle.std.proofs.Common.{string_bytes, arith, rules}
use Rattle.answer_text.proofs.Hexes.{hex_none, hex_more}
use Rattle.answer_text.proofs.hex.write_hex.Goals as goal

pub loop-byte-init : goal.loop-byte-init
loop-byte-init c = hex_none _

pub loop-byte-preserved : goal.loop-byte-preserved
loop-byte-preserved c =
    let byte = c.loop-byte.byte-index in
    hex_more (string_bytes c.args.line.now) (string_bytes c.loop-byte.line) (string_bytes c.write.new.self)
    c.args.bytes.now byte c.loop-byte-test.true (omega (arith, c.type_inv.bytes byte)) c.loop-byte.invariant (search rules)
