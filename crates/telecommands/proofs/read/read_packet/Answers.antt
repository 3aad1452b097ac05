use Rattle.std.proofs.Common.{arith}
use Rattle.telecommands.proofs.Bounds.{length_cases}
use Rattle.telecommands.proofs.Order.{first_failing}
use Rattle.telecommands.proofs.Places.{fields_in_place}
use Rattle.telecommands.proofs.read.read_packet.Goals as goal

pub returns : goal.returns
returns c =
    let p = c.args.packet.now in
    let r = c.judge_packet.result in
    let e = c.judge_packet.ensures.first_that_applies in
    record {
      answer = e;
      refused_by_first_failing_check = first_failing p r e;
      fields_in_place = fields_in_place p (λ i. omega (arith, c.type_inv.packet i)) r e;
      length_cases = length_cases p r e;
    }
