use Rattle.std.proofs.Common.{◌<◌, length, vec_items, rules}
use Rattle.bench_text.proofs.Reading.{said_of_known}
use Rattle.bench_text.proofs.input.next_line.Goals as goal

pub returns-in-Ok-read_line : goal.returns-in-Ok-read_line
returns-in-Ok-read_line g c =
    let read = vec_items c.read_until.new.buf in
    let some : 0 < length read = search rules in
    record {
      from_the_input = (
        said_of_known (g.R.Read.remaining c.args.reader.now) (vec_items c.clear.new.self) read c.in-Ok-read_line.line c.clear.ensures.items some (search rules) c.in-Ok.ensures.bytes,
        c.in-Ok.ensures.rest,
      );
    }
