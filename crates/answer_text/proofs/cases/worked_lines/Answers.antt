use Rattle.std.proofs.Common.{refl}
use Rattle.std.specs.Fmt.{digits}
use Rattle.answer_text.specs.Hex.{hex_of}
use Rattle.answer_text.proofs.cases.worked_lines.Goals as goal

pub returns : goal.returns
unfolding digits hex_of
returns c = record {
  as_printed = record {
    accepted = refl;
    submit_refused = refl;
    deliver_refused = refl;
    kept = refl;
    ignored = refl;
    ticked = refl;
    trouble = refl;
    good = refl;
    event = refl;
    started = refl;
    done = refl;
    failed = refl;
    nothing = refl;
    message = refl;
    no_bytes = refl;
    unreadable = refl;
  };
}
