use Rattle.std.proofs.Common.{◌≡◌, arith, rules}
use Rattle.std.proofs.lemmas.List.Sums.{fold_more}
use Rattle.std.proofs.lemmas.List.{take_all}
use Rattle.octets.specs.Check.{check_word}
use Rattle.octets.proofs.Detection.{own_word_leaves_zero, wrong_byte_shows}
use Rattle.octets.proofs.check.check_word.Goals as goal

pub loop-byte-preserved : goal.loop-byte-preserved
loop-byte-preserved c = search (rules, fold_more)

pub returns : goal.returns
returns c =
    let bytes = c.args.bytes.now in
    let word : c.loop-byte.word ≡ check_word bytes = search (rules, take_all) in
    record {
      over_each_byte_in_turn = word;
      own_word_leaves_zero = own_word_leaves_zero bytes c.loop-byte.word word;
      wrong_byte_shows = wrong_byte_shows bytes (λ i. omega (arith, c.type_inv.bytes i));
    }
