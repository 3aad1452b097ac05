use Rattle.std.proofs.Common.{refl}
use Rattle.std.specs.Fmt.{digits}
use Rattle.std.proofs.lemmas.Fmt.{decimal_is_IsNumeral, first_decimal}
use Rattle.answer_text.specs.Cases.{WorkedNumbers}
use Rattle.answer_text.proofs.cases.numbers.Goals as goal

worked : WorkedNumbers
unfolding digits
worked = record { none = refl; seven = refl; ten = refl; largest_long = refl; largest_place = refl }

pub returns : goal.returns
returns c = record {
  as_printed = worked;
  mean_themselves =
      λ n fits.
      record {
        digits_only = (decimal_is_IsNumeral n fits).0;
        read_back = (decimal_is_IsNumeral n fits).1;
        no_leading_zero = λ some. first_decimal n some fits;
      };
}
