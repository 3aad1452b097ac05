-- Bytes in hexadecimal, added to a line one after another.
use Rattle.std.proofs.Common.{◌≡◌, ℕ, ◌+◌, ◌-◌, ◌^◌, ◌/◌, ◌%◌, ◌<◌, false, List, [], ◌∷◌, ◌++◌, length, get_or, take, sym, refl, ap, ◌∙◌, append_assoc, arith}
use Rattle.std.specs.Fmt.{digits, digit_glyph, padded_integral, format_spec}
use Rattle.std.proofs.lemmas.Bool.Decides.{nat_tests}
use Rattle.std.proofs.lemmas.Fmt.{hex_byte}
use Rattle.std.proofs.lemmas.List.{append-nil, take_more}
use Rattle.answer_text.specs.Hex.{hex_digit, hex_of}

hex_push : (bytes : List ℕ) (byte : ℕ) → hex_of (bytes ++ byte ∷ []) ≡ hex_of bytes ++ hex_digit (byte / 16) ∷ hex_digit (byte % 16) ∷ []
unfolding hex_of
hex_push [] byte = refl
hex_push (first ∷ more) byte = ap (λ (l : List ℕ). hex_digit (first / 16) ∷ hex_digit (first % 16) ∷ l) (hex_push more byte)

pub hex_none : (line : List ℕ) → line ≡ line ++ hex_of []
unfolding hex_of
hex_none line = sym (append-nil line)

-- what is printed of a byte, by its two halves
abbrev printed : ℕ → List ℕ
printed byte = padded_integral (format_spec 32 0 4 2 (2 ^ 64 - 1)) false [] (digits 16 false byte)

glyph_is : (half : ℕ) → digit_glyph false half ≡ hex_digit half
glyph_is half = grind (arith, nat_tests)

two_digits : (byte : ℕ) → byte < 256 → printed byte ≡ hex_digit (byte / 16) ∷ hex_digit (byte % 16) ∷ []
two_digits byte fits = hex_byte false byte fits ∙ (λ i. glyph_is (byte / 16) i ∷ glyph_is (byte % 16) i ∷ [])

-- one more byte
pub hex_more : (line half whole bytes : List ℕ) (k : ℕ) → k < length bytes → get_or bytes k 0 < 256 → half ≡ line ++ hex_of (take k bytes)
    → whole ≡ half ++ printed (get_or bytes k 0) → whole ≡ line ++ hex_of (take (k + 1) bytes)
hex_more line half whole bytes k inside fits so added =
    let byte = get_or bytes k 0 in
    let front = hex_of (take k bytes) in
    let step : hex_of (take (k + 1) bytes) ≡ front ++ hex_digit (byte / 16) ∷ hex_digit (byte % 16) ∷ [] =
    ap hex_of (take_more bytes k 0 inside) ∙ hex_push (take k bytes) byte in
    added ∙ (λ i. so i ++ two_digits byte fits i) ∙ append_assoc line front _ ∙ ap (λ (l : List ℕ). line ++ l) (sym step)
