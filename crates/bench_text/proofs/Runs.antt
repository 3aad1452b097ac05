-- Reading a text in hexadecimal from its start: what each step keeps, and what its ends give.
use Rattle.std.proofs.Common.{◌≡◌, ℕ, ◌-◌, ◌<◌, ◌≤◌, true, false, List, [], ◌∷◌, ◌++◌, length, get_or, take, drop, Some, None, Option, sym, refl, ap, ◌∙◌, append_assoc, length-drop, arith}
use Rattle.std.proofs.lemmas.List.{append-nil, take_all}
use Rattle.std.proofs.lemmas.Bool.{cond-true, cond-false}
use Rattle.bench_text.specs.Numbers.{hex_digit, hex_pair, before, bytes_of}
use Rattle.bench_text.specs.Words.{is_blank}

-- a run of bytes before another one, where that is there
abbrev ahead : List ℕ → Option (List ℕ) → Option (List ℕ)
ahead front None = None
ahead front (Some run) = Some (front ++ run)

ahead_push : (front : List ℕ) (byte : ℕ) (run : Option (List ℕ)) → ahead front (before (Some byte) run) ≡ ahead (front ++ byte ∷ []) run
ahead_push front byte None = refl
ahead_push front byte (Some run) = ap Some (sym (append_assoc front (byte ∷ []) run))

-- the bytes read so far, with what is left of the text, give all
abbrev pub ReadTo : List ℕ → List ℕ → List ℕ → Type 0
ReadTo text rest front = bytes_of text ≡ ahead front (bytes_of rest)

-- what stands behind the first bytes
abbrev behind : ℕ → List ℕ → List ℕ
behind k text = take (length text - k) (drop k text)

behind_is : (k : ℕ) (text : List ℕ) → behind k text ≡ drop k text
behind_is k text = take_all (length text - k) (drop k text) (omega (arith, length-drop k text))

blank_first : (rest : List ℕ) → 1 ≤ length rest → is_blank (get_or rest 0 0) ≡ true → bytes_of rest ≡ bytes_of (drop 1 rest)
unfolding bytes_of
blank_first [] some blank = absurd (omega arith)
blank_first (byte ∷ []) some blank = cond-true (is_blank byte) _ _ blank
blank_first (byte ∷ next ∷ more) some blank = cond-true (is_blank byte) _ _ blank

one_left : (rest : List ℕ) → 1 ≤ length rest → length rest < 2 → is_blank (get_or rest 0 0) ≡ false → bytes_of rest ≡ None
unfolding bytes_of
one_left [] some few digit = absurd (omega arith)
one_left (byte ∷ []) some few digit = cond-false (is_blank byte) _ _ digit
one_left (byte ∷ next ∷ more) some few digit = absurd (omega arith)

two_left : (rest : List ℕ) → 2 ≤ length rest → is_blank (get_or rest 0 0) ≡ false → bytes_of rest ≡ before (hex_pair (hex_digit (get_or rest 0 0)) (hex_digit (get_or rest 1 0))) (bytes_of (drop 2 rest))
unfolding bytes_of
two_left [] some digit = absurd (omega arith)
two_left (byte ∷ []) some digit = absurd (omega arith)
two_left (high ∷ low ∷ more) some digit = cond-false (is_blank high) _ _ digit

none_left : (rest : List ℕ) → length rest < 1 → bytes_of rest ≡ Some []
unfolding bytes_of
none_left [] none = refl
none_left (byte ∷ more) none = absurd (omega arith)

module _ (text rest front : List ℕ) (read : ReadTo text rest front) where
  pub past_blank : 1 ≤ length rest → true ≡ is_blank (get_or rest 0 0) → ReadTo text (behind 1 rest) front
  past_blank some blank =
      read ∙ ap (ahead front) (blank_first rest some (sym blank) ∙ ap bytes_of (sym (behind_is 1 rest)))

  pub at_last : 1 ≤ length rest → length rest < 2 → false ≡ is_blank (get_or rest 0 0) → None ≡ bytes_of text
  at_last some few digit = sym (read ∙ ap (ahead front) (one_left rest some few (sym digit)))

  module _ (some : 2 ≤ length rest) (digit : false ≡ is_blank (get_or rest 0 0)) where
    by_pair : (pair : Option ℕ) → pair ≡ hex_pair (hex_digit (get_or rest 0 0)) (hex_digit (get_or rest 1 0)) → bytes_of rest ≡ before pair (bytes_of (drop 2 rest))
    by_pair pair is = two_left rest some (sym digit) ∙ ap (λ p. before p (bytes_of (drop 2 rest))) (sym is)

    pub at_no_pair : None ≡ hex_pair (hex_digit (get_or rest 0 0)) (hex_digit (get_or rest 1 0)) → None ≡ bytes_of text
    at_no_pair is = sym (read ∙ ap (ahead front) (by_pair None is))

    pub past_pair : (byte : ℕ) (run : List ℕ) → Some byte ≡ hex_pair (hex_digit (get_or rest 0 0)) (hex_digit (get_or rest 1 0)) → run ≡ front ++ byte ∷ [] → ReadTo text (behind 2 rest) run
    past_pair byte run is pushed =
        read ∙ ap (ahead front) (by_pair (Some byte) is ∙ ap (λ l. before (Some byte) (bytes_of l)) (sym (behind_is 2 rest)))
        ∙ ahead_push front byte _ ∙ ap (λ r. ahead r (bytes_of (behind 2 rest))) (sym pushed)

  pub at_end : length rest < 1 → Some front ≡ bytes_of text
  at_end none = sym (read ∙ ap (ahead front) (none_left rest none) ∙ ap Some (append-nil front))
