-- What the check word detects: each bit step can be undone, so two words that differ stay different.
use Rattle.std.proofs.Common.{◌≡◌, ℕ, zero, suc, ◌+◌, ◌*◌, ◌/◌, ◌%◌, ◌<◌, cond, eqb, leb, List, [], ◌∷◌, ◌++◌, length, get_or, take, drop, set, fold, sym, refl, ap, ◌∙◌, add-one, arith}
use lib.Bits.{bit_xor, xor_zero_r, xor_self, xor_assoc, xor_comm, xor_shifted, xor_lt}
use Rattle.std.specs.List.{AllByRecursion}
use Rattle.std.proofs.lemmas.Nat.{xor_mod}
use Rattle.std.proofs.ByRecursion.{All-drop, All-from_get_or}
use Rattle.std.proofs.lemmas.List.{set-get_or, set_split}
use Rattle.std.proofs.lemmas.Bool.{cond_both, cond-true, cond-false, leb-true, leb-false, eq-eqb, ne_eqb, lt-leb}
use Rattle.octets.specs.Check.{bit_step, bit_steps, byte_step, check_word, OwnWordLeavesZero, WrongByteShows}

-- adding the same word twice takes it away again
again : (a b : ℕ) → bit_xor (bit_xor a b) b ≡ a
again a b = xor_assoc a b b ∙ ap (bit_xor a) (xor_self b) ∙ xor_zero_r a

same_sum : (a b x : ℕ) → bit_xor a x ≡ bit_xor b x → a ≡ b
same_sum a b x e = sym (again a x) ∙ ap (λ (n : ℕ). bit_xor n x) e ∙ again b x

-- the word before a bit step: an odd word had its top bit set
abbrev undone : ℕ → ℕ
undone word = cond (eqb (word % 2) 1) (0x8000 + bit_xor word 0x1021 / 2) (word / 2)

low_bit : (m : ℕ) → m % 2 ≡ 0 → bit_xor m 0x1021 % 2 ≡ 1
low_bit m e = xor_mod m 0x1021 1 ∙ ap (λ (n : ℕ). bit_xor n 1) e

undo : (word : ℕ) → word < 0x10000 → undone (bit_step word) ≡ word
undo word h =
    let shifted = word * 2 % 0x10000 in
    cond_both (leb 0x8000 word) (bit_xor shifted 0x1021) shifted (λ (n : ℕ). undone n ≡ word)
    (λ e.
    let top = leb-true 0x8000 word e in
    let odd = low_bit shifted (omega arith) in
    let whole : 0x8000 + shifted / 2 ≡ word = omega arith in
    cond-true (eqb (bit_xor shifted 0x1021 % 2) 1) (0x8000 + bit_xor (bit_xor shifted 0x1021) 0x1021 / 2) (bit_xor shifted 0x1021 / 2)
    (eq-eqb (bit_xor shifted 0x1021 % 2) 1 odd)
    ∙ ap (λ (n : ℕ). 0x8000 + n / 2) (again shifted 0x1021) ∙ whole)
    (λ e.
    let low = leb-false 0x8000 word e in
    let whole : shifted / 2 ≡ word = omega arith in
    cond-false (eqb (shifted % 2) 1) (0x8000 + bit_xor shifted 0x1021 / 2) (shifted / 2)
    (ne_eqb (shifted % 2) 1 (λ odd. omega arith)) ∙ whole)

step_below : (word : ℕ) → bit_step word < 0x10000
step_below word =
    let shifted = word * 2 % 0x10000 in
    cond_both (leb 0x8000 word) (bit_xor shifted 0x1021) shifted (λ (n : ℕ). n < 0x10000)
    (λ e. xor_lt 16 shifted 0x1021 (omega arith) (omega arith))
    (λ e. omega arith)

steps_below : (k word : ℕ) → word < 0x10000 → bit_steps k word < 0x10000
unfolding bit_steps
steps_below zero word h = h
steps_below (suc k) word h = step_below (bit_steps k word)

steps_apart : (k a b : ℕ) → a < 0x10000 → b < 0x10000 → bit_steps k a ≡ bit_steps k b → a ≡ b
unfolding bit_steps
steps_apart zero a b f g e = e
steps_apart (suc k) a b f g e =
    steps_apart k a b f g (sym (undo (bit_steps k a) (steps_below k a f)) ∙ ap undone e ∙ undo (bit_steps k b) (steps_below k b g))

sum_below : (word byte : ℕ) → word < 0x10000 → byte < 256 → bit_xor word (byte * 256) < 0x10000
sum_below word byte f g = xor_lt 16 word (byte * 256) f (omega arith)

byte_below : (word byte : ℕ) → byte_step word byte < 0x10000
unfolding bit_steps
byte_below word byte = step_below (bit_steps 7 (bit_xor word (byte * 256)))

-- different words stay different over the same byte
words_apart : (a b byte : ℕ) → a < 0x10000 → b < 0x10000 → byte < 256 → byte_step a byte ≡ byte_step b byte → a ≡ b
words_apart a b byte f g h e =
    same_sum a b (byte * 256) (steps_apart 8 (bit_xor a (byte * 256)) (bit_xor b (byte * 256)) (sum_below a byte f h) (sum_below b byte g h) e)

-- different bytes after the same word make different words
bytes_apart : (word x y : ℕ) → word < 0x10000 → x < 256 → y < 256 → byte_step word x ≡ byte_step word y → x ≡ y
bytes_apart word x y f g h e =
    let sums = steps_apart 8 (bit_xor word (x * 256)) (bit_xor word (y * 256)) (sum_below word x f g) (sum_below word y f h) e in
    let shifted = same_sum (x * 256) (y * 256) word (xor_comm (x * 256) word ∙ sums ∙ xor_comm word (y * 256)) in
    omega (arith, shifted)

folded_append : (word : ℕ) (xs ys : List ℕ) → fold byte_step word (xs ++ ys) ≡ fold byte_step (fold byte_step word xs) ys
folded_append word [] ys = refl
folded_append word (x ∷ xs) ys = folded_append (byte_step word x) xs ys

folded_below : (word : ℕ) (xs : List ℕ) → word < 0x10000 → fold byte_step word xs < 0x10000
folded_below word [] h = h
folded_below word (x ∷ xs) h = folded_below (byte_step word x) xs (byte_below word x)

rest_apart : (back : List ℕ) (a b : ℕ) → AllByRecursion (λ (n : ℕ). n < 256) back → a < 0x10000 → b < 0x10000 → fold byte_step a back ≡ fold byte_step b back → a ≡ b
rest_apart [] a b all f g e = e
rest_apart (x ∷ back) a b all f g e =
    words_apart a b x f g all.0 (rest_apart back (byte_step a x) (byte_step b x) all.1 (byte_below a x) (byte_below b x) e)

byte_shows : (front back : List ℕ) (byte other : ℕ) → AllByRecursion (λ (n : ℕ). n < 256) back → byte < 256 → other < 256
    → check_word (front ++ byte ∷ back) ≡ check_word (front ++ other ∷ back) → byte ≡ other
byte_shows front back byte other all f g e =
    let word = check_word front in
    let start = folded_below 0xFFFF front (omega arith) in
    bytes_apart word byte other start f g
    (rest_apart back (byte_step word byte) (byte_step word other) all (byte_below word byte) (byte_below word other)
    (sym (folded_append 0xFFFF front (byte ∷ back)) ∙ e ∙ folded_append 0xFFFF front (other ∷ back)))

split : (bytes : List ℕ) (place byte : ℕ) → place < length bytes → set bytes place byte ≡ take place bytes ++ byte ∷ drop (place + 1) bytes
split bytes place byte within = rw add-one (set_split bytes place byte within)

pub wrong_byte_shows : (bytes : List ℕ) → ((i : ℕ) → get_or bytes i 0 < 256) → WrongByteShows bytes
wrong_byte_shows bytes fit place byte within f e =
    let here = get_or bytes place 0 in
    let whole = sym (set-get_or bytes place 0) ∙ split bytes place here within in
    let rest = All-drop (λ (n : ℕ). n < 256) (place + 1) bytes (All-from_get_or (λ (n : ℕ). n < 256) bytes 0 (λ i h. fit i)) in
    byte_shows (take place bytes) (drop (place + 1) bytes) byte here rest f (fit place)
    (ap check_word (sym (split bytes place byte within)) ∙ e ∙ ap check_word whole)

-- a word whose top bit is not set is doubled
doubled : (k low : ℕ) {word : ℕ} → bit_steps k low ≡ word → word < 0x8000 → bit_steps (suc k) low ≡ word * 2
unfolding bit_steps
doubled k low {word} e h =
    ap bit_step e ∙ cond-false (leb 0x8000 word) (bit_xor (word * 2 % 0x10000) 0x1021) (word * 2 % 0x10000) (lt-leb 0x8000 word h) ∙ omega arith

-- so a low byte comes out as the high byte
moved_up : (low : ℕ) → low < 256 → bit_steps 8 low ≡ low * 256
unfolding bit_steps
moved_up low h =
    let one = doubled 0 low refl (omega arith) in
    let two = doubled 1 low one (omega arith) in
    let three = doubled 2 low two (omega arith) in
    let four = doubled 3 low three (omega arith) in
    let five = doubled 4 low four (omega arith) in
    let six = doubled 5 low five (omega arith) in
    let seven = doubled 6 low six (omega arith) in
    doubled 7 low seven (omega arith) ∙ omega arith

pub own_word_leaves_zero : (bytes : List ℕ) (word : ℕ) → word ≡ check_word bytes → OwnWordLeavesZero bytes word
unfolding bit_steps
own_word_leaves_zero bytes word e =
    let small = folded_below 0xFFFF bytes (omega arith) in
    let high = word / 256 in
    let low = word % 256 in
    let parts : word ≡ bit_xor (high * 256) low = omega (arith, xor_shifted high 8 low (omega arith)) in
    let first : bit_xor word (high * 256) ≡ low = ap (λ (n : ℕ). bit_xor n (high * 256)) (parts ∙ xor_comm (high * 256) low) ∙ again low (high * 256) in
    let second : byte_step word high ≡ low * 256 = ap (bit_steps 8) first ∙ moved_up low (omega arith) in
    let third : byte_step (byte_step word high) low ≡ 0 = ap (λ (n : ℕ). byte_step n low) second ∙ ap (bit_steps 8) (xor_self (low * 256)) in
    folded_append 0xFFFF bytes (high ∷ low ∷ []) ∙ ap (λ (n : ℕ). byte_step (byte_step n high) low) (sym e) ∙ third
