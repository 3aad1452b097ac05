-- Words of a line of text: what stands between blanks.
use Rattle.std.specs.Prelude.{ℕ, ◌-◌, Bool, true, false, cond, not, ◌&&◌, ◌||◌, List, length, take, drop, ◌==◌, nat_lt, slice_index}
use Rattle.std.specs.List.{prefix_len}

-- space, tab, carriage return
abbrev pub is_blank : ℕ → Bool
is_blank byte = byte == 32 || byte == 9 || byte == 13

-- that a byte is a blank, or that it is none
abbrev pub blanks_are : Bool → ℕ → Bool
blanks_are true byte = is_blank byte
blanks_are false byte = not (is_blank byte)

-- the text from its first word on
abbrev pub from_word : List ℕ → List ℕ
from_word text = drop (prefix_len (blanks_are true) text) text

-- the first word; empty where there is none
abbrev pub first_word : List ℕ → List ℕ
first_word text = take (prefix_len (blanks_are false) (from_word text)) (from_word text)

-- what stands after the first word
abbrev pub after_word : List ℕ → List ℕ
after_word text = drop (prefix_len (blanks_are false) (from_word text)) (from_word text)

-- the bytes of a line without the newline that ends it
abbrev pub line_in : List ℕ → List ℕ
line_in text = cond (nat_lt 0 (length text) && slice_index text (length text - 1) == 10) (take (length text - 1) text) text
