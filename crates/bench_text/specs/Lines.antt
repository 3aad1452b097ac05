-- What a line of text says.
use Rattle.std.specs.Prelude.{ℕ, Bool, true, cond, List, [], ◌∷◌, length, Some, None, vec_items, codes, Option, Vec, ◌==◌}
use Rattle.std.specs.Str.{bytes_eq}
use Rattle.bench_text.specs.declared.line.Line.{Line}
use Rattle.bench_text.specs.declared.line.Line.TheVariants as line
use Rattle.records.specs.declared.call.Call.{Call}
use Rattle.records.specs.declared.call.Call.TheVariants.{Submit, Deliver, Tick, Sample, Collect}
use Rattle.bench_text.specs.Numbers.{number_of, bytes_of}
use Rattle.bench_text.specs.Words.{first_word, after_word}

-- a line by what it carries
pub data Said : Type 0 where
  skipped : Said
  unreadable : Said
  submit : List ℕ → Said
  deliver : ℕ → List ℕ → Said
  tick : Said
  sample : ℕ → ℕ → Said
  collect : Said
  message : ℕ → Said

abbrev pub asked_by : {Z : Type 0} → Call (Vec ℕ Z) → Said
asked_by (Submit packet) = submit (vec_items packet)
asked_by (Deliver link bytes) = deliver link (vec_items bytes)
asked_by Tick = tick
asked_by (Sample function value) = sample function value
asked_by Collect = collect

abbrev pub said_by : Line → Said
said_by line.Skipped = skipped
said_by line.Unreadable = unreadable
said_by (line.Call call) = asked_by call
said_by (line.Message link) = message link

-- nothing that counts: no word, or a first word that begins with `#`
abbrev pub is_skipped : List ℕ → Bool
is_skipped [] = true
is_skipped (byte ∷ word) = byte == 35

-- what is said, if no further word follows
abbrev pub alone : Said → List ℕ → Said
alone s rest = cond (length (first_word rest) == 0) s unreadable

abbrev pub submitted : Option (List ℕ) → Said
submitted None = unreadable
submitted (Some packet) = submit packet

abbrev pub delivered : Option ℕ → Option (List ℕ) → Said
delivered None bytes = unreadable
delivered (Some link) None = unreadable
delivered (Some link) (Some bytes) = deliver link bytes

abbrev pub sampled : Option ℕ → Option ℕ → Said
sampled None value = unreadable
sampled (Some function) None = unreadable
sampled (Some function) (Some value) = sample function value

abbrev pub asked : Option ℕ → Said
asked None = unreadable
asked (Some link) = message link

-- by the first word and what stands after it
abbrev pub line_of : List ℕ → List ℕ → Said
line_of word rest =
    cond (is_skipped word) skipped
    (cond (bytes_eq word (codes "submit")) (submitted (bytes_of rest))
    (cond (bytes_eq word (codes "deliver")) (delivered (number_of (first_word rest)) (bytes_of (after_word rest)))
    (cond (bytes_eq word (codes "tick")) (alone tick rest)
    (cond (bytes_eq word (codes "sample"))
    (alone (sampled (number_of (first_word rest)) (number_of (first_word (after_word rest)))) (after_word (after_word rest)))
    (cond (bytes_eq word (codes "collect")) (alone collect rest)
    (cond (bytes_eq word (codes "message")) (alone (asked (number_of (first_word rest))) (after_word rest))
    unreadable))))))

abbrev pub read_line : List ℕ → Said
read_line text = line_of (first_word text) (after_word text)
