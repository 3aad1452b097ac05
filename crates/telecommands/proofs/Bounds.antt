-- The cases at the bounds of a packet's length.
use Rattle.std.proofs.Common.{◌≡◌, ℕ, ◌+◌, min, cond, eqb, ltb, List, length, Err, Result, ap, ◌∙◌, arith}
use Rattle.std.proofs.lemmas.Bool.{eq-eqb}
use Rattle.octets.specs.Words.{word_at}
use Rattle.records.specs.declared.refusal.Refusal.{Refusal}
use Rattle.records.specs.declared.refusal.Refusal.TheVariants.{Short, Long, Length}
use Rattle.telecommands.specs.declared.packet.Packet.{Packet}
use Rattle.telecommands.specs.Cases.{LengthCases}
use Rattle.telecommands.specs.Headers.{wrong_place}
use Rattle.telecommands.specs.Packets.{headed, read_packet}

-- the answer at a length and a length word
abbrev at : ℕ → ℕ → Result Packet Refusal → Result Packet Refusal
at n word rest =
    cond (ltb n 12) (Err (Short n)) (cond (ltb 248 n) (Err (Long (min n 4294967295))) (cond (eqb (word + 7) n) rest (Err (Length word))))

pub length_cases : (p : List ℕ) (r : Result Packet Refusal) → r ≡ read_packet p → LengthCases p r
length_cases p r e =
    let rest = headed (wrong_place p) p in
    record {
      eleven_bytes = λ n. e ∙ ap (λ m. at m (word_at p 4) rest) n;
      bytes_249 = λ n. e ∙ ap (λ m. at m (word_at p 4) rest) n;
      twelve_that_say_eleven = λ n w. e ∙ ap (λ m. at m (word_at p 4) rest) n ∙ ap (λ m. at 12 m rest) w;
      twelve_that_say_twelve = λ n w. eq-eqb (word_at p 4 + 7) (length p) (omega arith);
    }
