-- The last check, once those before it have passed.
use Rattle.std.proofs.Common.{◌≡◌, ℕ, cond, List, get_or, Some, None, Ok, Err, Option, ◌∙◌, arith}
use Rattle.std.specs.Option.{option_map}
use Rattle.std.proofs.lemmas.Bool.Decides.{nat_tests}
use Rattle.records.specs.declared.refusal.Refusal.{Refusal}
use Rattle.records.specs.declared.refusal.Refusal.TheVariants.{Header, Shape}
use Rattle.telecommands.specs.declared.packet_type.PacketType.{PacketType}
use Rattle.telecommands.specs.Frames.{length_refusal, check_word_refusal, named_type, known}
use Rattle.telecommands.specs.Headers.{wrong_place}
use Rattle.telecommands.specs.Packets.{packet_in, typed, headed, read_packet}
use Rattle.telecommands.specs.Types.{type_of, data_bytes, data_fits}
use Rattle.telecommands.proofs.read.judge_packet.Goals as goal

to_header : (p : List ℕ) → length_refusal p ≡ None → read_packet p ≡ headed (wrong_place p) p
to_header p e = grind (arith, nat_tests)

to_type : (p : List ℕ) (place : Option ℕ) → option_map {U = Refusal} (λ k. Header k) place ≡ None → check_word_refusal p ≡ None
    → headed place p ≡ typed (type_of (get_or p 7 0) (get_or p 8 0)) p
to_type p None e f = grind (arith, nat_tests)
to_type p (Some k) e f = grind (arith, nat_tests)

to_shape : (p : List ℕ) (type : Option PacketType) (t : PacketType) → named_type type (get_or p 7 0) (get_or p 8 0) ≡ Ok t → typed type p ≡ cond (data_fits t p) (Ok (packet_in t p)) (Err (Shape (data_bytes p)))
to_shape p None t e = grind arith
to_shape p (Some u) t e = grind arith

-- what is left to say where all but the last check have passed
last : (p : List ℕ) (t : PacketType) → length_refusal p ≡ None → option_map {U = Refusal} (λ k. Header k) (wrong_place p) ≡ None → check_word_refusal p ≡ None
    → known p ≡ Ok t → read_packet p ≡ cond (data_fits t p) (Ok (packet_in t p)) (Err (Shape (data_bytes p)))
last p t e f g h = to_header p e ∙ to_type p (wrong_place p) f g ∙ to_shape p (type_of (get_or p 7 0) (get_or p 8 0)) t h

pub returns-in_err-judge_shape : goal.returns-in_err-judge_shape
returns-in_err-judge_shape c = grind (arith, nat_tests, last)

pub returns : goal.returns
returns c = grind (arith, nat_tests, last)
