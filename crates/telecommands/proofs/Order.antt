-- A refusal names the first check that fails: the chain of checks, from the last one up.
use Rattle.std.proofs.Common.{◌≡◌, ℕ, ◌+◌, min, Bool, true, false, cond, not, eqb, ltb, List, [], ◌∷◌, length, get_or, is_some, Some, None, Ok, Err, Option, Result, sym, refl, subst, lit≤}
use Rattle.octets.specs.Words.{word_at}
use Rattle.records.specs.declared.refusal.Refusal.{Refusal}
use Rattle.records.specs.declared.refusal.Refusal.TheVariants.{Short, Long, Length, Crc, Shape}
use Rattle.telecommands.specs.declared.packet.Packet.{Packet}
use Rattle.telecommands.specs.declared.packet_type.PacketType.{PacketType}
use Rattle.telecommands.specs.Headers.{wrong_place, computed_word, stated_word}
use Rattle.telecommands.specs.Judgements.{fits_type, checks, FirstFailing}
use Rattle.telecommands.specs.Packets.{packet_in, typed, headed, read_packet}
use Rattle.telecommands.specs.Types.{type_of, data_bytes, data_fits}

-- the type of a packet
abbrev type_in : List ℕ → Option PacketType
type_in p = type_of (get_or p 7 0) (get_or p 8 0)

shape_last : (fits : Bool) (packet : Packet) (bytes : ℕ)
    → FirstFailing (true ∷ true ∷ true ∷ true ∷ true ∷ true ∷ fits ∷ []) (cond fits (Ok packet) (Err (Shape bytes)))
shape_last true packet bytes = (refl, (refl, (refl, (refl, (refl, (refl, (refl, tt)))))))
shape_last false packet bytes = (lit≤ tt, lit≤ tt, (refl, (refl, (refl, (refl, (refl, (refl, tt)))))), refl)

then_type : (type : Option PacketType) (p : List ℕ)
    → FirstFailing (true ∷ true ∷ true ∷ true ∷ true ∷ is_some type ∷ fits_type type p ∷ []) (typed type p)
then_type None p = (lit≤ tt, lit≤ tt, (refl, (refl, (refl, (refl, (refl, tt))))), refl)
then_type (Some t) p = shape_last (data_fits t p) (packet_in t p) (data_bytes p)

then_check_word : (right : Bool) (p : List ℕ)
    → FirstFailing (true ∷ true ∷ true ∷ true ∷ right ∷ is_some (type_in p) ∷ fits_type (type_in p) p ∷ [])
    (cond right (typed (type_in p) p) (Err (Crc (computed_word p))))
then_check_word true p = then_type (type_in p) p
then_check_word false p = (lit≤ tt, lit≤ tt, (refl, (refl, (refl, (refl, tt)))), refl)

then_header : (place : Option ℕ) (p : List ℕ)
    → FirstFailing
    (true ∷ true ∷ true ∷ not (is_some place) ∷ eqb (computed_word p) (stated_word p) ∷ is_some (type_in p) ∷ fits_type (type_in p) p ∷ [])
    (headed place p)
then_header None p = then_check_word (eqb (computed_word p) (stated_word p)) p
then_header (Some place) p = (lit≤ tt, lit≤ tt, (refl, (refl, (refl, tt))), refl)

-- the checks from the header on
abbrev later : List ℕ → List Bool
later p = not (is_some (wrong_place p)) ∷ eqb (computed_word p) (stated_word p) ∷ is_some (type_in p) ∷ fits_type (type_in p) p ∷ []

then_length : (right : Bool) (p : List ℕ)
    → FirstFailing (true ∷ true ∷ right ∷ later p) (cond right (headed (wrong_place p) p) (Err (Length (word_at p 4))))
then_length true p = then_header (wrong_place p) p
then_length false p = (lit≤ tt, lit≤ tt, (refl, (refl, tt)), refl)

then_longest : (long right : Bool) (p : List ℕ)
    → FirstFailing (true ∷ not long ∷ right ∷ later p)
    (cond long (Err (Long (min (length p) 4294967295))) (cond right (headed (wrong_place p) p) (Err (Length (word_at p 4)))))
then_longest true right p = (lit≤ tt, lit≤ tt, (refl, tt), refl)
then_longest false right p = then_length right p

from_shortest : (short long right : Bool) (p : List ℕ)
    → FirstFailing (not short ∷ not long ∷ right ∷ later p)
    (cond short (Err (Short (length p)))
    (cond long (Err (Long (min (length p) 4294967295))) (cond right (headed (wrong_place p) p) (Err (Length (word_at p 4))))))
from_shortest true long right p = (lit≤ tt, lit≤ tt, tt, refl)
from_shortest false long right p = then_longest long right p

pub first_failing : (p : List ℕ) (r : Result Packet Refusal) → r ≡ read_packet p → FirstFailing (checks p) r
first_failing p r e =
    subst (FirstFailing (checks p)) (sym e) (from_shortest (ltb (length p) 12) (ltb 248 (length p)) (eqb (word_at p 4 + 7) (length p)) p)
