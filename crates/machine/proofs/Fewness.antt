-- A packet that can be read has few steps and few settings.
use Rattle.std.proofs.Common.{◌≡◌, ℕ, ◌+◌, ◌*◌, ◌%◌, ◌≤◌, min, true, cond, ◌&&◌, eqb, ltb, leb, List, length, get_or, Some, None, Ok, Err, Option, arith}
use Rattle.std.proofs.lemmas.Bool.{cond_both, and_parts, eqb-true, leb-true, ltb-false}
use Rattle.octets.specs.Words.{word_at}
use Rattle.records.specs.declared.refusal.Refusal.TheVariants.{Short, Long, Length, Crc, Shape}
use Rattle.telecommands.specs.declared.packet_type.PacketType.{PacketType}
use Rattle.telecommands.specs.declared.packet_type.PacketType.TheVariants.{ConnectionTest, FunctionActivity, ProcedureLoad, ProcedureDelete, ProcedureStart, ProcedureStop, ProcedureSettings}
use Rattle.telecommands.specs.Headers.{wrong_place, computed_word, stated_word}
use Rattle.telecommands.specs.Packets.{packet_in, typed, headed, read_packet}
use Rattle.telecommands.specs.Types.{type_of, data_bytes, data_fits}
use Rattle.machine.specs.Sizes.{FewIn}

few_settings : (p : List ℕ) → length p ≤ 248 → eqb (data_bytes p) (4 + 6 * word_at p 12) ≡ true → word_at p 12 ≤ 38
few_settings p short fits = omega (arith, short, eqb-true (data_bytes p) (4 + 6 * word_at p 12) fits)

few_in : (t : PacketType) (p : List ℕ) → length p ≤ 248 → data_fits t p ≡ true → FewIn (Ok (packet_in t p))
few_in ConnectionTest p short fits = tt
few_in FunctionActivity p short fits = tt
few_in ProcedureLoad p short fits =
    let sized = and_parts (leb 12 (data_bytes p) && leb (data_bytes p) 228) (eqb (data_bytes p % 8) 4) fits in
    let most = and_parts (leb 12 (data_bytes p)) (leb (data_bytes p) 228) sized.0 in
    omega (arith, leb-true (data_bytes p) 228 most.1)
few_in ProcedureDelete p short fits = tt
few_in ProcedureStart p short fits = few_settings p short fits
few_in ProcedureStop p short fits = tt
few_in ProcedureSettings p short fits = few_settings p short fits

few_typed : (t : Option PacketType) (p : List ℕ) → length p ≤ 248 → FewIn (typed t p)
few_typed None p short = tt
few_typed (Some t) p short = cond_both (data_fits t p) (Ok (packet_in t p)) (Err (Shape (data_bytes p))) FewIn (λ e. few_in t p short e) (λ e. tt)

few_headed : (place : Option ℕ) (p : List ℕ) → length p ≤ 248 → FewIn (headed place p)
few_headed (Some place) p short = tt
few_headed None p short =
    let t = type_of (get_or p 7 0) (get_or p 8 0) in
    cond_both (eqb (computed_word p) (stated_word p)) (typed t p) (Err (Crc (computed_word p))) FewIn (λ e. few_typed t p short) (λ e. tt)

pub few_read : (p : List ℕ) → FewIn (read_packet p)
few_read p =
    let whole = headed (wrong_place p) p in
    let sized = cond (eqb (word_at p 4 + 7) (length p)) whole (Err (Length (word_at p 4))) in
    let below = cond (ltb 248 (length p)) (Err (Long (min (length p) 4294967295))) sized in
    cond_both (ltb (length p) 12) (Err (Short (length p))) below FewIn (λ e. tt)
    (λ e. cond_both (ltb 248 (length p)) (Err (Long (min (length p) 4294967295))) sized FewIn (λ u. tt)
    (λ u. cond_both (eqb (word_at p 4 + 7) (length p)) whole (Err (Length (word_at p 4))) FewIn (λ v. few_headed (wrong_place p) p (ltb-false 248 (length p) u)) (λ v. tt)))
