-- The fields of a packet that is read are the bytes at their places.
use Rattle.std.proofs.Common.{◌≡◌, ℕ, ◌+◌, ◌*◌, ◌%◌, ◌<◌, ◌≤◌, min, true, cond, ◌&&◌, eqb, ltb, leb, List, ◌++◌, map, length, get_or, drop, replicate, Some, None, Ok, Err, Option, Result, sym, refl, ◌∙◌, subst, zero-add, arith}
use Rattle.std.specs.List.{range_with_len}
use Rattle.std.proofs.lemmas.List.FromFn.{length-map-range_with_len, get_or-map-range_with_len}
use Rattle.std.proofs.lemmas.List.{get_or_append_left}
use Rattle.std.proofs.lemmas.Bool.{cond_both, and_parts, eqb-true, leb-true, ltb-false}
use Rattle.octets.specs.Words.{word_at}
use Rattle.records.specs.declared.refusal.Refusal.{Refusal}
use Rattle.records.specs.declared.refusal.Refusal.TheVariants.{Short, Long, Length, Crc, Shape}
use Rattle.telecommands.specs.declared.packet.Packet.{Packet}
use Rattle.telecommands.specs.declared.packet_type.PacketType.{PacketType}
use Rattle.telecommands.specs.declared.packet_type.PacketType.TheVariants.{ConnectionTest, FunctionActivity, ProcedureLoad, ProcedureDelete, ProcedureStart, ProcedureStop, ProcedureSettings}
use Rattle.telecommands.specs.Fields.{step_at, setting_at, blank_step, blank_setting}
use Rattle.telecommands.specs.Headers.{wrong_place, computed_word, stated_word}
use Rattle.telecommands.specs.Judgements.{SettingsInPlace, TelecommandInPlace, FieldsInPlace}
use Rattle.telecommands.specs.Packets.{step_count, settings_in, packet_in, telecommand_in, typed, headed, read_packet}
use Rattle.telecommands.specs.Types.{type_of, data_bytes, data_fits}

abbrev service_of : PacketType → ℕ
service_of ConnectionTest = 17
service_of FunctionActivity = 8
service_of ProcedureLoad = 18
service_of ProcedureDelete = 18
service_of ProcedureStart = 18
service_of ProcedureStop = 18
service_of ProcedureSettings = 18

abbrev subtype_of : PacketType → ℕ
subtype_of ConnectionTest = 1
subtype_of FunctionActivity = 4
subtype_of ProcedureLoad = 1
subtype_of ProcedureDelete = 2
subtype_of ProcedureStart = 3
subtype_of ProcedureStop = 4
subtype_of ProcedureSettings = 7

-- a type that was found has this service and subtype
abbrev Named : ℕ → ℕ → Option PacketType → Type 0
Named service subtype None = Unit {0}
Named service subtype (Some t) = (service ≡ service_of t) × (subtype ≡ subtype_of t)

named_or : (service subtype : ℕ) (t : PacketType) (rest : Option PacketType) → Named service subtype rest
    → Named service subtype (cond (eqb service (service_of t) && eqb subtype (subtype_of t)) (Some t) rest)
named_or service subtype t rest h =
    cond_both (eqb service (service_of t) && eqb subtype (subtype_of t)) (Some t) rest (Named service subtype)
    (λ e.
    let parts = and_parts (eqb service (service_of t)) (eqb subtype (subtype_of t)) e in
    (eqb-true service (service_of t) parts.0, eqb-true subtype (subtype_of t) parts.1))
    (λ e. h)

named : (service subtype : ℕ) → Named service subtype (type_of service subtype)
named s t =
    named_or s t ConnectionTest _
    (named_or s t FunctionActivity _
    (named_or s t ProcedureLoad _
    (named_or s t ProcedureDelete _
    (named_or s t ProcedureStart _ (named_or s t ProcedureStop _ (named_or s t ProcedureSettings None tt))))))

-- a right header has the top two bits of byte 2 set
abbrev Marked : List ℕ → Option ℕ → Type 0
Marked p None = 0xC0 ≤ get_or p 2 0
Marked p (Some place) = Unit {0}

marked : (p : List ℕ) → Marked p (wrong_place p)
marked p =
    let low : Option ℕ = cond (eqb (get_or p 9 0) 0) None (Some 9) in
    let high : Option ℕ = cond (eqb (get_or p 6 0) 1) low (Some 6) in
    let all : Option ℕ = cond (ltb (get_or p 2 0) 0xC0) (Some 2) high in
    cond_both (eqb (word_at p 0) 0x1C80) all (Some 0) (Marked p)
    (λ e. cond_both (ltb (get_or p 2 0) 0xC0) (Some 2) high (Marked p) (λ e. tt)
    (λ e.
    let bits = ltb-false (get_or p 2 0) 0xC0 e in
    cond_both (eqb (get_or p 6 0) 1) low (Some 6) (Marked p)
    (λ e. cond_both (eqb (get_or p 9 0) 0) None (Some 9) (Marked p) (λ e. bits) (λ e. tt))
    (λ e. tt)))
    (λ e. tt)

field : {A : Type 0} (read : ℕ → A) (rest : List A) (count k : ℕ) (blank : A) → k < count
    → get_or (map read (range_with_len 0 count) ++ rest) k blank ≡ read k
field read rest count k blank h =
    let long = length-map-range_with_len read 0 count in
    get_or_append_left (map read (range_with_len 0 count)) rest blank k (subst (λ (n : ℕ). k < n) (sym long) h)
    ∙ get_or-map-range_with_len read 0 count k k blank h (zero-add k)

settings_in_place : (p : List ℕ) → word_at p 12 ≤ 38 → SettingsInPlace p (settings_in p)
settings_in_place p few =
    (refl, few, λ k h. field (λ k. setting_at p (14 + 6 * k)) (drop (word_at p 12) (replicate 38 blank_setting)) (word_at p 12) k blank_setting h)

telecommand_in_place : (t : PacketType) (p : List ℕ) → 12 ≤ length p → length p ≤ 248 → Named (get_or p 7 0) (get_or p 8 0) (Some t)
    → data_fits t p ≡ true → TelecommandInPlace p (telecommand_in t p)
telecommand_in_place ConnectionTest p least most name e = (name.0, name.1, omega (arith, eqb-true (data_bytes p) 0 e))
telecommand_in_place FunctionActivity p least most name e =
    ((name.0, name.1, omega (arith, eqb-true (data_bytes p) 8 e)), refl, refl, refl, refl)
telecommand_in_place ProcedureLoad p least most name e =
    let parts = and_parts (leb 12 (data_bytes p) && leb (data_bytes p) 228) (eqb (data_bytes p % 8) 4) e in
    let ends = and_parts (leb 12 (data_bytes p)) (leb (data_bytes p) 228) parts.0 in
    let low = leb-true 12 (data_bytes p) ends.0 in
    let high = leb-true (data_bytes p) 228 ends.1 in
    let whole = eqb-true (data_bytes p % 8) 4 parts.1 in (
      (name.0, name.1, omega arith),
      refl,
      refl,
      (omega arith, omega arith, λ k h. field (λ k. step_at p (14 + 8 * k)) (drop (step_count p) (replicate 28 blank_step)) (step_count p) k blank_step h),
    )
telecommand_in_place ProcedureDelete p least most name e = ((name.0, name.1, omega (arith, eqb-true (data_bytes p) 2 e)), refl)
telecommand_in_place ProcedureStart p least most name e =
    let fits = eqb-true (data_bytes p) (4 + 6 * word_at p 12) e in
    ((name.0, name.1, omega arith), refl, settings_in_place p (omega arith))
telecommand_in_place ProcedureStop p least most name e = ((name.0, name.1, omega (arith, eqb-true (data_bytes p) 2 e)), refl)
telecommand_in_place ProcedureSettings p least most name e =
    let fits = eqb-true (data_bytes p) (4 + 6 * word_at p 12) e in
    ((name.0, name.1, omega arith), refl, settings_in_place p (omega arith))

module _ (p : List ℕ) (fit : (i : ℕ) → get_or p i 0 < 256) where
  typed_in_place : (type : Option PacketType) → 12 ≤ length p → length p ≤ 248 → 0xC0 ≤ get_or p 2 0 → Named (get_or p 7 0) (get_or p 8 0) type
      → FieldsInPlace p (typed type p)
  typed_in_place None least most bits name = tt
  typed_in_place (Some t) least most bits name =
      cond_both (data_fits t p) (Ok (packet_in t p)) (Err (Shape (data_bytes p))) (FieldsInPlace p)
      (λ e. (omega (arith, fit 2, fit 3), telecommand_in_place t p least most name e))
      (λ e. tt)

  headed_in_place : (place : Option ℕ) → 12 ≤ length p → length p ≤ 248 → Marked p place → FieldsInPlace p (headed place p)
  headed_in_place (Some place) least most bits = tt
  headed_in_place None least most bits =
      let type = type_of (get_or p 7 0) (get_or p 8 0) in
      cond_both (eqb (computed_word p) (stated_word p)) (typed type p) (Err (Crc (computed_word p))) (FieldsInPlace p)
      (λ e. typed_in_place type least most bits (named (get_or p 7 0) (get_or p 8 0)))
      (λ e. tt)

  read_in_place : FieldsInPlace p (read_packet p)
  read_in_place =
      let right : Result Packet Refusal = cond (eqb (word_at p 4 + 7) (length p)) (headed (wrong_place p) p) (Err (Length (word_at p 4))) in
      let short : Result Packet Refusal = cond (ltb 248 (length p)) (Err (Long (min (length p) 4294967295))) right in
      cond_both (ltb (length p) 12) (Err (Short (length p))) short (FieldsInPlace p) (λ e. tt)
      (λ least. cond_both (ltb 248 (length p)) (Err (Long (min (length p) 4294967295))) right (FieldsInPlace p) (λ e. tt)
      (λ most. cond_both (eqb (word_at p 4 + 7) (length p)) (headed (wrong_place p) p) (Err (Length (word_at p 4))) (FieldsInPlace p)
      (λ e. headed_in_place (wrong_place p) (ltb-false (length p) 12 least) (ltb-false 248 (length p) most) (marked p))
      (λ e. tt)))

  pub fields_in_place : (r : Result Packet Refusal) → r ≡ read_packet p → FieldsInPlace p r
  fields_in_place r e = subst (FieldsInPlace p) (sym e) read_in_place
