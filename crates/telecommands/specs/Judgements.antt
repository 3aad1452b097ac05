-- What an answer to a packet says of its bytes, check by check and field by field.
use Rattle.std.specs.Prelude.{◌≡◌, ℕ, ◌+◌, ◌-◌, ◌*◌, ◌<◌, ◌≤◌, Bool, true, false, not, List, [], ◌∷◌, length, take, is_some, Some, None, Ok, Err, Option, Result, ◌==◌, nat_lt, slice_index, slice_index_or}
use Rattle.std.specs.List.{AllByRecursion}
use Rattle.octets.specs.Words.{word_at, long_at}
use Rattle.records.specs.declared.refusal.Refusal.{Refusal}
use Rattle.records.specs.Refusals.{refusal_number}
use Rattle.telecommands.specs.declared.packet.Packet.{Packet}
use Rattle.telecommands.specs.declared.packet.Telecommand.{Telecommand}
use Rattle.telecommands.specs.declared.packet.Telecommand.TheVariants.{Test, Perform, Load, Delete, Start, Stop, Set}
use Rattle.telecommands.specs.declared.packet_type.PacketType.{PacketType}
use Rattle.telecommands.specs.Fields.{Steps, Settings, step_at, setting_at, blank_step, blank_setting}
use Rattle.telecommands.specs.Headers.{wrong_place, computed_word, stated_word}
use Rattle.telecommands.specs.Types.{type_of, data_fits}

-- whether the data fits; no data fits an unknown type
abbrev pub fits_type : Option PacketType → List ℕ → Bool
fits_type None p = false
fits_type (Some t) p = data_fits t p

-- the seven checks in the order in which they are made, each true where the packet passes it
abbrev pub checks : List ℕ → List Bool
checks p =
    not (nat_lt (length p) 12) ∷ not (nat_lt 248 (length p)) ∷ (word_at p 4 + 7 == length p) ∷ not (is_some (wrong_place p))
    ∷ (computed_word p == stated_word p) ∷ is_some (type_of (slice_index p 7) (slice_index p 8))
    ∷ fits_type (type_of (slice_index p 7) (slice_index p 8)) p ∷ []

-- A packet that is read passes every check; one refused with a number passes every check before that one, and fails it.
abbrev pub FirstFailing : List Bool → Result Packet Refusal → Type 0
FirstFailing tests (Ok packet) = AllByRecursion (λ passed. passed ≡ true) tests
FirstFailing tests (Err refusal) =
    (1 ≤ refusal_number refusal) × (refusal_number refusal ≤ 7) × AllByRecursion (λ passed. passed ≡ true) (take (refusal_number refusal - 1) tests)
    × (slice_index_or tests (refusal_number refusal - 1) true ≡ false)

-- service, subtype and length of the packet
abbrev pub Typed : List ℕ → ℕ → ℕ → ℕ → Type 0
Typed p service subtype bytes = (slice_index p 7 ≡ service) × (slice_index p 8 ≡ subtype) × (length p ≡ bytes)

-- each step at its place
abbrev pub StepsInPlace : List ℕ → Steps → Type 0
StepsInPlace p steps =
    (1 ≤ steps.count) × (steps.count ≤ 28) × ((k : ℕ) → k < steps.count → slice_index_or steps.items k blank_step ≡ step_at p (14 + 8 * k))

-- each setting at its place, their number before them
abbrev pub SettingsInPlace : List ℕ → Settings → Type 0
SettingsInPlace p settings =
    (settings.count ≡ word_at p 12) × (settings.count ≤ 38)
    × ((k : ℕ) → k < settings.count → slice_index_or settings.items k blank_setting ≡ setting_at p (14 + 6 * k))

abbrev pub TelecommandInPlace : List ℕ → Telecommand → Type 0
TelecommandInPlace p Test = Typed p 17 1 12
TelecommandInPlace p (Perform function activity sid value) =
    Typed p 8 4 20 × (function ≡ slice_index p 10) × (activity ≡ slice_index p 11) × (sid ≡ word_at p 12) × (value ≡ long_at p 14)
TelecommandInPlace p (Load id nop steps) =
    Typed p 18 1 (16 + 8 * steps.count) × (id ≡ word_at p 10) × (nop ≡ word_at p 12) × StepsInPlace p steps
TelecommandInPlace p (Delete id) = Typed p 18 2 14 × (id ≡ word_at p 10)
TelecommandInPlace p (Start id settings) = Typed p 18 3 (16 + 6 * settings.count) × (id ≡ word_at p 10) × SettingsInPlace p settings
TelecommandInPlace p (Stop id) = Typed p 18 4 14 × (id ≡ word_at p 10)
TelecommandInPlace p (Set id settings) = Typed p 18 7 (16 + 6 * settings.count) × (id ≡ word_at p 10) × SettingsInPlace p settings

-- The fields of a packet that is read are the bytes at their places; the counter stands below two set bits.
abbrev pub FieldsInPlace : List ℕ → Result Packet Refusal → Type 0
FieldsInPlace p (Err refusal) = Unit {0}
FieldsInPlace p (Ok packet) =
    (packet.counter + 0xC000 ≡ word_at p 2) × TelecommandInPlace p packet.telecommand
