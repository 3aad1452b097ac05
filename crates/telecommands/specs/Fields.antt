-- The fields that repeat in a packet: steps of 8 bytes and settings of 6, one after the other.
use Rattle.std.specs.Prelude.{ℕ, ◌+◌, ◌*◌, List, ◌++◌, map, drop, replicate, slice_index}
use Rattle.std.specs.List.{range_with_len}
use Rattle.octets.specs.Words.{word_at, long_at}
use Rattle.records.specs.declared.fixed_list.FixedList.{FixedList}
use Rattle.records.specs.declared.step.Step.{Step}
use Rattle.telecommands.specs.declared.packet.Setting.{Setting}

abbrev pub Steps : Type 0
Steps = FixedList Step 28

abbrev pub Settings : Type 0
Settings = FixedList Setting 38

abbrev pub step_at : List ℕ → ℕ → Step
step_at p at = record { op = slice_index p at; b = slice_index p (at + 1); w = word_at p (at + 2); u = word_at p (at + 4); v = word_at p (at + 6) }

abbrev pub setting_at : List ℕ → ℕ → Setting
setting_at p at = record { id = word_at p at; value = long_at p (at + 2) }

abbrev pub blank_step : Step
blank_step = record { op = 0; b = 0; w = 0; u = 0; v = 0 }

abbrev pub blank_setting : Setting
blank_setting = record { id = 0; value = 0 }

-- so many fields of a size, from a place on
abbrev pub fields_from : {A : Type 0} → (ℕ → A) → ℕ → ℕ → ℕ → List A
fields_from read size from count = map (λ k. read (from + size * k)) (range_with_len 0 count)

-- a list with room for so many: the fields, then blank ones
abbrev pub listed : {A : Type 0} → (ℕ → A) → A → ℕ → ℕ → (room : ℕ) → ℕ → FixedList A room
listed read blank size from room count =
    record { items = fields_from read size from count ++ drop count (replicate room blank); count = count }
