-- Worked lines and numbers, and that what is printed of a number or a byte means it.
use Rattle.std.specs.Prelude.{◌≡◌, ℕ, ◌^◌, ◌<◌, true, false, [], ◌∷◌, ◌++◌, Ok, Err, codes, decimal, slice_index}
use Rattle.std.specs.Str.Parse.{IsNumeral, digits_value}
use Rattle.links.specs.declared.answers.Receipt.TheVariants.{Kept, Ignored}
use Rattle.machine.specs.Parts as out
use Rattle.machine.specs.Calls.{Told}
use Rattle.machine.specs.Calls.{submitted, delivered, ticked, sampled, collected}
use Rattle.records.specs.declared.event.EventKind.TheVariants.{NoAck}
use Rattle.records.specs.declared.fault.FaultKind.TheVariants.{IllegalParameterId}
use Rattle.records.specs.declared.refusal.Refusal.TheVariants.{Crc, NobodyWaits}
use Rattle.records.specs.declared.report.Stage.{Stage}
use Rattle.records.specs.declared.report.Stage.TheVariants.{Started, Done, Failed}
use Rattle.records.specs.Faults.{fault_of}
use Rattle.answer_text.specs.Hex.{hex_of}
use Rattle.answer_text.specs.Lines.{answer_line, message_line, unreadable_line}

abbrev reported : ℕ → Stage → Told
reported n stage = collected (out.report (record { number = n; stage = stage }))

-- one line for each form of an answer
pub record WorkedLines : Type 0 where
  pub accepted : answer_line 2 (submitted (Ok 1)) 0 0 ≡ codes "2 accepted 1 raised 0 lost 0" ++ 10 ∷ []
  pub submit_refused : answer_line 3 (submitted (Err (Crc 36050))) 0 0 ≡ codes "3 refused 5 CRC parameter 36050 raised 0 lost 0" ++ 10 ∷ []
  pub deliver_refused : answer_line 7 (delivered (Err (NobodyWaits 1))) 0 0 ≡ codes "7 refused 11 NOBODY WAITS parameter 1 raised 0 lost 0" ++ 10 ∷ []
  pub kept : answer_line 25 (delivered (Ok Kept)) 0 0 ≡ codes "25 kept raised 0 lost 0" ++ 10 ∷ []
  pub ignored : answer_line 24 (delivered (Ok Ignored)) 0 0 ≡ codes "24 ignored raised 0 lost 0" ++ 10 ∷ []
  pub ticked : answer_line 26 ticked 1 0 ≡ codes "26 ticked raised 1 lost 0" ++ 10 ∷ []
  pub trouble : answer_line 9 (sampled (Ok true)) 1 0 ≡ codes "9 trouble raised 1 lost 0" ++ 10 ∷ []
  pub good : answer_line 10 (sampled (Ok false)) 1 1 ≡ codes "10 good raised 1 lost 1" ++ 10 ∷ []
  pub event : answer_line 8 (collected (out.event (record { kind = NoAck; place = 0; value = 0 }))) 0 0 ≡ codes "8 event 4 NO ACK place 0 value 0 raised 0 lost 0" ++ 10 ∷ []
  pub started : answer_line 31 (reported 4 Started) 0 0 ≡ codes "31 report 4 STARTED raised 0 lost 0" ++ 10 ∷ []
  pub done : answer_line 34 (reported 4 (Done 1)) 0 0 ≡ codes "34 report 4 DONE sent 1 raised 0 lost 0" ++ 10 ∷ []
  pub failed : answer_line 9 (reported 2 (Failed 0 (fault_of IllegalParameterId 22))) 0 0 ≡ codes "9 report 2 FAILED sent 0 fault 28 ILLEGAL PAR-ID class 5 parameter 22 step 0 code 0 detail 0 raised 0 lost 0" ++ 10 ∷ []
  pub nothing : answer_line 35 (collected out.nothing) 0 0 ≡ codes "35 nothing raised 0 lost 0" ++ 10 ∷ []
  pub message : message_line 22 (0 ∷ 4 ∷ 0 ∷ 0 ∷ 0 ∷ 0x21 ∷ 0 ∷ 5 ∷ 0 ∷ 0xAB ∷ 0 ∷ 0x64 ∷ []) ≡ codes "22 message 12 000400000021000500ab0064 raised 0 lost 0" ++ 10 ∷ []
  pub no_bytes : message_line 14 [] ≡ codes "14 message 0 raised 0 lost 0" ++ 10 ∷ []
  pub unreadable : unreadable_line 4 ≡ codes "4 unreadable raised 0 lost 0" ++ 10 ∷ []

pub record WorkedNumbers : Type 0 where
  pub none : decimal 0 ≡ codes "0"
  pub seven : decimal 7 ≡ codes "7"
  pub ten : decimal 10 ≡ codes "10"
  pub largest_long : decimal 4294967295 ≡ codes "4294967295"
  pub largest_place : decimal 18446744073709551615 ≡ codes "18446744073709551615"

-- at least one digit and nothing else, which mean the number; the first is `0` for 0 alone
pub record MeansItself (n : ℕ) : Type 0 where
  pub digits_only : IsNumeral 10 (decimal n)
  pub read_back : digits_value 10 (decimal n) ≡ n
  pub no_leading_zero : 0 < n → 48 < slice_index (decimal n) 0

abbrev pub NumbersMeanThemselves : Type 0
NumbersMeanThemselves = (n : ℕ) → n < 2 ^ 64 → MeansItself n

-- the two digits of a byte mean the byte
abbrev pub BytesMeanThemselves : Type 0
BytesMeanThemselves = (byte : ℕ) → byte < 256 → digits_value 16 (hex_of (byte ∷ [])) ≡ byte
