-- The text of each answer.
use Rattle.std.specs.Prelude.{ℕ, Bool, true, false, List, [], ◌∷◌, length, Ok, Err, codes, decimal, Result}
use Rattle.links.specs.declared.answers.Receipt.{Receipt}
use Rattle.links.specs.Receipts.{receipt_word}
use Rattle.machine.specs.Parts.{Handed}
use Rattle.machine.specs.Parts as out
use Rattle.machine.specs.Calls.{Told}
use Rattle.machine.specs.Calls.{submitted, delivered, ticked, sampled, collected}
use Rattle.records.specs.declared.refusal.Refusal.{Refusal}
use Rattle.records.specs.Texts.{spaced, refused_text, event_text, report_text}
use Rattle.answer_text.specs.Hex.{hex_of}

abbrev pub submitted_text : Result ℕ Refusal → List ℕ
submitted_text (Ok accepted) = spaced (codes "accepted") (decimal accepted ∷ [])
submitted_text (Err why) = refused_text why

abbrev pub delivered_text : Result Receipt Refusal → List ℕ
delivered_text (Ok became) = receipt_word became
delivered_text (Err why) = refused_text why

-- of a function in trouble, or not
abbrev pub state_word : Bool → List ℕ
state_word true = codes "trouble"
state_word false = codes "good"

abbrev pub sampled_text : Result Bool Refusal → List ℕ
sampled_text (Ok troubled) = state_word troubled
sampled_text (Err why) = refused_text why

abbrev pub handed_text : Handed → List ℕ
handed_text (out.event e) = event_text e
handed_text (out.report told) = report_text told
handed_text out.nothing = codes "nothing"

abbrev pub outcome_text : Told → List ℕ
outcome_text (submitted a) = submitted_text a
outcome_text (delivered a) = delivered_text a
outcome_text ticked = codes "ticked"
outcome_text (sampled a) = sampled_text a
outcome_text (collected h) = handed_text h

-- how many bytes, and the bytes where there are any
abbrev pub message_text : List ℕ → List ℕ
message_text [] = codes "message 0"
message_text (byte ∷ more) = spaced (codes "message") (decimal (length (byte ∷ more)) ∷ hex_of (byte ∷ more) ∷ [])
