-- The lines that are printed.
use Rattle.std.specs.Prelude.{ℕ, List, [], ◌∷◌, ◌++◌, codes, decimal}
use Rattle.machine.specs.Calls.{Told}
use Rattle.records.specs.Texts.{spaced}
use Rattle.answer_text.specs.Answers.{outcome_text, message_text}

-- place, answer and the two counts
abbrev pub line_of : ℕ → List ℕ → ℕ → ℕ → List ℕ
line_of n text raises loses =
    spaced (decimal n) (text ∷ codes "raised" ∷ decimal raises ∷ codes "lost" ∷ decimal loses ∷ []) ++ 10 ∷ []

-- what follows the answer
abbrev pub counts_text : ℕ → ℕ → List ℕ
counts_text raises loses = codes " raised " ++ (decimal raises ++ (codes " lost " ++ (decimal loses ++ 10 ∷ [])))

abbrev pub answer_line : ℕ → Told → ℕ → ℕ → List ℕ
answer_line n o raises loses = line_of n (outcome_text o) raises loses

abbrev pub message_line : ℕ → List ℕ → List ℕ
message_line n sends = line_of n (message_text sends) 0 0

abbrev pub unreadable_line : ℕ → List ℕ
unreadable_line n = line_of n (codes "unreadable") 0 0
