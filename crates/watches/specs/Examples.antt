-- Worked examples: what the functions of a watch answer to values seen in turn.
use Rattle.std.specs.Prelude.{◌≡◌, ℕ, Bool, true, false, List, [], ◌∷◌, Some, None, Option}
use Rattle.watches.specs.Meaning.{WatchKind, see_answer}

-- the answers of one function to values seen in turn
abbrev pub answers_in_turn : (K : WatchKind) → K.State → ℕ → List ℕ → List (Option Bool)
answers_in_turn K s f [] = []
answers_in_turn K s f (v ∷ vs) = see_answer K s f v ∷ answers_in_turn K (K.seen s f v) f vs

-- the state after one function has seen values in turn
abbrev pub state_in_turn : (K : WatchKind) → K.State → ℕ → List ℕ → K.State
state_in_turn K s f [] = s
state_in_turn K s f (v ∷ vs) = state_in_turn K (K.seen s f v) f vs

-- the three answers
abbrev pub refused : Option Bool
refused = None

abbrev pub good : Option Bool
good = Some false

abbrev pub in_trouble : Option Bool
in_trouble = Some true

-- its width, and the answers of the functions 0 and 4
abbrev pub ThreeFunctions : ℕ × Option Bool × Option Bool → Type 0
ThreeFunctions answers = answers ≡ (3, refused, refused)

-- function 1 sees 5, 5, 6, 6
abbrev pub StillSees5_5_6_6 : List (Option Bool) → Type 0
StillSees5_5_6_6 answers = answers ≡ good ∷ good ∷ in_trouble ∷ good ∷ []

-- function 2 sees 7, 8, 8, 9
abbrev pub MovingSees7_8_8_9 : List (Option Bool) → Type 0
MovingSees7_8_8_9 answers = answers ≡ good ∷ good ∷ in_trouble ∷ good ∷ []

-- function 3 sees 100, 200, 201, 99
abbrev pub BandSees100_200_201_99 : List (Option Bool) → Type 0
BandSees100_200_201_99 answers = answers ≡ good ∷ good ∷ in_trouble ∷ in_trouble ∷ []

-- a Band of 200 to 100 sees 99, 100, 200, 201
abbrev pub CrossedBandSees99_100_200_201 : List (Option Bool) → Type 0
CrossedBandSees99_100_200_201 answers = answers ≡ in_trouble ∷ in_trouble ∷ in_trouble ∷ in_trouble ∷ []

-- whether the functions 0 to 4 are in trouble, after function 1 has seen 5, 5, 6, 7
abbrev pub OnlyFunction1InTrouble : List Bool → Type 0
OnlyFunction1InTrouble states = states ≡ false ∷ true ∷ false ∷ false ∷ false ∷ []
