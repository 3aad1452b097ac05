-- Lists of calls with their answers, as histories.
use Rattle.std.specs.Prelude.{List, [], ◌∷◌, reverse}
use Rattle.machine.specs.Calls.{Told}
use Rattle.machine.specs.Calls.{Call}
use Rattle.machine.specs.Parts.{Answer}
use Rattle.machine.specs.Runs.{Entry, History}

-- each call with its answer, oldest first
abbrev pub entries : List Call → List (Answer Told) → List Entry
entries [] answers = []
entries (c ∷ calls) [] = []
entries (c ∷ calls) (a ∷ answers) = record { call = c; answer = a } ∷ entries calls answers

abbrev pub history_of : List Call → List (Answer Told) → History
history_of calls answers = reverse (entries calls answers)
