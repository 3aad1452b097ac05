-- A collect hands out the first of what waits, or nothing.
use Rattle.std.proofs.Common.{◌≡◌, ℕ, ◌+◌, ◌<◌, true, false, List, [], ◌∷◌, ◌++◌, map, length, sym, refl, ap, ◌∙◌, subst, append_assoc, append-nil, arith}
use Rattle.std.proofs.lemmas.List.{map_push}
use Rattle.links.specs.Meaning.{LinkKind}
use Rattle.console.specs.Consoles.{Answer}
use Rattle.console.specs.Consoles.{answer_of, Steps}
use Rattle.machine.specs.Calls.{Told}
use Rattle.machine.specs.Calls.{collect, answer_to, after}
use Rattle.machine.specs.Desks.{with_log}
use Rattle.machine.specs.Laws.{handings}
use Rattle.machine.specs.Machine.{Machine, with_desk}
use Rattle.machine.specs.Parts as parts
use Rattle.records.specs.declared.event.Event.{Event}
use Rattle.records.specs.declared.report.Report.{Report}
use Rattle.watches.specs.Meaning.{WatchKind}
use Rattle.machine.specs.Outcomes.{told_of}
use Rattle.sheets.specs.Rest.{hands_nothing, events_waiting, reports_waiting, emptied}

module _ {K0 K1 K2 : LinkKind} {W : WatchKind} where
  abbrev holding : Machine K0 K1 K2 W → List Event → List Report → Machine K0 K1 K2 W
  holding m events reports = with_desk m (with_log m.desk (record { events = events; reports = reports; accepted = m.desk.log.accepted; raised = m.desk.log.raised }))

  -- all that waits
  abbrev pub waiting : Machine K0 K1 K2 W → List (parts.Answer Told)
  waiting m = handings (events_waiting m) (reports_waiting m)

  abbrev pub how_many : Machine K0 K1 K2 W → ℕ
  how_many m = length (events_waiting m) + length (reports_waiting m)

  -- one is handed out: it was the first, and the others go on waiting
  pub record OneOut (m : Machine K0 K1 K2 W) (a : parts.Answer Told) (n : Machine K0 K1 K2 W) : Type 0 where
    pub first : waiting m ≡ a ∷ waiting n
    pub others : emptied n ≡ emptied m
    pub fewer : how_many n < how_many m

  one_out : (m : Machine K0 K1 K2 W) (events : List Event) (reports : List Report) → hands_nothing (answer_to (holding m events reports) collect).outcome ≡ false
      → OneOut (holding m events reports) (answer_to (holding m events reports) collect) (after (holding m events reports) collect)
  one_out m (e ∷ events) reports some = record { first = refl; others = refl; fewer = omega arith }
  one_out m [] (r ∷ reports) some = record { first = refl; others = refl; fewer = omega arith }
  one_out m [] [] some = let wrong : ◌≡◌ {A = ℕ} 0 1 = cc in absurd (omega arith)

  none_out : (m : Machine K0 K1 K2 W) (events : List Event) (reports : List Report) → hands_nothing (answer_to (holding m events reports) collect).outcome ≡ true
      → (waiting (holding m events reports) ≡ []) × (after (holding m events reports) collect ≡ emptied m)
  none_out m [] [] none = (refl, refl)
  none_out m (e ∷ events) reports none = let wrong : ◌≡◌ {A = ℕ} 0 1 = cc in absurd (omega arith)
  none_out m [] (r ∷ reports) none = let wrong : ◌≡◌ {A = ℕ} 0 1 = cc in absurd (omega arith)

  module _ (m : Machine K0 K1 K2 W) (a : parts.Answer Told) (n : Machine K0 K1 K2 W) (step : Steps m collect a n) where
    pub handed_out : false ≡ hands_nothing a.outcome → OneOut m a n
    handed_out some =
        let one = one_out m (events_waiting m) (reports_waiting m) (ap (λ (x : parts.Answer Told). hands_nothing x.outcome) (sym step.0) ∙ sym some) in
        subst (λ (x : parts.Answer Told). OneOut m x n) (sym step.0) (subst (λ (x : Machine K0 K1 K2 W). OneOut m (answer_to m collect) x) (sym step.1) one)

    pub nothing_out : true ≡ hands_nothing a.outcome → (waiting m ≡ []) × (n ≡ emptied m)
    nothing_out none =
        let both = none_out m (events_waiting m) (reports_waiting m) (ap (λ (x : parts.Answer Told). hands_nothing x.outcome) (sym step.0) ∙ sym none) in
        (both.0, step.1 ∙ both.1)

  -- what was handed out so far, with what still waits, is all; and nothing else changed
  pub record Emptying (start : Machine K0 K1 K2 W) (out : List Answer) (m : Machine K0 K1 K2 W) : Type 0 where
    pub all : map answer_of out ++ waiting m ≡ waiting start
    pub else_same : emptied m ≡ emptied start

  module _ (start m : Machine K0 K1 K2 W) (out : List Answer) (a : Answer) (n : Machine K0 K1 K2 W) (so : Emptying start out m) (step : Steps m collect (answer_of a) n) where
    pub one_more : (longer : List Answer) → longer ≡ out ++ a ∷ [] → false ≡ hands_nothing (told_of a.outcome) → Emptying start longer n
    one_more longer pushed some =
        let one = handed_out m (answer_of a) n step some in
        record {
          all = ap (λ (l : List Answer). map answer_of l ++ waiting n) pushed ∙ ap (λ (l : List (parts.Answer Told)). l ++ waiting n) (map_push answer_of out a)
              ∙ append_assoc (map answer_of out) (answer_of a ∷ []) (waiting n) ∙ ap (λ (l : List (parts.Answer Told)). map answer_of out ++ l) (sym one.first) ∙ so.all;
          else_same = one.others ∙ so.else_same;
        }

    pub all_out : true ≡ hands_nothing (told_of a.outcome) → (map answer_of out ≡ waiting start) × (n ≡ emptied start)
    all_out none =
        let last = nothing_out m (answer_of a) n step none in
        (sym (append-nil (map answer_of out)) ∙ ap (λ (l : List (parts.Answer Told)). map answer_of out ++ l) (sym last.0) ∙ so.all, last.1 ∙ so.else_same)
