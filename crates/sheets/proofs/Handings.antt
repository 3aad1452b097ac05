-- What the answers of a history handed out, against the history's tallies.
use Rattle.std.proofs.Common.{◌≡◌, ℕ, ◌+◌, List, [], ◌∷◌, ◌++◌, reverse, sum_by, sym, refl, ap, ◌∙◌, append_assoc, append-nil, add_comm}
use mathlib.Core.List.{reverse-append}
use Rattle.std.specs.List.{flat_map}
use Rattle.std.proofs.lemmas.List.Sums.{sum_by-append}
use Rattle.machine.specs.Parts as out
use Rattle.machine.specs.Calls.{Told}
use Rattle.machine.specs.Calls.{submitted, delivered, ticked, sampled, collected}
use Rattle.machine.specs.Parts.{Answer}
use Rattle.machine.specs.Runs.{History, reports_in, collected_in}
use Rattle.sheets.specs.Histories.{answers_in, reports_of}

pub joined_append : {X A : Type 0} (f : X → List A) (xs ys : List X) → flat_map f (xs ++ ys) ≡ flat_map f xs ++ flat_map f ys
joined_append f [] ys = refl
joined_append f (x ∷ xs) ys = ap (λ l. f x ++ l) (joined_append f xs ys) ∙ sym (append_assoc (f x) (flat_map f xs) (flat_map f ys))

pub sum_by_reverse : {X : Type 0} (f : X → ℕ) (xs : List X) → sum_by f (reverse xs) ≡ sum_by f xs
sum_by_reverse f [] = refl
sum_by_reverse f (x ∷ xs) =
    ap (sum_by f) (reverse-append (x ∷ []) xs) ∙ sum_by-append f (reverse xs) (x ∷ [])
    ∙ ap (λ n. n + sum_by f (x ∷ [])) (sum_by_reverse f xs) ∙ add_comm (sum_by f xs) (sum_by f (x ∷ [])) ∙ sym (sum_by-append f (x ∷ []) xs)

-- an answer hands out one report at most
one_report : (o : Told) → reverse (reports_in o) ≡ reports_in o
one_report (submitted answer) = refl
one_report (delivered answer) = refl
one_report ticked = refl
one_report (sampled answer) = refl
one_report (collected (out.event e)) = refl
one_report (collected (out.report told)) = refl
one_report (collected out.nothing) = refl

pub reports_collected : (h : History) → reports_of (answers_in h) ≡ reverse (collected_in h)
reports_collected [] = refl
reports_collected (e ∷ h) =
    let o = e.answer.outcome in
    joined_append (λ (a : Answer Told). reports_in a.outcome) (answers_in h) (e.answer ∷ [])
    ∙ (λ i. reports_collected h i ++ append-nil (reports_in o) i)
    ∙ ap (λ l. reverse (collected_in h) ++ l) (sym (one_report o))
    ∙ sym (reverse-append (reports_in o) (collected_in h))
