-- Finding the first final report of a number.
use Rattle.std.proofs.Common.{◌≡◌, ℕ, ◌+◌, Bool, true, false, cond, not, eqb, List, [], ◌∷◌, ◌++◌, map, reverse, is_some, Some, None, Option, sym, refl, ap, ◌∙◌, zero-add, arith}
use Rattle.std.proofs.lemmas.List.Sums.{sum_by-cons}
use Rattle.std.proofs.lemmas.Bool.Decides.{nat_tests}
use Rattle.console.specs.Consoles.{Answer}
use Rattle.console.specs.Consoles.{answer_of}
use Rattle.machine.specs.Calls.{Told}
use Rattle.machine.specs.Balance.{is_final, finals_of}
use Rattle.machine.specs.Parts as parts
use Rattle.machine.specs.Outcomes.{told_of}
use Rattle.machine.specs.Runs.{History, collected_in, reports_in}
use Rattle.records.specs.declared.report.Report.{Report}
use Rattle.records.specs.declared.report.Stage.{Stage}
use Rattle.records.specs.declared.report.Stage.TheVariants.{Started, Done, Failed}
use Rattle.sheets.specs.Finals.{final_stage, final_by, or_else, first_final}
use Rattle.sheets.specs.Histories.{answers_in, reports_of}
use Rattle.sheets.proofs.Firsts.{first_of}
use Rattle.sheets.proofs.Handings.{sum_by_reverse, reports_collected}

or_else_assoc : (a b c : Option Stage) → or_else (or_else a b) c ≡ or_else a (or_else b c)
or_else_assoc None b c = refl
or_else_assoc (Some s) b c = refl

first_append : (n : ℕ) (xs ys : List Report) → first_final n (xs ++ ys) ≡ or_else (first_final n xs) (first_final n ys)
first_append n [] ys = refl
first_append n (x ∷ xs) ys = ap (or_else (final_by n x)) (first_append n xs ys) ∙ sym (or_else_assoc (final_by n x) (first_final n xs) (first_final n ys))

-- what the answers from a place on give
abbrev pub found_in : ℕ → List Answer → Option Stage
found_in n answers = first_final n (reports_of (map answer_of answers))

-- the final report that an answer hands out
abbrev pub final_at : ℕ → Answer → Option Stage
final_at n a = first_final n (reports_in (told_of a.outcome))

first_or_else : (first later : Option Stage) → elim first [ None ↦ later | Some s ↦ Some s ] ≡ or_else first later
first_or_else None later = refl
first_or_else (Some s) later = refl

pub found_is_first : (n : ℕ) (answers : List Answer) → first_of (final_at n) answers ≡ found_in n answers
found_is_first n [] = refl
found_is_first n (a ∷ answers) =
    first_or_else (final_at n a) (first_of (final_at n) answers)
    ∙ ap (or_else (final_at n a)) (found_is_first n answers)
    ∙ sym (first_append n (reports_in (told_of a.outcome)) (reports_of (map answer_of answers)))

some_counted : (k : ℕ) → true ≡ not (eqb (1 + k) 0)
some_counted k = grind (arith, nat_tests)

-- a report, by whether its number is the one asked for
counts_if : (own : Bool) (s : Stage) (more : Option Stage) (finals : ℕ) → is_some more ≡ not (eqb finals 0)
    → is_some (or_else (cond own (final_stage s) None) more) ≡ not (eqb (cond own (is_final s) 0 + finals) 0)
counts_if false s more finals so = so ∙ ap (λ k. not (eqb k 0)) (sym (zero-add finals))
counts_if true Started more finals so = so ∙ ap (λ k. not (eqb k 0)) (sym (zero-add finals))
counts_if true (Done sent) more finals so = some_counted finals
counts_if true (Failed sent fault) more finals so = some_counted finals

pub found_if_any : (n : ℕ) (reports : List Report) → is_some (first_final n reports) ≡ not (eqb (finals_of n reports) 0)
found_if_any n [] = refl
found_if_any n (x ∷ xs) =
    counts_if (eqb x.number n) x.stage (first_final n xs) (finals_of n xs) (found_if_any n xs)
    ∙ ap (λ k. not (eqb k 0)) (sym (sum_by-cons (λ r. cond (eqb r.number n) (is_final r.stage) 0) x xs))

module _ (n : ℕ) (answers : List Answer) (found : Option Stage) (is : found ≡ found_in n answers) (h : History) (of_them : answers_in h ≡ map answer_of answers) where
  pub first_collected : found ≡ first_final n (reverse (collected_in h))
  first_collected = is ∙ ap (λ (all : List (parts.Answer Told)). first_final n (reports_of all)) (sym of_them) ∙ ap (first_final n) (reports_collected h)

  pub some_if_any : is_some found ≡ not (eqb (finals_of n (collected_in h)) 0)
  some_if_any =
      ap is_some first_collected ∙ found_if_any n (reverse (collected_in h))
      ∙ ap (λ k. not (eqb k 0)) (sum_by_reverse (λ r. cond (eqb r.number n) (is_final r.stage) 0) (collected_in h))
