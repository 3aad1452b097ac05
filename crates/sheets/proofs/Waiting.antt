-- Pending numbers by the answers, against the history's.
use Rattle.std.proofs.Common.{◌≡◌, ℕ, ◌+◌, Bool, true, false, cond, not, eqb, List, [], ◌∷◌, ◌++◌, map, reverse, is_some, sum_by, count_by, Ok, Err, Option, sym, refl, ap, ◌∙◌, add_comm, arith}
use Rattle.std.proofs.lemmas.List.Sums.{sum_by-append, sum_by-cons, sum_by_push}
use Rattle.std.proofs.lemmas.Bool.Decides.{nat_tests}
use Rattle.console.specs.Consoles as code
use Rattle.console.specs.Consoles.{answer_of}
use Rattle.machine.specs.Calls.{Told}
use Rattle.machine.specs.Calls.{submitted, delivered, ticked, sampled, collected}
use Rattle.machine.specs.Balance.{View, is_final, finals_of, all_reports, pending_in}
use Rattle.machine.specs.Laws.{handings}
use Rattle.machine.specs.Parts.{Answer}
use Rattle.machine.specs.Runs.{History, numbers_in, accepted_in, collected_in}
use Rattle.records.specs.declared.event.Event.{Event}
use Rattle.records.specs.declared.report.Report.{Report}
use Rattle.records.specs.declared.report.Stage.{Stage}
use Rattle.sheets.specs.Finals.{first_final}
use Rattle.sheets.specs.Histories.{answers_in, reports_of}
use Rattle.sheets.specs.Pending.{is_open, open_by, gives_open, pending_of}
use Rattle.sheets.proofs.Finding.{found_if_any}
use Rattle.sheets.proofs.Handings.{sum_by_reverse, reports_collected}

-- what waits, handed out by collects, is the waiting reports
pub reports_handed : (events : List Event) (reports : List Report) → reports_of (handings events reports) ≡ reports
reports_handed [] [] = refl
reports_handed [] (r ∷ reports) = ap (λ l. r ∷ l) (reports_handed [] reports)
reports_handed (e ∷ events) reports = reports_handed events reports

open_given : (reports : List Report) (h : History) → sum_by (open_by reports) (answers_in h) ≡ count_by (is_open reports) (accepted_in h)
open_given reports [] = refl
open_given reports (e ∷ h) =
    let here = numbers_in e.answer.outcome in
    sum_by_push (open_by reports) (answers_in h) e.answer ∙ ap (λ n. n + count_by (is_open reports) here) (open_given reports h)
    ∙ add_comm (count_by (is_open reports) (accepted_in h)) (count_by (is_open reports) here)
    ∙ sym (sum_by-append (λ n. cond (is_open reports n) 1 0) here (accepted_in h))

final_by : ℕ → Report → ℕ
final_by n r = cond (eqb r.number n) (is_final r.stage) 0

-- the order of the collected reports makes no difference
same_open : (h : History) (v : View) (n : ℕ) → is_open (reverse (collected_in h) ++ v.reports) n ≡ is_open (all_reports h v) n
unfolding final_by
same_open h v n =
    ap (λ k. eqb k 0)
    (sum_by-append (final_by n) (reverse (collected_in h)) v.reports ∙ ap (λ k. k + finals_of n v.reports) (sum_by_reverse (final_by n) (collected_in h))
    ∙ sym (sum_by-append (final_by n) (collected_in h) v.reports))

module _ (answers rest : List (Answer Told)) (h : History) (v : View) (of_them : answers_in h ≡ answers) (waits : rest ≡ handings v.events v.reports) where
  pub pending_is : pending_of answers rest ≡ pending_in h v
  pending_is =
      (λ i. sum_by (open_by (reports_of (sym of_them i) ++ reports_of (waits i))) (sym of_them i))
      ∙ (λ i. sum_by (open_by (reports_collected h i ++ reports_handed v.events v.reports i)) (answers_in h))
      ∙ open_given (reverse (collected_in h) ++ v.reports) h
      ∙ (λ i. count_by (λ n. same_open h v n i) (accepted_in h))

not_same : (a b : Bool) → not a ≡ not b → a ≡ b
not_same true true so = refl
not_same true false so = sym so
not_same false true so = sym so
not_same false false so = refl

-- a number is open where no final report was found
open_if_none : (n : ℕ) (reports : List Report) (found : Option Stage) (none : Bool) → found ≡ first_final n reports → is_some found ≡ not none → none ≡ is_open reports n
open_if_none n reports found none is so = not_same none (is_open reports n) (sym so ∙ ap is_some is ∙ found_if_any n reports)

none_of_both : (a b : ℕ) → cond (eqb a 0) (eqb b 0) false ≡ eqb (a + b) 0
none_of_both a b = grind (arith, nat_tests)

module _ (n : ℕ) (xs ys : List Report) (found : Option Stage) (none : Bool) (is : found ≡ first_final n xs) (so : is_some found ≡ not none) where
  open_in_both : (other : Bool) → other ≡ is_open ys n → cond none other false ≡ is_open (xs ++ ys) n
  unfolding final_by
  open_in_both other also =
      (λ i. cond (open_if_none n xs found none is so i) (also i) false) ∙ none_of_both (finals_of n xs) (finals_of n ys)
      ∙ ap (λ k. eqb k 0) (sym (sum_by-append (final_by n) xs ys))

  pub open_in_second : none ≡ true → (later : Option Stage) (other : Bool) → later ≡ first_final n ys → is_some later ≡ not other → other ≡ is_open (xs ++ ys) n
  open_in_second first later other also-is also-so =
      sym (ap (λ b. cond b other false) first) ∙ open_in_both other (open_if_none n ys later other also-is also-so)

  pub final_in_first : none ≡ false → none ≡ is_open (xs ++ ys) n
  final_in_first first = first ∙ sym (ap (λ b. cond b (is_open ys n) false) first) ∙ open_in_both (is_open ys n) refl

-- an answer gives one number at most
none_or_one : (b : Bool) → cond (not (eqb (0 + cond b 1 0) 0)) 1 0 ≡ 0 + cond b 1 0
none_or_one true = refl
none_or_one false = refl

given_by : (reports : List Report) (o : Told) → cond (not (eqb (count_by (is_open reports) (numbers_in o)) 0)) 1 0 ≡ count_by (is_open reports) (numbers_in o)
given_by reports (submitted (Ok n)) = none_or_one (is_open reports n)
given_by reports (submitted (Err why)) = refl
given_by reports (delivered answer) = refl
given_by reports ticked = refl
given_by reports (sampled answer) = refl
given_by reports (collected x) = refl

open_if_given : (reports : List Report) (a : Answer Told) → cond (gives_open reports a) 1 0 ≡ open_by reports a
open_if_given reports a = given_by reports a.outcome

pub open_counted : (reports : List Report) (answers : List code.Answer) → count_by (λ a. gives_open reports (answer_of a)) answers ≡ sum_by (open_by reports) (map answer_of answers)
open_counted reports [] = refl
open_counted reports (a ∷ answers) =
    sum_by-cons (λ x. cond (gives_open reports (answer_of x)) 1 0) a answers
    ∙ (λ i. open_if_given reports (answer_of a) i + open_counted reports answers i)
    ∙ sym (sum_by-cons (open_by reports) (answer_of a) (map answer_of answers))
