-- From the answers of a list of calls to the shift's history, and its balance to the totals.
use Rattle.std.proofs.Common.{◌≡◌, ℕ, ◌+◌, ◌≤◌, cond, eqb, List, [], ◌∷◌, ◌++◌, reverse, sym, refl, ap, ◌∙◌, subst, append_assoc, arith}
use mathlib.Core.List.{reverse-append}
use Rattle.std.proofs.lemmas.List.{append-nil}
use Rattle.std.proofs.lemmas.List.Sums.{sum_by-append}
use Rattle.links.specs.Meaning.{LinkKind}
use Rattle.console.specs.Consoles.{BalancedThroughout}
use Rattle.console.specs.Lists.{entries, history_of}
use Rattle.machine.specs.Calls.{Told}
use Rattle.machine.specs.Balance.{View, view_of, is_final, finals_of, accepted_as, Balanced}
use Rattle.machine.specs.Calls.{Call, answer_to, after, answers_to}
use Rattle.machine.specs.Machine.{Machine}
use Rattle.machine.specs.Parts.{Answer}
use Rattle.machine.specs.Runs.{Entry, History, collected_in}
use Rattle.records.specs.declared.report.Report.{Report}
use Rattle.watches.specs.Meaning.{WatchKind}
use Rattle.sheets.specs.declared.tally.Totals.{Totals}
use Rattle.sheets.specs.Histories.{answers_in}
use Rattle.sheets.specs.Shifts.{Closed}
use Rattle.sheets.specs.Totals.{Totalled}
use Rattle.sheets.proofs.Totalling.{balances}

answers_append : (g h : History) → answers_in (g ++ h) ≡ answers_in h ++ answers_in g
answers_append [] h = sym (append-nil (answers_in h))
answers_append (e ∷ g) h = ap (λ (l : List (Answer Told)). l ++ e.answer ∷ []) (answers_append g h) ∙ append_assoc (answers_in h) (answers_in g) (e.answer ∷ [])

answers_first : (e : Entry) (es : List Entry) → answers_in (reverse (e ∷ es)) ≡ e.answer ∷ answers_in (reverse es)
answers_first e es = ap answers_in (reverse-append (e ∷ []) es) ∙ answers_append (reverse es) (e ∷ [])

once : (x y n : ℕ) → x + y ≤ n → n ≤ 1 → x ≤ 1
once x y n sum most = omega arith

one_final : (h : History) (v : View) → Balanced h v → (n : ℕ) → finals_of n (collected_in h) ≤ 1
one_final h v so n =
    let finals : Report → ℕ = λ r. cond (eqb r.number n) (is_final r.stage) 0 in
    once (finals_of n (collected_in h)) (finals_of n v.reports) _ (subst (λ (k : ℕ). k ≤ accepted_as n h) (sum_by-append finals (collected_in h) v.reports) (so.one_final n)) (so.accepted_once n)

module _ {K0 K1 K2 : LinkKind} {W : WatchKind} where
  told : (m : Machine K0 K1 K2 W) (cs : List Call) → answers_in (history_of cs (answers_to m cs)) ≡ answers_to m cs
  unfolding answers_to
  told m [] = refl
  told m (c ∷ cs) =
      answers_first (record { call = c; answer = answer_to m c }) (entries cs (answers_to (after m c) cs)) ∙ ap (λ (l : List (Answer Told)). answer_to m c ∷ l) (told (after m c) cs)

  pub told_by : (m : Machine K0 K1 K2 W) (cs : List Call) (answers : List (Answer Told)) → answers ≡ answers_to m cs → answers_in (history_of cs answers) ≡ answers
  told_by m cs answers is = ap (λ (l : List (Answer Told)). answers_in (history_of cs l)) is ∙ told m cs ∙ sym is

  at_the_end : (h : History) (m : Machine K0 K1 K2 W) → BalancedThroughout h m → Balanced h (view_of m)
  at_the_end [] m so = so.1
  at_the_end (e ∷ h) m so = so.3

  pub closed : (h : History) (m : Machine K0 K1 K2 W) (t : Totals) → BalancedThroughout h m → Totalled t h (view_of m) → Closed K0 K1 K2 W h t
  closed h m t so totals =
      let last = at_the_end h m so in
      record { end = m; balanced = so; totalled = totals; totals_add_up = balances t h (view_of m) totals last; ticked_once = one_final h (view_of m) last }
