use Rattle.std.proofs.Common.{◌≡◌, ℕ, ◌<◌, ◌≤◌, Bor, true, List, length, get_or, Some, None, ⊎_elim, Option, sym, ap, ◌∙◌, arith, rules}
use Rattle.std.specs.Option.{option_copied, unwrap_or}
use Rattle.std.specs.Slice.{IsItemAt}
use Rattle.std.proofs.lemmas.Grind.{common_steps}
use Rattle.std.proofs.lemmas.Bool.{cases_lt}
use Rattle.std.proofs.lemmas.Bool.Decides.{nat_tests}
use Rattle.std.proofs.lemmas.List.{get_or_past}
use Rattle.records.specs.declared.fault.FailureClass.{FailureClass}
use Rattle.records.specs.declared.fault.FailureClass.TheVariants.{NoClass}
use Rattle.records.specs.Faults.{class_of}
use Rattle.records.proofs.Tables.{keeps, kept}
use Rattle.records.proofs.faults.class_of.Goals as goal

past : (k : ℕ) → 34 ≤ k → class_of k ≡ NoClass
past k h = grind (arith, nat_tests)

rule : (table : List FailureClass) → keeps class_of 0 table ≡ true → length table ≡ 34 → (k : ℕ) → get_or table k NoClass ≡ class_of k
rule table t long k =
    ⊎_elim
    (λ (within : k < length table). kept class_of table t k within)
    (λ (over : length table ≤ k). get_or_past table k NoClass over ∙ sym (past k (omega arith)))
    (cases_lt k (length table))

read : (table : List FailureClass) (k : ℕ) (item : Option (Bor FailureClass)) → IsItemAt table k item
    → unwrap_or (option_copied item) NoClass ≡ get_or table k NoClass
read table k None h = grind (arith, common_steps)
read table k (Some entry) h = grind (arith, common_steps)

entry : (table : List FailureClass) → keeps class_of 0 table ≡ true → length table ≡ 34 → (k : ℕ) (item : Option (Bor FailureClass)) → IsItemAt table k item
    → unwrap_or (option_copied item) NoClass ≡ class_of k
entry table t long k item h = read table k item h ∙ rule table t long k

pub returns : goal.returns
returns c =
    let copied = ap (λ entry. unwrap_or entry NoClass) c.copied.ensures in
    let found : unwrap_or (option_copied c.get.result) NoClass ≡ class_of c.from.result = search (rules, entry, c.get.ensures.lookup) in
    record { by_the_table = c.unwrap_or.ensures ∙ copied ∙ found ∙ ap class_of c.from.ensures }
