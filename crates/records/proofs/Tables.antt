-- A rule that a test finds right at each place of a table holds at each place.
use Rattle.std.proofs.Common.{◌≡◌, ℕ, zero, suc, ◌+◌, ◌<◌, Bool, false, true, ◌&&◌, eqb, cond, List, [], ◌∷◌, length, get_or, refl, sym, ap, ◌∙◌, subst, add-zero, zero-add, arith}
use Rattle.std.proofs.lemmas.Bool.{and_parts, eqb-true, false≢true}
use Rattle.records.specs.declared.fault.FailureClass.{FailureClass}
use Rattle.records.specs.declared.fault.FailureClass.TheVariants.{NoClass, InvalidData, WrongState, LinkFailed, Other}
use Rattle.records.specs.Faults.{class_number}

class_with : ℕ → FailureClass
class_with n = cond (eqb n 5) InvalidData (cond (eqb n 16) WrongState (cond (eqb n 17) LinkFailed NoClass))

-- whether the table can hold a class
abbrev pub named : FailureClass → Bool
named (Other number) = false
named NoClass = true
named InvalidData = true
named WrongState = true
named LinkFailed = true

told_by_number : (class : FailureClass) → named class ≡ true → class_with (class_number class) ≡ class
unfolding class_with
told_by_number NoClass t = refl
told_by_number InvalidData t = refl
told_by_number WrongState t = refl
told_by_number LinkFailed t = refl
told_by_number (Other number) t = absurd (false≢true t)

-- of the classes that the table can hold, those with one number are one class
one_class : (a b : FailureClass) → named a ≡ true → named b ≡ true → class_number a ≡ class_number b → a ≡ b
one_class a b left right e = sym (told_by_number a left) ∙ ap class_with e ∙ told_by_number b right

abbrev pub same_class : FailureClass → FailureClass → Bool
same_class a b = (named a && named b) && eqb (class_number a) (class_number b)

same_is_one : (a b : FailureClass) → same_class a b ≡ true → a ≡ b
same_is_one a b t =
    let parts = and_parts (named a && named b) (eqb (class_number a) (class_number b)) t in
    let both = and_parts (named a) (named b) parts.0 in
    one_class a b both.0 both.1 (eqb-true (class_number a) (class_number b) parts.1)

-- the entries, from a place on, are what the rule says of their places
abbrev pub keeps : (ℕ → FailureClass) → ℕ → List FailureClass → Bool
keeps rule place [] = true
keeps rule place (entry ∷ table) = same_class entry (rule place) && keeps rule (suc place) table

kept_from : (rule : ℕ → FailureClass) (place : ℕ) (table : List FailureClass) → keeps rule place table ≡ true → (k : ℕ) → k < length table
    → get_or table k NoClass ≡ rule (place + k)
kept_from rule place [] t k h = let none : ⊥ = omega arith in absurd none
kept_from rule place (entry ∷ table) t zero h =
    let parts = and_parts (same_class entry (rule place)) (keeps rule (suc place) table) t in
    let here = same_is_one entry (rule place) parts.0 in
    subst (λ (n : ℕ). entry ≡ rule n) (sym (add-zero place)) here
kept_from rule place (entry ∷ table) t (suc k) h =
    let parts = and_parts (same_class entry (rule place)) (keeps rule (suc place) table) t in
    let later = kept_from rule (suc place) table parts.1 k (omega arith) in
    let same : suc place + k ≡ place + suc k = omega arith in
    subst (λ (n : ℕ). get_or table k NoClass ≡ rule n) same later

pub kept : (rule : ℕ → FailureClass) (table : List FailureClass) → keeps rule 0 table ≡ true → (k : ℕ) → k < length table
    → get_or table k NoClass ≡ rule k
kept rule table t k h = subst (λ (n : ℕ). get_or table k NoClass ≡ rule n) (zero-add k) (kept_from rule 0 table t k h)
