-- Calls made one after the other: answers, what they leave, and their history.
use Rattle.std.proofs.Common.{◌≡◌, ℕ, ◌+◌, ◌<◌, List, [], ◌∷◌, ◌++◌, map, reverse, length, get_or, take, Vec, Global, sym, refl, ap, ◌∙◌, subst, append_assoc, append-nil}
use mathlib.Core.List.{map-append, reverse-append}
use Rattle.std.proofs.lemmas.List.{take_more}
use Rattle.links.specs.Meaning.{LinkKind, Lawful}
use Rattle.machine.specs.Calls.{Told}
use Rattle.machine.specs.Calls.{Call, answer_to, after, answers_to, after_all}
use Rattle.machine.specs.Machine.{Machine}
use Rattle.machine.specs.Parts as parts
use Rattle.machine.specs.Runs.{Entry, History, New, Ran}
use Rattle.watches.specs.Meaning.{WatchKind, LawfulWatch}
use Rattle.records.specs.declared.call.Call as code
use Rattle.console.specs.Consoles.{Answer, call_of, answer_of, Steps, BalancedThroughout}
use Rattle.console.specs.Lists.{entries, history_of}
use Rattle.console.proofs.Going.{throughout}

-- one call more of a list of them
pub called_more : (cs : List (code.Call (Vec ℕ Global))) (i : ℕ) (c : code.Call (Vec ℕ Global)) → i < length cs → c ≡ get_or cs i c → map call_of (take (i + 1) cs) ≡ map call_of (take i cs) ++ call_of c ∷ []
called_more cs i c h is =
    ap (map call_of) (take_more cs i c h) ∙ map-append call_of (take i cs) (get_or cs i c ∷ []) ∙ ap (λ (x : code.Call (Vec ℕ Global)). map call_of (take i cs) ++ call_of x ∷ []) (sym is)

module _ {K0 K1 K2 : LinkKind} {W : WatchKind} where
  pub after_none : (m : Machine K0 K1 K2 W) → after_all m [] ≡ m
  unfolding after_all
  after_none m = refl

  pub answers_none : (m : Machine K0 K1 K2 W) → answers_to m [] ≡ []
  unfolding answers_to
  answers_none m = refl

  after_more : (m : Machine K0 K1 K2 W) (cs : List Call) (c : Call) → after_all m (cs ++ c ∷ []) ≡ after (after_all m cs) c
  unfolding after_all
  after_more m [] c = refl
  after_more m (d ∷ cs) c = after_more (after m d) cs c

  answers_more : (m : Machine K0 K1 K2 W) (cs : List Call) (c : Call) → answers_to m (cs ++ c ∷ []) ≡ answers_to m cs ++ answer_to (after_all m cs) c ∷ []
  unfolding answers_to after_all
  answers_more m [] c = refl
  answers_more m (d ∷ cs) c = ap (λ (rest : List (parts.Answer Told)). answer_to m d ∷ rest) (answers_more (after m d) cs c)

  -- the answers and the machine after one call more
  pub all_more : (m now next : Machine K0 K1 K2 W) (cs : List (code.Call (Vec ℕ Global))) (i : ℕ) (c : code.Call (Vec ℕ Global)) (xs ys : List Answer) (a : Answer) → i < length cs → c ≡ get_or cs i c
      → ys ≡ xs ++ a ∷ [] → map answer_of xs ≡ answers_to m (map call_of (take i cs)) → now ≡ after_all m (map call_of (take i cs))
      → Steps now (call_of c) (answer_of a) next
      → (map answer_of ys ≡ answers_to m (map call_of (take (i + 1) cs))) × (next ≡ after_all m (map call_of (take (i + 1) cs)))
  all_more m now next cs i c xs ys a h is e told there step =
      let more = called_more cs i c h is in
      let answer : answer_of a ≡ answer_to (after_all m (map call_of (take i cs))) (call_of c) = step.0 ∙ ap (λ (x : Machine K0 K1 K2 W). answer_to x (call_of c)) there in (
        ap (map answer_of) e ∙ map-append answer_of xs (a ∷ [])
            ∙ ap (λ (l : List (parts.Answer Told)). l ++ answer_of a ∷ []) told
            ∙ ap (λ (x : parts.Answer Told). answers_to m (map call_of (take i cs)) ++ x ∷ []) answer
            ∙ sym (answers_more m (map call_of (take i cs)) (call_of c)) ∙ ap (answers_to m) (sym more),
        step.1 ∙ ap (λ (x : Machine K0 K1 K2 W). after x (call_of c)) there ∙ sym (after_more m (map call_of (take i cs)) (call_of c)) ∙ ap (after_all m) (sym more),
      )

  -- a history of some calls, made after another
  ran_on : (m : Machine K0 K1 K2 W) (cs : List Call) (h : History) → Ran h m → Ran (reverse (entries cs (answers_to m cs)) ++ h) (after_all m cs)
  unfolding answers_to after_all
  ran_on m [] h ran = ran
  ran_on m (c ∷ cs) h ran =
      let e : Entry = record { call = c; answer = answer_to m c } in
      let rest = ran_on (after m c) cs (e ∷ h) (m, ran, refl, refl) in
      subst (λ (x : History). Ran x (after_all (after m c) cs))
      (sym (append_assoc (reverse (entries cs (answers_to (after m c) cs))) (e ∷ []) h) ∙ ap (λ (x : History). x ++ h) (sym (reverse-append (e ∷ []) (entries cs (answers_to (after m c) cs))))) rest

  -- calls on a machine that is new: balanced throughout
  pub listed : Lawful K0 → Lawful K1 → Lawful K2 → LawfulWatch W → (m now : Machine K0 K1 K2 W) (cs : List Call) (answers : List (parts.Answer Told)) → New m
      → answers ≡ answers_to m cs → now ≡ after_all m cs → BalancedThroughout (history_of cs answers) now
  listed L0 L1 L2 LW m now cs answers new told there =
      let ran = subst (λ (h : History). Ran h (after_all m cs)) (append-nil (reverse (entries cs (answers_to m cs)))) (ran_on m cs [] new) in
      let here = subst (Ran (history_of cs (answers_to m cs))) (sym there) ran in
      throughout L0 L1 L2 LW (history_of cs answers) now (subst (λ (a : List (parts.Answer Told)). Ran (history_of cs a) now) (sym told) here)
