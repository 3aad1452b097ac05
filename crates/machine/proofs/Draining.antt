-- Collects alone hand out what waits: events before reports, each oldest first.
use Rattle.std.proofs.Common.{◌≡◌, ℕ, ◌+◌, List, [], ◌∷◌, ◌++◌, length, replicate, sym, refl, ap, subst, suc-add, zero-add}
use Rattle.links.specs.Meaning.{LinkKind}
use Rattle.records.specs.declared.event.Event.{Event}
use Rattle.records.specs.declared.report.Report.{Report}
use Rattle.watches.specs.Meaning.{WatchKind}
use Rattle.machine.specs.Calls.{Call, collect, answers_to}
use Rattle.machine.specs.Calls.{Told}
use Rattle.machine.specs.Calls.{collected}
use Rattle.machine.specs.Desks.{Log, with_log}
use Rattle.machine.specs.Laws.{handings}
use Rattle.machine.specs.Machine.{Machine, Answer, quiet, with_desk}
use Rattle.machine.specs.Parts as out

abbrev with_stores : Log → List Event → List Report → Log
with_stores l events reports = record { events = events; reports = reports; accepted = l.accepted; raised = l.raised }

abbrev collects : ℕ → List Call
collects n = replicate n collect ++ collect ∷ []

module _ {K0 K1 K2 : LinkKind} {W : WatchKind} where
  abbrev stored : Machine K0 K1 K2 W → List Event → List Report → Machine K0 K1 K2 W
  stored m events reports = with_desk m (with_log m.desk (with_stores m.desk.log events reports))

  reports_out : (m : Machine K0 K1 K2 W) (reports : List Report)
      → answers_to (stored m [] reports) (collects (length reports)) ≡ handings [] reports ++ quiet (collected out.nothing) ∷ []
  unfolding answers_to
  reports_out m [] = refl
  reports_out m (r ∷ reports) = ap (λ (rest : List (Answer Told)). quiet (collected (out.report r)) ∷ rest) (reports_out m reports)

  all_out : (m : Machine K0 K1 K2 W) (events : List Event) (reports : List Report)
      → answers_to (stored m events reports) (collects (length events + length reports)) ≡ handings events reports ++ quiet (collected out.nothing) ∷ []
  unfolding answers_to
  all_out m [] reports = subst (λ (n : ℕ). answers_to (stored m [] reports) (collects n) ≡ handings [] reports ++ quiet (collected out.nothing) ∷ []) (sym (zero-add (length reports))) (reports_out m reports)
  all_out m (e ∷ events) reports =
      subst (λ (n : ℕ). answers_to (stored m (e ∷ events) reports) (collects n) ≡ handings (e ∷ events) reports ++ quiet (collected out.nothing) ∷ [])
      (sym (suc-add (length events) (length reports)))
      (ap (λ (rest : List (Answer Told)). quiet (collected (out.event e)) ∷ rest) (all_out m events reports))

  pub drained : (m : Machine K0 K1 K2 W)
      → answers_to m (collects (length m.desk.log.events + length m.desk.log.reports)) ≡ handings m.desk.log.events m.desk.log.reports ++ quiet (collected out.nothing) ∷ []
  drained m = all_out m m.desk.log.events m.desk.log.reports
