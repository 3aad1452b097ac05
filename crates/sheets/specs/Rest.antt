-- What waits in the stores, and the machine once it is handed out.
use Rattle.std.specs.Prelude.{Bool, true, false, List, []}
use Rattle.links.specs.Meaning.{LinkKind}
use Rattle.machine.specs.Parts.{Handed}
use Rattle.machine.specs.Parts as out
use Rattle.machine.specs.Calls.{Told}
use Rattle.machine.specs.Calls.{submitted, delivered, ticked, sampled, collected}
use Rattle.machine.specs.Desks.{with_log}
use Rattle.machine.specs.Machine.{Machine, with_desk}
use Rattle.records.specs.declared.event.Event.{Event}
use Rattle.records.specs.declared.report.Report.{Report}
use Rattle.watches.specs.Meaning.{WatchKind}

abbrev pub is_nothing : Handed → Bool
is_nothing (out.event e) = false
is_nothing (out.report told) = false
is_nothing out.nothing = true

abbrev pub hands_nothing : Told → Bool
hands_nothing (submitted answer) = false
hands_nothing (delivered answer) = false
hands_nothing ticked = false
hands_nothing (sampled answer) = false
hands_nothing (collected x) = is_nothing x

module _ {K0 K1 K2 : LinkKind} {W : WatchKind} where
  abbrev pub events_waiting : Machine K0 K1 K2 W → List Event
  events_waiting m = m.desk.log.events

  abbrev pub reports_waiting : Machine K0 K1 K2 W → List Report
  reports_waiting m = m.desk.log.reports

  -- both stores empty, all else as it is
  abbrev pub emptied : Machine K0 K1 K2 W → Machine K0 K1 K2 W
  emptied m = with_desk m (with_log m.desk (record { events = []; reports = []; accepted = m.desk.log.accepted; raised = m.desk.log.raised }))
