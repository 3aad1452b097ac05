-- Tick: the links in turn, then one step of the run.
use Rattle.std.specs.Prelude.{ℕ, ◌+◌, cond, Some, None, Ok, Err, Option, Result}
use Rattle.links.specs.declared.answers.OfferRefusal.{OfferRefusal}
use Rattle.links.specs.Meaning.{LinkKind, offer_answer}
use Rattle.records.specs.declared.command.Command.{Command}
use Rattle.records.specs.declared.fault.FaultKind.TheVariants.{UnitStopped}
use Rattle.records.specs.Faults.{fault_of}
use Rattle.watches.specs.Meaning.{WatchKind}
use Rattle.machine.specs.declared.state.Action.{Action}
use Rattle.machine.specs.declared.state.Action.TheVariants.{Wait, Send, Expect}
use Rattle.machine.specs.declared.state.Owner.TheVariants as owner
use Rattle.machine.specs.declared.state.Run.{Run}
use Rattle.machine.specs.declared.state.RunState.{RunState}
use Rattle.machine.specs.declared.state.RunState.TheVariants.{Ready, Sent}
use Rattle.machine.specs.Desks.{with_run, is_blocked, procedure_at, failed_run}
use Rattle.machine.specs.Seats.{Turn, turn}
use Rattle.machine.specs.Parts.{offer_fault, sent_on, action_at, parameter_of, waited, expected, Answer}
use Rattle.machine.specs.Executive.{with_desk, means_at, offered_at, Machine}

module _ {K0 K1 K2 : LinkKind} {W : WatchKind} where
  -- a run's offer, by its answer
  abbrev pub sent_by : Result (Unit {0}) OfferRefusal → Machine K0 K1 K2 W → Run → ℕ → Command → Machine K0 K1 K2 W
  sent_by (Ok u) m r link c = with_desk (offered_at m link c owner.Procedure) (with_run m.desk (Some (sent_on r link)))
  sent_by (Err refusal) m r link c =
      with_desk (offered_at m link c owner.Procedure) (failed_run (Some r) (fault_of (offer_fault refusal) link) m.desk)

  abbrev pub sending : Machine K0 K1 K2 W → Run → ℕ → Command → Machine K0 K1 K2 W
  sending m r link c =
      cond (is_blocked m.desk link) (with_desk m (failed_run (Some r) (fault_of UnitStopped link) m.desk))
      (sent_by (offer_answer (means_at m link)) m r link c)

  -- one step of a run, after so many ticks spent on it
  abbrev pub stepped : Action → Run → ℕ → Machine K0 K1 K2 W → Machine K0 K1 K2 W
  stepped (Wait ticks) r spent m = with_desk m (waited r spent ticks m.desk)
  stepped (Send link id sid v) r spent m =
      sending m r link (record { id = id; sid = sid; parameter = parameter_of (procedure_at m.desk r.id) v })
  stepped (Expect f) r spent m = with_desk m (expected r f (W.trouble m.watch f) m.desk)

  -- a run that waits for an answer takes no step
  abbrev pub stepped_in : RunState → Run → Machine K0 K1 K2 W → Machine K0 K1 K2 W
  stepped_in (Ready spent) r m = stepped (action_at (procedure_at m.desk r.id) r.step) r spent m
  stepped_in (Sent link) r m = m

  abbrev pub stepped_run : Option Run → Machine K0 K1 K2 W → Machine K0 K1 K2 W
  stepped_run None m = m
  stepped_run (Some r) m = stepped_in r.state r m

  -- the three links in turn, then the step
  abbrev pub ticked_of : Machine K0 K1 K2 W → Turn K0 → Turn K1 → Turn K2 → Machine K0 K1 K2 W
  ticked_of m t0 t1 t2 =
      stepped_run t2.desk.run (record { seat0 = t0.seat; seat1 = t1.seat; seat2 = t2.seat; watch = m.watch; desk = t2.desk })

  abbrev pub turn0 : Machine K0 K1 K2 W → Turn K0
  turn0 m = turn 0 m.seat0 m.desk

  abbrev pub turn1 : Machine K0 K1 K2 W → Turn K1
  turn1 m = turn 1 m.seat1 (turn0 m).desk

  abbrev pub turn2 : Machine K0 K1 K2 W → Turn K2
  turn2 m = turn 2 m.seat2 (turn1 m).desk

  abbrev pub tick_answer : Machine K0 K1 K2 W → Answer (Unit {0})
  tick_answer m = record {
    outcome = tt;
    raised = (turn0 m).raised + (turn1 m).raised + (turn2 m).raised;
    lost = (turn0 m).lost + (turn1 m).lost + (turn2 m).lost;
  }

  abbrev pub after_tick : Machine K0 K1 K2 W → Machine K0 K1 K2 W
  after_tick m = ticked_of m (turn0 m) (turn1 m) (turn2 m)
