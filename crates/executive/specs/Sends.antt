-- Sends and steps of a run, with the fault that they answer.
use Rattle.std.specs.Prelude.{ℕ, cond, Ok, Err, Result}
use Rattle.desks.specs.declared.chain.LinkFault.{LinkFault}
use Rattle.desks.specs.declared.chain.LinkFault.TheVariants.{Stopped, Used, Worn}
use Rattle.desks.specs.declared.chain.StepFault.{StepFault}
use Rattle.desks.specs.Chains.{step_fault}
use Rattle.desks.specs.Desked.{run_ended}
use Rattle.links.specs.declared.answers.OfferRefusal.{OfferRefusal}
use Rattle.links.specs.declared.answers.OfferRefusal.TheVariants.{Busy, Spent}
use Rattle.links.specs.Meaning.{LinkKind, offer_answer}
use Rattle.machine.specs.declared.state.Owner.{Owner}
use Rattle.machine.specs.Desks.{is_blocked}
use Rattle.machine.specs.declared.state.Run.{Run}
use Rattle.machine.specs.Machine.{Machine, expected, with_desk, means_at, offered_at, turn0, turn1, turn2}
use Rattle.records.specs.declared.command.Command.{Command}
use Rattle.records.specs.declared.fault.Fault.{Fault}
use Rattle.records.specs.declared.report.Stage.TheVariants.{Failed}
use Rattle.watches.specs.Meaning.{WatchKind}

-- an offer's answer, with the link
abbrev pub offered_to : ℕ → Result (Unit {0}) OfferRefusal → Result (Unit {0}) LinkFault
offered_to link (Ok u) = Ok u
offered_to link (Err Busy) = Err (Used link)
offered_to link (Err Spent) = Err (Worn link)

module _ {K0 K1 K2 : LinkKind} {W : WatchKind} where
  abbrev pub send_answer : Machine K0 K1 K2 W → ℕ → Result (Unit {0}) LinkFault
  send_answer m link = cond (is_blocked m.desk link) (Err (Stopped link)) (offered_to link (offer_answer (means_at m link)))

  abbrev pub after_send : Machine K0 K1 K2 W → ℕ → Command → Owner → Machine K0 K1 K2 W
  after_send m link c o = cond (is_blocked m.desk link) m (offered_at m link c o)

  -- the machine after the three links had their turns
  abbrev pub turned : Machine K0 K1 K2 W → Machine K0 K1 K2 W
  turned m = record { seat0 = (turn0 m).seat; seat1 = (turn1 m).seat; seat2 = (turn2 m).seat; watch = m.watch; desk = (turn2 m).desk }

  -- a fault that a step met ends the run
  abbrev pub finished : Result (Unit {0}) Fault → Run → Machine K0 K1 K2 W → Machine K0 K1 K2 W
  finished (Ok u) r m = m
  finished (Err f) r m = with_desk m (run_ended r (Failed r.sent f) m.desk)

  abbrev pub finished_step : Result (Unit {0}) StepFault → Run → Machine K0 K1 K2 W → Machine K0 K1 K2 W
  finished_step (Ok u) r m = m
  finished_step (Err f) r m = with_desk m (run_ended r (Failed r.sent (step_fault f)) m.desk)

  -- an EXPECT, as a step
  abbrev pub expecting : Machine K0 K1 K2 W → Run → ℕ → Machine K0 K1 K2 W
  expecting m r f = with_desk m (expected r f (W.trouble m.watch f) m.desk)
