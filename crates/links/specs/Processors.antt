-- The processor kind: which reply a command gets, and after how many polls.
use Rattle.std.specs.Prelude.{ℕ, ◌+◌, ◌≤◌, Bool, true, false, cond, ◌&&◌, [], Some, None, Ok, Err, Option, Result, ◌==◌, nat_le}
use Rattle.records.specs.declared.command.Command.{Command}
use Rattle.records.specs.declared.command.Reply.{Reply}
use Rattle.records.specs.declared.command.Reply.TheVariants.{Ack, Nack}
use Rattle.links.specs.declared.answers.OfferRefusal.{OfferRefusal}
use Rattle.links.specs.declared.processor.Processor.{Processor}
use Rattle.links.specs.Meaning.{LinkMeaning, LinkKind, offer_answer}

-- the first part that is wrong turns the command down
abbrev pub reply_to : Command → Reply
reply_to c =
    cond (nat_le 0x07 c.id && nat_le c.id 0x0B)
    (cond (c.sid == 0) (cond (c.parameter == 0) Ack (Nack 0x79 c.parameter)) (Nack 0x78 c.sid))
    (Nack 0x77 c.id)

-- polls: how many polls of the held command found nothing
pub record ProcessorState : Type 0 where
  pub delay : ℕ
  pub taken : ℕ
  pub held : Option Command
  pub polls : ℕ

abbrev pub processor_state : Processor → ProcessorState
processor_state p = record { delay = p.delay; taken = p.intake.taken; held = p.intake.held; polls = p.polls }

-- idle, with so many taken
abbrev pub processor_idle : ProcessorState → ProcessorState
processor_idle s = record { delay = s.delay; taken = s.taken; held = None; polls = 0 }

-- a held command's reply is due once as many polls as the delay found nothing
abbrev pub processor_due : Option Command → Bool → Option Reply
processor_due None waited = None
processor_due (Some c) waited = cond waited (Some (reply_to c)) None

abbrev pub has_waited : ProcessorState → Bool
has_waited s = nat_le s.delay s.polls

abbrev pub processor_means : ProcessorState → LinkMeaning
processor_means s = record { taken = s.taken; held = s.held; due = processor_due s.held (has_waited s) }

abbrev pub processor_offered : Result (Unit {0}) OfferRefusal → ProcessorState → Command → ProcessorState
processor_offered (Ok u) s c = record { delay = s.delay; taken = s.taken + 1; held = Some c; polls = 0 }
processor_offered (Err refusal) s c = s

abbrev pub processor_polled : Option Command → Bool → ProcessorState → ProcessorState
processor_polled None waited s = s
processor_polled (Some c) true s = processor_idle s
processor_polled (Some c) false s = record { delay = s.delay; taken = s.taken; held = Some c; polls = s.polls + 1 }

abbrev pub processor_kind : LinkKind
processor_kind = record {
  State = ProcessorState;
  Ok = λ s. s.taken ≤ 1000000;
  means = processor_means;
  offered = λ s c. processor_offered (offer_answer (processor_means s)) s c;
  polled = λ s. processor_polled s.held (has_waited s) s;
  received = λ s bytes. s;
  abandoned = processor_idle;
  message = λ s. [];
  limit = 20;
}
