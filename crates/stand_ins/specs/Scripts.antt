-- The scripted kind: what its script makes of each call.
use Rattle.std.specs.Prelude.{ℕ, ◌+◌, ◌≤◌, min, max, Bool, true, false, cond, List, [], length, Some, None, Ok, Err, Option, Result, nat_le, nat_lt, slice_index_or}
use Rattle.records.specs.declared.command.Command.{Command}
use Rattle.records.specs.declared.command.Reply.{Reply}
use Rattle.records.specs.declared.command.Reply.TheVariants.{Ack}
use Rattle.links.specs.declared.answers.OfferRefusal.{OfferRefusal}
use Rattle.links.specs.Meaning.{LinkMeaning, LinkKind, offer_answer}
use Rattle.stand_ins.specs.declared.script.Cue.{Cue}

abbrev pub blank_cue : Cue
blank_cue = record { polls = 0; reply = Ack }

-- the place of the next cue in the script; the cue for the held command; how many polls of that found nothing
pub record ScriptedState : Type 0 where
  pub script : List Cue
  pub at : ℕ
  pub taken : ℕ
  pub held : Option Command
  pub cue : Option Cue
  pub polls : ℕ

-- the cue at a place of the script; none past its end
abbrev pub cue_at : List Cue → ℕ → Option Cue
cue_at script at = cond (nat_lt at (length script)) (Some (slice_index_or script at blank_cue)) None

-- the next place, as long as the script goes on
abbrev pub next_place : List Cue → ℕ → ℕ
next_place script at = cond (nat_lt at (length script)) (at + 1) at

-- whether the held command has a cue, and has waited as many polls as it says
abbrev pub has_waited : Option Cue → ℕ → Bool
has_waited None polls = false
has_waited (Some cue) polls = nat_le cue.polls polls

abbrev pub cued_reply : Bool → Option Cue → Option Reply
cued_reply waited None = None
cued_reply true (Some cue) = Some cue.reply
cued_reply false (Some cue) = None

abbrev pub scripted_due : Option Command → Option Cue → ℕ → Option Reply
scripted_due None cue polls = None
scripted_due (Some c) cue polls = cued_reply (has_waited cue polls) cue

abbrev pub scripted_means : ScriptedState → LinkMeaning
scripted_means s = record { taken = s.taken; held = s.held; due = scripted_due s.held s.cue s.polls }

abbrev pub scripted_idle : ScriptedState → ScriptedState
scripted_idle s = record { script = s.script; at = s.at; taken = s.taken; held = None; cue = None; polls = 0 }

abbrev pub scripted_offered : Result (Unit {0}) OfferRefusal → ScriptedState → Command → ScriptedState
scripted_offered (Ok u) s c =
    record { script = s.script; at = next_place s.script s.at; taken = s.taken + 1; held = Some c; cue = cue_at s.script s.at; polls = 0 }
scripted_offered (Err refusal) s c = s

-- a poll that finds a cue not yet due counts; without a cue nothing changes
abbrev pub scripted_polled : Option Command → Option Cue → Bool → ScriptedState → ScriptedState
scripted_polled None cue waited s = s
scripted_polled (Some c) None waited s = s
scripted_polled (Some c) (Some cue) true s = scripted_idle s
scripted_polled (Some c) (Some cue) false s =
    record { script = s.script; at = s.at; taken = s.taken; held = Some c; cue = Some cue; polls = s.polls + 1 }

-- the wait limit of 1 to 50 that is nearest to so many ticks
abbrev pub nearest_limit : ℕ → ℕ
nearest_limit ticks = max 1 (min ticks 50)

abbrev pub scripted_kind : ℕ → LinkKind
scripted_kind limit = record {
  State = ScriptedState;
  Ok = λ s. (s.taken ≤ 1000000);
  means = scripted_means;
  offered = λ s c. scripted_offered (offer_answer (scripted_means s)) s c;
  polled = λ s. scripted_polled s.held s.cue (has_waited s.cue s.polls) s;
  received = λ s bytes. s;
  abandoned = scripted_idle;
  message = λ s. [];
  limit = limit;
}
