-- A scripted link plays its script.
use Rattle.std.proofs.Common.{◌≡◌, ℕ, zero, suc, ◌+◌, ◌<◌, ◌≤◌, Bool, cond, leb, List, length, get_or, Some, None, Ok, Err, ap, ◌∙◌, add-one, arith}
use Rattle.std.proofs.lemmas.Bool.{lt-ltb, le-leb, lt-leb}
use Rattle.records.specs.declared.command.Command.{Command}
use Rattle.links.specs.declared.answers.OfferRefusal.TheVariants.{Spent}
use Rattle.links.specs.Polls.{polled_times}
use Rattle.stand_ins.specs.declared.script.Cue.{Cue}
use Rattle.stand_ins.specs.Plays.{idle_at, offered_at, Plays}
use Rattle.stand_ins.specs.Scripts.{ScriptedState, blank_cue, cued_reply, scripted_means, scripted_offered, scripted_polled, scripted_kind}

-- the command of a cue held, after so many polls that found nothing
abbrev waiting : List Cue → ℕ → ℕ → Command → Cue → ℕ → ScriptedState
waiting script at taken c cue polls =
    record { script = script; at = at; taken = taken; held = Some c; cue = Some cue; polls = polls }

-- what an offer that is taken leaves, by the test whether the script goes on
abbrev taken_by : Bool → List Cue → ℕ → ℕ → Command → ScriptedState
taken_by more script at taken c =
    record { script = script; at = cond more (at + 1) at; taken = taken + 1; held = Some c; cue = cond more (Some (get_or script at blank_cue)) None; polls = 0 }

module _ (limit : ℕ) (script : List Cue) (at taken : ℕ) (c : Command) (within : at < length script) (room : taken < 1000000) where
  abbrev cue : Cue
  cue = get_or script at blank_cue

  offered : (scripted_kind limit).offered (idle_at script at taken) c ≡ waiting script (at + 1) (taken + 1) c cue 0
  offered =
      ap (λ (free : Bool). scripted_offered (cond free (Ok tt) (Err Spent)) (idle_at script at taken) c) (lt-ltb taken 1000000 room)
      ∙ ap (λ (more : Bool). taken_by more script at taken c) (lt-ltb at (length script) within)

  step : (polls : ℕ) → polls < cue.polls
      → (scripted_kind limit).polled (waiting script (at + 1) (taken + 1) c cue polls) ≡ waiting script (at + 1) (taken + 1) c cue (polls + 1)
  step polls h =
      ap (λ (waited : Bool). scripted_polled (Some c) (Some cue) waited (waiting script (at + 1) (taken + 1) c cue polls))
      (lt-leb cue.polls polls h)

  polled : (polls : ℕ) → polls ≤ cue.polls → offered_at limit script at taken c polls ≡ waiting script (at + 1) (taken + 1) c cue polls
  unfolding polled_times
  polled zero h = offered
  polled (suc polls) h =
      ap (scripted_kind limit).polled (polled polls (omega arith)) ∙ step polls h
      ∙ ap (waiting script (at + 1) (taken + 1) c cue) (add-one polls)

  due : (polls : ℕ) → polls ≤ cue.polls → (scripted_means (offered_at limit script at taken c polls)).due ≡ cued_reply (leb cue.polls polls) (Some cue)
  due polls h = ap (λ (s : ScriptedState). (scripted_means s).due) (polled polls h)

  pub plays : Plays limit script at taken c
  plays = record {
    silent_before = λ polls h. due polls (omega arith) ∙ ap (λ (waited : Bool). cued_reply waited (Some cue)) (lt-leb cue.polls polls h);
    then_due = due cue.polls (omega arith) ∙ ap (λ (waited : Bool). cued_reply waited (Some cue)) (le-leb cue.polls cue.polls (omega arith));
    idle_at_the_next =
        ap (scripted_kind limit).polled (polled cue.polls (omega arith))
        ∙ ap (λ (waited : Bool). scripted_polled (Some c) (Some cue) waited (waiting script (at + 1) (taken + 1) c cue cue.polls))
        (le-leb cue.polls cue.polls (omega arith));
  }
