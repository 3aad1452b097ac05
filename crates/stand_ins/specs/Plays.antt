-- A scripted link plays its script: each command gets the reply of the next cue, after just as many polls as the cue says.
use Rattle.std.specs.Prelude.{◌≡◌, ℕ, ◌+◌, ◌<◌, List, length, Some, None, slice_index_or}
use Rattle.records.specs.declared.command.Command.{Command}
use Rattle.links.specs.Polls.{polled_times}
use Rattle.stand_ins.specs.declared.script.Cue.{Cue}
use Rattle.stand_ins.specs.Scripts.{ScriptedState, blank_cue, scripted_means, scripted_kind}

-- idle at a place of the script, with so many commands taken
abbrev pub idle_at : List Cue → ℕ → ℕ → ScriptedState
idle_at script at taken = record { script = script; at = at; taken = taken; held = None; cue = None; polls = 0 }

-- after the offer of a command, at that place, and so many polls
abbrev pub offered_at : ℕ → List Cue → ℕ → ℕ → Command → ℕ → ScriptedState
offered_at limit script at taken c polls =
    polled_times (scripted_kind limit) polls ((scripted_kind limit).offered (idle_at script at taken) c)

pub record Plays (limit : ℕ) (script : List Cue) (at taken : ℕ) (c : Command) : Type 0 where
  pub silent_before : (polls : ℕ) → polls < (slice_index_or script at blank_cue).polls → (scripted_means (offered_at limit script at taken c polls)).due ≡ None
  pub then_due : (scripted_means (offered_at limit script at taken c (slice_index_or script at blank_cue).polls)).due ≡ Some (slice_index_or script at blank_cue).reply
  pub idle_at_the_next : (scripted_kind limit).polled (offered_at limit script at taken c (slice_index_or script at blank_cue).polls) ≡ idle_at script (at + 1) (taken + 1)

-- So a script gives any replies in any order, each after any number of polls.
abbrev pub PlaysAnyReplies : ℕ → List Cue → Type 0
PlaysAnyReplies limit script = (at taken : ℕ) (c : Command) → at < length script → taken < 1000000 → Plays limit script at taken c
