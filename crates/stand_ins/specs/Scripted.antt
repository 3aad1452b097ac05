-- The state of a scripted link.
use Rattle.std.specs.Prelude.{ℕ}
use Rattle.stand_ins.specs.declared.scripted.Scripted.{Scripted}
use Rattle.stand_ins.specs.Scripts.{ScriptedState}

abbrev pub scripted_state : {ticks : ℕ} → Scripted ticks → ScriptedState
scripted_state link = record { script = link.script; at = link.at; taken = link.intake.taken; held = link.intake.held; cue = link.cue; polls = link.polls }
