-- What an intake means to a link that has nothing due.
use Rattle.std.specs.Prelude.{None}
use Rattle.links.specs.declared.intake.Intake.{Intake}
use Rattle.links.specs.Meaning.{LinkMeaning}

abbrev pub intake_means : Intake → LinkMeaning
intake_means i = record { taken = i.taken; held = i.held; due = None }
