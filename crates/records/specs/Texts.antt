-- Records in words.
use Rattle.std.specs.Prelude.{ℕ, List, [], ◌∷◌, ◌++◌, codes, decimal}
use Rattle.records.specs.declared.event.Event.{Event}
use Rattle.records.specs.declared.fault.Fault.{Fault}
use Rattle.records.specs.declared.refusal.Refusal.{Refusal}
use Rattle.records.specs.declared.report.Report.{Report}
use Rattle.records.specs.declared.report.Stage.{Stage}
use Rattle.records.specs.declared.report.Stage.TheVariants.{Started, Done, Failed}
use Rattle.records.specs.Events.{event_number, event_name}
use Rattle.records.specs.Faults.{fault_number, fault_name, class_number}
use Rattle.records.specs.Refusals.{refusal_number, refusal_name, refusal_parameter}

-- a word and those after it, with single spaces between them
abbrev pub spaced : List ℕ → List (List ℕ) → List ℕ
spaced word [] = word
spaced word (next ∷ more) = word ++ 32 ∷ spaced next more

abbrev pub refused_text : Refusal → List ℕ
refused_text why =
    spaced (codes "refused")
    (decimal (refusal_number why) ∷ refusal_name why ∷ codes "parameter" ∷ decimal (refusal_parameter why) ∷ [])

abbrev pub event_text : Event → List ℕ
event_text e =
    spaced (codes "event")
    (decimal (event_number e.kind) ∷ event_name e.kind ∷ codes "place" ∷ decimal e.place ∷ codes "value" ∷ decimal e.value ∷ [])

-- all six fields, zeros too
abbrev pub fault_text : Fault → List ℕ
fault_text f =
    spaced (codes "fault")
    (decimal (fault_number f.kind) ∷ fault_name f.kind ∷ codes "class" ∷ decimal (class_number f.class) ∷ codes "parameter" ∷ decimal f.parameter ∷ codes "step" ∷ decimal f.step ∷ codes "code" ∷ decimal f.code ∷ codes "detail" ∷ decimal f.detail ∷ [])

abbrev pub stage_text : Stage → List ℕ
stage_text Started = codes "STARTED"
stage_text (Done sent) = spaced (codes "DONE") (codes "sent" ∷ decimal sent ∷ [])
stage_text (Failed sent f) = spaced (codes "FAILED") (codes "sent" ∷ decimal sent ∷ fault_text f ∷ [])

abbrev pub report_text : Report → List ℕ
report_text told = spaced (codes "report") (decimal told.number ∷ stage_text told.stage ∷ [])
