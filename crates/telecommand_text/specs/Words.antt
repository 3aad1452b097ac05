-- A telecommand in words.
use Rattle.std.specs.Prelude.{ℕ, Bool, cond, ◌&&◌, List, [], ◌∷◌, ◌++◌, take, codes, ◌==◌}
use Rattle.std.specs.Fmt.{decimal}
use Rattle.std.specs.List.{flat_map}
use Rattle.records.specs.declared.step.Step.{Step}
use Rattle.telecommands.specs.declared.packet.Setting.{Setting}
use Rattle.telecommands.specs.declared.packet.Telecommand.{Telecommand}
use Rattle.telecommands.specs.declared.packet.Telecommand.TheVariants.{Test, Perform, Load, Delete, Start, Stop, Set}

-- a step by name has all its unused fields 0
abbrev pub is_wait : Step → Bool
is_wait s = s.op == 2 && s.b == 0 && s.u == 0 && s.v == 0

abbrev pub is_expect : Step → Bool
is_expect s = s.op == 3 && s.w == 0 && s.u == 0 && s.v == 0

-- every field of a step
abbrev pub raw_step_text : Step → List ℕ
raw_step_text s =
    codes "op " ++ (decimal s.op ++ (codes " B " ++ (decimal s.b ++ (codes " W " ++ (decimal s.w ++ (codes " U " ++ (decimal s.u ++ (codes " V " ++ decimal s.v))))))))

-- a SEND with its four fields, a WAIT, an EXPECT; any other step with every field
abbrev pub step_text : Step → List ℕ
step_text s =
    cond (s.op == 1)
    (codes "SEND link " ++ (decimal s.b ++ (codes " command " ++ (decimal s.w ++ (codes " SID " ++ (decimal s.u ++ (codes " parameter " ++ decimal s.v)))))))
    (cond (is_wait s) (codes "WAIT " ++ decimal s.w)
    (cond (is_expect s) (codes "EXPECT function " ++ decimal s.b) (raw_step_text s)))

-- a step behind another
abbrev pub next_step_text : Step → List ℕ
next_step_text s = codes "; " ++ step_text s

abbrev pub steps_text : List Step → List ℕ
steps_text [] = []
steps_text (s ∷ others) = step_text s ++ flat_map next_step_text others

abbrev pub setting_text : Setting → List ℕ
setting_text s = codes ", parameter " ++ (decimal s.id ++ (codes " = " ++ decimal s.value))

abbrev pub settings_text : List Setting → List ℕ
settings_text settings = flat_map setting_text settings

abbrev pub telecommand_text : Telecommand → List ℕ
telecommand_text Test = codes "test connection"
telecommand_text (Perform function activity sid value) =
    codes "perform activity: function " ++ (decimal function ++ (codes ", activity " ++ (decimal activity ++ (codes ", SID " ++ (decimal sid ++ (codes ", value " ++ decimal value))))))
telecommand_text (Load id nop steps) =
    codes "load procedure " ++ (decimal id ++ (codes ": NoP " ++ (decimal nop ++ (codes ", steps: " ++ steps_text (take steps.count steps.items)))))
telecommand_text (Delete id) = codes "delete procedure " ++ decimal id
telecommand_text (Start id settings) = codes "start procedure " ++ (decimal id ++ settings_text (take settings.count settings.items))
telecommand_text (Stop id) = codes "stop procedure " ++ decimal id
telecommand_text (Set id settings) = codes "set parameters of procedure " ++ (decimal id ++ settings_text (take settings.count settings.items))
