-- Steps and settings taken one after the other.
use Rattle.std.proofs.Common.{◌≡◌, ℕ, ◌+◌, ◌-◌, ◌<◌, Bool, true, false, cond, ◌&&◌, leb, List, [], ◌∷◌, ◌++◌, map, length, get_or, take, drop, set, min, replicate, is_some, not, ltb, suc, Some, None, Option, Ok, Err, Result, sym, refl, ap, ◌∙◌, append_assoc, arith}
use Rattle.std.specs.List.{position, position_or_len}
use Rattle.std.proofs.lemmas.Bool.{eq-eqb}
use Rattle.std.proofs.lemmas.Bool.Decides.{nat_tests}
use Rattle.std.proofs.lemmas.List.{length-map, length-take, drop_min, drop_more, set_at, map_more}
use Rattle.std.proofs.lemmas.Option.{slice_get-get_or}
use Rattle.std.specs.Option.{option_and_then}
use Rattle.telecommands.specs.Fields.{blank_step}
use Rattle.records.specs.declared.fault.Fault.{Fault}
use Rattle.records.specs.declared.fault.FaultKind.TheVariants.{InvalidStep}
use Rattle.records.specs.Faults.{fault_of}
use Rattle.records.specs.declared.step.Step.{Step}
use Rattle.telecommands.specs.declared.packet.Setting.{Setting}
use Rattle.machine.specs.declared.state.Action.{Action}
use Rattle.machine.specs.declared.state.Action.TheVariants.{Wait}
use Rattle.machine.specs.declared.state.Procedure.{Procedure}
use Rattle.machine.specs.Procedures.{action_of, action_in, first_bad, steps_in, loaded_with, written_to}
use Rattle.procedures.specs.Judging.{action_at, actions_from, judged_steps}
use Rattle.telecommands.specs.Fields.{Steps}

pub bad_none : (width nop k : ℕ) → first_bad width nop k [] ≡ 0
unfolding first_bad
bad_none width nop k = refl

pub bad_stops : (width nop k : ℕ) (s : Step) (steps : List Step) → is_some (action_of width nop s) ≡ false → first_bad width nop k (s ∷ steps) ≡ k
unfolding first_bad
bad_stops width nop k s steps e = ap (λ (b : Bool). cond b (first_bad width nop (k + 1) steps) k) e

pub bad_on : (width nop k : ℕ) (s : Step) (steps : List Step) → is_some (action_of width nop s) ≡ true
    → first_bad width nop k (s ∷ steps) ≡ first_bad width nop (k + 1) steps
unfolding first_bad
bad_on width nop k s steps e = ap (λ (b : Bool). cond b (first_bad width nop (k + 1) steps) k) e

abbrev pub is_parameter : ℕ → ℕ → Bool
is_parameter nop id = leb 1 id && leb id nop

pub written_none : (nop : ℕ) (xs : List ℕ) → written_to nop xs [] ≡ record { parameters = xs; illegal = None }
unfolding written_to
written_none nop xs = refl

pub written_stops : (nop : ℕ) (xs : List ℕ) (s : Setting) (settings : List Setting) → is_parameter nop s.id ≡ false
    → written_to nop xs (s ∷ settings) ≡ record { parameters = xs; illegal = Some s.id }
unfolding written_to
written_stops nop xs s settings e =
    ap (λ (b : Bool). cond b (written_to nop (set xs (s.id - 1) s.value) settings) (record { parameters = xs; illegal = Some s.id })) e

pub written_on : (nop : ℕ) (xs : List ℕ) (s : Setting) (settings : List Setting) → is_parameter nop s.id ≡ true
    → written_to nop xs (s ∷ settings) ≡ written_to nop (set xs (s.id - 1) s.value) settings
unfolding written_to
written_on nop xs s settings e =
    ap (λ (b : Bool). cond b (written_to nop (set xs (s.id - 1) s.value) settings) (record { parameters = xs; illegal = Some s.id })) e

-- the number of the step at a place, where the first has this number; 0 where there is none
abbrev pub number_at : ℕ → Option ℕ → ℕ
number_at first None = 0
number_at first (Some place) = first + place

-- one more step before those that were judged
judged_on : (good : Bool) (k place count rest : ℕ) → rest ≡ number_at (k + 1) (cond (ltb place count) (Some place) None)
    → cond good rest k ≡ number_at k (cond (ltb (cond (not (not good)) (1 + place) 0) (suc count)) (Some (cond (not (not good)) (1 + place) 0)) None)
judged_on true k place count rest e = grind (arith, nat_tests)
judged_on false k place count rest e = grind (arith, nat_tests)

-- the first bad step has the number of its place
pub bad_at : (width nop k : ℕ) (steps : List Step)
    → first_bad width nop k steps ≡ number_at k (position (λ step. not (is_some (action_of width nop step))) steps)
unfolding first_bad
bad_at width nop k [] = refl
bad_at width nop k (s ∷ steps) =
    judged_on (is_some (action_of width nop s)) k (position_or_len (λ step. not (is_some (action_of width nop step))) steps) (length steps) (first_bad width nop (k + 1) steps)
    (bad_at width nop (k + 1) steps)

-- the place of the first bad step, as a search finds it
abbrev pub bad_place : ℕ → ℕ → List Step → Option ℕ
bad_place width nop steps = position (λ step. not (is_some (action_of width nop step))) steps

pub place_within : (width nop : ℕ) (steps : List Step) (place : ℕ) → Some place ≡ bad_place width nop steps → place < length steps
place_within width nop steps place e = grind (arith, nat_tests)

-- a bad step was found at a place, or none was
pub bad_found : (width nop : ℕ) (s : Steps) (steps : List Step) (place : ℕ) → steps ≡ steps_in s → Some place ≡ bad_place width nop steps
    → ◌≡◌ {A = Result Procedure Fault} (Err (fault_of InvalidStep (place + 1))) (judged_steps width nop s)
bad_found width nop s steps place same e =
    let number : first_bad width nop 1 (steps_in s) ≡ 1 + place =
    ap (first_bad width nop 1) (sym same) ∙ bad_at width nop 1 steps ∙ sym (ap (number_at 1) e) in
    grind (arith, nat_tests)

pub none_found : (width nop : ℕ) (s : Steps) (steps : List Step) → steps ≡ steps_in s → None ≡ bad_place width nop steps → first_bad width nop 1 (steps_in s) ≡ 0
none_found width nop s steps same e = ap (first_bad width nop 1) (sym same) ∙ bad_at width nop 1 steps ∙ sym (ap (number_at 1) e)

-- what the step at a place does, where there is one
pub action_of_step : (width nop : ℕ) (steps : List Step) (k : ℕ) → k < length steps → action_in (action_of width nop (get_or steps k blank_step)) ≡ action_at width nop steps k
action_of_step width nop steps k within =
    ap (λ (step : Option Step). action_in (option_and_then (action_of width nop) step)) (sym (slice_get-get_or steps k blank_step within))

-- the actions of the first steps, with the next one's written behind them
pub actions_more : (f : Step → Action) (steps : List Step) (places : List Action) (k : ℕ) (a : Action) → k < length steps → k < length places → f (get_or steps k blank_step) ≡ a
    → set (map f (take k steps) ++ drop k places) k a ≡ map f (take (k + 1) steps) ++ drop (k + 1) places
actions_more f steps places k a h j e =
    let front = map f (take k steps) in
    let rest = drop (k + 1) places in
    let short : length front ≡ k = length-map (take k steps) f ∙ omega (arith, length-take k steps) in
    ap (λ (l : List Action). set (front ++ l) k a) (drop_more places k a j)
    ∙ set_at front (get_or places k a) rest a k short
    ∙ sym (append_assoc front (a ∷ []) rest)
    ∙ ap (λ (l : List Action). l ++ rest) (ap (λ (x : Action). front ++ x ∷ []) (sym e) ∙ sym (map_more f steps k blank_step h))

-- steps that are all good make the procedure that the rule says
pub all_good : (width nop : ℕ) (s : Steps) (actions : List Action) → length (steps_in s) ≡ min s.count 28 → first_bad width nop 1 (steps_in s) ≡ 0
    → actions ≡ actions_from width nop (steps_in s) (replicate 28 (Wait 0))
    → ◌≡◌ {A = Result Procedure Fault} (Ok (record { nop = nop; parameters = replicate 25 0; actions = record { items = actions; count = s.count } })) (judged_steps width nop s)
all_good width nop s actions short good is =
    let blank = replicate 28 (Wait 0) in
    let bad = first_bad width nop 1 (steps_in s) in
    let rest : drop (length (steps_in s)) blank ≡ drop s.count blank = ap (λ (k : ℕ). drop k blank) short ∙ drop_min s.count blank in
    let f = λ (step : Step). action_in (action_of width nop step) in
    let same : actions ≡ map f (steps_in s) ++ drop s.count blank = is ∙ ap (λ (l : List Action). map f (steps_in s) ++ l) rest in
    ap (λ (l : List Action). Ok (record { nop = nop; parameters = replicate 25 0; actions = record { items = l; count = s.count } })) same
    ∙ sym (ap (λ (b : Bool). cond b (Ok (loaded_with width nop s)) (Err (fault_of InvalidStep bad))) (eq-eqb bad 0 good))
