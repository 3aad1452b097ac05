use Rattle.std.proofs.Common.{◌≡◌, min, length, replicate, Err, Result, ap, ◌∙◌, arith, rules}
use Rattle.records.specs.declared.fault.Fault.{Fault}
use Rattle.machine.specs.declared.state.Action.TheVariants.{Wait}
use Rattle.machine.specs.declared.state.Procedure.{Procedure}
use Rattle.machine.specs.Procedures.{first_bad, steps_in}
use Rattle.procedures.specs.Judging.{actions_from}
use Rattle.procedures.proofs.Turns.{place_within, bad_found, none_found, all_good}
use Rattle.procedures.proofs.steps.procedure_of.Goals as goal

pub bad_step-requires : goal.bad_step-requires
bad_step-requires c = omega (arith, place_within c.args.width c.args.nop c.as_slice-steps.result.now c.in-Some.place c.in-Some.ensures.first_without_an_action)

pub returns-in-Some : goal.returns-in-Some
returns-in-Some c =
    let named : ◌≡◌ {A = Result Procedure Fault} (Err c.bad_step.result) _ = ap (λ (f : Fault). Err f) c.bad_step.ensures.numbered_from_1 in
    record {
      all_good_or_the_first_bad = named
          ∙ bad_found c.args.width c.args.nop c.args.steps.now c.as_slice-steps.result.now c.in-Some.place c.as_slice-steps.ensures.first_places c.in-Some.ensures.first_without_an_action;
    }

pub returns : goal.returns
returns c =
    let s = c.args.steps.now in
    let short : length (steps_in s) ≡ min s.count 28 = search rules in
    let none : first_bad c.args.width c.args.nop 1 (steps_in s) ≡ 0 =
    none_found c.args.width c.args.nop s c.as_slice-steps.result.now c.as_slice-steps.ensures.first_places c.in_default.ensures.first_without_an_action in
    let all : c.actions-items.result ≡ actions_from c.args.width c.args.nop (steps_in s) (replicate 28 (Wait 0)) = search rules in
    record { all_good_or_the_first_bad = all_good c.args.width c.args.nop s c.actions-items.result short none all }
