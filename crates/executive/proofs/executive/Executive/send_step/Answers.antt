use Rattle.std.proofs.Common.{◌≡◌, ℕ, Some, Ok, Err, Result, sym, ap, ◌∙◌, rules}
use Rattle.desks.specs.declared.chain.StepFault.{StepFault}
use Rattle.desks.specs.Chains.{in_step}
use Rattle.machine.specs.declared.state.RunState.TheVariants.{Sent}
use Rattle.machine.specs.Desks.{with_run}
use Rattle.machine.specs.Machine.{Machine, with_desk}
use Rattle.executive.specs.Meaning.{meaning}
use Rattle.executive.specs.Sends.{finished_step}
use Rattle.executive.proofs.Sending.{steps}
use Rattle.executive.proofs.executive.Executive.send_step.Goals as goal

pub returns-in_err-in_step : goal.returns-in_err-in_step
returns-in_err-in_step g c =
    let m = meaning g.A.Link g.B.Link g.C.Link g.W.Watch c.args.self.now in
    let sent = meaning g.A.Link g.B.Link g.C.Link g.W.Watch c.send-answer.new.self in
    let passed_on : c.from_residual.result ≡ Err c.in_err-in_step.field-0.0 = search rules in
    let is = sym c.in_err-in_step.was ∙ c.in_step.ensures.fault_with_its_step ∙ ap (λ (k : ℕ). in_step k c.send-answer.result) c.standing.ensures.from_1 in
    record {
      sent_or_its_fault = ap (λ (x : Result (Unit {0}) StepFault). finished_step x c.args.run sent) passed_on
          ∙ steps m sent c.send-answer.result (Err c.in_err-in_step.field-0.0) c.args.run c.args.link c.args.command is
          c.send-answer.ensures.blocked_before_offered c.send-answer.ensures.that_link_only;
    }

pub returns : goal.returns
returns g c =
    let m = meaning g.A.Link g.B.Link g.C.Link g.W.Watch c.args.self.now in
    let sent = meaning g.A.Link g.B.Link g.C.Link g.W.Watch c.send-answer.new.self in
    let r = c.args.run in
    let more = ap (λ (k : ℕ). with_desk sent (with_run sent.desk (Some (record { id = r.id; number = r.number; step = r.step; sent = k; state = Sent c.args.link })))) c.saturating_add.ensures in
    let seen = ap (meaning g.A.Link g.B.Link g.C.Link g.W.Watch) c.self.view_is in
    let opened = ap (λ (x : Machine g.A.Link.kind g.B.Link.kind g.C.Link.kind g.W.Watch.kind). with_desk x (with_run x.desk (Some (record { id = r.id; number = r.number; step = r.step; sent = c.saturating_add.result; state = Sent c.args.link })))) seen in
    let is = sym c.in_ok-in_step.was ∙ c.in_step.ensures.fault_with_its_step ∙ ap (λ (k : ℕ). in_step k c.send-answer.result) c.standing.ensures.from_1 in
    record {
      sent_or_its_fault = opened ∙ more ∙ steps m sent c.send-answer.result (Ok c.in_ok-in_step.field-0) r c.args.link c.args.command is
          c.send-answer.ensures.blocked_before_offered c.send-answer.ensures.that_link_only;
    }
