use Rattle.std.proofs.Common.{ℕ, Some, Ok, Err, sym, ap, ◌∙◌}
use Rattle.desks.specs.Logs.{settled_in}
use Rattle.machine.specs.declared.state.Owner.TheVariants as owner
use Rattle.machine.specs.Desks.{Log, filed, settled}
use Rattle.machine.specs.Machine.{with_desk}
use Rattle.records.specs.declared.fault.Fault.{Fault}
use Rattle.records.specs.declared.report.Stage.TheVariants.{Started}
use Rattle.executive.specs.Meaning.{meaning}
use Rattle.executive.specs.Sends.{after_send}
use Rattle.executive.proofs.Sending.{left_on, triggers}
use Rattle.executive.proofs.executive.Executive.trigger.Goals as goal

pub returns-in-Ok : goal.returns-in-Ok
returns-in-Ok g c =
    let m = meaning g.A.Link g.B.Link g.C.Link g.W.Watch c.args.self.now in
    let sent = meaning g.A.Link g.B.Link g.C.Link g.W.Watch c.send.new.self in
    let seen = ap (meaning g.A.Link g.B.Link g.C.Link g.W.Watch) c.self.view_is in
    let told = left_on seen (λ (l : Log). filed l c.args.ticket.number Started) c.park.new.log c.park.ensures.started in
    let after = c.send.ensures.that_link_only ∙ ap (λ (n : ℕ). after_send m c.args.link c.args.command (owner.Telecommand n)) c.number.ensures.its_own in
    record {
      pending_or_failed = told ∙ triggers m sent (Ok c.in-Ok.field-0) c.args.ticket.number c.args.link c.args.command
          (sym c.in-Ok.is ∙ c.send.ensures.blocked_before_offered) after;
    }

pub returns-in-Err : goal.returns-in-Err
returns-in-Err g c =
    let m = meaning g.A.Link g.B.Link g.C.Link g.W.Watch c.args.self.now in
    let sent = meaning g.A.Link g.B.Link g.C.Link g.W.Watch c.send.new.self in
    let seen = ap (meaning g.A.Link g.B.Link g.C.Link g.W.Watch) c.self.view_is in
    let told = left_on seen (settled_in c.args.ticket.number (Err c.from.result)) c.settle.new.log c.settle.ensures.one_final_report in
    let fault = ap (λ (f : Fault). with_desk sent (settled c.args.ticket.number (Some f) sent.desk)) c.from.ensures in
    let after = c.send.ensures.that_link_only ∙ ap (λ (n : ℕ). after_send m c.args.link c.args.command (owner.Telecommand n)) c.number.ensures.its_own in
    record {
      pending_or_failed = told ∙ fault ∙ triggers m sent (Err c.in-Err.fault) c.args.ticket.number c.args.link c.args.command
          (sym c.in-Err.is ∙ c.send.ensures.blocked_before_offered) after;
    }
