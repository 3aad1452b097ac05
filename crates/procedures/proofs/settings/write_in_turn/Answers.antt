use Rattle.std.proofs.Common.{◌≡◌, ℕ, ◌+◌, true, false, List, get_or, drop, Some, sym, ap, ◌∙◌, rules}
use Rattle.std.proofs.lemmas.List.{at_drop_more, at_drop_all}
use Rattle.records.specs.declared.fault.Fault.{Fault}
use Rattle.records.specs.declared.fault.FaultKind.TheVariants.{IllegalParameterId}
use Rattle.records.specs.Faults.{fault_of}
use Rattle.telecommands.specs.declared.packet.Setting.{Setting}
use Rattle.machine.specs.Procedures.{Written, illegal_fault, written_to}
use Rattle.procedures.proofs.Turns.{is_parameter, written_none, written_stops, written_on}
use Rattle.procedures.proofs.settings.write_in_turn.Goals as goal

pub returns-then-setting-eq0 : goal.returns-then-setting-eq0
returns-then-setting-eq0 c =
    let xs : List Setting = c.args.settings.now in
    let i : ℕ = c.loop-setting.setting-index in
    let s : Setting = get_or xs i (record { id = 0; value = 0 }) in
    let e : is_parameter c.args.nop s.id ≡ false = search rules in
    let stopped = sym (c.loop-setting.invariant
    ∙ at_drop_more (written_to c.args.nop c.loop-setting.parameters) xs i (record { id = 0; value = 0 }) c.loop-setting-test.true
    ∙ written_stops c.args.nop c.loop-setting.parameters s (drop (i + 1) xs) e) in
    let fault : c.fault.result ≡ fault_of IllegalParameterId s.id = c.fault.ensures.class_from_the_table ∙ ap (fault_of IllegalParameterId) c.from.ensures in
    record {
      those_before_stay_written = ap (λ (w : Written). w.parameters) stopped;
      first_illegal_id = ap (λ (f : Fault). Some f) fault ∙ ap (λ (w : Written). illegal_fault w.illegal) stopped;
    }

pub loop-setting-preserved : goal.loop-setting-preserved
loop-setting-preserved c =
    let xs : List Setting = c.args.settings.now in
    let i : ℕ = c.loop-setting.setting-index in
    let s : Setting = get_or xs i (record { id = 0; value = 0 }) in
    let e : is_parameter c.args.nop s.id ≡ true = search rules in
    let more = c.loop-setting.invariant
    ∙ at_drop_more (written_to c.args.nop c.loop-setting.parameters) xs i (record { id = 0; value = 0 }) c.loop-setting-test.true
    ∙ written_on c.args.nop c.loop-setting.parameters s (drop (i + 1) xs) e in
    cc

pub returns : goal.returns
returns c =
    let all = sym (c.loop-setting.invariant
    ∙ at_drop_all (written_to c.args.nop c.loop-setting.parameters) c.args.settings.now c.loop-setting.setting-index c.loop-setting-test.false
    ∙ written_none c.args.nop c.loop-setting.parameters) in
    record {
      those_before_stay_written = ap (λ (w : Written). w.parameters) all;
      first_illegal_id = ap (λ (w : Written). illegal_fault w.illegal) all;
    }
