use Rattle.std.proofs.Common.{◌≡◌, ◌≢◌, Bool, false, cond, eqb, sym, ap, ◌∙◌, arith}
use Rattle.std.proofs.lemmas.Bool.{ne_eqb}
use Rattle.std.proofs.lemmas.Bool.Decides.{nat_tests}
use Rattle.std.proofs.Output.{has_written_of_eq}
use Rattle.records.specs.declared.step.Step.{Step}
use Rattle.telecommand_text.specs.Words.{is_wait, is_expect, raw_step_text, step_text}
use Rattle.telecommand_text.proofs.words.write_step.Goals as goal
use Rattle.telecommand_text.proofs.words.write_step.Goals.{in_default-via-in-Some-Wait+then-b-eq0+then-u-eq0+else-v-eq0, in_default-via-in-Some-Wait+then-b-eq0+else-u-eq0, in_default-via-in-Some-Wait+else-b-eq0, in_default-via-in-Some-Expect+then-w-eq0+then-u-eq0-2+else-v-eq0-2, in_default-via-in-Some-Expect+then-w-eq0+else-u-eq0-2, in_default-via-in-Some-Expect+else-w-eq0, in_default-via-in_default}

-- where no test is met, the last choice is left
last_left : {X : Type 0} (a b c : Bool) (x y z last : X) → a ≡ false → b ≡ false → c ≡ false → last ≡ cond a x (cond b y (cond c z last))
last_left a b c x y z last p q r =
    sym (ap (λ (t : Bool). cond t x (cond b y (cond c z last))) p
    ∙ ap (λ (t : Bool). cond t y (cond c z last)) q
    ∙ ap (λ (t : Bool). cond t z last) r)

raw_is : (s : Step) → s.op ≢ 1 → is_wait s ≡ false → is_expect s ≡ false → raw_step_text s ≡ step_text s
raw_is s other waits expects = last_left (eqb s.op 1) (is_wait s) (is_expect s) _ _ _ (raw_step_text s) (ne_eqb s.op 1 other) waits expects

pub returns-in_default : goal.returns-in_default
returns-in_default g c =
    let s : Step = c.args.step.now in
    let told = c.operation.ensures.of_its_number in
    let raw : raw_step_text s ≡ step_text s = elim c.in_default.branch [
      | in_default-via-in-Some-Wait+then-b-eq0+then-u-eq0+else-v-eq0 w ↦ raw_is s (grind (arith, nat_tests)) (grind (arith, nat_tests)) (grind (arith, nat_tests))
      | in_default-via-in-Some-Wait+then-b-eq0+else-u-eq0 w ↦ raw_is s (grind (arith, nat_tests)) (grind (arith, nat_tests)) (grind (arith, nat_tests))
      | in_default-via-in-Some-Wait+else-b-eq0 w ↦ raw_is s (grind (arith, nat_tests)) (grind (arith, nat_tests)) (grind (arith, nat_tests))
      | in_default-via-in-Some-Expect+then-w-eq0+then-u-eq0-2+else-v-eq0-2 w ↦ raw_is s (grind (arith, nat_tests)) (grind (arith, nat_tests)) (grind (arith, nat_tests))
      | in_default-via-in-Some-Expect+then-w-eq0+else-u-eq0-2 w ↦ raw_is s (grind (arith, nat_tests)) (grind (arith, nat_tests)) (grind (arith, nat_tests))
      | in_default-via-in-Some-Expect+else-w-eq0 w ↦ raw_is s (grind (arith, nat_tests)) (grind (arith, nat_tests)) (grind (arith, nat_tests))
      | in_default-via-in_default w ↦ raw_is s (grind (arith, nat_tests)) (grind (arith, nat_tests)) (grind (arith, nat_tests))
    ] in
    record { by_its_operation = λ plain ok. has_written_of_eq _ _ _ _ _ raw (c.write_raw_step.ensures.every_field plain ok) }
