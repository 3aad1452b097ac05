use Rattle.std.proofs.Common.{refl}
use Rattle.telecommand_text.specs.Words.{setting_text}
use Rattle.telecommand_text.proofs.Following.{written_more}
use Rattle.telecommand_text.proofs.words.write_settings.Goals as goal

pub loop-setting-preserved : goal.loop-setting-preserved
loop-setting-preserved g c =
    λ plain.
    let so = c.loop-setting.invariant plain in
    written_more _ _ _ _ setting_text c.args.settings.now c.loop-setting.setting-index _ c.loop-setting-test.true so (c.in_ok-write_setting.ensures.id_and_value so.plain refl)
