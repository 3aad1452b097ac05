use Rattle.stand_ins.proofs.Playing.{plays}
use Rattle.stand_ins.proofs.scripted.Scripted.new.Goals as goal

pub returns-clause-any_replies_in_any_order : goal.returns-clause-any_replies_in_any_order
returns-clause-any_replies_in_any_order g c = plays _ c.args.script
