use Rattle.std.proofs.Common.{refl}
use Rattle.sg_script.proofs.Following.{starts_with}
use Rattle.sg_script.proofs.follower.Follower.new.Goals as goal

pub returns : goal.returns
returns g c = (refl, starts_with (g.S.Script.plan c.args.script) (g.S.Script.reply c.args.script) c.new.result c.new.ensures c.requires.sound c.requires.empty)
