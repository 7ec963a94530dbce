use Rattle.sc_gen.proofs.Classes.{one_more}
use Rattle.sc_gen.proofs.files.classes.Goals as goal

pub loop-i-preserved : goal.loop-i-preserved
loop-i-preserved c =
    one_more c.loop-i.files.items c.push.new.self.items c.loop-i.i c.in_ok-path.field-0 c.in_ok-class.field-0 c.in_ok-push.ensures.items c.in_ok-path.ensures c.in_ok-class.ensures c.loop-i.invariant
