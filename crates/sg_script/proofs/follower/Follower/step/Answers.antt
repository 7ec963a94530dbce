use Rattle.sg_script.proofs.Following.{gives_write}
use Rattle.sg_script.proofs.follower.Follower.step.Goals as goal

pub read_on-requires-clause-idle : goal.read_on-requires-clause-idle
read_on-requires-clause-idle g c = let f = c.requires.stands.1 in (c.in-None.ensures.1, f.asks, f.over)

pub returns-in-Some-clause-goes : goal.returns-in-Some-clause-goes
returns-in-Some-clause-goes g c = λ past f.
    let s = c.args.self.now in
    gives_write (g.S.Script.plan s.script) (g.S.Script.reply s.script) s.stage past s.asked s.ended s.pending c.take_first.new.self c.in-Some.write c.op_of.result c.in-Some.ensures c.op_of.ensures f
