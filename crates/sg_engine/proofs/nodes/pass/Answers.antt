use Rattle.sg_engine.proofs.Passing.{all_passed}
use Rattle.sg_engine.proofs.nodes.pass.Goals as goal

pub returns-then-nodes-eq-FEW_NODES-clause-ok : goal.returns-then-nodes-eq-FEW_NODES-clause-ok
returns-then-nodes-eq-FEW_NODES-clause-ok c = λ words.
    all_passed c.pass_all.result c.pass_all.new.passed.keys c.pass_all.new.last c.args.from words c.args.nodes.now c.pass_all.ensures.last c.pass_all.ensures.from c.pass_all.ensures.ends
