use Rattle.std.proofs.Common.{◌∙◌, arith}
use Rattle.crossbeam_deque.specs.Handles.{view, stealer_deque}
use Rattle.sg_board.proofs.Moves.{stole, map_set, set_len, is_some, is_none}
use Rattle.sg_board.proofs.share.steal_first.Goals as goal

pub returns-in-Some-clause-taken : goal.returns-in-Some-clause-taken
returns-in-Some-clause-taken g c = λ h. let s = stole g.T.Task.number (λ t. view t.pass) c.steal-stolen.result.0 c.loop-index.thieves.items c.loop-index.index c.index_mut.result.now c.steal-stolen.new.self (omega (arith, c.loop-index-test.true, c.len-index-end.ensures, c.loop-index.invariant.len, c.args.thieves.now.ok.0)) c.index_mut.ensures.value c.steal-stolen.ensures.stolen h in
    let o = is_some g.T.Task.number c.steal-stolen.result.0 c.in-Some.task c.in-Some.is h in let i = c.loop-index.invariant.taken h in omega (arith, s.0, o, i)

pub returns-in-Some-clause-given : goal.returns-in-Some-clause-given
returns-in-Some-clause-given g c = λ h. let s = stole g.T.Task.number (λ t. view t.pass) c.steal-stolen.result.0 c.loop-index.thieves.items c.loop-index.index c.index_mut.result.now c.steal-stolen.new.self (omega (arith, c.loop-index-test.true, c.len-index-end.ensures, c.loop-index.invariant.len, c.args.thieves.now.ok.0)) c.index_mut.ensures.value c.steal-stolen.ensures.stolen h in s.1 ∙ c.loop-index.invariant.given h

pub returns-in-Some-clause-same : goal.returns-in-Some-clause-same
returns-in-Some-clause-same g c = map_set (λ t. stealer_deque t.stealer) c.loop-index.thieves.items c.loop-index.index c.index_mut.result.now c.steal-stolen.new.self c.index_mut.ensures.value c.steal-stolen.ensures.same ∙ c.loop-index.invariant.same

pub loop-index-preserved : goal.loop-index-preserved
loop-index-preserved g c = let s = stole g.T.Task.number (λ t. view t.pass) c.steal-stolen.result.0 c.loop-index.thieves.items c.loop-index.index c.index_mut.result.now c.steal-stolen.new.self (omega (arith, c.loop-index-test.true, c.len-index-end.ensures, c.loop-index.invariant.len, c.args.thieves.now.ok.0)) c.index_mut.ensures.value c.steal-stolen.ensures.stolen in record {
  taken = λ h. let a = s h in let o = is_none g.T.Task.number c.steal-stolen.result.0 c.in_default.is h in let i = c.loop-index.invariant.taken h in omega (arith, a.0, o, i);
  given = λ h. (s h).1 ∙ c.loop-index.invariant.given h;
  same = map_set (λ t. stealer_deque t.stealer) c.loop-index.thieves.items c.loop-index.index c.index_mut.result.now c.steal-stolen.new.self c.index_mut.ensures.value c.steal-stolen.ensures.same ∙ c.loop-index.invariant.same;
  len = set_len c.loop-index.thieves.items c.loop-index.index c.steal-stolen.new.self ∙ c.loop-index.invariant.len;
}
