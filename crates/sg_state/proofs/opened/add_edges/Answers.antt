use Rattle.std.proofs.Common.{[], ◌+◌, map, take}
use Rattle.sg_state.specs.Opening.{edge_of}
use Rattle.sg_state.proofs.Giving.{gives_edge, here_still, next_more, next_in}
use Rattle.sg_state.proofs.opened.add_edges.Goals as goal

pub put_target-requires-clause-there : goal.put_target-requires-clause-there
put_target-requires-clause-there g c =
    let x = c.loop-from-item.result in
    let done = map edge_of (take c.loop-from.from-index c.args.list.now) in
    let there = c.requires.there (edge_of x) (next_in c.args.list.now c.loop-from.from-index x c.loop-from-item.is c.loop-from-test.true edge_of) in
    here_still c.args.places.now.entries c.loop-from.places.entries [] done [] [] [] x.0 c.loop-from.invariant there.0

pub loop-from-preserved : goal.loop-from-preserved
loop-from-preserved g c =
    let x = c.loop-from-item.result in
    let list = c.args.list.now in
    let done = map edge_of (take c.loop-from.from-index list) in
    let more = map edge_of (take (c.loop-from.from-index + 1) list) in
    gives_edge c.args.places.now.entries c.loop-from.places.entries c.put_target.new.self.entries done [] [] [] x.0 c.loop-from.invariant x.1 x.2 more
    (next_more list c.loop-from.from-index x c.loop-from-item.is c.loop-from-test.true edge_of) (rw c.number.ensures.value at c.in_ok-put_target.ensures.ok)
