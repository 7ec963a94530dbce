use Rattle.std.proofs.Common.{map, take, ◌+◌}
use Rattle.sg_state.specs.Opening.{edge_of}
use Rattle.sg_state.proofs.Giving.{next_more}
use Rattle.sg_state.proofs.InParts.{parts_next}
use Rattle.sg_state.proofs.parts.parts_of.Goals as goal

pub loop-from-preserved : goal.loop-from-preserved
loop-from-preserved g c =
    let x = c.loop-from-item.result in
    let list = c.args.list.now in
    let done = map edge_of (take c.loop-from.from-index list) in
    let more = map edge_of (take (c.loop-from.from-index + 1) list) in
    let is = rw c.number.ensures.value at c.part_of-part.ensures in
    parts_next _ c.args.places.now.entries c.requires.places done more x.0 x.1 x.2 (next_more list c.loop-from.from-index x c.loop-from-item.is c.loop-from-test.true edge_of) c.loop-from.parts.entries c.put.new.self.entries c.loop-from.invariant c.part_of-part.result is c.in_ok-put.ensures.ok
