use Rattle.std.proofs.Common.{◌+◌, take, get_or}
use Rattle.sg_state.proofs.Giving.{bare_more, one_more, new_thing}
use Rattle.sg_state.proofs.opened.bare.Goals as goal

pub insert-requires : goal.insert-requires
insert-requires g c =
    record { new = λ h. new_thing c.args.list.now c.loop-s.s-index (record { unit = 0; serial = 0 }) c.loop-s-test.true c.requires.distinct (((c.loop-s.invariant).keys _).0 h) }

pub loop-s-preserved : goal.loop-s-preserved
loop-s-preserved g c =
    let list = c.args.list.now in
    let i = c.loop-s.s-index in
    let up = rw c.in_ok-insert.ensures.entries at c.in_ok-insert.ensures.ordered in
    rw c.in_ok-insert.ensures.entries (bare_more c.loop-s.places.entries (take i list) (take (i + 1) list) (get_or list i (record { unit = 0; serial = 0 })) c.new.result c.new.ensures c.loop-s.invariant
    (new_thing list i (record { unit = 0; serial = 0 }) c.loop-s-test.true c.requires.distinct) (one_more list i (record { unit = 0; serial = 0 }) c.loop-s-test.true) up)
