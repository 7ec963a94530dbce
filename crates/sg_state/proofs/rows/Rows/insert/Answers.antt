use Rattle.std.proofs.Common.{nat_lt, not, arith}
use Rattle.sg_state.proofs.ShortRows.{prefix_within, inserted}
use Rattle.sg_state.proofs.rows.Rows.insert.Goals as goal

pub insert-requires : goal.insert-requires
insert-requires c =
    let at = rw c.deref.ensures.value at c.rows_below-at.ensures in
    let within = prefix_within (λ r. not (nat_lt c.args.label r.0)) c.reserve_exact.new.self.items in
    let len = c.reserve_exact.new.self.ok.0 in
    omega (arith, at, within, len)

pub returns-in_ok-insert-in-Many-clause-ok : goal.returns-in_ok-insert-in-Many-clause-ok
returns-in_ok-insert-in-Many-clause-ok c =
    let at = rw c.deref.ensures.value at c.rows_below-at.ensures in
    rw (c.in_ok-insert-in-Many.ensures.items, at, c.in_ok-reserve_exact-in-Many.ensures.items, c.in-Many.is)
    (inserted c.args.label c.in-Many.rows.items c.args.row (rw c.in-Many.is at c.requires.new))
