use Rattle.std.proofs.Common.{refl, ap}
use Rattle.std.specs.Vec.{with_item}
use Rattle.sg_state.specs.declared.rows.Rows.TheVariants.{Many}
use Rattle.sg_state.proofs.ShortRows.{label_read, row_read}
use Rattle.sg_state.proofs.rows.Rows.row_mut.Goals as goal

pub returns-in-Many : goal.returns-in-Many
returns-in-Many c =
    let read = rw c.in-Many.is at c.index_mut.ensures.value in
    let within = rw c.in-Many.is at c.requires.there in
    rw c.in-Many.is (
      (refl, λ w. ap (λ l. Many (with_item c.in-Many.rows c.args.at (l, w))) (label_read c.in-Many.rows.items c.args.at c.index_mut.result.now (c.args.at, w) read within)),
      record { writes_back = tt; value = row_read c.in-Many.rows.items c.args.at c.index_mut.result.now read within },
    )
