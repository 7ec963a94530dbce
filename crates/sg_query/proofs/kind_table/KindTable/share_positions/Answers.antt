use Rattle.std.proofs.Common.{◌≡◌, Result, Ok, Err, IfOk, sym, subst}
use Rattle.std.specs.Arc.{arc_value}
use Rattle.sg_expr.specs.Positions.{PositionsOf}
use Rattle.sg_query.specs.Kinds.{IsPositionsOf}
use Rattle.sg_query.specs.Query.{kind_of}
use Rattle.sg_query.proofs.Placing.{shared_read}
use Rattle.sg_query.proofs.kind_table.KindTable.share_positions.Goals as goal

weaker : {X E : Type 0} (P Q : X → Type 0) (r : Result X E) → IfOk r P → ((x : X) → P x → Q x) → IfOk r Q
weaker P Q (Ok x) p f = f x p
weaker P Q (Err e) p f = tt

pub returns : goal.returns
returns c =
    let at = rw c.from.ensures at c.index.ensures in
    let here = shared_read arc_value c.self.inside.kinds.items c.args.self.now c.self.inside.positions.items c.args.number c.index.result.now c.self.view_is c.self.invariant.2 c.requires at in
    weaker _ _ c.try_clone.result c.try_clone.ensures (λ p e. subst (λ (x : PositionsOf). IsPositionsOf (kind_of c.args.self.now c.args.number) x) (sym e) here)
