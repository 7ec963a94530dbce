use Rattle.std.proofs.Common.{[], ◌∷◌, Bool, false, ◌||◌, refl, sym, ap, subst}
use Rattle.std.proofs.lemmas.Bool.{ne_eqb}
use Rattle.sg_base.specs.declared.mark.Mark.{Mark}
use Rattle.sg_order.specs.Order.{IsOrderOf}
use Rattle.jv_names.proofs.Before.{orders, AllDiffer}
use Rattle.jv_names.proofs.orders.in_order.Goals as goal

pub returns : goal.returns
returns c =
    let differ : AllDiffer (c.args.first ∷ c.args.second ∷ []) = (ap (λ (b : Bool). b || false) (ne_eqb c.args.second c.args.first (λ e. c.requires.apart (sym e))), (refl, tt)) in
    orders (c.args.first ∷ c.args.second ∷ []) differ c.in-Ok.order (subst (λ (p : Mark × Mark). IsOrderOf (p ∷ []) c.in-Ok.order) c.pair.ensures c.in-Ok.ensures)
