use Rattle.std.proofs.Common.{[], ◌∷◌, refl, sym}
use Rattle.sg_order.specs.Mark.{IsLeastLoop}
use Rattle.sg_order.specs.Order.{IsOrderOf}
use Rattle.jv_instance.specs.declared.labels.TheConstants.{SELF, SIMP, PKGOF, ODI}
use Rattle.jv_names.proofs.Before.{orders, no_least_loop, pairs_of}
use Rattle.jv_names.proofs.orders.file_order.Goals as goal

pub unreachable-requires : goal.unreachable-requires
unreachable-requires c =
    let h : IsLeastLoop (pairs_of (SELF ∷ SIMP ∷ PKGOF ∷ ODI ∷ [])) c.in-Err.field-0.mark = rw (sym c.pair.ensures, sym c.pair-2.ensures, sym c.pair-3.ensures, sym c.pair-4.ensures, sym c.pair-5.ensures, sym c.pair-6.ensures) c.in-Err.ensures in
    no_least_loop (SELF ∷ SIMP ∷ PKGOF ∷ ODI ∷ []) (refl, (refl, (refl, (refl, tt)))) c.in-Err.field-0.mark h

pub returns : goal.returns
returns c =
    let h : IsOrderOf (pairs_of (SELF ∷ SIMP ∷ PKGOF ∷ ODI ∷ [])) c.in-Ok.order = rw (sym c.pair.ensures, sym c.pair-2.ensures, sym c.pair-3.ensures, sym c.pair-4.ensures, sym c.pair-5.ensures, sym c.pair-6.ensures) c.in-Ok.ensures in
    orders (SELF ∷ SIMP ∷ PKGOF ∷ ODI ∷ []) (refl, (refl, (refl, (refl, tt)))) c.in-Ok.order h
