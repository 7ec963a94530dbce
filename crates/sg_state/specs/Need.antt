-- What a query may wait for, in order, and of what a unit is the only holder.
use Rattle.std.specs.Prelude.{◌≡◌, ℕ, refl}
use Rattle.std.proofs.Common.{subst}
use Rattle.std.specs.Cmp.{IsTotalOrder}
use Rattle.std.specs.Ordering.{nat_cmp, ordering_then}
use Rattle.std.specs.declared.cmp.Ordering.{Ordering}
use Rattle.std.specs.declared.cmp.Ordering.TheVariants.{Less, Greater}
use Rattle.sg_base.specs.Scope.{scope_cmp}
use Rattle.sg_state.specs.declared.need.Need.{Need}
use Rattle.sg_state.specs.declared.need.Need.TheVariants.{Row, Datum}
use Rattle.sg_state.specs.Held.{HeldOf, HoldsRow, HoldsDatum}
use Rattle.sg_state.specs.contracts.need.NeedOrd.TheImpl as derived
use Rattle.sg_state.specs.contracts.need.NeedOrd.TheImpl.Laws as laws

-- the order of needs: rows by scope and then label, and then data by scope
abbrev pub need_cmp : Need → Need → Ordering
need_cmp (Row s l) (Row t m) = ordering_then (scope_cmp s t) (nat_cmp l m)
need_cmp (Row s l) (Datum t) = Less
need_cmp (Datum s) (Row t m) = Greater
need_cmp (Datum s) (Datum t) = scope_cmp s t

-- the unit holds the row or the unset datum
abbrev pub Holds : {D : Type 0} → HeldOf D → ℕ → Need → Type 0
Holds h u (Row s l) = HoldsRow h u s l
Holds h u (Datum s) = HoldsDatum h u s

-- the unit holds it, and each unit that holds it is that one
abbrev pub HoldsAlone : {D : Type 0} → HeldOf D → ℕ → Need → Type 0
HoldsAlone h u n = Holds h u n × ((v : ℕ) → Holds h v n → v ≡ u)

-- the order that the code compares needs by
abbrev pub need_order : Need → Need → Ordering
need_order = (derived.ghosts).cmp

-- on each two needs the order of the code is the order of needs
pub need_order_is : (a b : Need) → need_order a b ≡ need_cmp a b
need_order_is (Row s l) (Row t m) = refl
need_order_is (Row s l) (Datum t) = refl
need_order_is (Datum s) (Row t m) = refl
need_order_is (Datum s) (Datum t) = refl

-- the order of the code and the order of needs are one
pub need_orders : need_order ≡ need_cmp
need_orders = λ i a b. need_order_is a b i

-- the order that the code compares needs by is total
pub need_order_total : IsTotalOrder need_order
need_order_total = laws.total-law

-- the order of needs is total
pub need_total : IsTotalOrder need_cmp
need_total = subst IsTotalOrder need_orders need_order_total
