-- Rules in turn that ask queries of the layout.
use Rattle.std.proofs.Common.{ℕ, Bool, true, false, cond, List}
use Rattle.sg_reading.specs.Reading.{done, and_then}
use Rattle.sg_reading.proofs.Asking.{any_ends, AllAsked-more, AllEnds-more, and_then-asked_where, and_then-ends}
use Rattle.jv_diag.specs.Plain.{DiagOf}
use Rattle.jv_layout.specs.Folder.{LayoutOf}
use Rattle.jv_names.specs.Bounds.{IsNameQuery, IsLayoutQuery, AsksIn, StaysIn}
use Rattle.jv_names.specs.Replies.{Rule}
use Rattle.jv_names.proofs.ReadBounds.{name_asked}
use Rattle.jv_expr.specs.Bounds.{IsAnything}

-- of a value with diagnostics, the value is such
abbrev pub First : {U : Type 0} → (U → Type 0) → U × List DiagOf → Type 0
First E p = E p.0

pub cond_keeps : {X : Type 0} (P : X → Type 0) (b : Bool) (x y : X) → P x → P y → P (cond b x y)
cond_keeps P true x y h k = h
cond_keeps P false x y h k = k

module _ (l : LayoutOf) (count : ℕ) where
  pub then_asks : {U W : Type 0} (E : U → Type 0) (F : W → Type 0) (r : Rule U) (f : U → Rule W) → AsksIn l count E r → ((v : U) → E v → AsksIn l count F (f v)) → AsksIn l count F (and_then r f)
  then_asks E F r f h k = record {
    asks = and_then-asked_where (IsLayoutQuery l count) E r f h.asks h.ends (λ v e. (k v e).asks);
    ends = and_then-ends E F r f h.ends (λ v e. (k v e).ends);
  }

  pub done_asks : {U : Type 0} (E : U → Type 0) (v : U) → E v → AsksIn l count E (done v)
  done_asks E v h = record { asks = tt; ends = h }

  pub cond_asks : {U : Type 0} (E : U → Type 0) (b : Bool) (r s : Rule U) → AsksIn l count E r → AsksIn l count E s → AsksIn l count E (cond b r s)
  cond_asks E true r s h k = h
  cond_asks E false r s h k = k

  -- a rule that asks queries of names alone
  pub of_names : {U : Type 0} (E : U → Type 0) (r : Rule U) → StaysIn l count E r → AsksIn l count E r
  of_names E r h = record { asks = AllAsked-more (IsNameQuery l count) (IsLayoutQuery l count) r (name_asked l count) h.asks; ends = h.ends }

  -- what a rule ends with does not matter
  pub any_asks : {U : Type 0} (E : U → Type 0) (r : Rule U) → AsksIn l count E r → AsksIn l count IsAnything r
  any_asks E r h = record { asks = h.asks; ends = any_ends r }

  pub wider_asks : {U : Type 0} (E F : U → Type 0) (r : Rule U) → ((v : U) → E v → F v) → AsksIn l count E r → AsksIn l count F r
  wider_asks E F r f h = record { asks = h.asks; ends = AllEnds-more E F r f h.ends }
