-- Conversions ask queries of the layout.
use Rattle.std.proofs.Common.{ℕ, List, []}
use Rattle.sg_base.specs.declared.scope.Scope.{Scope}
use Rattle.sg_reading.specs.Reading.{done, and_then}
use Rattle.sg_reading.proofs.Asking.{any_ends}
use Rattle.jv_diag.specs.Plain.{DiagOf}
use Rattle.jv_instance.specs.declared.ty.Ty.{Ty}
use Rattle.jv_instance.specs.declared.type_base.TypeBase.{TypeBase}
use Rattle.jv_instance.specs.declared.type_base.TypeBase.TheVariants.{Boolean, Char, Int, Long, Class, Null, Void, Bad}
use Rattle.jv_layout.specs.Folder.{LayoutOf}
use Rattle.jv_layout.specs.Readers.{object_scope}
use Rattle.jv_names.specs.Bounds.{AsksIn, IsBaseIn, IsTyIn}
use Rattle.jv_names.specs.Read.{supers_of}
use Rattle.jv_names.proofs.ReadBounds.{supers_asks}
use Rattle.jv_names.proofs.Listed.{type_is_listed}
use Rattle.jv_types.specs.Conversion.{is_assignable}
use Rattle.jv_expr.specs.Bounds.{IsAnything}
use Rattle.jv_expr.specs.Conversions.{Sides, asks_supers, base_supers, fits, known_sides, known_supers, second_side, side, sides}
use Rattle.jv_expr.specs.Operators.{assigned_to, with_misfit}
use Rattle.jv_expr.specs.Site.{SiteOf}
use Rattle.jv_expr.proofs.AskedSteps.{cond_asks, done_asks, then_asks}

module _ (l : LayoutOf) (count : ℕ) where
  base_supers_asks : (b : TypeBase) → IsBaseIn l b → AsksIn l count IsAnything (base_supers l b)
  base_supers_asks (Class c) h = record { asks = supers_asks l count c (type_is_listed l c h); ends = any_ends (supers_of l c) }
  base_supers_asks Boolean h = done_asks l count IsAnything [] tt
  base_supers_asks Char h = done_asks l count IsAnything [] tt
  base_supers_asks Int h = done_asks l count IsAnything [] tt
  base_supers_asks Long h = done_asks l count IsAnything [] tt
  base_supers_asks Null h = done_asks l count IsAnything [] tt
  base_supers_asks Void h = done_asks l count IsAnything [] tt
  base_supers_asks Bad h = done_asks l count IsAnything [] tt

  pub fits_asks : (s t : Ty) → IsTyIn l s → AsksIn l count IsAnything (fits l s t)
  unfolding fits
  fits_asks s t h =
      cond_asks l count IsAnything (asks_supers l s t) _ _
      (then_asks l count IsAnything IsAnything (base_supers l s.base) (λ up. done (is_assignable up (object_scope l) s t)) (base_supers_asks s.base h) (λ up e. done_asks l count IsAnything (is_assignable up (object_scope l) s t) tt))
      (done_asks l count IsAnything (is_assignable (known_supers l s.base) (object_scope l) s t) tt)

  -- two types of the layout
  abbrev pub AreSidesIn : Sides → Type 0
  AreSidesIn p = IsTyIn l p.0.ty × IsTyIn l p.1.ty

  module _ (s t : Ty) (h : IsTyIn l s) (k : IsTyIn l t) where
    second_asks : (up : List Scope) → AsksIn l count AreSidesIn (second_side l s t up)
    second_asks up =
        cond_asks l count AreSidesIn (is_assignable up (object_scope l) s t) (done (side l up s, side l [] t)) _ (done_asks l count AreSidesIn (side l up s, side l [] t) (h, k))
        (then_asks l count IsAnything AreSidesIn (base_supers l t.base) (λ more. done (side l up s, side l more t)) (base_supers_asks t.base k) (λ more e. done_asks l count AreSidesIn (side l up s, side l more t) (h, k)))

    pub sides_asks : AsksIn l count AreSidesIn (sides l s t)
    unfolding sides
    sides_asks =
        cond_asks l count AreSidesIn (asks_supers l s t) (and_then (base_supers l s.base) (second_side l s t)) (done (known_sides l s t))
        (then_asks l count IsAnything AreSidesIn (base_supers l s.base) (second_side l s t) (base_supers_asks s.base h) (λ up e. second_asks up))
        (done_asks l count AreSidesIn (known_sides l s t) (h, k))

module _ (site : SiteOf) (count : ℕ) where
  pub assigned_asks : (at : ℕ) (found needed : Ty) (ds : List DiagOf) → IsTyIn site.layout found → AsksIn site.layout count IsAnything (assigned_to site at found needed ds)
  unfolding assigned_to
  assigned_asks at found needed ds h =
      then_asks site.layout count IsAnything IsAnything (fits site.layout found needed) (λ ok. done (with_misfit ok site at found needed ds)) (fits_asks site.layout count found needed h)
      (λ ok e. done_asks site.layout count IsAnything (with_misfit ok site at found needed ds) tt)
