-- Fields ask queries of the layout, and have types of it.
use Rattle.std.proofs.Common.{◌&&◌, not, nat_lt, ℕ, Bool, true, codes, bytes_eq, List, Option, Some, None, IfSome}
use Rattle.sg_base.specs.declared.scope.Scope.{Scope}
use Rattle.sg_reading.specs.Reading.{done, and_then}
use Rattle.jv_diag.specs.Plain.{DiagOf}
use Rattle.jv_instance.specs.declared.labels.TheConstants.{FIELD}
use Rattle.jv_instance.specs.declared.ty.Ty.{Ty}
use Rattle.jv_instance.specs.declared.type_base.TypeBase.{TypeBase}
use Rattle.jv_instance.specs.declared.type_base.TypeBase.TheVariants.{Boolean, Char, Int, Long, Class, Null, Void, Bad}
use Rattle.jv_instance.specs.Types.{is_bad}
use Rattle.jv_layout.specs.Folder.{LayoutOf, text_of}
use Rattle.jv_tree.specs.declared.name.Ident.{Ident}
use Rattle.jv_tree.specs.Numbered.{IsNumberedIdent}
use Rattle.jv_types.specs.Operators.{plain}
use Rattle.jv_names.specs.declared.meaning.Meaning.{Meaning}
use Rattle.jv_names.specs.declared.meaning.Meaning.TheVariants.{One, Nothing, Ambiguous, TooMany}
use Rattle.jv_names.specs.Access.{member_accessible}
use Rattle.jv_names.specs.Bounds.{AsksIn, IsBaseIn, IsMemberScope, IsReadIn, IsTyIn, IsTypeScope, MeansOnly}
use Rattle.jv_names.specs.Members.{field}
use Rattle.jv_names.specs.Read.{SignatureOf, signature_of}
use Rattle.jv_names.proofs.Bounds.{fields_stay_in, member_accessible_stays}
use Rattle.jv_names.proofs.Listed.{member_is_listed}
use Rattle.jv_names.proofs.ReadBounds.{signatures_ask_in}
use Rattle.jv_expr.specs.declared.value.Value.{Value}
use Rattle.jv_expr.specs.Bounds.{IsAnything, IsSiteIn}
use Rattle.jv_expr.specs.Fields.{array_field, bad_named, base_field, class_field, field_by, field_found, field_meant, field_on, field_value, lacks_instance, result_of, with_access}
use Rattle.jv_expr.specs.Operators.{bad_value}
use Rattle.jv_expr.specs.Site.{SiteOf, with_named}
use Rattle.jv_expr.proofs.AskedSteps.{cond_asks, done_asks, of_names, then_asks}

-- a value has a type of the layout
abbrev pub IsValueIn : LayoutOf → Value → Type 0
IsValueIn l v = IsTyIn l v.ty

-- a value with diagnostics is such a value
abbrev pub IsFirstValueIn : LayoutOf → Value × List DiagOf → Type 0
IsFirstValueIn l p = IsTyIn l p.0.ty

pub result_in : (l : LayoutOf) (s : Option SignatureOf) → IfSome s (IsReadIn l) → IsTyIn l (result_of s)
result_in l None h = tt
result_in l (Some s) h = h.0

module _ (site : SiteOf) (count : ℕ) (is : IsSiteIn count site) where
  abbrev L : LayoutOf
  L = site.layout

  pub accessible_asks : (m : Scope) (through : Option Scope) → IfSome through (IsTypeScope L) → AsksIn L count IsAnything (member_accessible L site.file site.bodies m through)
  accessible_asks m through h =
      of_names L count IsAnything (member_accessible L site.file site.bodies m through) (member_accessible_stays L count site.file site.bodies m through is.bodies h)

  field_by_asks : (own : Bool) (i : Ident) (m : Scope) (ok lacks : Bool) (ds : List DiagOf) → IsMemberScope L FIELD m → AsksIn L count (IsFirstValueIn L) (field_by site own i m ok lacks ds)
  field_by_asks own i m ok lacks ds h =
      cond_asks L count (IsFirstValueIn L) (ok && not lacks) (and_then (signature_of L m) (λ s. done (field_value site own i m s, ds))) (done (bad_value, with_access site ok lacks i ds))
      (then_asks L count (λ (o : Option SignatureOf). IfSome o (IsReadIn L)) (IsFirstValueIn L) (signature_of L m) (λ s. done (field_value site own i m s, ds)) (signatures_ask_in L count m (member_is_listed L FIELD m h))
      (λ s e. done_asks L count (IsFirstValueIn L) (field_value site own i m s, ds) (result_in L s e)))
      (done_asks L count (IsFirstValueIn L) (bad_value, with_access site ok lacks i ds) tt)

  pub field_found_asks : (through : Option Scope) (free own : Bool) (i : Ident) (m : Scope) (ds : List DiagOf) → IfSome through (IsTypeScope L) → IsMemberScope L FIELD m → AsksIn L count (IsFirstValueIn L) (field_found site through free own i m ds)
  unfolding field_found
  field_found_asks through free own i m ds h k =
      then_asks L count IsAnything (IsFirstValueIn L) (member_accessible L site.file site.bodies m through) (λ ok. field_by site own i m ok (lacks_instance site free m) ds) (accessible_asks m through h)
      (λ ok e. field_by_asks own i m ok (lacks_instance site free m) ds k)

  pub bad_named_asks : (i : Ident) (code : ℕ) (ds : List DiagOf) → AsksIn L count (IsFirstValueIn L) (bad_named site i code ds)
  bad_named_asks i code ds = done_asks L count (IsFirstValueIn L) (bad_value, with_named site i code ds) tt

  field_meant_asks : (through : Option Scope) (free own : Bool) (i : Ident) (m : Meaning) (ds : List DiagOf) → IfSome through (IsTypeScope L) → MeansOnly (IsMemberScope L FIELD) m → AsksIn L count (IsFirstValueIn L) (field_meant site through free own i m ds)
  field_meant_asks through free own i (One m) ds h k = field_found_asks through free own i m ds h k
  field_meant_asks through free own i Nothing ds h k = bad_named_asks i 40 ds
  field_meant_asks through free own i Ambiguous ds h k = bad_named_asks i 43 ds
  field_meant_asks through free own i TooMany ds h k = bad_named_asks i 41 ds

  -- the field of a name in a type
  pub named_field_asks : (c : Scope) (i : Ident) → IsTypeScope L c → IsNumberedIdent count i → AsksIn L count (MeansOnly (IsMemberScope L FIELD)) (field L c i.id)
  named_field_asks c i h n = of_names L count (MeansOnly (IsMemberScope L FIELD)) (field L c i.id) (fields_stay_in L count c i.id h n)

  pub class_field_asks : (through : Option Scope) (own : Bool) (c : Scope) (i : Ident) (ds : List DiagOf) → IfSome through (IsTypeScope L) → IsTypeScope L c → IsNumberedIdent count i → AsksIn L count (IsFirstValueIn L) (class_field site through own c i ds)
  unfolding class_field
  class_field_asks through own c i ds h k n =
      then_asks L count (MeansOnly (IsMemberScope L FIELD)) (IsFirstValueIn L) (field L c i.id) (λ m. field_meant site through true own i m ds) (named_field_asks c i k n)
      (λ m e. field_meant_asks through true own i m ds h e)

  array_field_asks : (i : Ident) (ds : List DiagOf) → AsksIn L count (IsFirstValueIn L) (array_field site i ds)
  array_field_asks i ds =
      cond_asks L count (IsFirstValueIn L) (bytes_eq (text_of site.names i.id.0) (codes "length")) (done (record { ty = plain Int; sealed = Some i.id }, ds)) (bad_named site i 40 ds)
      (done_asks L count (IsFirstValueIn L) (record { ty = plain Int; sealed = Some i.id }, ds) tt) (bad_named_asks i 40 ds)

  base_field_asks : (own : Bool) (b : TypeBase) (i : Ident) (ds : List DiagOf) → IsBaseIn L b → IsNumberedIdent count i → AsksIn L count (IsFirstValueIn L) (base_field site own b i ds)
  base_field_asks own (Class c) i ds h n = class_field_asks (Some c) own c i ds h h n
  base_field_asks own Boolean i ds h n = bad_named_asks i 40 ds
  base_field_asks own Char i ds h n = bad_named_asks i 40 ds
  base_field_asks own Int i ds h n = bad_named_asks i 40 ds
  base_field_asks own Long i ds h n = bad_named_asks i 40 ds
  base_field_asks own Null i ds h n = bad_named_asks i 40 ds
  base_field_asks own Void i ds h n = bad_named_asks i 40 ds
  base_field_asks own Bad i ds h n = done_asks L count (IsFirstValueIn L) (bad_value, ds) tt

  pub field_on_asks : (own : Bool) (t : Ty) (i : Ident) (ds : List DiagOf) → IsTyIn L t → IsNumberedIdent count i → AsksIn L count (IsFirstValueIn L) (field_on site own t i ds)
  unfolding field_on
  field_on_asks own t i ds h n =
      cond_asks L count (IsFirstValueIn L) (nat_lt 0 t.dims && not (is_bad t)) (array_field site i ds) (base_field site own t.base i ds) (array_field_asks i ds) (base_field_asks own t.base i ds h n)
