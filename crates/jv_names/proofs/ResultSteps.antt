-- The steps by which results are compared.
use Rattle.std.proofs.Common.{◌≡◌, ◌==◌, ◌&&◌, ◌||◌, ℕ, nat_lt, Bool, true, false, cond, List, [], ◌∷◌, ◌++◌, map, Option, Some, None, Result, Ok, Err, refl, sym, ap, ◌∙◌, subst, arith}
use Rattle.std.proofs.lemmas.Bool.Decides.{nat_tests}
use Rattle.std.proofs.lemmas.Bool.{eq-eqb}
use Rattle.std.proofs.lemmas.List.Folds.{list_any-append}
use Rattle.std.specs.List.{filter, list_any}
use Rattle.std.specs.Cmp.{nat_eq_equiv}
use Rattle.sg_base.specs.declared.scope.Scope.{Scope}
use Rattle.sg_base.specs.Scope.{is_scope}
use Rattle.sg_query.specs.declared.answer.Answer.{Answer}
use Rattle.sg_query.specs.declared.answer.Answer.TheVariants.{Paths, TooMany}
use Rattle.sg_query.specs.declared.found.Found.{Found}
use Rattle.sg_query.specs.declared.query.Query.{Query}
use Rattle.sg_reading.specs.declared.stop.Stop.{Stop}
use Rattle.sg_reading.specs.declared.stop.Stop.TheVariants.{NoReply}
use Rattle.sg_reading.specs.Reading.{done, and_then}
use Rattle.sg_reading.specs.Stop.{Reads}
use Rattle.sg_reading.proofs.Steps.{ask_ok, ask_err, done_reads, reading_steps}
use Rattle.jv_instance.specs.declared.datum.JavaDatum.{JavaDatum}
use Rattle.jv_instance.specs.declared.pred.JavaPred.{JavaPred}
use Rattle.jv_instance.specs.declared.ty.Ty.{Ty}
use Rattle.jv_instance.specs.declared.type_base.TypeBase.{TypeBase}
use Rattle.jv_instance.specs.declared.type_base.TypeBase.TheVariants.{Class}
use Rattle.jv_layout.specs.Folder.{LayoutOf}
use Rattle.jv_layout.specs.Readers.{is_interface_of, object_scope}
use Rattle.jv_types.specs.Conversion.{is_subtype, is_class, is_class_base, is_above}
use Rattle.jv_names.specs.declared.counts.Counts.TheVariants.{Supertypes}
use Rattle.jv_names.specs.declared.kinds.TheConstants.{SUPERS}
use Rattle.jv_names.specs.Ends.{is_counted, path_end, counted_ends, has_end}
use Rattle.jv_names.specs.Replies.{Rule, for_any}
use Rattle.jv_names.specs.Read.{answer_supers, base_fits, is_under_object, supers_of, with_object}

abbrev Replies : Type 0
Replies = Query JavaPred → Option (Answer JavaDatum)

same_scope : (a b : Scope) → is_scope a b ≡ is_scope b a
same_scope a b =
    ap (λ (x : Bool). x && (a.serial == b.serial)) (nat_eq_equiv.symm a.unit b.unit) ∙ ap (λ (x : Bool). (b.unit == a.unit) && x) (nat_eq_equiv.symm a.serial b.serial)

-- ---- classes above

module _ (l : LayoutOf) (b : Scope) where
  among_on : (c : Bool) (e : Scope) (es : List Scope) (more : Bool) (f : Found JavaDatum) (fs : List (Found JavaDatum)) → list_any (is_scope b) (map (λ f. path_end f.path) fs) ≡ more
      → list_any (is_scope b) (map (λ f. path_end f.path) (cond c (f ∷ fs) fs)) ≡ ((c && is_scope (path_end f.path) b) || more)
  among_on true e es more f fs h = ap (λ (x : Bool). x || list_any (is_scope b) (map (λ f. path_end f.path) fs)) (same_scope b (path_end f.path)) ∙ ap (λ (x : Bool). is_scope (path_end f.path) b || x) h
  among_on false e es more f fs h = h

  -- a class is among the ends of an answer where one of its paths ends there
  among_ends : (fs : List (Found JavaDatum)) → list_any (is_scope b) (counted_ends l Supertypes fs) ≡ list_any (λ f. is_counted l Supertypes f && is_scope (path_end f.path) b) fs
  among_ends [] = refl
  among_ends (f ∷ fs) =
      among_on (is_counted l Supertypes f) b [] (list_any (λ f. is_counted l Supertypes f && is_scope (path_end f.path) b) fs) f (filter (is_counted l Supertypes) fs) (among_ends fs)

  among_supers : (a : Answer JavaDatum) → list_any (is_scope b) (answer_supers l a) ≡ has_end l Supertypes b a
  among_supers (Paths fs) = among_ends fs
  among_supers TooMany = refl

  sole : (x : Bool) → (x || false) ≡ x
  sole true = refl
  sole false = refl

  with_on : (i : Bool) (object : Scope) (up : List Scope) (x : Bool) → list_any (is_scope b) up ≡ x → list_any (is_scope b) (cond i (up ++ object ∷ []) up) ≡ (x || (i && is_scope b object))
  with_on true object up x h = list_any-append (is_scope b) up (object ∷ []) ∙ (ap (λ (y : Bool). y || (is_scope b object || false)) h ∙ ap (λ (y : Bool). x || y) (sole (is_scope b object)))
  with_on false object up x h = h ∙ sym (sole x)

  -- what is known of a class above another one, where it is not `Object` above an interface
  above_by : (c : Scope) (a : Answer JavaDatum) → is_under_object l c b ≡ false → list_any (is_scope b) (with_object l c (answer_supers l a)) ≡ has_end l Supertypes b a
  above_by c a apart =
      with_on (is_interface_of l c) (object_scope l) (answer_supers l a) (has_end l Supertypes b a) (among_supers a)
      ∙ (ap (λ (x : Bool). has_end l Supertypes b a || x) apart ∙ sole (has_end l Supertypes b a))

lt_itself : (n : ℕ) → nat_lt n n ≡ false
lt_itself n = grind (arith, nat_tests)

-- a class of the same brackets is a subtype of those above it
class_below : (up : List Scope) (object : Scope) (s t : Ty) (a b : Scope) → s.base ≡ Class a → t.base ≡ Class b → s.dims ≡ t.dims → is_subtype up object s t ≡ list_any (is_scope b) up
class_below up object s t a b e k d =
    ap (λ (n : ℕ). cond (nat_lt t.dims n) (is_class object t.base) ((n == t.dims) && (is_class_base s.base && is_above up t.base))) d
    ∙ (ap (λ (x : Bool). cond x (is_class object t.base) ((t.dims == t.dims) && (is_class_base s.base && is_above up t.base))) (lt_itself t.dims)
    ∙ (ap (λ (x : Bool). x && (is_class_base s.base && is_above up t.base)) (eq-eqb t.dims t.dims refl)
    ∙ (ap (λ (x : TypeBase). is_class_base x && is_above up t.base) e ∙ ap (λ (x : TypeBase). is_above up x) k)))

-- ---- one query

module _ (reply : Replies) (l : LayoutOf) (s t : Ty) where
  module _ (a b : Scope) (from : s.base ≡ Class a) (to : t.base ≡ Class b) where
    -- by the supertypes of the class
    abbrev by_supers : Rule Bool
    by_supers = and_then (supers_of l a) (λ up. done (is_subtype up (object_scope l) s t))

    at_classes : (x : Result Bool (Stop (Query JavaPred))) → Reads reply (base_fits l s t (Class a) (Class b)) x → Reads reply (base_fits l s t s.base t.base) x
    at_classes x h =
        subst (λ (y : TypeBase). Reads reply (base_fits l s t y t.base) x) (sym from) (subst (λ (y : TypeBase). Reads reply (base_fits l s t (Class a) y) x) (sym to) h)

    -- `Object` is above an interface
    pub under_object : (w : Bool) → w ≡ is_under_object l a b → w ≡ true → Reads reply (base_fits l s t s.base t.base) (Ok true)
    under_object w is met =
        at_classes (Ok true) (subst (λ (u : Bool). Reads reply (cond u (done true) by_supers) (Ok true)) (sym met ∙ is) (done_reads reply true true refl))

    module _ (w : Bool) (is : w ≡ is_under_object l a b) (apart : w ≡ false) where
      asked_of : (x : Result Bool (Stop (Query JavaPred))) → Reads reply by_supers x → Reads reply (base_fits l s t s.base t.base) x
      asked_of x h = at_classes x (subst (λ (u : Bool). Reads reply (cond u (done true) by_supers) x) (sym apart ∙ is) h)

      pub class_ok : (up : Answer JavaDatum) (v : Bool) → s.dims ≡ t.dims → reply (for_any SUPERS a) ≡ Some up → v ≡ has_end l Supertypes b up → Reads reply (base_fits l s t s.base t.base) (Ok v)
      unfolding supers_of
      class_ok up v d e k =
          asked_of (Ok v) (ask_ok reply (for_any SUPERS a) (λ up. done (is_subtype (with_object l a (answer_supers l up)) (object_scope l) s t)) up (Ok v) e
          (done_reads reply (is_subtype (with_object l a (answer_supers l up)) (object_scope l) s t) v
          (class_below (with_object l a (answer_supers l up)) (object_scope l) s t a b from to d ∙ (above_by l b a up (sym is ∙ apart) ∙ sym k))))

      class_unknown : reply (for_any SUPERS a) ≡ None → Reads {U = Bool} reply (base_fits l s t s.base t.base) (Err (NoReply (for_any SUPERS a)))
      unfolding supers_of
      class_unknown e = asked_of (Err (NoReply (for_any SUPERS a))) (ask_err reply (for_any SUPERS a) (λ up. done (is_subtype (with_object l a (answer_supers l up)) (object_scope l) s t)) e)

      pub class_err : (q : Query JavaPred) (e : Stop (Query JavaPred)) → q ≡ for_any SUPERS a → e ≡ NoReply q → reply q ≡ None → Reads {U = Bool} reply (base_fits l s t s.base t.base) (Err e)
      class_err q e same asked none =
          subst (λ (z : Stop (Query JavaPred)). Reads {U = Bool} reply (base_fits l s t s.base t.base) (Err z)) (sym (asked ∙ ap (λ (k : Query JavaPred). NoReply k) same))
          (class_unknown (ap (λ (k : Query JavaPred). reply k) (sym same) ∙ none))

pub ruleset result_steps = (reading_steps, under_object, class_ok, class_err)
