-- The steps by which the static members are found and called that a file's static imports bring.
use Rattle.std.proofs.Common.{◌≡◌, List, [], ◌∷◌, Result, Ok, refl, sym, ◌∙◌, subst}
use Rattle.sg_base.specs.declared.scope.Scope.{Scope}
use Rattle.sg_reading.specs.Reading.{done}
use Rattle.sg_reading.specs.Stop.{Reads}
use Rattle.sg_reading.proofs.Steps.{done_reads, reading_steps}
use Rattle.jv_diag.specs.declared.codes.TheConstants.{AMBIGUOUS_NAME, TOO_MANY_PATHS}
use Rattle.jv_diag.specs.Plain.{DiagOf}
use Rattle.jv_instance.specs.declared.ty.Ty.{Ty}
use Rattle.jv_tree.specs.declared.name.Ident.{Ident}
use Rattle.jv_types.specs.Operators.{bad_type}
use Rattle.jv_names.specs.declared.ends.Ends.{Ends}
use Rattle.jv_names.specs.declared.ends.Ends.TheVariants.{Scopes, TooMany as TooManyEnds}
use Rattle.jv_names.specs.declared.meaning.Meaning.{Meaning}
use Rattle.jv_names.specs.declared.meaning.Meaning.TheVariants.{One, Nothing, Ambiguous, TooMany}
use Rattle.jv_names.specs.Replies.{Rule}
use Rattle.jv_expr.specs.declared.argument.Argument.{Argument}
use Rattle.jv_expr.specs.declared.found_field.FoundField.{FoundField}
use Rattle.jv_expr.specs.declared.found_field.FoundField.TheVariants.{Imported, Several, TooMany as TooManyFields}
use Rattle.jv_expr.specs.Calls.{Manner, bad_call, imported, imported_among, method_called}
use Rattle.jv_expr.specs.Checking.{Checking}
use Rattle.jv_expr.specs.Imported.{brought_meaning}
use Rattle.jv_expr.specs.Site.{SiteOf, with_named}
use Rattle.jv_expr.specs.Variables.{in_import}
use Rattle.jv_expr.proofs.CallSteps.{Need, Replies, call_steps}

-- ---- fields

module _ (reply : Replies) (next : Rule FoundField) where
  -- by what the name means among the fields that imports bring
  abbrev found_by : Meaning → Rule FoundField
  found_by (One m) = done (Imported m)
  found_by Nothing = next
  found_by Ambiguous = done Several
  found_by TooMany = done TooManyFields

  field_meant : (e : Ends) (x : Result FoundField Need) → Reads reply (found_by (brought_meaning e)) x → Reads reply (in_import e next) x
  field_meant TooManyEnds x h = h
  field_meant (Scopes []) x h = h
  field_meant (Scopes (m ∷ [])) x h = h
  field_meant (Scopes (m ∷ k ∷ ms)) x h = h

  module _ (e : Ends) (m : Meaning) (meant : m ≡ brought_meaning e) where
    by_field : (k : Meaning) (x : Result FoundField Need) → m ≡ k → Reads reply (found_by k) x → Reads reply (in_import e next) x
    by_field k x is h = field_meant e x (subst (λ (k : Meaning). Reads reply (found_by k) x) (sym is ∙ meant) h)

    pub field_imported : (f : Scope) → m ≡ One f → Reads reply (in_import e next) (Ok (Imported f))
    field_imported f is = by_field (One f) (Ok (Imported f)) is (done_reads reply (Imported f) (Imported f) refl)

    pub no_field_imported : (x : Result FoundField Need) → m ≡ Nothing → Reads reply next x → Reads reply (in_import e next) x
    no_field_imported x is h = by_field Nothing x is h

    pub fields_imported : m ≡ Ambiguous → Reads reply (in_import e next) (Ok Several)
    fields_imported is = by_field Ambiguous (Ok Several) is (done_reads reply Several Several refl)

    pub many_fields_imported : m ≡ TooMany → Reads reply (in_import e next) (Ok TooManyFields)
    many_fields_imported is = by_field TooMany (Ok TooManyFields) is (done_reads reply TooManyFields TooManyFields refl)

-- ---- methods

module _ (reply : Replies) (site : SiteOf) (i : Ident) (as' : List Argument) (ds : List DiagOf) (next : Checking Ty) where
  -- by what the name means among the methods that imports bring
  abbrev called_by : Meaning → Checking Ty
  called_by (One m) = method_called site imported i as' m ds
  called_by Nothing = next
  called_by Ambiguous = bad_call site i AMBIGUOUS_NAME ds
  called_by TooMany = bad_call site i TOO_MANY_PATHS ds

  method_meant : (e : Ends) (x : Result (Ty × List DiagOf) Need) → Reads reply (called_by (brought_meaning e)) x → Reads reply (imported_among site i as' ds next e) x
  method_meant TooManyEnds x h = h
  method_meant (Scopes []) x h = h
  method_meant (Scopes (m ∷ [])) x h = h
  method_meant (Scopes (m ∷ k ∷ ms)) x h = h

  module _ (e : Ends) (m : Meaning) (meant : m ≡ brought_meaning e) where
    by_method : (k : Meaning) (x : Result (Ty × List DiagOf) Need) → m ≡ k → Reads reply (called_by k) x → Reads reply (imported_among site i as' ds next e) x
    by_method k x is h = method_meant e x (subst (λ (k : Meaning). Reads reply (called_by k) x) (sym is ∙ meant) h)

    pub method_imported : (f : Scope) (how : Manner) (x : Result (Ty × List DiagOf) Need) → m ≡ One f → how ≡ imported → Reads reply (method_called site how i as' f ds) x → Reads reply (imported_among site i as' ds next e) x
    method_imported f how x is so h = by_method (One f) x is (subst (λ (how : Manner). Reads reply (method_called site how i as' f ds) x) so h)

    pub no_method_imported : (x : Result (Ty × List DiagOf) Need) → m ≡ Nothing → Reads reply next x → Reads reply (imported_among site i as' ds next e) x
    no_method_imported x is h = by_method Nothing x is h

    pub methods_imported : (v : Ty × List DiagOf) → m ≡ Ambiguous → v ≡ (bad_type, with_named site i AMBIGUOUS_NAME ds) → Reads reply (imported_among site i as' ds next e) (Ok v)
    methods_imported v is same = by_method Ambiguous (Ok v) is (done_reads reply (bad_type, with_named site i AMBIGUOUS_NAME ds) v (sym same))

    pub many_methods_imported : (v : Ty × List DiagOf) → m ≡ TooMany → v ≡ (bad_type, with_named site i TOO_MANY_PATHS ds) → Reads reply (imported_among site i as' ds next e) (Ok v)
    many_methods_imported v is same = by_method TooMany (Ok v) is (done_reads reply (bad_type, with_named site i TOO_MANY_PATHS ds) v (sym same))

pub ruleset imported_field_steps = (reading_steps, field_imported, no_field_imported, fields_imported, many_fields_imported)

pub ruleset imported_call_steps = (call_steps, method_imported, no_method_imported, methods_imported, many_methods_imported)
