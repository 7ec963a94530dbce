-- What begins a member of a class or of an interface is read to its end.
use Rattle.std.proofs.Common.{◌≡◌, ℕ, ◌<◌, ◌≤◌, Bool, true, false, List, [], ◌∷◌, length, arith, refl, sym, ap, ◌∙◌, subst}
use Rattle.jv_tree.specs.declared.name.Ident.{Ident as Identifier}
use Rattle.jv_tree.specs.TypeTree.{void, TypeTree}
use Rattle.jv_tree.specs.DeclTree.{ParamTree}
use Rattle.jv_grammar.specs.declared.terminal.Terminal.{Terminal}
use Rattle.jv_grammar.specs.declared.terminal.Terminal.TheVariants.{Ident, Keyword}
use Rattle.jv_grammar.specs.Marks.{paren_open, bracket_open, dot, word_void}
use Rattle.jv_grammar.specs.TypeGrammar.{starts, name_one, DerivesTy, DerivesResult, result_ty, result_void}
use Rattle.jv_grammar.specs.DeclGrammar.{DerivesParams}
use Rattle.jv_grammar.specs.TypeReader.{base_of, ty_of}
use Rattle.jv_grammar.specs.StmtReader.{var_by, vars_up_to, vars_by, block_by}
use Rattle.jv_grammar.specs.DeclReader.{calls, mods_of, params_of, constants_of, fields_in, body_of, field_of, method_of, typed_of, plain_of, inner_of, ctor_of, BelowType, behind_mods, member_of}
use Rattle.jv_grammar.specs.TypeBegins.{begun_name_whole, begun_base_name, BeginsTy, begun_ty_base, begun_ty_whole, BeginsResult, begun_result_none, begun_result_ty, begun_result_whole}
use Rattle.jv_grammar.specs.DeclBegins.{BeginsParams, begun_params_none, begun_params_some, begun_params_whole, BeginsBody, BeginsCtor, BeginsType, begun_type_none, begun_type_class, begun_type_interface, begun_type_whole, begun_member_none, begun_member_type, begun_member_result, begun_member_vars, begun_member_params, begun_member_body, begun_member_ctor_params, begun_member_ctor, begun_member_whole, begun_imember_none, begun_imember_type, begun_imember_result, begun_imember_constants, begun_imember_params, begun_imember_body, begun_imember_whole}
use Rattle.jv_grammar.proofs.BegunDepth.{begun_deep_type, begun_deep_body, begun_deep_ctor}
use Rattle.jv_grammar.proofs.Rows.{HasShortRows}
use Rattle.jv_grammar.proofs.Ending.{left_of, Ends}
use Rattle.jv_grammar.proofs.GoesLaw.{GoesBelowType, GoesMember, GoesImember}
use Rattle.jv_grammar.proofs.Types.{reads_ty}
use Rattle.jv_grammar.proofs.Few.{closed_ty, closed_result, few_result}
use Rattle.jv_grammar.proofs.DeclFew.{closed_mods, closed_params, few_params, few_type, few_member, few_imember}
use Rattle.jv_grammar.proofs.DeclStarts.{starts_mod, ty_begins, ty_calls, ty_plain, result_begins, result_calls, params_open}
use Rattle.jv_grammar.proofs.DeclComplete.{CompType, reads_mods, reads_params, plain_method, behind_plain, c_nested, c_member, c_imember}
use Rattle.jv_grammar.proofs.Goes.{ends_bind}
use Rattle.jv_grammar.proofs.GoesTypes.{goes_ty}
use Rattle.jv_grammar.proofs.BegunRows.{few_rows, rows_behind, low_ty}
use Rattle.jv_grammar.proofs.BegunStmtStarts.{IsBegunIdent, begun_vars}
use Rattle.jv_grammar.proofs.GoesLocals.{goes_vars}
use Rattle.jv_grammar.proofs.BegunDeclStarts.{IsBegunDecl, begun_ident_no_mark, begun_ty, begun_ty_calls, begun_ty_plain, begun_vars_calls, begun_constants, begun_class, begun_interface}
use Rattle.jv_grammar.proofs.GoesHeadings.{goes_params, goes_constants, goes_body, goes_ctor}

result_mod : {xs : List Terminal} → BeginsResult xs → starts_mod xs ≡ false
result_mod begun_result_none = refl
result_mod (begun_result_ty r) = (begun_ty r).no_mod
result_mod (begun_result_whole d) = (result_begins d).0

-- what stands behind a type, an identifier or parameters at the end
field_none : (i : Bool) (n : ℕ) (ks : List ℕ) (r : TypeTree) → Ends (field_of i n ks r [])
unfolding field_of constants_of vars_by vars_up_to
field_none true n ks r = refl
field_none false n ks r = refl

field_alone : (i : Bool) (n : ℕ) (j : Identifier) → Ends (fields_in i n (Ident j ∷ []))
unfolding constants_of vars_by vars_up_to var_by
field_alone true n j = refl
field_alone false n j = refl

body_none : (n : ℕ) → Ends (body_of n [])
unfolding block_by
body_none n = refl

plain_none : (i : Bool) (n : ℕ) (ks : List ℕ) → Ends (plain_of i n ks [])
unfolding plain_of typed_of ty_of base_of
plain_none i n ks = refl

plain_void : (i : Bool) (n : ℕ) (ks : List ℕ) (p : ℕ) (xs : List Terminal) → plain_of i n ks (Keyword p word_void ∷ xs) ≡ method_of n ks (record { at = p; base = void; dims = 0 }) xs
unfolding plain_of
plain_void i n ks p xs = refl

field_ends : (i : Bool) (n : ℕ) (ks : List ℕ) (r : TypeTree) (xs : List Terminal) → Ends (fields_in i n xs) → Ends (field_of i n ks r xs)
unfolding field_of
field_ends i n ks r xs h = ends_bind (fields_in i n xs) _ h (λ x. refl)

typed_begun : (i : Bool) (n : ℕ) (ks : List ℕ) (xs : List Terminal) → BeginsTy xs → HasShortRows xs → Ends (typed_of i n ks xs)
unfolding typed_of
typed_begun i n ks xs r h = ends_bind (ty_of xs) _ (goes_ty xs r h) (λ x. field_none i n ks x)

typed_fields : (i : Bool) (n : ℕ) (ks : List ℕ) {r : TypeTree} {xs ys : List Terminal} (d : DerivesTy r xs ys) → HasShortRows xs → IsBegunIdent ys → calls ys ≡ false → typed_of i n ks xs ≡ field_of i n ks r ys
unfolding typed_of
typed_fields i n ks {ys} d h s e = rw (reads_ty d (low_ty h d) (begun_ident_no_mark dot ys s) (begun_ident_no_mark bracket_open ys s)) (rw e refl)

method_params : (n : ℕ) (ks : List ℕ) (r : TypeTree) (j : Identifier) (xs : List Terminal) → BeginsParams xs → HasShortRows xs → Ends (method_of n ks r (Ident j ∷ xs))
unfolding method_of
method_params n ks r j xs q h = ends_bind (params_of xs) _ (goes_params xs q h) (λ x. ends_bind (body_of n []) _ (body_none n) (λ y. refl))

method_body : (n : ℕ) (ks : List ℕ) (r : TypeTree) (j : Identifier) {bs : List ParamTree} {xs zs : List Terminal} → DerivesParams bs xs zs → (d : BeginsBody zs) → begun_deep_body d ≤ n → HasShortRows xs → Ends (method_of n ks r (Ident j ∷ xs))
unfolding method_of
method_body n ks r j {xs} {zs} q d l h =
    rw (reads_params q (few_params (few_rows xs h) q)) (ends_bind (body_of n zs) _ (goes_body n zs d l (rows_behind (closed_params q) h)) (λ x. refl))

module _ (n : ℕ) (nest : BelowType) (c : CompType n nest) (t : GoesBelowType n nest) where
  -- behind modifiers, at the end or in front of a type, of fields or of a method
  behind_none : (i : Bool) (ks : List ℕ) → Ends (behind_mods i n nest ks [])
  behind_none i ks = subst Ends (sym (behind_plain n nest c i ks [] refl refl)) (plain_none i n ks)

  behind_ty : (i : Bool) (ks : List ℕ) (xs : List Terminal) → BeginsTy xs → HasShortRows xs → Ends (behind_mods i n nest ks xs)
  behind_ty i ks xs r h = subst Ends (sym (behind_plain n nest c i ks xs (begun_ty r).no_type (begun_ty_calls r) ∙ begun_ty_plain i n ks r)) (typed_begun i n ks xs r h)

  behind_void : (i : Bool) (ks : List ℕ) (p : ℕ) (xs : List Terminal) → Ends (method_of n ks (record { at = p; base = void; dims = 0 }) xs) → Ends (behind_mods i n nest ks (Keyword p word_void ∷ xs))
  behind_void i ks p xs h = subst Ends (sym (behind_plain n nest c i ks (Keyword p word_void ∷ xs) refl refl ∙ plain_void i n ks p xs)) h

  method_none : (ks : List ℕ) (r : TypeTree) → Ends (method_of n ks r [])
  unfolding method_of
  method_none ks r = refl

  behind_result : (i : Bool) (ks : List ℕ) (xs : List Terminal) → BeginsResult xs → HasShortRows xs → Ends (behind_mods i n nest ks xs)
  behind_result i ks xs begun_result_none h = behind_none i ks
  behind_result i ks xs (begun_result_ty r) h = behind_ty i ks xs r h
  behind_result i ks xs (begun_result_whole (result_ty d)) h = behind_ty i ks xs (begun_ty_whole d) h
  behind_result i ks xs (begun_result_whole (result_void {p})) h = behind_void i ks p [] (method_none ks (record { at = p; base = void; dims = 0 }))

  behind_fields : (i : Bool) (ks : List ℕ) {r : TypeTree} {xs ys : List Terminal} (d : DerivesTy r xs ys) → HasShortRows xs → IsBegunIdent ys → calls ys ≡ false → Ends (fields_in i n ys) → Ends (behind_mods i n nest ks xs)
  behind_fields i ks {r} {xs} {ys} d h s e f =
      subst Ends (sym (behind_plain n nest c i ks xs (ty_begins d).1 (ty_calls d (begun_ident_no_mark paren_open ys s)) ∙ ty_plain i n ks d ∙ typed_fields i n ks d h s e)) (field_ends i n ks r ys f)

  behind_method : (i : Bool) (ks : List ℕ) {r : TypeTree} {j : Identifier} {xs ys : List Terminal} (d : DerivesResult r xs (Ident j ∷ ys)) → HasShortRows xs → starts paren_open ys ≡ true → Ends (method_of n ks r (Ident j ∷ ys)) → Ends (behind_mods i n nest ks xs)
  behind_method i ks {xs} d h s f =
      subst Ends (sym (behind_plain n nest c i ks xs (result_begins d).1 (result_calls d refl) ∙ plain_method i n ks d (few_result (few_rows xs h) d) s)) f

  behind_params : (i : Bool) (ks : List ℕ) {r : TypeTree} {j : Identifier} {xs ys : List Terminal} → DerivesResult r xs (Ident j ∷ ys) → BeginsParams ys → HasShortRows xs → Ends (behind_mods i n nest ks xs)
  behind_params i ks {j} (result_ty d) begun_params_none h = behind_fields i ks d h refl refl (field_alone i n j)
  behind_params i ks {j} (result_void {p}) begun_params_none h = behind_void i ks p (Ident j ∷ []) (method_params n ks (record { at = p; base = void; dims = 0 }) j [] begun_params_none tt)
  behind_params i ks {r} {j} {ys} d (begun_params_some {p} q) h = behind_method i ks d h refl (method_params n ks r j ys (begun_params_some {p = p} q) (rows_behind (closed_result d) h).1)
  behind_params i ks {r} {j} {ys} d (begun_params_whole q) h = behind_method i ks d h (params_open q) (method_params n ks r j ys (begun_params_whole q) (rows_behind (closed_result d) h).1)

  -- a nested type
  behind_decl : (i : Bool) (ks : List ℕ) (xs : List Terminal) → IsBegunDecl xs → Ends (nest ks xs) → Ends (behind_mods i n nest ks xs)
  unfolding behind_mods
  behind_decl i ks [] s h = behind_none i ks
  behind_decl i ks (x ∷ xs) s h = rw s (ends_bind (nest ks (x ∷ xs)) _ h (λ y. refl))

  pub member_none : (i : Bool) → Ends (member_of i n nest [])
  unfolding member_of mods_of
  member_none i = behind_none i []

  nested_goes : (i : Bool) (xs : List Terminal) (d : BeginsType xs) → begun_deep_type d < n → HasShortRows xs → Ends (member_of i n nest xs)
  unfolding member_of
  nested_goes i xs begun_type_none l h = member_none i
  nested_goes i xs (begun_type_class {ks} {zs} m r) l h =
      let s = begun_class r in
      rw (reads_mods m s.0) (behind_decl i ks zs s.1 (t.class r ks l (rows_behind (closed_mods m) h)))
  nested_goes i xs (begun_type_interface {ks} {zs} m r) l h =
      let s = begun_interface r in
      rw (reads_mods m s.0) (behind_decl i ks zs s.1 (t.interface r ks l (rows_behind (closed_mods m) h)))
  nested_goes i xs (begun_type_whole d) l h = ap left_of (c_nested n nest c i d l (few_type (few_rows xs h) d))

  -- a constructor
  ctor_params : (ks : List ℕ) (j : Identifier) (xs : List Terminal) → BeginsParams xs → starts paren_open xs ≡ true → HasShortRows xs → Ends (behind_mods false n nest ks (Ident j ∷ xs))
  unfolding behind_mods ctor_of inner_of
  ctor_params ks j xs q s h = rw s (ends_bind (params_of xs) _ (goes_params xs q h) (λ x. refl))

  ctor_begun : (ks : List ℕ) (j : Identifier) (xs : List Terminal) → BeginsParams xs → HasShortRows (Ident j ∷ xs) → Ends (behind_mods false n nest ks (Ident j ∷ xs))
  ctor_begun ks j xs begun_params_none h = behind_ty false ks (Ident j ∷ []) (begun_ty_base (begun_base_name (begun_name_whole (name_one {i = j})))) h
  ctor_begun ks j xs (begun_params_some {p} q) h = ctor_params ks j xs (begun_params_some {p = p} q) refl h.1
  ctor_begun ks j xs (begun_params_whole q) h = ctor_params ks j xs (begun_params_whole q) (params_open q) h.1

  ctor_inner : (ks : List ℕ) (j : Identifier) {bs : List ParamTree} {xs zs : List Terminal} → DerivesParams bs xs zs → (d : BeginsCtor zs) → begun_deep_ctor d ≤ n → HasShortRows xs → Ends (behind_mods false n nest ks (Ident j ∷ xs))
  unfolding behind_mods ctor_of
  ctor_inner ks j {xs} {zs} q d l h =
      rw (params_open q) (rw (reads_params q (few_params (few_rows xs h) q)) (ends_bind (inner_of n zs) _ (goes_ctor n zs d l (rows_behind (closed_params q) h)) (λ x. refl)))

  pub goes_member : GoesMember n nest
  unfolding member_of
  goes_member xs begun_member_none l h = member_none false
  goes_member xs (begun_member_type r) l h = nested_goes false xs r (omega arith) h
  goes_member xs (begun_member_result {ks} {zs} m r) l h = rw (reads_mods m (result_mod r)) (behind_result false ks zs r (rows_behind (closed_mods m) h))
  goes_member xs (begun_member_vars {ks} {ws} m d r) l h =
      let k = rows_behind (closed_mods m) h in
      rw (reads_mods m (ty_begins d).0) (behind_fields false ks d k (begun_vars r).0 (begun_vars_calls r) (goes_vars n ws r l (rows_behind (closed_ty d) k)))
  goes_member xs (begun_member_params {ks} m d r) l h = rw (reads_mods m (result_begins d).0) (behind_params false ks d r (rows_behind (closed_mods m) h))
  goes_member xs (begun_member_body {ks} {r} {i} m d q b) l h =
      let k = rows_behind (closed_mods m) h in
      rw (reads_mods m (result_begins d).0) (behind_method false ks d k (params_open q) (method_body n ks r i q b l (rows_behind (closed_result d) k).1))
  goes_member xs (begun_member_ctor_params {ks} {i} {zs} m r) l h = rw (reads_mods m refl) (ctor_begun ks i zs r (rows_behind (closed_mods m) h))
  goes_member xs (begun_member_ctor {ks} {i} m q r) l h = rw (reads_mods m refl) (ctor_inner ks i q r l (rows_behind (closed_mods m) h).1)
  goes_member xs (begun_member_whole d) l h = ap left_of (c_member n nest c d l (few_member (few_rows xs h) d))

  pub goes_imember : GoesImember n nest
  unfolding member_of
  goes_imember xs begun_imember_none l h = member_none true
  goes_imember xs (begun_imember_type r) l h = nested_goes true xs r (omega arith) h
  goes_imember xs (begun_imember_result {ks} {zs} m r) l h = rw (reads_mods m (result_mod r)) (behind_result true ks zs r (rows_behind (closed_mods m) h))
  goes_imember xs (begun_imember_constants {ks} {ws} m d r) l h =
      let k = rows_behind (closed_mods m) h in
      let b = begun_constants r in
      rw (reads_mods m (ty_begins d).0) (behind_fields true ks d k b.0 b.1 (goes_constants n ws r (length ws) l (rows_behind (closed_ty d) k) (omega arith)))
  goes_imember xs (begun_imember_params {ks} m d r) l h = rw (reads_mods m (result_begins d).0) (behind_params true ks d r (rows_behind (closed_mods m) h))
  goes_imember xs (begun_imember_body {ks} {r} {i} m d q b) l h =
      let k = rows_behind (closed_mods m) h in
      rw (reads_mods m (result_begins d).0) (behind_method true ks d k (params_open q) (method_body n ks r i q b l (rows_behind (closed_result d) k).1))
  goes_imember xs (begun_imember_whole d) l h = ap left_of (c_imember n nest c d l (few_imember (few_rows xs h) d))
