-- What is read derives: declarations and files.
use Rattle.std.proofs.Common.{◌≡◌, ℕ, zero, suc, ◌≤◌, ◌&&◌, not, ◌⊎◌, inl, inr, Bool, true, false, cond, nat_eq, List, [], ◌∷◌, length, arith, refl, sym, ap, ◌∙◌, subst, true≢false, ltb-false, nat_lt, Ok, Some, None, Option}
use Rattle.std.specs.List.{list_any}
use borrow.Author.Tests.{eqb-true}
use Rattle.jv_tree.specs.declared.name.Ident.{Ident as Identifier}
use Rattle.jv_tree.specs.TypeTree.{void, TypeTree}
use Rattle.jv_tree.specs.ExprTree.{ExprTrees}
use Rattle.jv_tree.specs.StmtTree.{VarTree, StmtTrees}
use Rattle.jv_tree.specs.DeclTree as t
use Rattle.jv_tree.specs.DeclTree.{ParamTree, TypeDeclTree, MemberTree, MemberTrees, ImportTree, UnitTree}
use Rattle.jv_grammar.specs.declared.terminal.Terminal.{Terminal}
use Rattle.jv_grammar.specs.declared.terminal.Terminal.TheVariants.{Ident, Keyword, Punct}
use Rattle.jv_grammar.specs.Marks.{paren_open, paren_close, brace_open, brace_close, semicolon, comma, dot, equals_sign, star, word_class, word_extends, word_final, word_implements, word_import, word_interface, word_package, word_static, word_super, word_void, modifiers}
use Rattle.jv_grammar.specs.TypeGrammar.{is_mark, starts, starts_word, DerivesName, name_one, name_more, DerivesNames, names_one, names_more, DerivesTy, DerivesResult, result_ty, result_void}
use Rattle.jv_grammar.specs.DeclGrammar.{DerivesMods, mods_none, mods_more, DerivesParam, param_plain, param_final, DerivesSomeParams, some_params_one, some_params_more, DerivesParams, params_none, params_some, DerivesBody, body_block, body_none, DerivesCtor, ctor_plain, ctor_super, DerivesConstants, constants_one, constants_more, DerivesParent, parent_none, parent_some, DerivesParents, parents_none, parents_some, DerivesInterfaces, interfaces_none, interfaces_some, DerivesType, type_class, type_interface, DerivesClass, class, DerivesInterface, interface, DerivesMembers, members_none, members_more, members_empty, DerivesMember, member_type, member_field, member_method, member_ctor, DerivesImembers, imembers_none, imembers_more, imembers_empty, DerivesImember, imember_type, imember_field, imember_method, DerivesPackage, package_none, package_some, DerivesImport, import_one, import_all, import_static_one, import_static_all, DerivesImports, imports_none, imports_more, DerivesTypes, types_none, types_more, types_empty, Derives, file}
use Rattle.jv_grammar.specs.Reader.{rest_of, closed}
use Rattle.jv_grammar.specs.TypeReader.{name_of, ty_of}
use Rattle.jv_grammar.specs.ExprReader.{args_of, init_of, below}
use Rattle.jv_grammar.specs.StmtReader.{block_of, bstmts_of}
use Rattle.jv_grammar.specs.DeclReader.{ident_of, calls, mods_of, names_of, parent_of, headed_of, named_of, param_of, some_params_of, params_of, constants_of, fields_in, body_of, field_of, method_of, typed_of, plain_of, call_of, inner_of, ctor_of, BelowType, begins_type, behind_mods, member_of, members_of, braced_of, class_of, interface_of, decl_of, below_type, type_of, types_of, package_of, path_of, stands_alone, listed_of, import_of, imports_of, file_of}
use Rattle.jv_grammar.specs.Width.{wide_ty, wide_result}
use Rattle.jv_grammar.specs.DeclWidth.{wide_param, wide_some_params, wide_params, wide_body, wide_ctor, wide_constants, wide_type, wide_class, wide_interface, wide_members, wide_member, wide_imembers, wide_imember, wide_types, wide_file}
use Rattle.jv_grammar.proofs.Read.{bind_ok, chosen, err_ok, ok_is, both, starts_is, closed_ok}
use Rattle.jv_grammar.proofs.Types.{derives_name, derives_ty}
use Rattle.jv_grammar.proofs.Sound.{AreArgs, IsInit, two_are, derives_init, derives_args}
use Rattle.jv_grammar.proofs.StmtSound.{starts_word_is, AreBstmts, derives_vars, derives_block, derives_bstmts}

-- derivations whose types have at most 200 pairs of brackets
abbrev pub IsTy : TypeTree → List Terminal → List Terminal → Type 0
IsTy r xs ys = (d : DerivesTy r xs ys) × (wide_ty d ≤ 200)

abbrev pub IsResulting : TypeTree → List Terminal → List Terminal → Type 0
IsResulting r xs ys = (d : DerivesResult r xs ys) × (wide_result d ≤ 200)

abbrev pub IsParam : ParamTree → List Terminal → List Terminal → Type 0
IsParam a xs ys = (d : DerivesParam a xs ys) × (wide_param d ≤ 200)

abbrev pub AreSomeParams : List ParamTree → List Terminal → List Terminal → Type 0
AreSomeParams bs xs ys = (d : DerivesSomeParams bs xs ys) × (wide_some_params d ≤ 200)

abbrev pub AreParams : List ParamTree → List Terminal → List Terminal → Type 0
AreParams bs xs ys = (d : DerivesParams bs xs ys) × (wide_params d ≤ 200)

abbrev pub IsBodyOf : Option StmtTrees → List Terminal → List Terminal → Type 0
IsBodyOf b xs ys = (d : DerivesBody b xs ys) × (wide_body d ≤ 200)

abbrev pub IsCtor : Option (ℕ × ExprTrees) → StmtTrees → List Terminal → List Terminal → Type 0
IsCtor c ss xs ys = (d : DerivesCtor c ss xs ys) × (wide_ctor d ≤ 200)

abbrev pub AreConstants : List VarTree → List Terminal → List Terminal → Type 0
AreConstants vs xs ys = (d : DerivesConstants vs xs ys) × (wide_constants d ≤ 200)

abbrev pub IsType : TypeDeclTree → List Terminal → List Terminal → Type 0
IsType x xs ys = (d : DerivesType x xs ys) × (wide_type d ≤ 200)

abbrev pub IsClass : List ℕ → TypeDeclTree → List Terminal → List Terminal → Type 0
IsClass ks x xs ys = (d : DerivesClass ks x xs ys) × (wide_class d ≤ 200)

abbrev pub IsInterface : List ℕ → TypeDeclTree → List Terminal → List Terminal → Type 0
IsInterface ks x xs ys = (d : DerivesInterface ks x xs ys) × (wide_interface d ≤ 200)

-- a member, and members, of a class or of an interface
abbrev pub IsMember : Bool → MemberTree → List Terminal → List Terminal → Type 0
IsMember false m xs ys = (d : DerivesMember m xs ys) × (wide_member d ≤ 200)
IsMember true m xs ys = (d : DerivesImember m xs ys) × (wide_imember d ≤ 200)

abbrev pub AreMembers : Bool → MemberTrees → List Terminal → List Terminal → Type 0
AreMembers false ms xs ys = (d : DerivesMembers ms xs ys) × (wide_members d ≤ 200)
AreMembers true ms xs ys = (d : DerivesImembers ms xs ys) × (wide_imembers d ≤ 200)

abbrev pub AreTypes : List TypeDeclTree → List Terminal → Type 0
AreTypes ts xs = (d : DerivesTypes ts xs []) × (wide_types d ≤ 200)

abbrev pub IsFile : List Terminal → UnitTree → Type 0
IsFile xs u = (d : Derives xs u) × (wide_file d ≤ 200)

abbrev FoundNames : List Terminal → List (List Identifier) × List Terminal → Type 0
FoundNames xs r = DerivesNames r.0 xs r.1

abbrev FoundParent : List Terminal → List (List Identifier) × List Terminal → Type 0
FoundParent xs r = DerivesParent r.0 xs r.1

abbrev FoundParents : List Terminal → List (List Identifier) × List Terminal → Type 0
FoundParents xs r = DerivesParents r.0 xs r.1

abbrev FoundInterfaces : List Terminal → List (List Identifier) × List Terminal → Type 0
FoundInterfaces xs r = DerivesInterfaces r.0 xs r.1

abbrev FoundParam : List Terminal → ParamTree × List Terminal → Type 0
FoundParam xs r = IsParam r.0 xs r.1

abbrev FoundSomeParams : List Terminal → List ParamTree × List Terminal → Type 0
FoundSomeParams xs r = AreSomeParams r.0 xs r.1

abbrev FoundParams : List Terminal → List ParamTree × List Terminal → Type 0
FoundParams xs r = AreParams r.0 xs r.1

abbrev FoundBody : List Terminal → Option StmtTrees × List Terminal → Type 0
FoundBody xs r = IsBodyOf r.0 xs r.1

abbrev FoundCtor : List Terminal → (Option (ℕ × ExprTrees) × StmtTrees) × List Terminal → Type 0
FoundCtor xs r = IsCtor r.0.0 r.0.1 xs r.1

abbrev FoundConstants : List Terminal → List VarTree × List Terminal → Type 0
FoundConstants xs r = AreConstants r.0 xs r.1

abbrev FoundType : List Terminal → TypeDeclTree × List Terminal → Type 0
FoundType xs r = IsType r.0 xs r.1

-- a class or an interface behind its modifiers
abbrev pub FoundDecl : List ℕ → List Terminal → TypeDeclTree × List Terminal → Type 0
FoundDecl ks xs r = IsClass ks r.0 xs r.1 ⊎ IsInterface ks r.0 xs r.1

abbrev FoundMember : Bool → List Terminal → MemberTree × List Terminal → Type 0
FoundMember i xs r = IsMember i r.0 xs r.1

-- members with the `}` behind them
abbrev FoundMembers : Bool → List Terminal → MemberTrees × List Terminal → Type 0
FoundMembers i xs r = (p : ℕ) × AreMembers i r.0 xs (Punct p brace_close ∷ r.1)

abbrev FoundPackage : List Terminal → Option (List Identifier) × List Terminal → Type 0
FoundPackage xs r = DerivesPackage r.0 xs r.1

abbrev FoundImports : List Terminal → List ImportTree × List Terminal → Type 0
FoundImports xs r = DerivesImports r.0 xs r.1

pub ident_ok : (xs : List Terminal) (r : Identifier × List Terminal) → ident_of xs ≡ Ok r → xs ≡ Ident r.0 ∷ r.1
ident_ok [] r h = absurd (err_ok h)
ident_ok (Ident i ∷ xs) r h = ap (λ (z : Identifier × List Terminal). Ident z.0 ∷ z.1) (ok_is h)
ident_ok (x ∷ xs) r h = absurd (err_ok h)

mods_step : (p k : ℕ) (xs : List Terminal) (r : List ℕ × List Terminal) (b : Bool) → list_any (nat_eq k) modifiers ≡ b → DerivesMods r.0 xs r.1
    → DerivesMods (cond {A = List ℕ × List Terminal} b (k ∷ r.0, r.1) ([], Keyword p k ∷ xs)).0 (Keyword p k ∷ xs) (cond {A = List ℕ × List Terminal} b (k ∷ r.0, r.1) ([], Keyword p k ∷ xs)).1
mods_step p k xs r true h d = mods_more h d
mods_step p k xs r false h d = mods_none

pub derives_mods : (xs : List Terminal) → DerivesMods (mods_of xs).0 xs (mods_of xs).1
unfolding mods_of
derives_mods [] = mods_none
derives_mods (Keyword p k ∷ xs) = mods_step p k xs (mods_of xs) (list_any (nat_eq k) modifiers) refl (derives_mods xs)
derives_mods (x ∷ xs) = mods_none

pub derives_names : (k : ℕ) (xs : List Terminal) (r : List (List Identifier) × List Terminal) → names_of k xs ≡ Ok r → FoundNames xs r
unfolding names_of
derives_names zero xs r h = absurd (err_ok h)
derives_names (suc k) xs r h =
    let x = bind_ok (name_of xs) _ _ h in
    let d = derives_name xs _ x.1 in
    elim (chosen (starts comma x.0.1) _ _ _ x.2) [
      | inl w ↦ (let m = starts_is comma x.0.1 w.0 in
          let y = bind_ok (names_of k (rest_of x.0.1)) _ _ w.1 in
          subst (FoundNames xs) (ok_is y.2) (names_more (subst (DerivesName x.0.0 xs) m.1 d) (derives_names k _ _ y.1)))
      | inr w ↦ subst (FoundNames xs) (ok_is w.1) (names_one d)
    ]

pub derives_parent : (xs : List Terminal) (r : List (List Identifier) × List Terminal) → parent_of xs ≡ Ok r → FoundParent xs r
unfolding parent_of
derives_parent xs r h = elim (chosen (starts_word word_extends xs) _ _ _ h) [
  | inl w ↦ (let m = starts_word_is word_extends xs w.0 in
      let x = bind_ok (name_of (rest_of xs)) _ _ w.1 in
      subst (FoundParent xs) (ok_is x.2) (subst (λ z. DerivesParent (x.0.0 ∷ []) z x.0.1) (sym m.1) (parent_some (derives_name (rest_of xs) _ x.1))))
  | inr w ↦ subst (FoundParent xs) (ok_is w.1) parent_none
]

pub derives_parents : (xs : List Terminal) (r : List (List Identifier) × List Terminal) → headed_of word_extends xs ≡ Ok r → FoundParents xs r
unfolding headed_of
derives_parents xs r h = elim (chosen (starts_word word_extends xs) _ _ _ h) [
  | inl w ↦ (let m = starts_word_is word_extends xs w.0 in
      subst (λ z. DerivesParents r.0 z r.1) (sym m.1) (parents_some (derives_names (length xs) (rest_of xs) r w.1)))
  | inr w ↦ subst (FoundParents xs) (ok_is w.1) parents_none
]

pub derives_interfaces : (xs : List Terminal) (r : List (List Identifier) × List Terminal) → headed_of word_implements xs ≡ Ok r → FoundInterfaces xs r
unfolding headed_of
derives_interfaces xs r h = elim (chosen (starts_word word_implements xs) _ _ _ h) [
  | inl w ↦ (let m = starts_word_is word_implements xs w.0 in
      subst (λ z. DerivesInterfaces r.0 z r.1) (sym m.1) (interfaces_some (derives_names (length xs) (rest_of xs) r w.1)))
  | inr w ↦ subst (FoundInterfaces xs) (ok_is w.1) interfaces_none
]

-- a type and an identifier
named_ok : (f : Bool) (xs : List Terminal) (r : ParamTree × List Terminal) → named_of f xs ≡ Ok r
    → (y : TypeTree) × (i : Identifier) × IsTy y xs (Ident i ∷ r.1) × (record { is_final = f; ty = y; name = i } ≡ r.0)
named_ok f xs r h =
    let x = bind_ok (ty_of xs) _ _ h in
    let y = bind_ok (ident_of x.0.1) _ _ x.2 in
    let q = ok_is y.2 in
    let e = ident_ok x.0.1 y.0 y.1 ∙ ap (λ (z : ParamTree × List Terminal). Ident y.0.0 ∷ z.1) q in
    (x.0.0, y.0.0, subst (IsTy x.0.0 xs) e (derives_ty xs _ x.1), ap (λ (z : ParamTree × List Terminal). z.0) q)

pub derives_param : (xs : List Terminal) (r : ParamTree × List Terminal) → param_of xs ≡ Ok r → FoundParam xs r
unfolding param_of
derives_param xs r h = elim (chosen (starts_word word_final xs) _ _ _ h) [
  | inl w ↦ (let m = starts_word_is word_final xs w.0 in
      let x = named_ok true (rest_of xs) r w.1 in
      subst (λ z. IsParam z xs r.1) x.3 (subst (λ z. IsParam (record { is_final = true; ty = x.0; name = x.1 }) z r.1) (sym m.1) (param_final x.2.0, x.2.1)))
  | inr w ↦ (let x = named_ok false xs r w.1 in
      subst (λ z. IsParam z xs r.1) x.3 (param_plain x.2.0, x.2.1))
]

pub derives_some_params : (k : ℕ) (xs : List Terminal) (r : List ParamTree × List Terminal) → some_params_of k xs ≡ Ok r → FoundSomeParams xs r
unfolding some_params_of
derives_some_params zero xs r h = absurd (err_ok h)
derives_some_params (suc k) xs r h =
    let x = bind_ok (param_of xs) _ _ h in
    let d = derives_param xs _ x.1 in
    elim (chosen (starts comma x.0.1) _ _ _ x.2) [
      | inl w ↦ (let m = starts_is comma x.0.1 w.0 in
          let y = bind_ok (some_params_of k (rest_of x.0.1)) _ _ w.1 in
          let d' = subst (IsParam x.0.0 xs) m.1 d in
          let q = derives_some_params k _ _ y.1 in
          subst (FoundSomeParams xs) (ok_is y.2) (some_params_more d'.0 q.0, omega (arith, d'.1, q.1)))
      | inr w ↦ subst (FoundSomeParams xs) (ok_is w.1) (some_params_one d.0, d.1)
    ]

pub derives_params : (xs : List Terminal) (r : List ParamTree × List Terminal) → params_of xs ≡ Ok r → FoundParams xs r
unfolding params_of
derives_params xs r h = elim (chosen (starts paren_open xs) _ _ _ h) [
  | inl w ↦ elim (chosen (starts paren_close (rest_of xs)) _ _ _ w.1) [
    | inl v ↦ (let m = two_are paren_open paren_close xs w.0 v.0 in
        subst (FoundParams xs) (ok_is v.1) (subst (λ z. AreParams [] z (rest_of (rest_of xs))) (sym m.2) (params_none, omega arith)))
    | inr v ↦ (let m = starts_is paren_open xs w.0 in
        let x = bind_ok (some_params_of (length xs) (rest_of xs)) _ _ v.1 in
        let q = closed_ok paren_close x.0.0 x.0.1 r x.2 in
        let d = subst (AreSomeParams x.0.0 (rest_of xs)) q.1 (derives_some_params (length xs) _ _ x.1) in
        subst (λ z. AreParams z xs r.1) (sym q.2) (subst (λ z. AreParams x.0.0 z r.1) (sym m.1) (params_some d.0, d.1)))
  ]
  | inr w ↦ absurd (err_ok w.1)
]

pub derives_constants : (n k : ℕ) (xs : List Terminal) (r : List VarTree × List Terminal) → constants_of n k xs ≡ Ok r → FoundConstants xs r
unfolding constants_of
derives_constants n zero xs r h = absurd (err_ok h)
derives_constants n (suc k) xs r h =
    let i = bind_ok (ident_of xs) _ _ h in
    let j = bind_ok (closed equals_sign i.0.0 i.0.1) _ _ i.2 in
    let e = closed_ok equals_sign i.0.0 i.0.1 j.0 j.1 in
    let x = bind_ok (init_of (below n) j.0.1) _ _ j.2 in
    let d = derives_init n j.0.1 x.0 x.1 in
    let first : xs ≡ Ident j.0.0 ∷ Punct e.0 equals_sign ∷ j.0.1 = ident_ok xs i.0 i.1 ∙ ap (λ z. Ident i.0.0 ∷ z) e.1 ∙ ap (λ z. Ident z ∷ Punct e.0 equals_sign ∷ j.0.1) (sym e.2) in
    elim (chosen (starts comma x.0.1) _ _ _ x.2) [
      | inl w ↦ (let m = starts_is comma x.0.1 w.0 in
          let y = bind_ok (constants_of n k (rest_of x.0.1)) _ _ w.1 in
          let d' = subst (IsInit x.0.0 j.0.1) m.1 d in
          let q = derives_constants n k _ _ y.1 in
          subst (FoundConstants xs) (ok_is y.2)
          (subst (λ z. AreConstants (record { name = j.0.0; init = Some x.0.0 } ∷ y.0.0) z y.0.1) (sym first) (constants_more d'.0 q.0, omega (arith, d'.1, q.1))))
      | inr w ↦ subst (FoundConstants xs) (ok_is w.1)
          (subst (λ z. AreConstants (record { name = j.0.0; init = Some x.0.0 } ∷ []) z x.0.1) (sym first) (constants_one d.0, d.1))
    ]

pub derives_body : (n : ℕ) (xs : List Terminal) (r : Option StmtTrees × List Terminal) → body_of n xs ≡ Ok r → FoundBody xs r
derives_body n xs r h = elim (chosen (starts semicolon xs) _ _ _ h) [
  | inl w ↦ (let m = starts_is semicolon xs w.0 in
      subst (FoundBody xs) (ok_is w.1) (subst (λ z. IsBodyOf None z (rest_of xs)) (sym m.1) (body_none, omega arith)))
  | inr w ↦ (let x = bind_ok (block_of n xs) _ _ w.1 in
      let d = derives_block n xs x.0 x.1 in
      subst (FoundBody xs) (ok_is x.2) (body_block d.0, d.1))
]

-- fields behind their type
record FieldsRead (i : Bool) (n : ℕ) (ks : List ℕ) (r : TypeTree) (xs : List Terminal) (q : MemberTree × List Terminal) : Type 0 where
  pub vs : List VarTree
  pub p : ℕ
  pub vars : fields_in i n xs ≡ Ok (vs, Punct p semicolon ∷ q.1)
  pub is : q.0 ≡ t.field ks r vs

fields_ok : (i : Bool) (n : ℕ) (ks : List ℕ) (r : TypeTree) (xs : List Terminal) (q : MemberTree × List Terminal) → field_of i n ks r xs ≡ Ok q → FieldsRead i n ks r xs q
unfolding field_of
fields_ok i n ks r xs q h =
    let v = bind_ok (fields_in i n xs) _ _ h in
    let e = closed_ok semicolon (t.field ks r v.0.0) v.0.1 q v.2 in
    record { vs = v.0.0; p = e.0; vars = v.1 ∙ ap (λ z. Ok (v.0.0, z)) e.1; is = e.2 }

-- a method behind its result
record MethodRead (n : ℕ) (ks : List ℕ) (r : TypeTree) (xs : List Terminal) (q : MemberTree × List Terminal) : Type 0 where
  pub j : Identifier
  pub zs : List Terminal
  pub ws : List Terminal
  pub bs : List ParamTree
  pub b : Option StmtTrees
  pub first : xs ≡ Ident j ∷ zs
  pub params : AreParams bs zs ws
  pub body : body_of n ws ≡ Ok (b, q.1)
  pub is : t.method (record { mods = ks; result = r; name = j; params = bs; body = b }) ≡ q.0

method_ok : (n : ℕ) (ks : List ℕ) (r : TypeTree) (xs : List Terminal) (q : MemberTree × List Terminal) → method_of n ks r xs ≡ Ok q → MethodRead n ks r xs q
unfolding method_of
method_ok n ks r xs q h =
    let j = bind_ok (ident_of xs) _ _ h in
    let a = bind_ok (params_of j.0.1) _ _ j.2 in
    let b = bind_ok (body_of n a.0.1) _ _ a.2 in
    let e = ok_is b.2 in
    record {
      j = j.0.0;
      zs = j.0.1;
      ws = a.0.1;
      bs = a.0.0;
      b = b.0.0;
      first = ident_ok xs j.0 j.1;
      params = derives_params j.0.1 a.0 a.1;
      body = b.1 ∙ ap (λ (z : MemberTree × List Terminal). Ok (b.0.0, z.1)) e;
      is = ap (λ (z : MemberTree × List Terminal). z.0) e;
    }

-- fields behind a type, or a method behind a result
record FieldAt (i : Bool) (n : ℕ) (ks : List ℕ) (xs : List Terminal) (q : MemberTree × List Terminal) : Type 0 where
  pub r : TypeTree
  pub ys : List Terminal
  pub ty : IsTy r xs ys
  pub fields : FieldsRead i n ks r ys q

record MethodAt (n : ℕ) (ks : List ℕ) (xs : List Terminal) (q : MemberTree × List Terminal) : Type 0 where
  pub r : TypeTree
  pub ys : List Terminal
  pub result : IsResulting r xs ys
  pub method : MethodRead n ks r ys q

typed_ok : (i : Bool) (n : ℕ) (ks : List ℕ) (xs : List Terminal) (q : MemberTree × List Terminal) → typed_of i n ks xs ≡ Ok q → MethodAt n ks xs q ⊎ FieldAt i n ks xs q
unfolding typed_of
typed_ok i n ks xs q h =
    let x = bind_ok (ty_of xs) _ _ h in
    let d = derives_ty xs x.0 x.1 in
    elim (chosen (calls x.0.1) _ _ _ x.2) [
      | inl w ↦ inl (record { r = x.0.0; ys = x.0.1; result = (result_ty d.0, d.1); method = method_ok n ks x.0.0 x.0.1 q w.1 })
      | inr w ↦ inr (record { r = x.0.0; ys = x.0.1; ty = d; fields = fields_ok i n ks x.0.0 x.0.1 q w.1 })
    ]

plain_ok : (i : Bool) (n : ℕ) (ks : List ℕ) (xs : List Terminal) (q : MemberTree × List Terminal) → plain_of i n ks xs ≡ Ok q → MethodAt n ks xs q ⊎ FieldAt i n ks xs q
unfolding plain_of
plain_ok i n ks [] q h = typed_ok i n ks [] q h
plain_ok i n ks (Keyword p k ∷ xs) q h = elim (chosen (nat_eq k word_void) _ _ _ h) [
  | inl w ↦ (let e : k ≡ word_void = eqb-true k word_void w.0 in
      let d : IsResulting (record { at = p; base = void; dims = 0 }) (Keyword p k ∷ xs) xs =
      subst (λ z. IsResulting (record { at = p; base = void; dims = 0 }) (Keyword p z ∷ xs) xs) (sym e) (result_void, omega arith) in
      inl (record { r = record { at = p; base = void; dims = 0 }; ys = xs; result = d; method = method_ok n ks (record { at = p; base = void; dims = 0 }) xs q w.1 }))
  | inr w ↦ typed_ok i n ks (Keyword p k ∷ xs) q w.1
]
plain_ok i n ks (x ∷ xs) q h = typed_ok i n ks (x ∷ xs) q h

-- a call with what stands behind it
abbrev Called : List Terminal → Option (ℕ × ExprTrees) × List Terminal → Type 0
Called xs r = ((r.0 ≡ None) × (r.1 ≡ xs)) ⊎ ((p : ℕ) × (q : ℕ) × (es : ExprTrees) × (zs : List Terminal) × (xs ≡ Keyword p word_super ∷ zs) × AreArgs es zs (Punct q semicolon ∷ r.1) × (r.0 ≡ Some (p, es)))

call_ok : (n : ℕ) (xs : List Terminal) (r : Option (ℕ × ExprTrees) × List Terminal) → call_of n xs ≡ Ok r → Called xs r
unfolding call_of
call_ok n [] r h = subst (Called []) (ok_is h) (inl (refl, refl))
call_ok n (Keyword p k ∷ xs) r h = elim (chosen (nat_eq k word_super && starts paren_open xs) _ _ _ h) [
  | inl w ↦ (let e : k ≡ word_super = eqb-true k word_super (both (nat_eq k word_super) (starts paren_open xs) w.0).0 in
      let x = bind_ok (args_of (below n).expr xs) _ _ w.1 in
      let q = closed_ok semicolon (Some (p, x.0.0)) x.0.1 r x.2 in
      inr (p, q.0, x.0.0, xs, ap (λ z. Keyword p z ∷ xs) e, subst (AreArgs x.0.0 xs) q.1 (derives_args n xs x.0 x.1), q.2))
  | inr w ↦ subst (Called (Keyword p k ∷ xs)) (ok_is w.1) (inl (refl, refl))
]
call_ok n (x ∷ xs) r h = subst (Called (x ∷ xs)) (ok_is h) (inl (refl, refl))

inner_is : (p q : ℕ) (xs ys : List Terminal) (c : Option (ℕ × ExprTrees) × List Terminal) (ss : StmtTrees) → Called xs c → AreBstmts ss c.1 (Punct q brace_close ∷ ys) → IsCtor c.0 ss (Punct p brace_open ∷ xs) ys
inner_is p q xs ys c ss (inl w) d =
    let here = subst (λ z. AreBstmts ss z (Punct q brace_close ∷ ys)) w.1 d in
    subst (λ z. IsCtor z ss (Punct p brace_open ∷ xs) ys) (sym w.0) (ctor_plain here.0, here.1)
inner_is p q xs ys c ss (inr (r, u, es, zs, first, a, is)) d =
    subst (λ z. IsCtor z ss (Punct p brace_open ∷ xs) ys) (sym is)
    (subst (λ z. IsCtor (Some (r, es)) ss (Punct p brace_open ∷ z) ys) (sym first) (ctor_super a.0 d.0, omega (arith, a.1, d.1)))

pub derives_ctor : (n : ℕ) (xs : List Terminal) (r : (Option (ℕ × ExprTrees) × StmtTrees) × List Terminal) → inner_of n xs ≡ Ok r → FoundCtor xs r
unfolding inner_of
derives_ctor n xs r h = elim (chosen (starts brace_open xs) _ _ _ h) [
  | inl w ↦ (let m = starts_is brace_open xs w.0 in
      let c = bind_ok (call_of n (rest_of xs)) _ _ w.1 in
      let x = bind_ok (bstmts_of n c.0.1) _ _ c.2 in
      let q = closed_ok brace_close (c.0.0, x.0.0) x.0.1 r x.2 in
      let d = subst (AreBstmts x.0.0 c.0.1) q.1 (derives_bstmts n c.0.1 x.0 x.1) in
      let here = inner_is m.0 q.0 (rest_of xs) r.1 c.0 x.0.0 (call_ok n (rest_of xs) c.0 c.1) d in
      subst (λ (z : Option (ℕ × ExprTrees) × StmtTrees). IsCtor z.0 z.1 xs r.1) (sym q.2) (subst (λ z. IsCtor c.0.0 x.0.0 z r.1) (sym m.1) here))
  | inr w ↦ absurd (err_ok w.1)
]

-- a constructor behind its modifiers
record CtorRead (ks : List ℕ) (xs : List Terminal) (q : MemberTree × List Terminal) : Type 0 where
  pub j : Identifier
  pub zs : List Terminal
  pub ws : List Terminal
  pub bs : List ParamTree
  pub c : Option (ℕ × ExprTrees)
  pub ss : StmtTrees
  pub first : xs ≡ Ident j ∷ zs
  pub params : AreParams bs zs ws
  pub inner : IsCtor c ss ws q.1
  pub is : t.ctor (record { mods = ks; name = j; params = bs; call = c; body = ss }) ≡ q.0

ctor_ok : (n : ℕ) (ks : List ℕ) (xs : List Terminal) (q : MemberTree × List Terminal) → ctor_of n ks xs ≡ Ok q → CtorRead ks xs q
unfolding ctor_of
ctor_ok n ks xs q h =
    let j = bind_ok (ident_of xs) _ _ h in
    let a = bind_ok (params_of j.0.1) _ _ j.2 in
    let b = bind_ok (inner_of n a.0.1) _ _ a.2 in
    let e = ok_is b.2 in
    record {
      j = j.0.0;
      zs = j.0.1;
      ws = a.0.1;
      bs = a.0.0;
      c = b.0.0.0;
      ss = b.0.0.1;
      first = ident_ok xs j.0 j.1;
      params = derives_params j.0.1 a.0 a.1;
      inner = subst (λ (z : MemberTree × List Terminal). IsCtor b.0.0.0 b.0.0.1 a.0.1 z.1) e (derives_ctor n a.0.1 b.0 b.1);
      is = ap (λ (z : MemberTree × List Terminal). z.0) e;
    }

-- what fields and methods are behind their modifiers
is_field : (i : Bool) (n : ℕ) {ks : List ℕ} (us xs : List Terminal) (q : MemberTree × List Terminal) → DerivesMods ks us xs → FieldAt i n ks xs q → FoundMember i us q
is_field false n us xs q m f =
    let v = derives_vars n f.ys _ f.fields.vars in
    subst (λ z. IsMember false z us q.1) (sym f.fields.is) (member_field m f.ty.0 v.0, omega (arith, f.ty.1, v.1))
is_field true n us xs q m f =
    let v = derives_constants n (length f.ys) f.ys _ f.fields.vars in
    subst (λ z. IsMember true z us q.1) (sym f.fields.is) (imember_field m f.ty.0 v.0, omega (arith, f.ty.1, v.1))

is_method : (i : Bool) (n : ℕ) {ks : List ℕ} (us xs : List Terminal) (q : MemberTree × List Terminal) → DerivesMods ks us xs → MethodAt n ks xs q → FoundMember i us q
is_method false n us xs q m f =
    let b = derives_body n f.method.ws _ f.method.body in
    let d = subst (IsResulting f.r xs) f.method.first f.result in
    subst (λ z. IsMember false z us q.1) f.method.is (member_method m d.0 f.method.params.0 b.0, omega (arith, d.1, f.method.params.1, b.1))
is_method true n us xs q m f =
    let b = derives_body n f.method.ws _ f.method.body in
    let d = subst (IsResulting f.r xs) f.method.first f.result in
    subst (λ z. IsMember true z us q.1) f.method.is (imember_method m d.0 f.method.params.0 b.0, omega (arith, d.1, f.method.params.1, b.1))

is_plain : (i : Bool) (n : ℕ) {ks : List ℕ} (us xs : List Terminal) (q : MemberTree × List Terminal) → DerivesMods ks us xs → MethodAt n ks xs q ⊎ FieldAt i n ks xs q → FoundMember i us q
is_plain i n us xs q m (inl f) = is_method i n us xs q m f
is_plain i n us xs q m (inr f) = is_field i n us xs q m f

is_ctor : {ks : List ℕ} (us xs : List Terminal) (q : MemberTree × List Terminal) → DerivesMods ks us xs → CtorRead ks xs q → FoundMember false us q
is_ctor {ks} us xs q m f =
    subst (λ z. IsMember false z us q.1) f.is (member_ctor (subst (DerivesMods ks us) f.first m) f.params.0 f.inner.0, omega (arith, f.params.1, f.inner.1))

-- a class or an interface with its modifiers is a type, and a member
pub is_type : {ks : List ℕ} (us xs : List Terminal) (r : TypeDeclTree × List Terminal) → DerivesMods ks us xs → FoundDecl ks xs r → FoundType us r
is_type us xs r m (inl d) = (type_class m d.0, d.1)
is_type us xs r m (inr d) = (type_interface m d.0, d.1)

is_nested : (i : Bool) (us : List Terminal) (r : TypeDeclTree × List Terminal) → FoundType us r → FoundMember i us (t.nested r.0, r.1)
is_nested false us r d = (member_type d.0, d.1)
is_nested true us r d = (imember_type d.0, d.1)

no_members : (i : Bool) (ys : List Terminal) → AreMembers i t.no_members ys ys
no_members false ys = (members_none, omega arith)
no_members true ys = (imembers_none, omega arith)

empty_member : (i : Bool) (ms : MemberTrees) (p : ℕ) (xs ys : List Terminal) → AreMembers i ms xs ys → AreMembers i ms (Punct p semicolon ∷ xs) ys
empty_member false ms p xs ys d = (members_empty d.0, d.1)
empty_member true ms p xs ys d = (imembers_empty d.0, d.1)

more_members : (i : Bool) (m : MemberTree) (ms : MemberTrees) (xs zs ys : List Terminal) → IsMember i m xs zs → AreMembers i ms zs ys → AreMembers i (t.members m ms) xs ys
more_members false m ms xs zs ys d r = (members_more d.0 r.0, omega (arith, d.1, r.1))
more_members true m ms xs zs ys d r = (imembers_more d.0 r.0, omega (arith, d.1, r.1))

-- What the reader below reads derives.
abbrev pub SoundType : BelowType → Type 0
SoundType nest = (ks : List ℕ) (xs : List Terminal) (r : TypeDeclTree × List Terminal) → nest ks xs ≡ Ok r → FoundDecl ks xs r

module _ (n : ℕ) (nest : BelowType) (s : SoundType nest) where
  pub s_behind : (i : Bool) {ks : List ℕ} (us xs : List Terminal) (q : MemberTree × List Terminal) → DerivesMods ks us xs → behind_mods i n nest ks xs ≡ Ok q → FoundMember i us q
  unfolding behind_mods
  s_behind i {ks} us xs q m h = elim (chosen (begins_type xs) _ _ _ h) [
    | inl w ↦ (let x = bind_ok (nest ks xs) _ _ w.1 in
        subst (FoundMember i us) (ok_is x.2) (is_nested i us x.0 (is_type us xs x.0 m (s ks xs x.0 x.1))))
    | inr w ↦ by i w.1
  ]
    where
      by : (i' : Bool) → cond (not i' && calls xs) (ctor_of n ks xs) (plain_of i' n ks xs) ≡ Ok q → FoundMember i' us q
      by true h' = is_plain true n us xs q m (plain_ok true n ks xs q h')
      by false h' = elim (chosen (calls xs) _ _ _ h') [
        | inl v ↦ is_ctor us xs q m (ctor_ok n ks xs q v.1)
        | inr v ↦ is_plain false n us xs q m (plain_ok false n ks xs q v.1)
      ]

  pub s_member : (i : Bool) (us : List Terminal) (q : MemberTree × List Terminal) → member_of i n nest us ≡ Ok q → FoundMember i us q
  unfolding member_of
  s_member i us q h = s_behind i us (mods_of us).1 q (derives_mods us) h

  pub s_members : (i : Bool) (k : ℕ) (xs : List Terminal) (q : MemberTrees × List Terminal) → members_of i n nest k xs ≡ Ok q → FoundMembers i xs q
  unfolding members_of
  s_members i zero xs q h = absurd (err_ok h)
  s_members i (suc k) xs q h = elim (chosen (starts brace_close xs) _ _ _ h) [
    | inl w ↦ (let m = starts_is brace_close xs w.0 in
        subst (FoundMembers i xs) (ok_is w.1) (m.0, subst (AreMembers i t.no_members xs) m.1 (no_members i xs)))
    | inr w ↦ elim (chosen (starts semicolon xs) _ _ _ w.1) [
      | inl v ↦ (let m = starts_is semicolon xs v.0 in
          let r = s_members i k (rest_of xs) q v.1 in
          (r.0, subst (λ z. AreMembers i q.0 z (Punct r.0 brace_close ∷ q.1)) (sym m.1) (empty_member i q.0 m.0 (rest_of xs) (Punct r.0 brace_close ∷ q.1) r.1)))
      | inr v ↦ (let x = bind_ok (member_of i n nest xs) _ _ v.1 in
          let y = bind_ok (members_of i n nest k x.0.1) _ _ x.2 in
          let r = s_members i k x.0.1 y.0 y.1 in
          subst (FoundMembers i xs) (ok_is y.2) (r.0, more_members i x.0.0 y.0.0 xs x.0.1 (Punct r.0 brace_close ∷ y.0.1) (s_member i xs x.0 x.1) r.1))
    ]
  ]

  -- members in braces
  pub s_braced : (i : Bool) (xs : List Terminal) (q : MemberTrees × List Terminal) → braced_of i n nest xs ≡ Ok q → (p : ℕ) × (xs ≡ Punct p brace_open ∷ rest_of xs) × FoundMembers i (rest_of xs) q
  unfolding braced_of
  s_braced i xs q h = elim (chosen (starts brace_open xs) _ _ _ h) [
    | inl w ↦ (let m = starts_is brace_open xs w.0 in (m.0, m.1, s_members i (length xs) (rest_of xs) q w.1))
    | inr w ↦ absurd (err_ok w.1)
  ]

  pub s_class : (p : ℕ) (ks : List ℕ) (xs : List Terminal) (r : TypeDeclTree × List Terminal) → class_of n nest ks xs ≡ Ok r → IsClass ks r.0 (Keyword p word_class ∷ xs) r.1
  unfolding class_of
  s_class p ks xs r h =
      let j = bind_ok (ident_of xs) _ _ h in
      let a = bind_ok (parent_of j.0.1) _ _ j.2 in
      let b = bind_ok (headed_of word_implements a.0.1) _ _ a.2 in
      let m = bind_ok (braced_of false n nest b.0.1) _ _ b.2 in
      let d = s_braced false b.0.1 m.0 m.1 in
      let e = subst (DerivesInterfaces b.0.0 a.0.1) d.1 (derives_interfaces a.0.1 b.0 b.1) in
      let here : IsClass ks (t.type_decl j.0.0 ks false a.0.0 b.0.0 m.0.0) (Keyword p word_class ∷ Ident j.0.0 ∷ j.0.1) m.0.1 = (class (derives_parent j.0.1 a.0 a.1) e d.2.1.0, d.2.1.1) in
      subst (λ (z : TypeDeclTree × List Terminal). IsClass ks z.0 (Keyword p word_class ∷ xs) z.1) (ok_is m.2)
      (subst (λ z. IsClass ks (t.type_decl j.0.0 ks false a.0.0 b.0.0 m.0.0) (Keyword p word_class ∷ z) m.0.1) (sym (ident_ok xs j.0 j.1)) here)

  pub s_interface : (p : ℕ) (ks : List ℕ) (xs : List Terminal) (r : TypeDeclTree × List Terminal) → interface_of n nest ks xs ≡ Ok r → IsInterface ks r.0 (Keyword p word_interface ∷ xs) r.1
  unfolding interface_of
  s_interface p ks xs r h =
      let j = bind_ok (ident_of xs) _ _ h in
      let a = bind_ok (headed_of word_extends j.0.1) _ _ j.2 in
      let m = bind_ok (braced_of true n nest a.0.1) _ _ a.2 in
      let d = s_braced true a.0.1 m.0 m.1 in
      let e = subst (DerivesParents a.0.0 j.0.1) d.1 (derives_parents j.0.1 a.0 a.1) in
      let here : IsInterface ks (t.type_decl j.0.0 ks true a.0.0 [] m.0.0) (Keyword p word_interface ∷ Ident j.0.0 ∷ j.0.1) m.0.1 = (interface e d.2.1.0, d.2.1.1) in
      subst (λ (z : TypeDeclTree × List Terminal). IsInterface ks z.0 (Keyword p word_interface ∷ xs) z.1) (ok_is m.2)
      (subst (λ z. IsInterface ks (t.type_decl j.0.0 ks true a.0.0 [] m.0.0) (Keyword p word_interface ∷ z) m.0.1) (sym (ident_ok xs j.0 j.1)) here)

  pub s_decl : SoundType (decl_of n nest)
  unfolding decl_of
  s_decl ks xs r h = elim (chosen (starts_word word_class xs) _ _ _ h) [
    | inl w ↦ (let m = starts_word_is word_class xs w.0 in
        inl (subst (λ z. IsClass ks r.0 z r.1) (sym m.1) (s_class m.0 ks (rest_of xs) r w.1)))
    | inr w ↦ elim (chosen (starts_word word_interface xs) _ _ _ w.1) [
      | inl v ↦ (let m = starts_word_is word_interface xs v.0 in
          inr (subst (λ z. IsInterface ks r.0 z r.1) (sym m.1) (s_interface m.0 ks (rest_of xs) r v.1)))
      | inr v ↦ absurd (err_ok v.1)
    ]
  ]

-- at each depth of nesting
pub sound_type : (n : ℕ) → SoundType (below_type n)
unfolding below_type
sound_type zero ks xs r h = absurd (err_ok h)
sound_type (suc n) ks xs r h = s_decl n (below_type n) (sound_type n) ks xs r h

pub derives_type : (n : ℕ) (xs : List Terminal) (r : TypeDeclTree × List Terminal) → type_of n xs ≡ Ok r → FoundType xs r
unfolding type_of
derives_type n xs r h = is_type xs (mods_of xs).1 r (derives_mods xs) (s_decl n (below_type n) (sound_type n) _ _ r h)

pub derives_types : (n k : ℕ) (xs : List Terminal) (ts : List TypeDeclTree) → types_of n k xs ≡ Ok ts → AreTypes ts xs
unfolding types_of
derives_types n k [] ts h = subst (λ z. AreTypes z []) (ok_is h) (types_none, omega arith)
derives_types n zero (y ∷ xs) ts h = absurd (err_ok h)
derives_types n (suc k) (y ∷ xs) ts h = elim (chosen (is_mark semicolon y) _ _ _ h) [
  | inl w ↦ (let m = starts_is semicolon (y ∷ xs) w.0 in
      let d = derives_types n k xs ts w.1 in
      subst (AreTypes ts) (sym m.1) (types_empty d.0, d.1))
  | inr w ↦ (let x = bind_ok (type_of n (y ∷ xs)) _ _ w.1 in
      let z = bind_ok (types_of n k x.0.1) _ _ x.2 in
      let d = derives_type n (y ∷ xs) x.0 x.1 in
      let r = derives_types n k x.0.1 z.0 z.1 in
      subst (λ v. AreTypes v (y ∷ xs)) (ok_is z.2) (types_more d.0 r.0, omega (arith, d.1, r.1)))
]

pub derives_package : (xs : List Terminal) (r : Option (List Identifier) × List Terminal) → package_of xs ≡ Ok r → FoundPackage xs r
unfolding package_of
derives_package xs r h = elim (chosen (starts_word word_package xs) _ _ _ h) [
  | inl w ↦ (let m = starts_word_is word_package xs w.0 in
      let x = bind_ok (name_of (rest_of xs)) _ _ w.1 in
      let q = closed_ok semicolon (Some x.0.0) x.0.1 r x.2 in
      let d = subst (DerivesName x.0.0 (rest_of xs)) q.1 (derives_name (rest_of xs) x.0 x.1) in
      subst (λ z. DerivesPackage z xs r.1) (sym q.2) (subst (λ z. DerivesPackage (Some x.0.0) z r.1) (sym m.1) (package_some d)))
  | inr w ↦ subst (FoundPackage xs) (ok_is w.1) package_none
]

-- a name, and `. *` behind it where there is one
abbrev IsPath : Bool → List Identifier → List Terminal → List Terminal → Type 0
IsPath false ids xs ys = DerivesName ids xs ys
IsPath true ids xs ys = (p : ℕ) × (q : ℕ) × DerivesName ids xs (Punct p dot ∷ Punct q star ∷ ys)

abbrev FoundPath : Bool → List Terminal → ImportTree × List Terminal → Type 0
FoundPath s xs r = IsPath r.0.all r.0.name xs r.1 × (r.0.is_static ≡ s)

longer_path : (b : Bool) (i : Identifier) (ids : List Identifier) (u : ℕ) (xs ys : List Terminal) → IsPath b ids xs ys → IsPath b (i ∷ ids) (Ident i ∷ Punct u dot ∷ xs) ys
longer_path false i ids u xs ys d = name_more d
longer_path true i ids u xs ys (p, q, d) = (p, q, name_more d)

path_ok : (s : Bool) (k : ℕ) (xs : List Terminal) (r : ImportTree × List Terminal) → path_of s k xs ≡ Ok r → FoundPath s xs r
unfolding path_of
path_ok s zero xs r h = absurd (err_ok h)
path_ok s (suc k) xs r h =
    let i = bind_ok (ident_of xs) _ _ h in
    let e = ident_ok xs i.0 i.1 in
    elim (chosen (starts dot i.0.1) _ _ _ i.2) [
      | inl w ↦ elim (chosen (starts star (rest_of i.0.1)) _ _ _ w.1) [
        | inl v ↦ (let m = two_are dot star i.0.1 w.0 v.0 in
            let d : DerivesName (i.0.0 ∷ []) (Ident i.0.0 ∷ i.0.1) i.0.1 = name_one in
            let d' = subst (λ z. DerivesName (i.0.0 ∷ []) z i.0.1) (sym e) d in
            subst (FoundPath s xs) (ok_is v.1) ((m.0, m.1, subst (DerivesName (i.0.0 ∷ []) xs) m.2 d'), refl))
        | inr v ↦ (let m = starts_is dot i.0.1 w.0 in
            let x = bind_ok (path_of s k (rest_of i.0.1)) _ _ v.1 in
            let d = path_ok s k (rest_of i.0.1) x.0 x.1 in
            subst (FoundPath s xs) (ok_is x.2)
            (subst (λ z. IsPath x.0.0.all (i.0.0 ∷ x.0.0.name) z x.0.1) (sym (e ∙ ap (λ z. Ident i.0.0 ∷ z) m.1)) (longer_path x.0.0.all i.0.0 x.0.0.name m.0 (rest_of i.0.1) x.0.1 d.0), refl))
      ]
      | inr w ↦ subst (FoundPath s xs) (ok_is w.1) (subst (λ z. DerivesName (i.0.0 ∷ []) z i.0.1) (sym e) name_one, refl)
    ]

is_import : (b s : Bool) (ids : List Identifier) (p q : ℕ) (xs ys : List Terminal) → s ≡ false → IsPath b ids xs (Punct q semicolon ∷ ys) → DerivesImport (record { name = ids; all = b; is_static = s }) (Keyword p word_import ∷ xs) ys
is_import b true ids p q xs ys e d = absurd (true≢false e)
is_import false false ids p q xs ys e d = import_one d
is_import true false ids p q xs ys e (u, v, d) = import_all d

is_static_import : (b s : Bool) (ids : List Identifier) (p o q : ℕ) (xs ys : List Terminal) → s ≡ true → s && (not b && nat_lt (length ids) 2) ≡ false → IsPath b ids xs (Punct q semicolon ∷ ys)
    → DerivesImport (record { name = ids; all = b; is_static = s }) (Keyword p word_import ∷ Keyword o word_static ∷ xs) ys
is_static_import b false ids p o q xs ys e a d = absurd (true≢false (sym e))
is_static_import false true ids p o q xs ys e a d = import_static_one d (let l = ltb-false (length ids) 2 a in omega (arith, l))
is_static_import true true ids p o q xs ys e a (u, v, d) = import_static_all d

-- an import behind its words
abbrev IsListed : Bool → List Terminal → List Terminal → ImportTree → Type 0
IsListed s xs ys t = (q : ℕ) × IsPath t.all t.name xs (Punct q semicolon ∷ ys) × (t.is_static ≡ s) × (stands_alone t ≡ false)

listed_ok : (s : Bool) (xs : List Terminal) (r : ImportTree × List Terminal) → listed_of s xs ≡ Ok r → IsListed s xs r.1 r.0
unfolding listed_of
listed_ok s xs r h =
    let x = bind_ok (path_of s (length xs) xs) _ _ h in
    elim (chosen (stands_alone x.0.0) _ _ _ x.2) [
      | inl w ↦ absurd (err_ok w.1)
      | inr w ↦ (let q = closed_ok semicolon x.0.0 x.0.1 r w.1 in
          let f = path_ok s (length xs) xs x.0 x.1 in
          let d = subst (IsPath x.0.0.all x.0.0.name xs) q.1 f.0 in
          subst (IsListed s xs r.1) (sym q.2) (q.0, d, f.1, w.0))
    ]

pub derives_import : (p : ℕ) (xs : List Terminal) (r : ImportTree × List Terminal) → import_of xs ≡ Ok r → DerivesImport r.0 (Keyword p word_import ∷ xs) r.1
unfolding import_of
derives_import p xs r h = elim (chosen (starts_word word_static xs) _ _ _ h) [
  | inl w ↦ (let m = starts_word_is word_static xs w.0 in
      let f = listed_ok true (rest_of xs) r w.1 in
      let d : DerivesImport r.0 (Keyword p word_import ∷ Keyword m.0 word_static ∷ rest_of xs) r.1 =
      is_static_import r.0.all r.0.is_static r.0.name p m.0 f.0 (rest_of xs) r.1 f.2 f.3 f.1 in
      subst (λ z. DerivesImport r.0 (Keyword p word_import ∷ z) r.1) (sym m.1) d)
  | inr w ↦ (let f = listed_ok false xs r w.1 in is_import r.0.all r.0.is_static r.0.name p f.0 xs r.1 f.2 f.1)
]

pub derives_imports : (k : ℕ) (xs : List Terminal) (r : List ImportTree × List Terminal) → imports_of k xs ≡ Ok r → FoundImports xs r
unfolding imports_of
derives_imports zero xs r h = absurd (err_ok h)
derives_imports (suc k) xs r h = elim (chosen (starts_word word_import xs) _ _ _ h) [
  | inl w ↦ (let m = starts_word_is word_import xs w.0 in
      let x = bind_ok (import_of (rest_of xs)) _ _ w.1 in
      let y = bind_ok (imports_of k x.0.1) _ _ x.2 in
      let d = subst (λ z. DerivesImport x.0.0 z x.0.1) (sym m.1) (derives_import m.0 (rest_of xs) x.0 x.1) in
      subst (FoundImports xs) (ok_is y.2) (imports_more d (derives_imports k x.0.1 y.0 y.1)))
  | inr w ↦ subst (FoundImports xs) (ok_is w.1) imports_none
]

pub derives_file : (n : ℕ) (xs : List Terminal) (u : UnitTree) → file_of n xs ≡ Ok u → IsFile xs u
unfolding file_of
derives_file n xs u h =
    let p = bind_ok (package_of xs) _ _ h in
    let i = bind_ok (imports_of (suc (length p.0.1)) p.0.1) _ _ p.2 in
    let s = bind_ok (types_of n (length i.0.1) i.0.1) _ _ i.2 in
    let d = derives_types n (length i.0.1) i.0.1 s.0 s.1 in
    subst (IsFile xs) (ok_is s.2) (file (derives_package xs p.0 p.1) (derives_imports (suc (length p.0.1)) p.0.1 i.0 i.1) d.0, d.1)
