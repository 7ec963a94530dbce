-- What derives is read: declarations and files.
use Rattle.std.proofs.Common.{◌≡◌, ℕ, zero, suc, ◌<◌, ◌≤◌, Bool, true, false, List, [], ◌∷◌, length, arith, refl, sym, ◌∙◌, Ok, Result, None, Option, lit<, true≢false, le-ltb}
use Rattle.jv_tree.specs.declared.name.Ident.{Ident as Identifier}
use Rattle.jv_tree.specs.TypeTree.{TypeTree}
use Rattle.jv_tree.specs.ExprTree.{ExprTrees}
use Rattle.jv_tree.specs.StmtTree.{VarTree, StmtTrees}
use Rattle.jv_tree.specs.DeclTree as t
use Rattle.jv_tree.specs.DeclTree.{ParamTree, TypeDeclTree, MemberTree, MemberTrees, ImportTree, UnitTree}
use Rattle.jv_grammar.specs.declared.terminal.Terminal.{Terminal}
use Rattle.jv_grammar.specs.declared.terminal.Terminal.TheVariants.{Ident, Keyword, Punct}
use Rattle.jv_grammar.specs.Marks.{paren_open, paren_close, brace_open, brace_close, bracket_open, semicolon, comma, dot, star, word_extends, word_implements, word_import, word_package, word_static}
use Rattle.jv_grammar.specs.TypeGrammar.{starts, starts_word, DerivesName, name_one, name_more, DerivesNames, names_one, names_more, DerivesTy, DerivesResult, result_ty, result_void}
use Rattle.jv_grammar.specs.ExprGrammar.{DerivesArgs, args_none, args_some}
use Rattle.jv_grammar.specs.StmtGrammar.{DerivesBlock, block}
use Rattle.jv_grammar.specs.DeclGrammar.{DerivesMods, mods_none, mods_more, DerivesParam, param_plain, param_final, DerivesSomeParams, some_params_one, some_params_more, DerivesParams, params_none, params_some, DerivesBody, body_block, body_none, DerivesCtor, ctor_plain, ctor_super, DerivesConstants, constants_one, constants_more, DerivesParent, parent_none, parent_some, DerivesParents, parents_none, parents_some, DerivesInterfaces, interfaces_none, interfaces_some, DerivesType, type_class, type_interface, DerivesClass, class, DerivesInterface, interface, DerivesMembers, members_none, members_more, members_empty, DerivesMember, member_type, member_field, member_method, member_ctor, DerivesImembers, imembers_none, imembers_more, imembers_empty, DerivesImember, imember_type, imember_field, imember_method, DerivesPackage, package_none, package_some, DerivesImport, import_one, import_all, import_static_one, import_static_all, DerivesImports, imports_none, imports_more, DerivesTypes, types_none, types_more, types_empty, Derives, file}
use Rattle.jv_grammar.specs.Reader.{Reads, ◌>>=◌, starts_ident}
use Rattle.jv_grammar.specs.DeclReader.{calls, mods_of, names_of, parent_of, headed_of, param_of, some_params_of, params_of, constants_of, fields_in, body_of, field_of, method_of, typed_of, plain_of, call_of, inner_of, ctor_of, BelowType, begins_type, behind_mods, member_of, members_of, braced_of, class_of, interface_of, decl_of, below_type, type_of, types_of, package_of, path_of, listed_of, import_of, imports_of, file_of}
use Rattle.jv_grammar.specs.Width.{wide_ty, wide_result}
use Rattle.jv_grammar.specs.DeclWidth.{wide_param, wide_some_params, wide_params, wide_body, wide_ctor, wide_constants, wide_type, wide_class, wide_interface, wide_members, wide_member, wide_imembers, wide_imember, wide_types, wide_file}
use Rattle.jv_grammar.proofs.Depth.{less_name, less_init}
use Rattle.jv_grammar.proofs.DeclDepth.{deep_body, deep_ctor, deep_constants, deep_type, deep_class, deep_interface, deep_members, deep_member, deep_imembers, deep_imember, deep_types, deep_file, less_param, less_member, less_imember, less_import, less_type}
use Rattle.jv_grammar.proofs.Ranks.{first_rank}
use Rattle.jv_grammar.proofs.Types.{reads_name, reads_ty}
use Rattle.jv_grammar.proofs.Complete.{reads_init, reads_args}
use Rattle.jv_grammar.proofs.StmtComplete.{got_vars, reads_vars, reads_block, reads_bstmts}
use Rattle.jv_grammar.proofs.DeclStarts.{name_no_word, starts_mod, begins_word, word_no_mark, ident_no_mark, ty_begins, ty_no_final, ty_calls, ty_plain, result_begins, result_calls, params_open, vars_begin, constants_begin, interfaces_begin, type_word, member_word, imember_word, type_no_word, calls_super, bstmts_no_super}

abbrev pub got_names : List (List Identifier) → List Terminal → Reads (List (List Identifier))
got_names ns ys = Ok (ns, ys)

abbrev pub got_param : ParamTree → List Terminal → Reads ParamTree
got_param a ys = Ok (a, ys)

abbrev pub got_params : List ParamTree → List Terminal → Reads (List ParamTree)
got_params bs ys = Ok (bs, ys)

abbrev pub got_body : Option StmtTrees → List Terminal → Reads (Option StmtTrees)
got_body b ys = Ok (b, ys)

abbrev pub got_ctor : Option (ℕ × ExprTrees) → StmtTrees → List Terminal → Reads (Option (ℕ × ExprTrees) × StmtTrees)
got_ctor c ss ys = Ok ((c, ss), ys)

abbrev pub got_member : MemberTree → List Terminal → Reads MemberTree
got_member m ys = Ok (m, ys)

abbrev pub got_members : MemberTrees → List Terminal → Reads MemberTrees
got_members ms ys = Ok (ms, ys)

abbrev pub got_type : TypeDeclTree → List Terminal → Reads TypeDeclTree
got_type x ys = Ok (x, ys)

abbrev pub got_package : Option (List Identifier) → List Terminal → Reads (Option (List Identifier))
got_package n ys = Ok (n, ys)

abbrev pub got_import : ImportTree → List Terminal → Reads ImportTree
got_import x ys = Ok (x, ys)

abbrev pub got_imports : List ImportTree → List Terminal → Reads (List ImportTree)
got_imports is ys = Ok (is, ys)

abbrev pub got_types : List TypeDeclTree → Result (List TypeDeclTree) (List Terminal)
got_types ts = Ok ts

abbrev pub got_file : UnitTree → Result UnitTree (List Terminal)
got_file u = Ok u

pub reads_mods : {ks : List ℕ} {xs ys : List Terminal} → DerivesMods ks xs ys → starts_mod ys ≡ false → mods_of xs ≡ (ks, ys)
unfolding mods_of
reads_mods (mods_none {ys = []}) h = refl
reads_mods (mods_none {ys = Keyword p k ∷ ys}) h = rw h refl
reads_mods (mods_none {ys = y ∷ ys}) h = refl
reads_mods (mods_more m d) h = rw m (rw (reads_mods d h) refl)

pub reads_names : {ns : List (List Identifier)} {xs ys : List Terminal} → DerivesNames ns xs ys → (k : ℕ) → starts dot ys ≡ false → starts comma ys ≡ false → length xs ≤ k → names_of k xs ≡ got_names ns ys
unfolding names_of
reads_names (names_one d) zero h s l = absurd (omega (arith, less_name d))
reads_names (names_one d) (suc k) h s l = rw (reads_name d h) (rw s refl)
reads_names (names_more d r) zero h s l = absurd (omega (arith, less_name d))
reads_names (names_more d r) (suc k) h s l = rw (reads_name d refl) (rw (reads_names r k h s (omega (arith, less_name d))) refl)

pub reads_parent : {ns : List (List Identifier)} {xs ys : List Terminal} → DerivesParent ns xs ys → starts_word word_extends ys ≡ false → starts dot ys ≡ false → parent_of xs ≡ got_names ns ys
unfolding parent_of
reads_parent parent_none h s = rw h refl
reads_parent (parent_some d) h s = rw (reads_name d s) refl

pub reads_parents : {ns : List (List Identifier)} {p : ℕ} {xs ys : List Terminal} → DerivesParents ns xs (Punct p brace_open ∷ ys) → headed_of word_extends xs ≡ got_names ns (Punct p brace_open ∷ ys)
unfolding headed_of
reads_parents parents_none = refl
reads_parents (parents_some {xs} d) = reads_names d (suc (length xs)) refl refl (omega arith)

pub reads_interfaces : {ns : List (List Identifier)} {p : ℕ} {xs ys : List Terminal} → DerivesInterfaces ns xs (Punct p brace_open ∷ ys) → headed_of word_implements xs ≡ got_names ns (Punct p brace_open ∷ ys)
unfolding headed_of
reads_interfaces interfaces_none = refl
reads_interfaces (interfaces_some {xs} d) = reads_names d (suc (length xs)) refl refl (omega arith)

pub reads_param : {a : ParamTree} {xs ys : List Terminal} (d : DerivesParam a xs ys) → wide_param d ≤ 200 → param_of xs ≡ got_param a ys
unfolding param_of
reads_param (param_plain d) w = rw (ty_no_final d) (rw (reads_ty d w refl refl) refl)
reads_param (param_final d) w = rw (reads_ty d w refl refl) refl

pub reads_some_params : {bs : List ParamTree} {xs ys : List Terminal} (d : DerivesSomeParams bs xs ys) (k : ℕ) → wide_some_params d ≤ 200 → starts comma ys ≡ false → length xs ≤ k → some_params_of k xs ≡ got_params bs ys
unfolding some_params_of
reads_some_params (some_params_one d) zero w s l = absurd (omega (arith, less_param d))
reads_some_params (some_params_one d) (suc k) w s l = rw (reads_param d w) (rw s refl)
reads_some_params (some_params_more d r) zero w s l = absurd (omega (arith, less_param d))
reads_some_params (some_params_more d r) (suc k) w s l =
    rw (reads_param d (omega arith)) (rw (reads_some_params r k (omega arith) s (omega (arith, less_param d))) refl)

-- parameters begin with no `)`
some_params_word : {bs : List ParamTree} {xs ys : List Terminal} → DerivesSomeParams bs xs ys → begins_word xs ≡ true
some_params_word (some_params_one (param_plain d)) = (ty_begins d).2
some_params_word (some_params_one (param_final d)) = refl
some_params_word (some_params_more (param_plain d) r) = (ty_begins d).2
some_params_word (some_params_more (param_final d) r) = refl

pub reads_params : {bs : List ParamTree} {xs ys : List Terminal} (d : DerivesParams bs xs ys) → wide_params d ≤ 200 → params_of xs ≡ got_params bs ys
unfolding params_of
reads_params params_none w = refl
reads_params (params_some {xs} d) w =
    rw (word_no_mark paren_close xs (some_params_word d)) (rw (reads_some_params d (suc (length xs)) w refl (omega arith)) refl)

pub reads_constants : (n : ℕ) {vs : List VarTree} {xs ys : List Terminal} (d : DerivesConstants vs xs ys) (k : ℕ) → deep_constants d ≤ n → wide_constants d ≤ 200 → 12 < first_rank ys → starts comma ys ≡ false → length xs ≤ k → constants_of n k xs ≡ got_vars vs ys
unfolding constants_of
reads_constants n (constants_one d) zero h w r s l = absurd (omega (arith, less_init d))
reads_constants n (constants_one d) (suc k) h w r s l = rw (reads_init n d h w r) (rw s refl)
reads_constants n (constants_more d v) zero h w r s l = absurd (omega (arith, less_init d))
reads_constants n (constants_more d v) (suc k) h w r s l =
    rw (reads_init n d (omega arith) (omega arith) (lit< tt)) (rw (reads_constants n v k (omega arith) (omega arith) r s (omega (arith, less_init d))) refl)

-- the body of a method
block_no_semicolon : {p : ℕ} {ss : StmtTrees} {xs ys : List Terminal} → DerivesBlock p ss xs ys → starts semicolon xs ≡ false
block_no_semicolon (block d) = refl

pub reads_body : (n : ℕ) {b : Option StmtTrees} {xs ys : List Terminal} (d : DerivesBody b xs ys) → deep_body d ≤ n → wide_body d ≤ 200 → body_of n xs ≡ got_body b ys
reads_body n (body_block d) h w = rw (block_no_semicolon d) (rw (reads_block n d h w) refl)
reads_body n body_none h w = refl

reads_field : (i : Bool) (n : ℕ) (ks : List ℕ) (r : TypeTree) (vs : List VarTree) (p : ℕ) (xs ys : List Terminal) → fields_in i n xs ≡ got_vars vs (Punct p semicolon ∷ ys) → field_of i n ks r xs ≡ got_member (t.field ks r vs) ys
unfolding field_of
reads_field i n ks r vs p xs ys h = rw h refl

reads_method : (n : ℕ) (ks : List ℕ) (r : TypeTree) (j : Identifier) {bs : List ParamTree} {b : Option StmtTrees} {xs zs ys : List Terminal} (q : DerivesParams bs xs zs) → wide_params q ≤ 200
    → body_of n zs ≡ got_body b ys → method_of n ks r (Ident j ∷ xs) ≡ got_member (t.method (record { mods = ks; result = r; name = j; params = bs; body = b })) ys
unfolding method_of
reads_method n ks r j q w h = rw (reads_params q w) (rw h refl)

-- what stands behind a type decides between fields and a method
typed_field : (i : Bool) (n : ℕ) (ks : List ℕ) {r : TypeTree} {xs ys : List Terminal} (d : DerivesTy r xs ys) → wide_ty d ≤ 200 → starts_ident ys ≡ true → calls ys ≡ false → typed_of i n ks xs ≡ field_of i n ks r ys
unfolding typed_of
typed_field i n ks {ys} d w s h = rw (reads_ty d w (ident_no_mark dot ys s) (ident_no_mark bracket_open ys s)) (rw h refl)

typed_method : (i : Bool) (n : ℕ) (ks : List ℕ) {r : TypeTree} {j : Identifier} {xs ys : List Terminal} (d : DerivesTy r xs (Ident j ∷ ys)) → wide_ty d ≤ 200 → starts paren_open ys ≡ true → typed_of i n ks xs ≡ method_of n ks r (Ident j ∷ ys)
unfolding typed_of
typed_method i n ks d w h = rw (reads_ty d w refl refl) (rw h refl)

pub plain_method : (i : Bool) (n : ℕ) (ks : List ℕ) {r : TypeTree} {j : Identifier} {xs ys : List Terminal} (d : DerivesResult r xs (Ident j ∷ ys)) → wide_result d ≤ 200 → starts paren_open ys ≡ true → plain_of i n ks xs ≡ method_of n ks r (Ident j ∷ ys)
unfolding plain_of
plain_method i n ks (result_ty d) w h = ty_plain i n ks d ∙ typed_method i n ks d w h
plain_method i n ks result_void w h = refl

-- the braces of a constructor
pub call_none : (n : ℕ) (xs : List Terminal) → calls_super xs ≡ false → call_of n xs ≡ Ok (None, xs)
unfolding call_of
call_none n [] h = refl
call_none n (Keyword p k ∷ xs) h = rw h refl
call_none n (x ∷ xs) h = refl

pub args_first : {es : ExprTrees} {xs ys : List Terminal} → DerivesArgs es xs ys → starts paren_open xs ≡ true
args_first args_none = refl
args_first (args_some d) = refl

pub reads_ctor : (n : ℕ) {c : Option (ℕ × ExprTrees)} {ss : StmtTrees} {xs ys : List Terminal} (d : DerivesCtor c ss xs ys) → deep_ctor d ≤ n → wide_ctor d ≤ 200 → inner_of n xs ≡ got_ctor c ss ys
unfolding inner_of call_of
reads_ctor n (ctor_plain {xs} d) h w = rw (call_none n xs (bstmts_no_super d)) (rw (reads_bstmts n d h w refl) refl)
reads_ctor n (ctor_super a d) h w =
    rw (args_first a) (rw (reads_args n a (omega arith) (omega arith)) (rw (reads_bstmts n d (omega arith) (omega arith) refl) refl))

-- The reader below reads each class and each interface that nests less than n deep and whose types have at most 200 pairs of brackets.
pub record CompType (n : ℕ) (nest : BelowType) : Type 0 where
  pub classes : {ks : List ℕ} {x : TypeDeclTree} {xs ys : List Terminal} (d : DerivesClass ks x xs ys) → deep_class d < n → wide_class d ≤ 200 → nest ks xs ≡ got_type x ys
  pub interfaces : {ks : List ℕ} {x : TypeDeclTree} {xs ys : List Terminal} (d : DerivesInterface ks x xs ys) → deep_interface d < n → wide_interface d ≤ 200 → nest ks xs ≡ got_type x ys

class_no_mod : {ks : List ℕ} {x : TypeDeclTree} {xs ys : List Terminal} → DerivesClass ks x xs ys → (starts_mod xs ≡ false) × (begins_type xs ≡ true)
class_no_mod (class a b d) = (refl, refl)

interface_no_mod : {ks : List ℕ} {x : TypeDeclTree} {xs ys : List Terminal} → DerivesInterface ks x xs ys → (starts_mod xs ≡ false) × (begins_type xs ≡ true)
interface_no_mod (interface a d) = (refl, refl)

module _ (n : ℕ) (nest : BelowType) (c : CompType n nest) where
  -- a nested type
  behind_type : (i : Bool) (ks : List ℕ) (x : TypeDeclTree) (xs ys : List Terminal) → begins_type xs ≡ true → nest ks xs ≡ got_type x ys → behind_mods i n nest ks xs ≡ got_member (t.nested x) ys
  unfolding behind_mods
  behind_type i ks x xs ys s h = rw s (rw h refl)

  pub c_nested : (i : Bool) {x : TypeDeclTree} {xs ys : List Terminal} (d : DerivesType x xs ys) → deep_type d < n → wide_type d ≤ 200 → member_of i n nest xs ≡ got_member (t.nested x) ys
  unfolding member_of
  c_nested i (type_class {ks} {x} {zs} {ys} m d) h w =
      let s = class_no_mod d in
      rw (reads_mods m s.0) (behind_type i ks x zs ys s.1 (c.classes d h w))
  c_nested i (type_interface {ks} {x} {zs} {ys} m d) h w =
      let s = interface_no_mod d in
      rw (reads_mods m s.0) (behind_type i ks x zs ys s.1 (c.interfaces d h w))

  -- what is no type and no constructor
  pub behind_plain : (i : Bool) (ks : List ℕ) (xs : List Terminal) → begins_type xs ≡ false → calls xs ≡ false → behind_mods i n nest ks xs ≡ plain_of i n ks xs
  unfolding behind_mods
  behind_plain true ks xs s h = rw s refl
  behind_plain false ks xs s h = rw (s, h) refl

  behind_ctor : (ks : List ℕ) {j : Identifier} {bs : List ParamTree} {e : Option (ℕ × ExprTrees)} {ss : StmtTrees} {xs zs ys : List Terminal} (q : DerivesParams bs xs zs) (b : DerivesCtor e ss zs ys)
      → deep_ctor b ≤ n → wide_params q ≤ 200 → wide_ctor b ≤ 200 → behind_mods false n nest ks (Ident j ∷ xs) ≡ got_member (t.ctor (record { mods = ks; name = j; params = bs; call = e; body = ss })) ys
  unfolding behind_mods ctor_of
  behind_ctor ks q b h w v = rw (params_open q) (rw (reads_params q w) (rw (reads_ctor n b h v) refl))

  pub c_member : {m : MemberTree} {xs ys : List Terminal} (d : DerivesMember m xs ys) → deep_member d ≤ n → wide_member d ≤ 200 → member_of false n nest xs ≡ got_member m ys
  unfolding member_of
  c_member (member_type d) h w = c_nested false d (omega arith) w
  c_member (member_field {ks} {r} {vs} {p} {zs} {ws} {ys} m d v) h w =
      let b = ty_begins d in
      let s = vars_begin v refl in
      rw (reads_mods m b.0)
      (behind_plain false ks zs b.1 (ty_calls d (ident_no_mark paren_open ws s.0))
      ∙ ty_plain false n ks d ∙ typed_field false n ks d (omega arith) s.0 s.1
      ∙ reads_field false n ks r vs p ws ys (reads_vars n v h (omega arith) (lit< tt) refl))
  c_member (member_method {ks} {r} {i} {zs} m d q b) h w =
      let s = result_begins d in
      rw (reads_mods m s.0)
      (behind_plain false ks zs s.1 (result_calls d refl) ∙ plain_method false n ks d (omega arith) (params_open q)
      ∙ reads_method n ks r i q (omega arith) (reads_body n b h (omega arith)))
  c_member (member_ctor {ks} m q b) h w = rw (reads_mods m refl) (behind_ctor ks q b h (omega arith) (omega arith))

  pub c_imember : {m : MemberTree} {xs ys : List Terminal} (d : DerivesImember m xs ys) → deep_imember d ≤ n → wide_imember d ≤ 200 → member_of true n nest xs ≡ got_member m ys
  unfolding member_of
  c_imember (imember_type d) h w = c_nested true d (omega arith) w
  c_imember (imember_field {ks} {r} {vs} {p} {zs} {ws} {ys} m d v) h w =
      let b = ty_begins d in
      let s = constants_begin v in
      rw (reads_mods m b.0)
      (behind_plain true ks zs b.1 (ty_calls d (ident_no_mark paren_open ws s.0))
      ∙ ty_plain true n ks d ∙ typed_field true n ks d (omega arith) s.0 s.1
      ∙ reads_field true n ks r vs p ws ys (reads_constants n v (length ws) h (omega arith) (lit< tt) refl (omega arith)))
  c_imember (imember_method {ks} {r} {i} {zs} m d q b) h w =
      let s = result_begins d in
      rw (reads_mods m s.0)
      (behind_plain true ks zs s.1 (result_calls d refl) ∙ plain_method true n ks d (omega arith) (params_open q)
      ∙ reads_method n ks r i q (omega arith) (reads_body n b h (omega arith)))

  pub c_members : {ms : MemberTrees} {p : ℕ} {xs ys : List Terminal} (d : DerivesMembers ms xs (Punct p brace_close ∷ ys)) (k : ℕ) → deep_members d ≤ n → wide_members d ≤ 200 → length xs ≤ k → members_of false n nest k xs ≡ got_members ms ys
  unfolding members_of
  c_members members_none zero h w l = absurd (omega arith)
  c_members members_none (suc k) h w l = refl
  c_members (members_more d r) zero h w l = absurd (omega (arith, less_member d))
  c_members (members_more {xs} d r) (suc k) h w l =
      rw (word_no_mark brace_close xs (member_word d), word_no_mark semicolon xs (member_word d))
      (rw (c_member d (omega arith) (omega arith)) (rw (c_members r k (omega arith) (omega arith) (omega (arith, less_member d))) refl))
  c_members (members_empty r) zero h w l = absurd (omega arith)
  c_members (members_empty r) (suc k) h w l = c_members r k h w (omega arith)

  pub c_imembers : {ms : MemberTrees} {p : ℕ} {xs ys : List Terminal} (d : DerivesImembers ms xs (Punct p brace_close ∷ ys)) (k : ℕ) → deep_imembers d ≤ n → wide_imembers d ≤ 200 → length xs ≤ k → members_of true n nest k xs ≡ got_members ms ys
  unfolding members_of
  c_imembers imembers_none zero h w l = absurd (omega arith)
  c_imembers imembers_none (suc k) h w l = refl
  c_imembers (imembers_more d r) zero h w l = absurd (omega (arith, less_imember d))
  c_imembers (imembers_more {xs} d r) (suc k) h w l =
      rw (word_no_mark brace_close xs (imember_word d), word_no_mark semicolon xs (imember_word d))
      (rw (c_imember d (omega arith) (omega arith)) (rw (c_imembers r k (omega arith) (omega arith) (omega (arith, less_imember d))) refl))
  c_imembers (imembers_empty r) zero h w l = absurd (omega arith)
  c_imembers (imembers_empty r) (suc k) h w l = c_imembers r k h w (omega arith)

  pub c_class : {ks : List ℕ} {x : TypeDeclTree} {xs ys : List Terminal} (d : DerivesClass ks x xs ys) → deep_class d ≤ n → wide_class d ≤ 200 → decl_of n nest ks xs ≡ got_type x ys
  unfolding decl_of class_of braced_of
  c_class (class {ws} a b d) h w =
      let s = interfaces_begin b in
      rw (reads_parent a s.0 s.1) (rw (reads_interfaces b) (rw (c_members d (suc (length ws)) h w (omega arith)) refl))

  pub c_interface : {ks : List ℕ} {x : TypeDeclTree} {xs ys : List Terminal} (d : DerivesInterface ks x xs ys) → deep_interface d ≤ n → wide_interface d ≤ 200 → decl_of n nest ks xs ≡ got_type x ys
  unfolding decl_of interface_of braced_of
  c_interface (interface {zs} a d) h w =
      rw (reads_parents a) (rw (c_imembers d (suc (length zs)) h w (omega arith)) refl)

-- at each depth of nesting
pub comp_type : (n : ℕ) → CompType n (below_type n)
unfolding below_type
comp_type zero = record {
  classes = λ d h w. absurd (omega arith);
  interfaces = λ d h w. absurd (omega arith);
}
comp_type (suc n) = record {
  classes = λ d h w. c_class n (below_type n) (comp_type n) d (omega arith) w;
  interfaces = λ d h w. c_interface n (below_type n) (comp_type n) d (omega arith) w;
}

pub reads_type : (n : ℕ) {x : TypeDeclTree} {xs ys : List Terminal} (d : DerivesType x xs ys) → deep_type d ≤ n → wide_type d ≤ 200 → type_of n xs ≡ got_type x ys
unfolding type_of
reads_type n (type_class m d) h w = rw (reads_mods m (class_no_mod d).0) (c_class n (below_type n) (comp_type n) d h w)
reads_type n (type_interface m d) h w = rw (reads_mods m (interface_no_mod d).0) (c_interface n (below_type n) (comp_type n) d h w)

types_turn : (n k : ℕ) (x : TypeDeclTree) (ts : List TypeDeclTree) (xs zs : List Terminal) → begins_word xs ≡ true → type_of n xs ≡ got_type x zs → types_of n k zs ≡ got_types ts → types_of n (suc k) xs ≡ got_types (x ∷ ts)
unfolding types_of
types_turn n k x ts [] zs s h r = absurd (true≢false (sym s))
types_turn n k x ts (y ∷ xs) zs s h r = rw (word_no_mark semicolon (y ∷ xs) s) (rw h (rw r refl))

pub reads_types : (n : ℕ) {ts : List TypeDeclTree} {xs : List Terminal} (d : DerivesTypes ts xs []) (k : ℕ) → deep_types d ≤ n → wide_types d ≤ 200 → length xs ≤ k → types_of n k xs ≡ got_types ts
unfolding types_of
reads_types n types_none k h w l = refl
reads_types n (types_more d r) zero h w l = absurd (omega (arith, less_type d))
reads_types n (types_more {x} {ts} {xs} {zs} d r) (suc k) h w l =
    types_turn n k x ts xs zs (type_word d) (reads_type n d (omega arith) (omega arith)) (reads_types n r k (omega arith) (omega arith) (omega (arith, less_type d)))
reads_types n (types_empty r) zero h w l = absurd (omega arith)
reads_types n (types_empty r) (suc k) h w l = reads_types n r k h w (omega arith)

pub reads_package : {m : Option (List Identifier)} {xs ys : List Terminal} → DerivesPackage m xs ys → starts_word word_package ys ≡ false → package_of xs ≡ got_package m ys
unfolding package_of
reads_package package_none h = rw h refl
reads_package (package_some d) h = rw (reads_name d refl) refl

name_no_star : {ids : List Identifier} {xs ys : List Terminal} → DerivesName ids xs ys → starts star xs ≡ false
name_no_star name_one = refl
name_no_star (name_more d) = refl

pub path_one : (s : Bool) {ids : List Identifier} {xs ys : List Terminal} → DerivesName ids xs ys → (k : ℕ) → starts dot ys ≡ false → length xs ≤ k → path_of s k xs ≡ got_import (record { name = ids; all = false; is_static = s }) ys
unfolding path_of
path_one s d zero h l = absurd (omega (arith, less_name d))
path_one s name_one (suc k) h l = rw h refl
path_one s (name_more d) (suc k) h l = rw (name_no_star d) (rw (path_one s d k h (omega arith)) refl)

pub path_all : (s : Bool) {ids : List Identifier} {p q : ℕ} {xs ys : List Terminal} → DerivesName ids xs (Punct p dot ∷ Punct q star ∷ ys) → (k : ℕ) → length xs ≤ k → path_of s k xs ≡ got_import (record { name = ids; all = true; is_static = s }) ys
unfolding path_of
path_all s d zero l = absurd (omega (arith, less_name d))
path_all s name_one (suc k) l = refl
path_all s (name_more d) (suc k) l = rw (name_no_star d) (rw (path_all s d k (omega arith)) refl)

-- imports behind their words
pub listed_one : {ids : List Identifier} {q : ℕ} {xs ys : List Terminal} → DerivesName ids xs (Punct q semicolon ∷ ys) → listed_of false xs ≡ got_import (record { name = ids; all = false; is_static = false }) ys
unfolding listed_of
listed_one {xs} d = rw (path_one false d (length xs) refl (omega arith)) refl

pub listed_static : {ids : List Identifier} {q : ℕ} {xs ys : List Terminal} → DerivesName ids xs (Punct q semicolon ∷ ys) → 1 < length ids → listed_of true xs ≡ got_import (record { name = ids; all = false; is_static = true }) ys
unfolding listed_of
listed_static {ids} {xs} d h = rw (path_one true d (length xs) refl (omega arith), le-ltb (length ids) 2 (omega (arith, h))) refl

pub listed_all : (s : Bool) {ids : List Identifier} {p q r : ℕ} {xs ys : List Terminal} → DerivesName ids xs (Punct p dot ∷ Punct q star ∷ Punct r semicolon ∷ ys) → listed_of s xs ≡ got_import (record { name = ids; all = true; is_static = s }) ys
unfolding listed_of
listed_all true {xs} d = rw (path_all true d (length xs) (omega arith)) refl
listed_all false {xs} d = rw (path_all false d (length xs) (omega arith)) refl

pub import_turn : (c : ℕ) {x : ImportTree} {xs ys : List Terminal} → DerivesImport x xs ys → imports_of (suc c) xs ≡ (imports_of c ys >>= λ s. Ok (x ∷ s.0, s.1))
unfolding imports_of import_of
import_turn c (import_one d) = rw (name_no_word word_static d, listed_one d) refl
import_turn c (import_all d) = rw (name_no_word word_static d, listed_all false d) refl
import_turn c (import_static_one d h) = rw (listed_static d h) refl
import_turn c (import_static_all d) = rw (listed_all true d) refl

pub reads_imports : {is : List ImportTree} {xs ys : List Terminal} → DerivesImports is xs ys → (k : ℕ) → starts_word word_import ys ≡ false → length xs < k → imports_of k xs ≡ got_imports is ys
unfolding imports_of
reads_imports d zero h l = absurd (omega arith)
reads_imports imports_none (suc k) h l = rw h refl
reads_imports (imports_more d r) (suc k) h l = import_turn k d ∙ rw (reads_imports r k h (omega (arith, less_import d))) refl

-- types begin with no `package` and no `import`, and imports with no `package`
pub types_no_word : {ts : List TypeDeclTree} {xs : List Terminal} → DerivesTypes ts xs [] → (starts_word word_package xs ≡ false) × (starts_word word_import xs ≡ false)
types_no_word types_none = (refl, refl)
types_no_word (types_more d r) =
    (type_no_word word_package (refl, (refl, (refl, (refl, (refl, (refl, (refl, tt))))))) refl refl d, type_no_word word_import (refl, (refl, (refl, (refl, (refl, (refl, (refl, tt))))))) refl refl d)
types_no_word (types_empty r) = (refl, refl)

pub imports_no_package : {is : List ImportTree} {xs ys : List Terminal} → DerivesImports is xs ys → starts_word word_package ys ≡ false → starts_word word_package xs ≡ false
imports_no_package imports_none h = h
imports_no_package (imports_more (import_one d) r) h = refl
imports_no_package (imports_more (import_all d) r) h = refl
imports_no_package (imports_more (import_static_one d l) r) h = refl
imports_no_package (imports_more (import_static_all d) r) h = refl

pub reads_file : (n : ℕ) {xs : List Terminal} {u : UnitTree} (d : Derives xs u) → deep_file d ≤ n → wide_file d ≤ 200 → file_of n xs ≡ got_file u
unfolding file_of
reads_file n (file {zs} {ws} a b d) h w =
    let s = types_no_word d in
    rw (reads_package a (imports_no_package b s.0)) (rw (reads_imports b (suc (length zs)) s.1 (omega arith)) (rw (reads_types n d (length ws) h w (omega arith)) refl))
