-- What begins a file and a statement, by the cases of the definition.
use Rattle.std.proofs.Common.{◌≡◌, ℕ, zero, suc, ◌≤◌, List, [], ◌∷◌, take, arith, refl, sym, subst, true≢false}
use Rattle.jv_tree.specs.declared.name.Ident.{Ident as Identifier}
use Rattle.jv_tree.specs.ExprTree as t
use Rattle.jv_grammar.specs.declared.form.Form.TheVariants.{Target}
use Rattle.jv_grammar.specs.declared.terminal.Terminal.{Terminal}
use Rattle.jv_grammar.specs.declared.terminal.Terminal.TheVariants.{Ident, Keyword, Punct}
use Rattle.jv_grammar.specs.Marks.{brace_close, equals_sign, word_int}
use Rattle.jv_grammar.specs.ExprExample.{plus_sign}
use Rattle.jv_tree.specs.TypeTree.{TypeTree}
use Rattle.jv_tree.specs.StmtTree.{VarTree}
use Rattle.jv_tree.specs.DeclTree.{TypeDeclTree, MemberTree, MemberTrees}
use Rattle.jv_grammar.specs.TypeGrammar.{DerivesPairs, DerivesTy, DerivesResult, prim_int, base_prim, base_name, name_one, pairs_none, ty, result_ty}
use Rattle.jv_grammar.specs.ExprGrammar.{DerivesUnary, unary_post, post_primary, primary_head, head_name, bin_unary, bin_one}
use Rattle.jv_grammar.specs.DeclGrammar.{DerivesType, type_class, type_interface, DerivesClass, class, DerivesMembers, types_more, imports_more, file, DerivesMember, member_type, member_field, member_method, member_ctor, members_more, mods_none, mods_more, parent_none, interfaces_none, package_none, imports_none}
use Rattle.jv_grammar.specs.TypeBegins.{begun_name_whole, begun_base_name, begun_base_whole, BeginsPairs, begun_ty_base, begun_ty_pairs, begun_ty_whole, BeginsResult, begun_result_ty, begun_result_whole}
use Rattle.jv_grammar.specs.ExprBegins.{BeginsExpr, begun_expr_cond, begun_cond_bin, begun_bin_one, begun_bin_chain, begun_bin_whole, begun_links_one, begun_link_operand}
use Rattle.jv_grammar.specs.StmtBegins.{begun_var_whole, BeginsVars, begun_vars_one, begun_vars_more, begun_vars_whole, BeginsStmt, begun_stmt_effect}
use Rattle.jv_grammar.specs.StmtGrammar.{DerivesVars, vars_one, vars_more}
use Rattle.jv_grammar.specs.DeclBegins.{begun_parent_none, BeginsType, begun_type_class, begun_type_interface, begun_type_whole, BeginsClass, begun_class_word, begun_class_parent, begun_class_interfaces, begun_class_members, begun_class_whole, begun_parent_whole, begun_interfaces_whole, begun_package_whole, begun_import_whole, begun_imports_one, begun_imports_more, begun_imports_whole, begun_types_more, begun_types_whole, begun_file_package, begun_file_imports, begun_file_whole, BeginsInterface, begun_interface_whole, BeginsMembers, begun_members_none, begun_members_one, begun_members_more, begun_members_whole, BeginsMember, begun_member_type, begun_member_result, begun_member_vars, begun_member_params, begun_member_body, begun_member_ctor_params, begun_member_ctor, begun_member_whole, begun_types_one, Begins, begun_file_none, begun_file_types}
use Rattle.jv_grammar.specs.RefusedAt.{IsRefusedAt}
use Rattle.jv_grammar.specs.BeginsExample.{open_class}

-- members in an open class
in_open : (a : Identifier) (p q : ℕ) (xs : List Terminal) → BeginsMembers xs → Begins (open_class a p q xs)
in_open a p q xs m = begun_file_types package_none imports_none (begun_types_one (begun_type_class mods_none (begun_class_members parent_none interfaces_none m)))

pub open_type : (a : Identifier) (p q : ℕ) → IsRefusedAt (open_class a p q []) 3
open_type a p q = record { within = omega arith; begins = by; refuses = λ l b. absurd (omega (arith, l)) }
  where
    by : (j : ℕ) → j ≤ 3 → Begins (take j (open_class a p q []))
    by zero l = begun_file_none
    by (suc zero) l = begun_file_types package_none imports_none (begun_types_one (begun_type_class mods_none begun_class_word))
    by (suc (suc zero)) l = begun_file_types package_none imports_none (begun_types_one (begun_type_class mods_none (begun_class_parent begun_parent_none)))
    by (suc (suc (suc zero))) l = in_open a p q [] begun_members_none
    by (suc (suc (suc (suc j)))) l = absurd (omega (arith, l))

pub open_field : (a : Identifier) (p q : ℕ) → Begins (open_class a p q (Keyword q word_int ∷ []))
open_field a p q = in_open a p q _ (begun_members_one (begun_member_result mods_none (begun_result_whole (result_ty (ty (base_prim prim_int) pairs_none)))))

-- a name and the end
alone : (i : Identifier) → DerivesUnary Target (t.expr i.at (t.name (i ∷ []))) (Ident i ∷ []) []
alone i = unary_post (post_primary (primary_head (head_name name_one refl)))

in_front : (i : Identifier) (p : ℕ) (ys : List Terminal) → DerivesUnary Target (t.expr i.at (t.name (i ∷ []))) (Ident i ∷ Punct p plus_sign ∷ ys) (Punct p plus_sign ∷ ys)
in_front i p ys = unary_post (post_primary (primary_head (head_name name_one refl)))

-- `a + b` begins an expression, at the level of its sign
sum_begins : (a b : Identifier) (p : ℕ) → BeginsExpr (Ident a ∷ Punct p plus_sign ∷ Ident b ∷ [])
sum_begins a b p = begun_expr_cond (begun_cond_bin
    (begun_bin_one (begun_bin_one (begun_bin_one (begun_bin_one (begun_bin_one (begun_bin_one (begun_bin_one (begun_bin_one
    (begun_bin_chain (bin_one (bin_unary (in_front a p (Ident b ∷ [])))) (begun_links_one (begun_link_operand (refl, λ e. omega (arith, e)) (begun_bin_whole (bin_one (bin_unary (alone b))))))))))))))))

pub open_effect : (a b : Identifier) (p : ℕ) → BeginsStmt (Ident a ∷ Punct p plus_sign ∷ Ident b ∷ [])
open_effect a b p = begun_stmt_effect (sum_begins a b p)

-- behind `int`, a `=` begins nothing of a member, and no part of a type takes it
no_pairs : {n p : ℕ} {ys : List Terminal} → DerivesPairs n (Punct p equals_sign ∷ []) ys → ys ≡ Punct p equals_sign ∷ []
no_pairs pairs_none = refl

behind_int : {r : TypeTree} {q p : ℕ} {ys : List Terminal} → DerivesTy r (Keyword q word_int ∷ Punct p equals_sign ∷ []) ys → ys ≡ Punct p equals_sign ∷ []
behind_int (ty (base_prim prim_int) d) = no_pairs d
behind_int (ty (base_name d) q) = elim d [ ]

no_type : {x : TypeDeclTree} {q p : ℕ} {ys : List Terminal} → DerivesType x (Keyword q word_int ∷ Punct p equals_sign ∷ []) ys → ⊥
no_type (type_class mods_none d) = elim d [ ]
no_type (type_class (mods_more h m) d) = true≢false (sym h)
no_type (type_interface mods_none d) = elim d [ ]
no_type (type_interface (mods_more h m) d) = true≢false (sym h)

no_begun_class : {q p : ℕ} → BeginsClass (Keyword q word_int ∷ Punct p equals_sign ∷ []) → ⊥
no_begun_class (begun_class_whole d) = elim d [ ]

no_begun_interface : {q p : ℕ} → BeginsInterface (Keyword q word_int ∷ Punct p equals_sign ∷ []) → ⊥
no_begun_interface (begun_interface_whole d) = elim d [ ]

no_begun_type : {q p : ℕ} → BeginsType (Keyword q word_int ∷ Punct p equals_sign ∷ []) → ⊥
no_begun_type (begun_type_class mods_none d) = no_begun_class d
no_begun_type (begun_type_class (mods_more h m) d) = true≢false (sym h)
no_begun_type (begun_type_interface mods_none d) = no_begun_interface d
no_begun_type (begun_type_interface (mods_more h m) d) = true≢false (sym h)
no_begun_type (begun_type_whole d) = no_type d

no_begun_vars : {p : ℕ} → BeginsVars (Punct p equals_sign ∷ []) → ⊥
no_begun_vars (begun_vars_one (begun_var_whole d)) = elim d [ ]
no_begun_vars (begun_vars_more d r) = elim d [ ]
no_begun_vars (begun_vars_whole (vars_one d)) = elim d [ ]
no_begun_vars (begun_vars_whole (vars_more d r)) = elim d [ ]

no_vars : {p : ℕ} {vs : List VarTree} {ys : List Terminal} → DerivesVars vs (Punct p equals_sign ∷ []) ys → ⊥
no_vars (vars_one d) = elim d [ ]
no_vars (vars_more d r) = elim d [ ]

no_vars_behind : {vs : List VarTree} {p : ℕ} {zs ys : List Terminal} → zs ≡ Punct p equals_sign ∷ [] → DerivesVars vs zs ys → ⊥
no_vars_behind {vs} {ys = ys} e d = no_vars (subst (λ z. DerivesVars vs z ys) e d)

no_ident_behind : {r : TypeTree} {q p : ℕ} {i : Identifier} {ys : List Terminal} → DerivesResult r (Keyword q word_int ∷ Punct p equals_sign ∷ []) (Ident i ∷ ys) → ⊥
no_ident_behind (result_ty d) = let e = behind_int d in cc

no_begun_pairs : {p : ℕ} → BeginsPairs (Punct p equals_sign ∷ []) → ⊥
no_begun_pairs b = elim b [ ]

no_begun_result : {q p : ℕ} → BeginsResult (Keyword q word_int ∷ Punct p equals_sign ∷ []) → ⊥
no_begun_result (begun_result_ty (begun_ty_base (begun_base_name (begun_name_whole d)))) = elim d [ ]
no_begun_result (begun_result_ty (begun_ty_base (begun_base_whole (base_prim d)))) = elim d [ ]
no_begun_result (begun_result_ty (begun_ty_base (begun_base_whole (base_name d)))) = elim d [ ]
no_begun_result (begun_result_ty (begun_ty_pairs (base_prim prim_int) r)) = no_begun_pairs r
no_begun_result (begun_result_ty (begun_ty_pairs (base_name d) r)) = elim d [ ]
no_begun_result (begun_result_ty (begun_ty_whole d)) = let e = behind_int d in cc
no_begun_result (begun_result_whole (result_ty d)) = let e = behind_int d in cc

no_member : {m : MemberTree} {q p : ℕ} {ys : List Terminal} → DerivesMember m (Keyword q word_int ∷ Punct p equals_sign ∷ []) ys → ⊥
no_member (member_type d) = no_type d
no_member (member_field mods_none d v) = no_vars_behind (behind_int d) v
no_member (member_field (mods_more h m) d v) = true≢false (sym h)
no_member (member_method mods_none d q b) = no_ident_behind d
no_member (member_method (mods_more h m) d q b) = true≢false (sym h)
no_member (member_ctor (mods_more h m) q c) = true≢false (sym h)

no_begun_member : {q p : ℕ} → BeginsMember (Keyword q word_int ∷ Punct p equals_sign ∷ []) → ⊥
no_begun_member (begun_member_type r) = no_begun_type r
no_begun_member (begun_member_result mods_none r) = no_begun_result r
no_begun_member (begun_member_result (mods_more h m) r) = true≢false (sym h)
no_begun_member (begun_member_vars mods_none d r) = no_begun_vars (subst BeginsVars (behind_int d) r)
no_begun_member (begun_member_vars (mods_more h m) d r) = true≢false (sym h)
no_begun_member (begun_member_params mods_none d r) = no_ident_behind d
no_begun_member (begun_member_params (mods_more h m) d r) = true≢false (sym h)
no_begun_member (begun_member_body mods_none d q r) = no_ident_behind d
no_begun_member (begun_member_body (mods_more h m) d q r) = true≢false (sym h)
no_begun_member (begun_member_ctor_params (mods_more h m) r) = true≢false (sym h)
no_begun_member (begun_member_ctor (mods_more h m) q r) = true≢false (sym h)
no_begun_member (begun_member_whole d) = no_member d

pub no_begun_members : {q p : ℕ} → BeginsMembers (Keyword q word_int ∷ Punct p equals_sign ∷ []) → ⊥
no_begun_members (begun_members_one r) = no_begun_member r
no_begun_members (begun_members_more d r) = no_member d
no_begun_members (begun_members_whole (members_more d r)) = no_member d

-- so `class a { int =` begins no file
no_members : {ms : MemberTrees} {q p r : ℕ} {ys : List Terminal} → DerivesMembers ms (Keyword q word_int ∷ Punct p equals_sign ∷ []) (Punct r brace_close ∷ ys) → ⊥
no_members (members_more d r) = no_member d

no_class : {ks : List ℕ} {x : TypeDeclTree} {a : Identifier} {q p : ℕ} {ys : List Terminal} → DerivesClass ks x (open_class a p q (Keyword q word_int ∷ Punct p equals_sign ∷ [])) ys → ⊥
no_class (class parent_none interfaces_none m) = no_members m

no_open_class : {a : Identifier} {q p : ℕ} → BeginsClass (open_class a p q (Keyword q word_int ∷ Punct p equals_sign ∷ [])) → ⊥
no_open_class (begun_class_parent (begun_parent_whole d)) = elim d [ ]
no_open_class (begun_class_interfaces parent_none (begun_interfaces_whole d)) = elim d [ ]
no_open_class (begun_class_members parent_none interfaces_none m) = no_begun_members m
no_open_class (begun_class_whole d) = no_class d

no_open_type : {x : TypeDeclTree} {a : Identifier} {q p : ℕ} {ys : List Terminal} → DerivesType x (open_class a p q (Keyword q word_int ∷ Punct p equals_sign ∷ [])) ys → ⊥
no_open_type (type_class mods_none d) = no_class d
no_open_type (type_class (mods_more h m) d) = true≢false (sym h)
no_open_type (type_interface mods_none d) = elim d [ ]
no_open_type (type_interface (mods_more h m) d) = true≢false (sym h)

no_begun_open_type : {a : Identifier} {q p : ℕ} → BeginsType (open_class a p q (Keyword q word_int ∷ Punct p equals_sign ∷ [])) → ⊥
no_begun_open_type (begun_type_class mods_none d) = no_open_class d
no_begun_open_type (begun_type_class (mods_more h m) d) = true≢false (sym h)
no_begun_open_type (begun_type_interface mods_none (begun_interface_whole d)) = elim d [ ]
no_begun_open_type (begun_type_interface (mods_more h m) d) = true≢false (sym h)
no_begun_open_type (begun_type_whole d) = no_open_type d

pub no_name : (a : Identifier) (p q : ℕ) → Begins (open_class a p q (Keyword q word_int ∷ Punct p equals_sign ∷ [])) → ⊥
no_name a p q (begun_file_package (begun_package_whole d)) = elim d [ ]
no_name a p q (begun_file_imports package_none (begun_imports_one (begun_import_whole d))) = elim d [ ]
no_name a p q (begun_file_imports package_none (begun_imports_more d r)) = elim d [ ]
no_name a p q (begun_file_imports package_none (begun_imports_whole (imports_more d r))) = elim d [ ]
no_name a p q (begun_file_types package_none imports_none (begun_types_one r)) = no_begun_open_type r
no_name a p q (begun_file_types package_none imports_none (begun_types_more d r)) = no_open_type d
no_name a p q (begun_file_types package_none imports_none (begun_types_whole (types_more d r))) = no_open_type d
no_name a p q (begun_file_types package_none (imports_more d i) r) = elim d [ ]
no_name a p q (begun_file_whole (file package_none imports_none (types_more d r))) = no_open_type d
no_name a p q (begun_file_whole (file package_none (imports_more d i) r)) = elim d [ ]
