-- `a + b ;` begins no statement: its expression ends at the `;`, and is no effect.
use Rattle.std.proofs.Common.{◌≡◌, ℕ, ◌⊎◌, inl, inr, false, nat_eq, List, [], ◌∷◌, arith, refl, sym, ◌∙◌, subst, true≢false}
use Rattle.std.specs.List.{list_any}
use Rattle.jv_tree.specs.declared.name.Ident.{Ident as Identifier}
use Rattle.jv_tree.specs.ExprTree.{ExprTree, OperandTree, ExprTrees, LinkTrees}
use Rattle.jv_tree.specs.Shaped.{IsOneOf, levels, postfix_operators, assignment_operators}
use Rattle.jv_grammar.specs.declared.terminal.Terminal.{Terminal}
use Rattle.jv_grammar.specs.declared.terminal.Terminal.TheVariants.{Ident, Punct}
use Rattle.jv_grammar.specs.declared.form.Form.{Form}
use Rattle.jv_grammar.specs.declared.form.Form.TheVariants.{Target, Other}
use Rattle.jv_grammar.specs.Marks.{paren_open, bracket_open, semicolon, dot}
use Rattle.jv_grammar.specs.ExprExample.{plus_sign}
use Rattle.jv_grammar.specs.TypeGrammar.{DerivesName, name_one, name_more}
use Rattle.jv_grammar.specs.ExprGrammar.{DerivesExpr, expr_assign, expr_cond, DerivesCond, cond_bin, cond_choice, DerivesBin, bin_unary, bin_one, bin_chain, DerivesLinks, links_one, links_more, DerivesLink, link_operand, DerivesUnary, unary_cast, unary_post, DerivesPost, post_primary, post_step, DerivesPrimary, primary_head, primary_field, primary_call, primary_index, DerivesHead, head_name, head_call, DerivesArgs, args_none, args_some}
use Rattle.jv_grammar.specs.StmtGrammar.{stmt_block, stmt_effect}
use Rattle.jv_grammar.specs.TypeBegins.{BeginsName, begun_name_more, begun_name_whole}
use Rattle.jv_grammar.specs.ExprBegins.{BeginsExpr, begun_expr_assign, begun_expr_cond, begun_expr_whole, BeginsCond, begun_cond_bin, begun_cond_yes, begun_cond_no, begun_cond_whole, BeginsBin, begun_bin_unary, begun_bin_one, begun_bin_chain, begun_bin_whole, BeginsLinks, begun_links_one, begun_links_more, begun_links_whole, begun_link_operand, begun_link_whole, BeginsUnary, begun_unary_cast, begun_unary_post, begun_unary_whole, begun_cast_whole, begun_post_primary, begun_post_whole, BeginsPrimary, begun_primary_head, begun_primary_dot, begun_primary_call, begun_primary_index, begun_primary_whole, BeginsHead, begun_head_name, begun_head_call, begun_head_whole, BeginsArgs, begun_args_some, begun_args_whole}
use Rattle.jv_grammar.specs.StmtBegins.{begun_block_whole, BeginsStmt, begun_stmt_block, begun_stmt_effect, begun_stmt_whole}
use Rattle.jv_grammar.specs.BeginsExample.{BeginningsAreToldApart}
use Rattle.jv_grammar.proofs.BeginsExamples.{open_type, open_field, no_name, open_effect}

-- a mark that neither a primary nor a `post` takes behind a name
abbrev EndsPost : ℕ → Type 0
EndsPost o = (o ≡ paren_open → ⊥) × (o ≡ dot → ⊥) × (o ≡ bracket_open → ⊥) × (list_any (nat_eq o) postfix_operators ≡ false)

plus_ends : EndsPost plus_sign
plus_ends = (λ e. omega (arith, e), λ e. omega (arith, e), λ e. omega (arith, e), refl)

semicolon_ends : EndsPost semicolon
semicolon_ends = (λ e. omega (arith, e), λ e. omega (arith, e), λ e. omega (arith, e), refl)

-- a name in front of such a mark derives, as whatever it does, up to the mark
name_end : {ids : List Identifier} {a : Identifier} {p o : ℕ} {us ys : List Terminal} → EndsPost o → DerivesName ids (Ident a ∷ Punct p o ∷ us) ys → ys ≡ Punct p o ∷ us
name_end h name_one = refl
name_end h (name_more d) = absurd (h.1 refl)

no_args : {es : ExprTrees} {p o : ℕ} {us ys : List Terminal} → EndsPost o → DerivesArgs es (Punct p o ∷ us) ys → ⊥
no_args h args_none = h.0 refl
no_args h (args_some d) = h.0 refl

head_end : {f : Form} {e : ExprTree} {a : Identifier} {p o : ℕ} {us ys : List Terminal} → EndsPost o → DerivesHead f e (Ident a ∷ Punct p o ∷ us) ys → (ys ≡ Punct p o ∷ us) × (f ≡ Target)
head_end h (head_name d n) = (name_end h d, refl)
head_end h (head_call d) = absurd (no_args h d)

mark_same : {p o q k : ℕ} {us zs : List Terminal} → Punct q k ∷ zs ≡ Punct p o ∷ us → o ≡ k
mark_same e = cc

primary_end : {f : Form} {e : ExprTree} {a : Identifier} {p o : ℕ} {us ys : List Terminal} → EndsPost o → DerivesPrimary f e (Ident a ∷ Punct p o ∷ us) ys → (ys ≡ Punct p o ∷ us) × (f ≡ Target)
primary_end h (primary_head d) = head_end h d
primary_end h (primary_field d n) = absurd (h.1 (mark_same (primary_end h d).0))
primary_end h (primary_call d r) = absurd (h.1 (mark_same (primary_end h d).0))
primary_end h (primary_index d r) = absurd (h.2 (mark_same (primary_end h d).0))

post_end : {f : Form} {e : ExprTree} {a : Identifier} {p o : ℕ} {us ys : List Terminal} → EndsPost o → DerivesPost f e (Ident a ∷ Punct p o ∷ us) ys → (ys ≡ Punct p o ∷ us) × (f ≡ Target)
post_end h (post_primary d) = primary_end h d
post_end h (post_step d m) = absurd (true≢false (sym m ∙ subst (λ n. list_any (nat_eq n) postfix_operators ≡ false) (mark_same (post_end h d).0) h.3))

unary_end : {f : Form} {e : ExprTree} {a : Identifier} {p o : ℕ} {us ys : List Terminal} → EndsPost o → DerivesUnary f e (Ident a ∷ Punct p o ∷ us) ys → (ys ≡ Punct p o ∷ us) × (f ≡ Target)
unary_end h (unary_cast d) = elim d [ ]
unary_end h (unary_post d) = post_end h d

nil_not : {x : Terminal} {xs : List Terminal} → [] ≡ x ∷ xs → ⊥
nil_not e = cc

-- so with the mark, it begins none
no_begun_name : {a : Identifier} {p o : ℕ} {us : List Terminal} → EndsPost o → BeginsName (Ident a ∷ Punct p o ∷ us) → ⊥
no_begun_name h (begun_name_more r) = h.1 refl
no_begun_name h (begun_name_whole d) = nil_not (name_end h d)

no_begun_args : {p o : ℕ} {us : List Terminal} → EndsPost o → BeginsArgs (Punct p o ∷ us) → ⊥
no_begun_args h (begun_args_some r) = h.0 refl
no_begun_args h (begun_args_whole d) = no_args h d

no_begun_head : {a : Identifier} {p o : ℕ} {us : List Terminal} → EndsPost o → BeginsHead (Ident a ∷ Punct p o ∷ us) → ⊥
no_begun_head h (begun_head_name r) = no_begun_name h r
no_begun_head h (begun_head_call r) = no_begun_args h r
no_begun_head h (begun_head_whole d) = nil_not (head_end h d).0

no_begun_primary : {a : Identifier} {p o : ℕ} {us : List Terminal} → EndsPost o → BeginsPrimary (Ident a ∷ Punct p o ∷ us) → ⊥
no_begun_primary h (begun_primary_head r) = no_begun_head h r
no_begun_primary h (begun_primary_dot d) = h.1 (mark_same (primary_end h d).0)
no_begun_primary h (begun_primary_call d r) = h.1 (mark_same (primary_end h d).0)
no_begun_primary h (begun_primary_index d r) = h.2 (mark_same (primary_end h d).0)
no_begun_primary h (begun_primary_whole d) = nil_not (primary_end h d).0

no_begun_unary : {a : Identifier} {p o : ℕ} {us : List Terminal} → EndsPost o → BeginsUnary (Ident a ∷ Punct p o ∷ us) → ⊥
no_begun_unary h (begun_unary_cast (begun_cast_whole d)) = elim d [ ]
no_begun_unary h (begun_unary_post (begun_post_primary r)) = no_begun_primary h r
no_begun_unary h (begun_unary_post (begun_post_whole d)) = nil_not (post_end h d).0
no_begun_unary h (begun_unary_whole d) = nil_not (unary_end h d).0

-- levels of which the mark is no operator
abbrev Without : ℕ → List (List ℕ) → Type 0
Without o [] = Unit {0}
Without o (level ∷ rest) = (list_any (nat_eq o) level ≡ false) × Without o rest

no_link : {level : List ℕ} {tighter : List (List ℕ)} {q k p o : ℕ} {x : OperandTree} {us ys : List Terminal} → list_any (nat_eq o) level ≡ false → DerivesLink level tighter q k x (Punct p o ∷ us) ys → ⊥
no_link h (link_operand m d) = true≢false (sym m.0 ∙ h)

no_links : {level : List ℕ} {tighter : List (List ℕ)} {ls : LinkTrees} {p o : ℕ} {us ys : List Terminal} → list_any (nat_eq o) level ≡ false → DerivesLinks level tighter ls (Punct p o ∷ us) ys → ⊥
no_links h (links_one d) = no_link h d
no_links h (links_more d l) = no_link h d

links_at : {level : List ℕ} {tighter : List (List ℕ)} {ls : LinkTrees} {p o : ℕ} {us zs ys : List Terminal} → list_any (nat_eq o) level ≡ false → zs ≡ Punct p o ∷ us → DerivesLinks level tighter ls zs ys → ⊥
links_at {level} {tighter} {ls} {ys} h e l = no_links h (subst (λ z. DerivesLinks level tighter ls z ys) e l)

no_begun_links : {level : List ℕ} {tighter : List (List ℕ)} {p o : ℕ} {us zs : List Terminal} → list_any (nat_eq o) level ≡ false → zs ≡ Punct p o ∷ us → BeginsLinks level tighter zs → ⊥
no_begun_links {level} {tighter} {p} {o} {us} h e r = by (subst (BeginsLinks level tighter) e r)
  where
    by : BeginsLinks level tighter (Punct p o ∷ us) → ⊥
    by (begun_links_one (begun_link_operand m b)) = true≢false (sym m.0 ∙ h)
    by (begun_links_one (begun_link_whole d)) = no_link h d
    by (begun_links_more d b) = no_link h d
    by (begun_links_whole d) = no_links h d

one_end : {rest : List (List ℕ)} {f : Form} {e : ExprTree} {a : Identifier} {p o : ℕ} {us ys : List Terminal} → EndsPost o → Without o rest → DerivesBin rest f e (Ident a ∷ Punct p o ∷ us) ys → ys ≡ Punct p o ∷ us
one_end h w (bin_unary d) = (unary_end h d).0
one_end h w (bin_one d) = one_end h w.1 d
one_end h w (bin_chain d l) = absurd (links_at w.0 (one_end h w.1 d) l)

no_begun_one : {rest : List (List ℕ)} {a : Identifier} {p o : ℕ} {us : List Terminal} → EndsPost o → Without o rest → BeginsBin rest (Ident a ∷ Punct p o ∷ us) → ⊥
no_begun_one h w (begun_bin_unary r) = no_begun_unary h r
no_begun_one h w (begun_bin_one r) = no_begun_one h w.1 r
no_begun_one h w (begun_bin_chain d r) = no_begun_links w.0 (one_end h w.1 d) r
no_begun_one h w (begun_bin_whole d) = nil_not (one_end h w d)

-- `+ b ;`, and `a` in front of it
abbrev added : Identifier → ℕ → List Terminal
added b p = Punct p plus_sign ∷ Ident b ∷ Punct p semicolon ∷ []

link_end : {level : List ℕ} {tighter : List (List ℕ)} {q k p : ℕ} {b : Identifier} {x : OperandTree} {ys : List Terminal} → Without semicolon tighter → DerivesLink level tighter q k x (added b p) ys → ys ≡ Punct p semicolon ∷ []
link_end w (link_operand m d) = one_end semicolon_ends w d

links_end : {level : List ℕ} {tighter : List (List ℕ)} {ls : LinkTrees} {p : ℕ} {b : Identifier} {ys : List Terminal} → list_any (nat_eq semicolon) level ≡ false → Without semicolon tighter
    → DerivesLinks level tighter ls (added b p) ys → ys ≡ Punct p semicolon ∷ []
links_end h w (links_one d) = link_end w d
links_end h w (links_more d l) = absurd (links_at h (link_end w d) l)

-- what it derives ends in front of the `+` or of the `;`, and is no effect
abbrev SumEnd : Identifier → ℕ → Form → List Terminal → Type 0
SumEnd b p f ys = ((ys ≡ added b p) × (f ≡ Target)) ⊎ ((ys ≡ Punct p semicolon ∷ []) × (f ≡ Other))

sum_end : {rest : List (List ℕ)} {f : Form} {e : ExprTree} {a b : Identifier} {p : ℕ} {ys : List Terminal} → Without semicolon rest → DerivesBin rest f e (Ident a ∷ added b p) ys → SumEnd b p f ys
sum_end w (bin_unary d) = inl (unary_end plus_ends d)
sum_end w (bin_one d) = sum_end w.1 d
sum_end {b} {p} {ys} w (bin_chain {level} {tighter} {ls} d l) = elim (sum_end w.1 d) [
  | inl v ↦ inr (links_end w.0 w.1 (subst (λ z. DerivesLinks level tighter ls z ys) v.0 l), refl)
  | inr v ↦ absurd (links_at w.0 v.0 l)
]

no_sum_end : {b : Identifier} {p q k : ℕ} {f : Form} {zs : List Terminal} → (k ≡ plus_sign → ⊥) → (k ≡ semicolon → ⊥) → SumEnd b p f (Punct q k ∷ zs) → ⊥
no_sum_end h h' (inl v) = h (sym (mark_same v.0))
no_sum_end h h' (inr v) = h' (sym (mark_same v.0))

not_all : {b : Identifier} {p : ℕ} {f : Form} → SumEnd b p f [] → ⊥
not_all (inl v) = nil_not v.0
not_all (inr v) = nil_not v.0

no_begun_added : {level : List ℕ} {tighter : List (List ℕ)} {p : ℕ} {b : Identifier} → list_any (nat_eq semicolon) level ≡ false → Without semicolon tighter → BeginsLinks level tighter (added b p) → ⊥
no_begun_added h w (begun_links_one (begun_link_operand m r)) = no_begun_one semicolon_ends w r
no_begun_added h w (begun_links_one (begun_link_whole d)) = nil_not (link_end w d)
no_begun_added h w (begun_links_more d r) = no_begun_links h (link_end w d) r
no_begun_added h w (begun_links_whole d) = nil_not (links_end h w d)

no_begun_sum : {rest : List (List ℕ)} {a b : Identifier} {p : ℕ} → Without semicolon rest → BeginsBin rest (Ident a ∷ added b p) → ⊥
no_begun_sum w (begun_bin_unary r) = no_begun_unary plus_ends r
no_begun_sum w (begun_bin_one r) = no_begun_sum w.1 r
no_begun_sum w (begun_bin_chain {level} {tighter} d r) = elim (sum_end w.1 d) [
  | inl v ↦ no_begun_added w.0 w.1 (subst (BeginsLinks level tighter) v.0 r)
  | inr v ↦ no_begun_links w.0 v.0 r
]
no_begun_sum w (begun_bin_whole d) = not_all (sum_end w d)

-- the `;` is an operator of no level
without : Without semicolon levels
without = (refl, (refl, (refl, (refl, (refl, (refl, (refl, (refl, (refl, (refl, tt))))))))))

cond_end : {f : Form} {e : ExprTree} {a b : Identifier} {p : ℕ} {ys : List Terminal} → DerivesCond f e (Ident a ∷ added b p) ys → SumEnd b p f ys
cond_end (cond_bin d) = sum_end without d
cond_end (cond_choice d y z) = absurd (no_sum_end (λ e. omega (arith, e)) (λ e. omega (arith, e)) (sum_end without d))

no_target : {f : Form} {x : ExprTree} {a b : Identifier} {p q o : ℕ} {zs : List Terminal} → DerivesPrimary f x (Ident a ∷ added b p) (Punct q o ∷ zs) → IsOneOf assignment_operators o → ⊥
no_target d m = true≢false (sym (subst (IsOneOf assignment_operators) (sym (mark_same (primary_end plus_ends d).0)) m))

expr_end : {f : Form} {e : ExprTree} {a b : Identifier} {p : ℕ} {ys : List Terminal} → DerivesExpr f e (Ident a ∷ added b p) ys → SumEnd b p f ys
expr_end (expr_assign d m r) = absurd (no_target d m)
expr_end (expr_cond d) = cond_end d

no_begun_cond : {a b : Identifier} {p : ℕ} → BeginsCond (Ident a ∷ added b p) → ⊥
no_begun_cond (begun_cond_bin r) = no_begun_sum without r
no_begun_cond (begun_cond_yes d r) = no_sum_end (λ e. omega (arith, e)) (λ e. omega (arith, e)) (sum_end without d)
no_begun_cond (begun_cond_no d y r) = no_sum_end (λ e. omega (arith, e)) (λ e. omega (arith, e)) (sum_end without d)
no_begun_cond (begun_cond_whole d) = not_all (cond_end d)

no_begun_expr : {a b : Identifier} {p : ℕ} → BeginsExpr (Ident a ∷ added b p) → ⊥
no_begun_expr (begun_expr_assign d m r) = no_target d m
no_begun_expr (begun_expr_cond r) = no_begun_cond r
no_begun_expr (begun_expr_whole d) = not_all (expr_end d)

pub no_effect : (a b : Identifier) (p : ℕ) → BeginsStmt (Ident a ∷ Punct p plus_sign ∷ Ident b ∷ Punct p semicolon ∷ []) → ⊥
no_effect a b p (begun_stmt_block (begun_block_whole d)) = elim d [ ]
no_effect a b p (begun_stmt_effect r) = no_begun_expr r
no_effect a b p (begun_stmt_whole (stmt_block d)) = elim d [ ]
no_effect a b p (begun_stmt_whole (stmt_effect d)) = elim (expr_end d) [ inl v ↦ let e = v.1 in cc | inr v ↦ let e = v.1 in cc ]

pub beginnings_are_told_apart : (a b : Identifier) (p q : ℕ) → BeginningsAreToldApart a b p q
beginnings_are_told_apart a b p q = record { open_type = open_type a p q; open_field = open_field a p q; no_name = no_name a p q; open_effect = open_effect a b p; no_effect = no_effect a b p }
