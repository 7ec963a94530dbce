-- How deep begun expressions nest: no deeper than the load leaves room for.
use Rattle.std.proofs.Common.{◌≡◌, ◌⊎◌, inl, inr, ℕ, suc, ◌+◌, ◌≤◌, Bool, true, false, nat_eq, List, ◌∷◌, Option, Some, if◌then◌else◌, refl, ap, arith}
use Rattle.jv_tree.specs.TypeTree.{BaseTree}
use Rattle.jv_tree.specs.ExprTree.{ExprTree}
use Rattle.jv_tree.specs.Shaped.{postfix_operators, assignment_operators}
use Rattle.jv_grammar.specs.declared.terminal.Terminal.{Terminal}
use Rattle.jv_grammar.specs.declared.terminal.Terminal.TheVariants.{Punct}
use Rattle.jv_grammar.specs.declared.form.Form.{Form}
use Rattle.jv_grammar.specs.Marks.{paren_open, complements, signs}
use Rattle.jv_grammar.specs.TypeGrammar.{DerivesPrim, prim_boolean, prim_char, prim_int, prim_long}
use Rattle.jv_grammar.specs.ExprGrammar.{begins_plain, DerivesExpr, expr_assign, expr_cond, DerivesCond, cond_bin, cond_choice, DerivesBin, bin_unary, bin_one, bin_chain, DerivesUnary}
use Rattle.jv_grammar.specs.ExprBegins.{BeginsExpr, begun_expr_none, begun_expr_assign, begun_expr_cond, begun_expr_whole, BeginsCond, begun_cond_none, begun_cond_bin, begun_cond_yes, begun_cond_no, begun_cond_whole, BeginsBin, begun_bin_none, begun_bin_unary, begun_bin_one, begun_bin_chain, begun_bin_whole, BeginsLinks, begun_links_none, begun_links_one, begun_links_more, begun_links_whole, BeginsLink, begun_link_none, begun_link_operand, begun_link_type, begun_link_whole, BeginsUnary, begun_unary_none, begun_unary_sign, begun_unary_step, begun_unary_cast, begun_unary_post, begun_unary_whole, BeginsCast, begun_cast_none, begun_cast_type, begun_cast_prim, begun_cast_reference, begun_cast_whole, BeginsPlain, begun_plain_none, begun_plain_sign, begun_plain_cast, begun_plain_post, begun_plain_whole, BeginsPost, begun_post_none, begun_post_primary, begun_post_whole, BeginsPrimary, begun_primary_none, begun_primary_head, begun_primary_dot, begun_primary_call, begun_primary_index, begun_primary_whole, BeginsHead, begun_head_none, begun_head_paren, begun_head_name, begun_head_call, begun_head_super, begun_head_super_dot, begun_head_super_call, begun_head_new, begun_head_new_args, begun_head_new_dims, begun_head_new_pairs, begun_head_new_list, begun_head_whole, BeginsDims, begun_dims_none, begun_dims_size, begun_dims_more, begun_dims_pairs, begun_dims_whole, BeginsArgs, begun_args_none, begun_args_some, begun_args_whole, BeginsExprs, begun_exprs_none, begun_exprs_one, begun_exprs_more, begun_exprs_whole, BeginsInit, begun_init_none, begun_init_expr, begun_init_list, begun_init_whole, BeginsList, begun_list_none, begun_list_empty, begun_list_some, begun_list_end, begun_list_whole, BeginsInits, begun_inits_none, begun_inits_one, begun_inits_more, begun_inits_whole}
use Rattle.jv_grammar.specs.Load.{is_there, ends_operand, is_chain_mark, first}
use Rattle.jv_grammar.proofs.BegunDepth.{begun_deep_expr, begun_deep_cond, begun_deep_bin, begun_deep_links, begun_deep_link, begun_deep_unary, begun_deep_cast, begun_deep_plain, begun_deep_post, begun_deep_primary, begun_deep_head, begun_deep_dims, begun_deep_args, begun_deep_exprs, begun_deep_init, begun_deep_list, begun_deep_inits}
use Rattle.jv_grammar.proofs.Depth.{deep_expr, deep_cond, deep_bin, deep_unary}
use Rattle.jv_grammar.proofs.Read.{among, Each}
use Rattle.jv_grammar.proofs.Starts.{or_true, plain_head, plain_primary, plain_posts, plain_casts, plain_begins}
use Rattle.jv_grammar.proofs.Stretches.{Nests, behind, eased, flat, chain, part}
use Rattle.jv_grammar.proofs.BegunStretches.{Begun, BegunParts, begun_here, begun_eased, begun_eased_parts, begun_whole, begun_whole_parts, begun_behind, begun_flat, begun_chain, begun_paren, begun_bracket, begun_brace, begun_square, begun_over_cast, begun_raised, begun_part, begun_parts, begun_loose}
use Rattle.jv_grammar.proofs.Nested.{IsFree, IsQuiet, AreQuiet, levels_quiet, IsChained, assignments_chained, steps_chained, complements_chained, a_chain, chained, IsSign, signs_are, plain_follows, nests_name, nests_pairs, nests_base, nests_reference, nests_expr, nests_cond, nests_links, nests_link, nests_unary, nests_free, nests_cast, nests_plain, nests_post, nests_primary, nests_head, nests_dims, nests_args, parts_exprs, parts_init, nests_list, parts_inits}

-- A sign directly behind an operand is no chain token: room for one level more, but none behind what ends an operand.
abbrev pub free_of : Bool → ℕ
free_of b = if b then 0 else 1

abbrev pub free : Option Terminal → ℕ
free before = free_of (is_there ends_operand before)

free_low : (b : Bool) → free_of b ≤ 1
free_low true = omega arith
free_low false = omega arith

pub free_at_most : (b : Option Terminal) → free b ≤ 1
free_at_most b = free_low (is_there ends_operand b)

pub free_is : (b : Option Terminal) → IsFree b → free b ≡ 1
free_is b h = ap free_of h

-- what derives, behind any terminal
any_unary : {most : ℕ} {b : Option Terminal} {f : Form} {e : ExprTree} {xs ys : List Terminal} (d : DerivesUnary f e xs ys) → Nests most false b (free b + deep_unary d) xs ys
any_unary {most} {b} {xs = xs} {ys} d = at (is_there ends_operand b) refl
  where
    at : (e : Bool) → is_there ends_operand b ≡ e → Nests most false b (free_of e + deep_unary d) xs ys
    at true h = eased (nests_unary d) (omega arith)
    at false h = eased (nests_free h d) (omega arith)

any_bin : {most : ℕ} {b : Option Terminal} {levels' : List (List ℕ)} {f : Form} {e : ExprTree} {xs ys : List Terminal} → AreQuiet levels' → (d : DerivesBin levels' f e xs ys) → Nests most false b (free b + deep_bin d) xs ys
any_bin a (bin_unary d) = any_unary d
any_bin a (bin_one d) = any_bin a.1 d
any_bin {b} a (bin_chain d l) = eased (behind (any_bin a.1 d) (λ c. nests_links a.0 a.1 l)) (omega (arith, free_at_most b))

any_cond : {most : ℕ} {b : Option Terminal} {f : Form} {e : ExprTree} {xs ys : List Terminal} (d : DerivesCond f e xs ys) → Nests most false b (free b + deep_cond d) xs ys
any_cond (cond_bin d) = any_bin levels_quiet d
any_cond {b} (cond_choice d x y) =
    eased (behind (any_bin levels_quiet d) (λ c. chain refl refl (behind (nests_expr refl x) (λ c. flat refl (nests_cond refl y))))) (omega (arith, free_at_most b))

pub any_expr : {most : ℕ} {b : Option Terminal} {f : Form} {e : ExprTree} {xs ys : List Terminal} (d : DerivesExpr f e xs ys) → Nests most false b (free b + deep_expr d) xs ys
any_expr {b} (expr_assign {p} {o} d h r) = (let m = among IsChained assignment_operators o assignments_chained h in eased (behind (nests_primary d) (λ c. chained p o m (nests_expr m.0.1 r))) (omega (arith, free_at_most b)))
any_expr (expr_cond d) = any_cond d

begun_chained : {most : ℕ} {b : Option Terminal} {k : ℕ} {ts : List Terminal} (p o : ℕ) → IsChained o → Begun most (Some (Punct p o)) k ts → Begun most b (k + 2) (Punct p o ∷ ts)
begun_chained p o c s = begun_chain c.0.0 (a_chain (is_chain_mark (Punct p o)) _ _ _ _ _ c.1) s

-- a sign is a chain token, or ends the operand
begun_sign : {most : ℕ} {b : Option Terminal} {ts : List Terminal} (k p o : ℕ) → IsSign o → Begun most (Some (Punct p o)) (free (Some (Punct p o)) + k) ts → Begun most b (free b + suc k) (Punct p o ∷ ts)
begun_sign {most} {b} {ts} k p o s r = at (is_there ends_operand b) refl
  where
    at : (e : Bool) → is_there ends_operand b ≡ e → Begun most b (free_of e + suc k) (Punct p o ∷ ts)
    at true n = begun_flat s.quiet.0 (begun_eased r (let m : free (Some (Punct p o)) ≡ 1 = free_is (Some (Punct p o)) s.quiet.1 in omega (arith, m)))
    at false n = begun_eased (begun_chain s.quiet.0 (s.chains b (first ts) n) r) (omega arith)

begun_prim_cast : {most : ℕ} {b : Option Terminal} {k p q r : ℕ} {t : BaseTree} {xs zs : List Terminal}
    → DerivesPrim q t xs (Punct r 1 ∷ zs) → Begun most (Some (Punct r 1)) k zs → Begun most b (k + 2) (Punct p 0 ∷ xs)
begun_prim_cast prim_boolean s = begun_raised (λ n h. h.1.1.1) s
begun_prim_cast prim_char s = begun_raised (λ n h. h.1.1.1) s
begun_prim_cast prim_int s = begun_raised (λ n h. h.1.1.1) s
begun_prim_cast prim_long s = begun_raised (λ n h. h.1.1.1) s

-- What begins a `plain` begins with a terminal that follows a cast, or nests nothing.
head_follows : {xs : List Terminal} (d : BeginsHead xs) → (begins_plain xs ≡ true) ⊎ (begun_deep_head d ≡ 0)
head_follows begun_head_none = inr refl
head_follows (begun_head_paren r) = inl refl
head_follows (begun_head_name r) = inr refl
head_follows (begun_head_call r) = inl refl
head_follows begun_head_super = inl refl
head_follows begun_head_super_dot = inl refl
head_follows (begun_head_super_call r) = inl refl
head_follows (begun_head_new r) = inl refl
head_follows (begun_head_new_args m r) = inl refl
head_follows (begun_head_new_dims m r) = inl refl
head_follows (begun_head_new_pairs m r) = inl refl
head_follows (begun_head_new_list m q r) = inl refl
head_follows (begun_head_whole d) = inl (plain_head d)

primary_follows : {xs : List Terminal} (d : BeginsPrimary xs) → (begins_plain xs ≡ true) ⊎ (begun_deep_primary d ≡ 0)
primary_follows begun_primary_none = inr refl
primary_follows (begun_primary_head r) = head_follows r
primary_follows (begun_primary_dot d) = inl (plain_primary d)
primary_follows (begun_primary_call d r) = inl (plain_primary d)
primary_follows (begun_primary_index d r) = inl (plain_primary d)
primary_follows (begun_primary_whole d) = inl (plain_primary d)

post_follows : {xs : List Terminal} (d : BeginsPost xs) → (begins_plain xs ≡ true) ⊎ (begun_deep_post d ≡ 0)
post_follows begun_post_none = inr refl
post_follows (begun_post_primary r) = primary_follows r
post_follows (begun_post_whole d) = inl (plain_posts d)

cast_follows : {xs : List Terminal} (d : BeginsCast xs) → (begins_plain xs ≡ true) ⊎ (begun_deep_cast d ≡ 0)
cast_follows begun_cast_none = inr refl
cast_follows (begun_cast_type r) = inl refl
cast_follows (begun_cast_prim m r) = inl refl
cast_follows (begun_cast_reference m r) = inl refl
cast_follows (begun_cast_whole d) = inl (plain_casts d)

plain_or_flat : {xs : List Terminal} (d : BeginsPlain xs) → (begins_plain xs ≡ true) ⊎ (begun_deep_plain d ≡ 0)
plain_or_flat begun_plain_none = inr refl
plain_or_flat (begun_plain_sign {o} h r) = inl (or_true (nat_eq o paren_open) _ h)
plain_or_flat (begun_plain_cast r) = cast_follows r
plain_or_flat (begun_plain_post r) = post_follows r
plain_or_flat (begun_plain_whole d) = inl (plain_begins d)

-- What is begun leaves as much room as what derives; behind what ends an operand a sign may nest one level deeper.
mutual
  pub nests_begun_expr : {most : ℕ} {b : Option Terminal} {xs : List Terminal} (d : BeginsExpr xs) → Begun most b (free b + begun_deep_expr d) xs
  nests_begun_expr {b} begun_expr_none = begun_eased begun_here (omega (arith, free_at_most b))
  nests_begun_expr {b} (begun_expr_assign {p} {o} d h r) = (let m = among IsChained assignment_operators o assignments_chained h in begun_eased (begun_behind (nests_primary d) (λ c. begun_chained p o m (nests_begun_expr r))) (omega (arith, free_at_most b)))
  nests_begun_expr (begun_expr_cond r) = nests_begun_cond r
  nests_begun_expr (begun_expr_whole d) = begun_whole (any_expr d)

  nests_begun_cond : {most : ℕ} {b : Option Terminal} {xs : List Terminal} (d : BeginsCond xs) → Begun most b (free b + begun_deep_cond d) xs
  nests_begun_cond {b} begun_cond_none = begun_eased begun_here (omega (arith, free_at_most b))
  nests_begun_cond (begun_cond_bin r) = nests_begun_bin levels_quiet r
  nests_begun_cond {b} (begun_cond_yes d r) = begun_eased (begun_behind (any_bin levels_quiet d) (λ c. begun_chain refl refl (nests_begun_expr r))) (omega (arith, free_at_most b))
  nests_begun_cond {b} (begun_cond_no d a r) =
      begun_eased (begun_behind (any_bin levels_quiet d) (λ c. begun_chain refl refl (begun_behind (nests_expr refl a) (λ c. begun_flat refl (nests_begun_cond r))))) (omega (arith, free_at_most b))
  nests_begun_cond (begun_cond_whole d) = begun_whole (any_cond d)

  nests_begun_bin : {most : ℕ} {b : Option Terminal} {rest : List (List ℕ)} {xs : List Terminal} → AreQuiet rest → (d : BeginsBin rest xs) → Begun most b (free b + begun_deep_bin d) xs
  nests_begun_bin {b} a begun_bin_none = begun_eased begun_here (omega (arith, free_at_most b))
  nests_begun_bin a (begun_bin_unary r) = nests_begun_unary r
  nests_begun_bin a (begun_bin_one r) = nests_begun_bin a.1 r
  nests_begun_bin {b} a (begun_bin_chain d r) = begun_eased (begun_behind (any_bin a.1 d) (λ c. nests_begun_links a.0 a.1 r)) (omega (arith, free_at_most b))
  nests_begun_bin a (begun_bin_whole d) = begun_whole (any_bin a d)

  nests_begun_links : {most : ℕ} {b : Option Terminal} {level : List ℕ} {tighter : List (List ℕ)} {xs : List Terminal} → Each IsQuiet level → AreQuiet tighter → (d : BeginsLinks level tighter xs) → Begun most b (suc (begun_deep_links d)) xs
  nests_begun_links e a begun_links_none = begun_here
  nests_begun_links e a (begun_links_one r) = nests_begun_link e a r
  nests_begun_links e a (begun_links_more d r) = begun_eased (begun_behind (nests_link e a d) (λ c. nests_begun_links e a r)) (omega arith)
  nests_begun_links e a (begun_links_whole d) = begun_whole (nests_links e a d)

  nests_begun_link : {most : ℕ} {b : Option Terminal} {level : List ℕ} {tighter : List (List ℕ)} {xs : List Terminal} → Each IsQuiet level → AreQuiet tighter → (d : BeginsLink level tighter xs) → Begun most b (suc (begun_deep_link d)) xs
  nests_begun_link e a begun_link_none = begun_here
  nests_begun_link {level} e a (begun_link_operand {p} {o} m r) =
      let q = among IsQuiet level o e m.0 in
      begun_flat q.0 (begun_eased (nests_begun_bin a r) (let k : free (Some (Punct p o)) ≡ 1 = free_is (Some (Punct p o)) q.1 in omega (arith, k)))
  nests_begun_link e a (begun_link_type m r) = begun_here
  nests_begun_link e a (begun_link_whole d) = begun_whole (nests_link e a d)

  nests_begun_unary : {most : ℕ} {b : Option Terminal} {xs : List Terminal} (d : BeginsUnary xs) → Begun most b (free b + begun_deep_unary d) xs
  nests_begun_unary {b} begun_unary_none = begun_eased begun_here (omega (arith, free_at_most b))
  nests_begun_unary (begun_unary_sign {p} {o} h r) = begun_sign (begun_deep_unary r) p o (among IsSign signs o signs_are h) (nests_begun_unary r)
  nests_begun_unary {b} (begun_unary_step {p} {o} h r) = begun_eased (begun_chained p o (among IsChained postfix_operators o steps_chained h) (nests_begun_unary r)) (omega (arith, free_at_most b))
  nests_begun_unary {b} (begun_unary_cast r) = begun_eased (nests_begun_cast r) (omega (arith, free_at_most b))
  nests_begun_unary {b} (begun_unary_post r) = begun_eased (nests_begun_post r) (omega (arith, free_at_most b))
  nests_begun_unary (begun_unary_whole d) = begun_whole (any_unary d)

  nests_begun_cast : {most : ℕ} {b : Option Terminal} {xs : List Terminal} (d : BeginsCast xs) → Begun most b (suc (begun_deep_cast d)) xs
  nests_begun_cast begun_cast_none = begun_here
  nests_begun_cast (begun_cast_type r) = begun_eased (begun_paren (begun_part begun_here)) (omega arith)
  nests_begun_cast (begun_cast_prim m r) = begun_eased (begun_prim_cast m (nests_begun_unary r)) (omega arith)
  nests_begun_cast (begun_cast_reference {zs = zs} m r) = elim (plain_or_flat r) [
    | inl f ↦ begun_eased (begun_over_cast (plain_follows zs f) (part (nests_reference m)) (nests_begun_plain r)) (omega arith)
    | inr n ↦ begun_eased (begun_paren (begun_part begun_here)) (omega (arith, n))
  ]
  nests_begun_cast (begun_cast_whole d) = begun_whole (nests_cast d)

  nests_begun_plain : {most : ℕ} {b : Option Terminal} {xs : List Terminal} (d : BeginsPlain xs) → Begun most b (suc (begun_deep_plain d)) xs
  nests_begun_plain begun_plain_none = begun_here
  nests_begun_plain (begun_plain_sign {p} {o} h r) = begun_eased (begun_chained p o (among IsChained complements o complements_chained h) (nests_begun_unary r)) (omega arith)
  nests_begun_plain (begun_plain_cast r) = nests_begun_cast r
  nests_begun_plain (begun_plain_post r) = nests_begun_post r
  nests_begun_plain (begun_plain_whole d) = begun_whole (nests_plain d)

  nests_begun_post : {most : ℕ} {b : Option Terminal} {xs : List Terminal} (d : BeginsPost xs) → Begun most b (suc (begun_deep_post d)) xs
  nests_begun_post begun_post_none = begun_here
  nests_begun_post (begun_post_primary r) = nests_begun_primary r
  nests_begun_post (begun_post_whole d) = begun_whole (nests_post d)

  nests_begun_primary : {most : ℕ} {b : Option Terminal} {xs : List Terminal} (d : BeginsPrimary xs) → Begun most b (suc (begun_deep_primary d)) xs
  nests_begun_primary begun_primary_none = begun_here
  nests_begun_primary (begun_primary_head r) = nests_begun_head r
  nests_begun_primary (begun_primary_dot d) = begun_whole (nests_primary d)
  nests_begun_primary (begun_primary_call d r) = begun_eased (begun_behind (nests_primary d) (λ c. begun_flat refl (begun_flat refl (nests_begun_args r)))) (omega arith)
  nests_begun_primary (begun_primary_index d r) = begun_eased (begun_behind (nests_primary d) (λ c. begun_bracket (begun_part (nests_begun_expr r)))) (omega arith)
  nests_begun_primary (begun_primary_whole d) = begun_whole (nests_primary d)

  nests_begun_head : {most : ℕ} {b : Option Terminal} {xs : List Terminal} (d : BeginsHead xs) → Begun most b (suc (begun_deep_head d)) xs
  nests_begun_head begun_head_none = begun_here
  nests_begun_head (begun_head_paren r) = begun_eased (begun_paren (begun_part (nests_begun_expr r))) (omega arith)
  nests_begun_head (begun_head_name r) = begun_here
  nests_begun_head (begun_head_call r) = begun_flat refl (nests_begun_args r)
  nests_begun_head begun_head_super = begun_here
  nests_begun_head begun_head_super_dot = begun_here
  nests_begun_head (begun_head_super_call r) = begun_flat refl (begun_flat refl (begun_flat refl (nests_begun_args r)))
  nests_begun_head (begun_head_new r) = begun_here
  nests_begun_head (begun_head_new_args m r) = begun_flat refl (begun_eased (begun_behind (nests_name m) (λ c. nests_begun_args r)) (omega arith))
  nests_begun_head (begun_head_new_dims m r) = begun_flat refl (begun_eased (begun_behind (nests_base m) (λ c. nests_begun_dims r)) (omega arith))
  nests_begun_head (begun_head_new_pairs m r) = begun_here
  nests_begun_head (begun_head_new_list m q r) = begun_flat refl (begun_eased (begun_behind (nests_base m) (λ c. begun_behind (nests_pairs q) (λ c. nests_begun_list r))) (omega arith))
  nests_begun_head (begun_head_whole d) = begun_whole (nests_head d)

  nests_begun_dims : {most : ℕ} {b : Option Terminal} {xs : List Terminal} (d : BeginsDims xs) → Begun most b (suc (begun_deep_dims d)) xs
  nests_begun_dims begun_dims_none = begun_here
  nests_begun_dims (begun_dims_size r) = begun_eased (begun_bracket (begun_part (nests_begun_expr r))) (omega arith)
  nests_begun_dims (begun_dims_more d r) = begun_eased (begun_square (part (nests_expr refl d)) (nests_begun_dims r)) (omega arith)
  nests_begun_dims (begun_dims_pairs d r) = begun_eased (begun_square (part (nests_expr refl d)) begun_here) (omega arith)
  nests_begun_dims (begun_dims_whole d) = begun_whole (nests_dims d)

  pub nests_begun_args : {most : ℕ} {b : Option Terminal} {xs : List Terminal} (d : BeginsArgs xs) → Begun most b (suc (begun_deep_args d)) xs
  nests_begun_args begun_args_none = begun_here
  nests_begun_args (begun_args_some r) = begun_eased (begun_paren (parts_begun_exprs refl r)) (omega arith)
  nests_begun_args (begun_args_whole d) = begun_whole (nests_args d)

  parts_begun_exprs : {most : ℕ} {b : Option Terminal} {xs : List Terminal} → IsFree b → (d : BeginsExprs xs) → BegunParts most b (suc (begun_deep_exprs d)) xs
  parts_begun_exprs n begun_exprs_none = begun_part begun_here
  parts_begun_exprs {b} n (begun_exprs_one r) = begun_eased_parts (begun_part (nests_begun_expr r)) (omega (arith, free_is b n))
  parts_begun_exprs n (begun_exprs_more d r) = begun_eased_parts (begun_parts (part (nests_expr n d)) (λ c. begun_loose refl (parts_begun_exprs refl r))) (omega arith)
  parts_begun_exprs n (begun_exprs_whole d) = begun_whole_parts (parts_exprs n d)

  pub parts_begun_init : {most : ℕ} {b : Option Terminal} {xs : List Terminal} → IsFree b → (d : BeginsInit xs) → BegunParts most b (suc (begun_deep_init d)) xs
  parts_begun_init n begun_init_none = begun_part begun_here
  parts_begun_init {b} n (begun_init_expr r) = begun_eased_parts (begun_part (nests_begun_expr r)) (omega (arith, free_is b n))
  parts_begun_init n (begun_init_list r) = begun_part (nests_begun_list r)
  parts_begun_init n (begun_init_whole d) = begun_whole_parts (parts_init n d)

  nests_begun_list : {most : ℕ} {b : Option Terminal} {xs : List Terminal} (d : BeginsList xs) → Begun most b (suc (begun_deep_list d)) xs
  nests_begun_list begun_list_none = begun_here
  nests_begun_list (begun_list_empty r) = begun_here
  nests_begun_list (begun_list_some r) = begun_eased (begun_brace (parts_begun_inits refl r)) (omega arith)
  nests_begun_list (begun_list_end d r) = begun_eased (begun_brace (begun_whole_parts (parts_inits refl d))) (omega arith)
  nests_begun_list (begun_list_whole d) = begun_whole (nests_list {ends = true} refl d)

  parts_begun_inits : {most : ℕ} {b : Option Terminal} {xs : List Terminal} → IsFree b → (d : BeginsInits xs) → BegunParts most b (suc (begun_deep_inits d)) xs
  parts_begun_inits n begun_inits_none = begun_part begun_here
  parts_begun_inits n (begun_inits_one r) = parts_begun_init n r
  parts_begun_inits n (begun_inits_more d r) = begun_eased_parts (begun_parts (parts_init n d) (λ c. begun_loose refl (parts_begun_inits refl r))) (omega arith)
  parts_begun_inits n (begun_inits_whole d) = begun_whole_parts (parts_inits n d)
