-- How deep expressions nest: no deeper than the load leaves room for.
use Rattle.std.proofs.Common.{◌≡◌, ℕ, suc, ◌+◌, Bool, true, false, not, ◌||◌, nat_eq, List, [], ◌∷◌, Option, Some, refl, sym, arith, true≢false}
use Rattle.jv_tree.specs.declared.name.Ident.{Ident as Identifier}
use Rattle.jv_tree.specs.TypeTree.{BaseTree, TypeTree}
use Rattle.jv_tree.specs.ExprTree.{ExprTree, OperandTree, InitTree, ExprTrees, InitTrees, LinkTrees}
use Rattle.jv_tree.specs.Shaped.{levels, postfix_operators, assignment_operators}
use Rattle.jv_grammar.specs.declared.terminal.Terminal.{Terminal}
use Rattle.jv_grammar.specs.declared.terminal.Terminal.TheVariants.{Ident, Keyword, Literal, Minimum, MinimumLong, Punct}
use Rattle.jv_grammar.specs.declared.form.Form.{Form}
use Rattle.jv_grammar.specs.declared.form.Form.TheVariants.{Effect}
use Rattle.jv_grammar.specs.Marks.{complements, signs}
use Rattle.jv_grammar.specs.TypeGrammar.{DerivesName, name_one, name_more, DerivesPrim, prim_boolean, prim_char, prim_int, prim_long, DerivesBase, base_prim, base_name, DerivesPairs, pairs_none, pairs_more, DerivesTy, ty, DerivesReference, reference_name, reference_prim, DerivesResult, result_ty, result_void}
use Rattle.jv_grammar.specs.ExprGrammar.{begins_plain, DerivesExpr, expr_assign, expr_cond, DerivesCond, cond_bin, cond_choice, DerivesBin, bin_unary, bin_one, bin_chain, DerivesLinks, links_one, links_more, DerivesLink, link_operand, link_type, DerivesUnary, unary_sign, unary_step, unary_minimum, unary_minimum_long, unary_cast, unary_post, DerivesCast, cast_prim, cast_reference, DerivesPlain, plain_sign, plain_cast, plain_post, DerivesPost, post_primary, post_step, DerivesPrimary, primary_head, primary_field, primary_call, primary_index, DerivesHead, head_literal, head_this, head_paren, head_name, head_call, head_super_field, head_super_call, head_new, head_new_array, head_new_list, DerivesDims, dims_one, dims_more, DerivesArgs, args_none, args_some, DerivesExprs, exprs_one, exprs_more, DerivesInit, init_expr, init_list, DerivesList, list_none, list_some, DerivesInits, inits_one, inits_more, list_end, list_comma_end}
use Rattle.jv_grammar.specs.Load.{is_mark, is_there, follows_cast, ends_operand, is_chain_mark, is_chain, first}
use Rattle.jv_grammar.proofs.Depth.{deep_expr, deep_cond, deep_bin, deep_links, deep_link, deep_unary, deep_cast, deep_plain, deep_post, deep_primary, deep_head, deep_dims, deep_args, deep_exprs, deep_init, deep_list, deep_inits}
use Rattle.jv_grammar.proofs.Read.{among, Each}
use Rattle.jv_grammar.proofs.Starts.{plain_begins}
use Rattle.jv_grammar.proofs.Stretches.{is_quiet, Nests, Parts, done, eased, eased_parts, behind, flat, chain, round, square, cast, braces, raised, part, parts, loose}

-- a terminal before that ends no operand, so that a sign is a chain token
abbrev pub IsFree : Option Terminal → Type 0
IsFree before = is_there ends_operand before ≡ false

-- a mark that is no bracket, no `,`, no `;` and ends no operand
abbrev pub IsQuiet : ℕ → Type 0
IsQuiet o = (is_quiet (Punct 0 o) ≡ true) × IsFree (Some (Punct 0 o))

abbrev pub AreQuiet : List (List ℕ) → Type 0
AreQuiet [] = Unit {0}
AreQuiet (level ∷ tighter) = Each IsQuiet level × AreQuiet tighter

pub levels_quiet : AreQuiet levels
levels_quiet = (((refl, refl), tt), (((refl, refl), tt), (((refl, refl), tt), (((refl, refl), tt), (((refl, refl), tt), (((refl, refl), ((refl, refl), tt)), (((refl, refl), ((refl, refl), ((refl, refl), ((refl, refl), ((refl, refl), tt))))), (((refl, refl), ((refl, refl), ((refl, refl), tt))), (((refl, refl), ((refl, refl), tt)), (((refl, refl), ((refl, refl), ((refl, refl), tt))), tt))))))))))

-- a mark that is a chain token wherever it stands
abbrev pub IsChained : ℕ → Type 0
IsChained o = IsQuiet o × (is_chain_mark (Punct 0 o) ≡ true)

pub assignments_chained : Each IsChained assignment_operators
assignments_chained = (((refl, refl), refl), (((refl, refl), refl), (((refl, refl), refl), (((refl, refl), refl), (((refl, refl), refl), (((refl, refl), refl), (((refl, refl), refl), (((refl, refl), refl), (((refl, refl), refl), (((refl, refl), refl), (((refl, refl), refl), (((refl, refl), refl), tt))))))))))))

pub steps_chained : Each IsChained postfix_operators
steps_chained = (((refl, refl), refl), (((refl, refl), refl), tt))

pub complements_chained : Each IsChained complements
complements_chained = (((refl, refl), refl), (((refl, refl), refl), tt))

pub a_chain : (a b c d e f : Bool) → a ≡ true → a || b || c || d || e || f ≡ true
a_chain true b c d e f h = refl
a_chain false b c d e f h = absurd (true≢false (sym h))

pub chained : {most : ℕ} {ends : Bool} {b : Option Terminal} {k : ℕ} {ts us : List Terminal} (p o : ℕ) → IsChained o → Nests most ends (Some (Punct p o)) k ts us → Nests most ends b (k + 2) (Punct p o ∷ ts) us
chained p o c s = chain c.0.0 (a_chain (is_chain_mark (Punct p o)) _ _ _ _ _ c.1) s

-- a sign is a chain token behind what ends no operand
pub record IsSign (o : ℕ) : Type 0 where
  pub quiet : IsQuiet o
  pub chains : (before : Option Terminal) (behind : Option Terminal) → IsFree before → is_chain before (Punct 0 o) behind ≡ true

no_operand : (a : Bool) → a ≡ false → not a || false || false ≡ true
no_operand true h = absurd (true≢false h)
no_operand false h = refl

pub signs_are : Each IsSign signs
signs_are = (record { quiet = (refl, refl); chains = λ b c h. no_operand (is_there ends_operand b) h }, (record { quiet = (refl, refl); chains = λ b c h. no_operand (is_there ends_operand b) h }, (record { quiet = (refl, refl); chains = λ b c h. refl }, (record { quiet = (refl, refl); chains = λ b c h. refl }, tt))))

-- what begins a `plain` follows a cast
mark_follows : (a b c : Bool) → a || (b || (c || false)) ≡ true → a || b || c || false || false || false ≡ true
mark_follows true b c h = refl
mark_follows false true c h = refl
mark_follows false false true h = refl
mark_follows false false false h = h

pub plain_follows : (xs : List Terminal) → begins_plain xs ≡ true → is_there follows_cast (first xs) ≡ true
plain_follows [] h = h
plain_follows (Ident i ∷ xs) h = refl
plain_follows (Keyword p k ∷ xs) h = h
plain_follows (Literal p l ∷ xs) h = refl
plain_follows (Minimum p ∷ xs) h = refl
plain_follows (MinimumLong p ∷ xs) h = refl
plain_follows (Punct p o ∷ xs) h = mark_follows (nat_eq o 0) (nat_eq o 15) (nat_eq o 16) h

-- a cast: its `)` is a chain token
prim_cast : {most : ℕ} {ends : Bool} {b : Option Terminal} {k p q r : ℕ} {t : BaseTree} {xs zs ys : List Terminal}
    → DerivesPrim q t xs (Punct r 1 ∷ zs) → Nests most ends (Some (Punct r 1)) k zs ys → Nests most ends b (k + 2) (Punct p 0 ∷ xs) ys
prim_cast prim_boolean s = raised (λ n h. h.1.1.1) s
prim_cast prim_char s = raised (λ n h. h.1.1.1) s
prim_cast prim_int s = raised (λ n h. h.1.1.1) s
prim_cast prim_long s = raised (λ n h. h.1.1.1) s

-- names and types nest nothing
pub nests_name : {most : ℕ} {b : Option Terminal} {ids : List Identifier} {xs ys : List Terminal} → DerivesName ids xs ys → Nests most false b 1 xs ys
nests_name name_one = flat refl done
nests_name (name_more d) = flat refl (flat refl (nests_name d))

pub nests_pairs : {most : ℕ} {b : Option Terminal} {n : ℕ} {xs ys : List Terminal} → DerivesPairs n xs ys → Nests most false b 1 xs ys
nests_pairs pairs_none = done
nests_pairs (pairs_more d) = eased (square (part done) (nests_pairs d)) (omega arith)

pub nests_prim : {most : ℕ} {b : Option Terminal} {p : ℕ} {t : BaseTree} {xs ys : List Terminal} → DerivesPrim p t xs ys → Nests most false b 1 xs ys
nests_prim prim_boolean = flat refl done
nests_prim prim_char = flat refl done
nests_prim prim_int = flat refl done
nests_prim prim_long = flat refl done

pub nests_base : {most : ℕ} {b : Option Terminal} {p : ℕ} {t : BaseTree} {xs ys : List Terminal} → DerivesBase p t xs ys → Nests most false b 1 xs ys
nests_base (base_prim d) = nests_prim d
nests_base (base_name d) = nests_name d

pub nests_ty : {most : ℕ} {b : Option Terminal} {r : TypeTree} {xs ys : List Terminal} → DerivesTy r xs ys → Nests most false b 1 xs ys
nests_ty (ty m d) = eased (behind (nests_base m) (λ c. nests_pairs d)) (omega arith)

pub nests_reference : {most : ℕ} {b : Option Terminal} {r : TypeTree} {xs ys : List Terminal} → DerivesReference r xs ys → Nests most false b 1 xs ys
nests_reference (reference_name m d) = eased (behind (nests_name m) (λ c. nests_pairs d)) (omega arith)
nests_reference (reference_prim m d) = eased (behind (nests_prim m) (λ c. nests_pairs d)) (omega arith)

pub nests_result : {most : ℕ} {b : Option Terminal} {r : TypeTree} {xs ys : List Terminal} → DerivesResult r xs ys → Nests most false b 1 xs ys
nests_result (result_ty d) = nests_ty d
nests_result result_void = flat refl done

-- behind one or more pairs a `]` stands
pairs_first : {most : ℕ} {ends : Bool} {b : Option Terminal} {n k : ℕ} {xs zs ys : List Terminal}
    → DerivesPairs (suc n) xs zs → ((q : ℕ) → Nests most ends (Some (Punct q 5)) k zs ys) → Nests most ends b k xs ys
pairs_first (pairs_more {q = q} pairs_none) r = eased (square (part done) (r q)) (omega arith)
pairs_first (pairs_more (pairs_more d)) r = eased (square (part done) (pairs_first (pairs_more d) r)) (omega arith)

-- Behind what ends no operand the load leaves room for an expression; behind a cast a sign may nest one level deeper.
mutual
  pub nests_expr : {most : ℕ} {b : Option Terminal} {f : Form} {e : ExprTree} {xs ys : List Terminal} → IsFree b → (d : DerivesExpr f e xs ys) → Nests most false b (suc (deep_expr d)) xs ys
  nests_expr n (expr_assign {p} {o} d h r) = (let m = among IsChained assignment_operators o assignments_chained h in eased (behind (nests_primary d) (λ c. chained p o m (nests_expr m.0.1 r))) (omega arith))
  nests_expr n (expr_cond d) = nests_cond n d

  pub nests_cond : {most : ℕ} {b : Option Terminal} {f : Form} {e : ExprTree} {xs ys : List Terminal} → IsFree b → (d : DerivesCond f e xs ys) → Nests most false b (suc (deep_cond d)) xs ys
  nests_cond n (cond_bin d) = nests_bin n levels_quiet d
  nests_cond n (cond_choice d x y) = eased (behind (nests_bin n levels_quiet d) (λ c. chain refl refl (behind (nests_expr refl x) (λ c. flat refl (nests_cond refl y))))) (omega arith)

  pub nests_bin : {most : ℕ} {b : Option Terminal} {levels' : List (List ℕ)} {f : Form} {e : ExprTree} {xs ys : List Terminal} → IsFree b → AreQuiet levels' → (d : DerivesBin levels' f e xs ys) → Nests most false b (suc (deep_bin d)) xs ys
  nests_bin n a (bin_unary d) = nests_free n d
  nests_bin n a (bin_one d) = nests_bin n a.1 d
  nests_bin n a (bin_chain d l) = eased (behind (nests_bin n a.1 d) (λ c. nests_links a.0 a.1 l)) (omega arith)

  pub nests_links : {most : ℕ} {b : Option Terminal} {level : List ℕ} {tighter : List (List ℕ)} {ls : LinkTrees} {xs ys : List Terminal} → Each IsQuiet level → AreQuiet tighter → (d : DerivesLinks level tighter ls xs ys) → Nests most false b (suc (deep_links d)) xs ys
  nests_links e a (links_one d) = nests_link e a d
  nests_links e a (links_more d l) = eased (behind (nests_link e a d) (λ c. nests_links e a l)) (omega arith)

  pub nests_link : {most : ℕ} {b : Option Terminal} {level : List ℕ} {tighter : List (List ℕ)} {p o : ℕ} {x : OperandTree} {xs ys : List Terminal} → Each IsQuiet level → AreQuiet tighter → (d : DerivesLink level tighter p o x xs ys) → Nests most false b (suc (deep_link d)) xs ys
  nests_link {level} e a (link_operand {o} m d) = (let q = among IsQuiet level o e m.0 in flat q.0 (nests_bin q.1 a d))
  nests_link e a (link_type m d) = eased (flat refl (nests_reference d)) (omega arith)

  pub nests_unary : {most : ℕ} {b : Option Terminal} {f : Form} {e : ExprTree} {xs ys : List Terminal} (d : DerivesUnary f e xs ys) → Nests most false b (deep_unary d) xs ys
  nests_unary (unary_sign {p} {o} h d) = (let s = among IsSign signs o signs_are h in flat s.quiet.0 (nests_free s.quiet.1 d))
  nests_unary (unary_step {p} {o} h d) = eased (chained p o (among IsChained postfix_operators o steps_chained h) (nests_unary d)) (omega arith)
  nests_unary unary_minimum = eased (flat refl (flat refl done)) (omega arith)
  nests_unary unary_minimum_long = eased (flat refl (flat refl done)) (omega arith)
  nests_unary (unary_cast d) = eased (nests_cast d) (omega arith)
  nests_unary (unary_post d) = eased (nests_post d) (omega arith)

  -- behind what ends no operand a sign is a chain token
  pub nests_free : {most : ℕ} {b : Option Terminal} {f : Form} {e : ExprTree} {xs ys : List Terminal} → IsFree b → (d : DerivesUnary f e xs ys) → Nests most false b (suc (deep_unary d)) xs ys
  nests_free {b} n (unary_sign {o} {xs} h d) = (let s = among IsSign signs o signs_are h in eased (chain s.quiet.0 (s.chains b (first xs) n) (nests_unary d)) (omega arith))
  nests_free n (unary_step {p} {o} h d) = eased (chained p o (among IsChained postfix_operators o steps_chained h) (nests_unary d)) (omega arith)
  nests_free n unary_minimum = flat refl (flat refl done)
  nests_free n unary_minimum_long = flat refl (flat refl done)
  nests_free n (unary_cast d) = nests_cast d
  nests_free n (unary_post d) = nests_post d

  pub nests_cast : {most : ℕ} {b : Option Terminal} {e : ExprTree} {xs ys : List Terminal} (d : DerivesCast e xs ys) → Nests most false b (suc (deep_cast d)) xs ys
  nests_cast (cast_prim m d) = eased (prim_cast m (nests_unary d)) (omega arith)
  nests_cast (cast_reference {zs = zs} m d) = eased (cast (plain_follows zs (plain_begins d)) (part (nests_reference m)) (nests_plain d)) (omega arith)

  pub nests_plain : {most : ℕ} {b : Option Terminal} {f : Form} {e : ExprTree} {xs ys : List Terminal} (d : DerivesPlain f e xs ys) → Nests most false b (suc (deep_plain d)) xs ys
  nests_plain (plain_sign {p} {o} h d) = eased (chained p o (among IsChained complements o complements_chained h) (nests_unary d)) (omega arith)
  nests_plain (plain_cast d) = nests_cast d
  nests_plain (plain_post d) = nests_post d

  pub nests_post : {most : ℕ} {b : Option Terminal} {f : Form} {e : ExprTree} {xs ys : List Terminal} (d : DerivesPost f e xs ys) → Nests most false b (suc (deep_post d)) xs ys
  nests_post (post_primary d) = nests_primary d
  nests_post (post_step {p} {o} d h) = (let s = among IsChained postfix_operators o steps_chained h in eased (behind (nests_post d) (λ c. flat s.0.0 done)) (omega arith))

  pub nests_primary : {most : ℕ} {b : Option Terminal} {f : Form} {e : ExprTree} {xs ys : List Terminal} (d : DerivesPrimary f e xs ys) → Nests most false b (suc (deep_primary d)) xs ys
  nests_primary (primary_head d) = nests_head d
  nests_primary (primary_field d h) = eased (behind (nests_primary d) (λ c. flat refl (flat refl done))) (omega arith)
  nests_primary (primary_call d a) = eased (behind (nests_primary d) (λ c. flat refl (flat refl (nests_args a)))) (omega arith)
  nests_primary (primary_index d x) = eased (behind (nests_primary d) (λ c. square (part (nests_expr refl x)) done)) (omega arith)

  pub nests_head : {most : ℕ} {b : Option Terminal} {f : Form} {e : ExprTree} {xs ys : List Terminal} (d : DerivesHead f e xs ys) → Nests most false b (suc (deep_head d)) xs ys
  nests_head head_literal = flat refl done
  nests_head head_this = flat refl done
  nests_head (head_paren h d) = eased (round (part (nests_expr refl d)) done) (omega arith)
  nests_head (head_name m h) = nests_name m
  nests_head (head_call a) = flat refl (nests_args a)
  nests_head (head_super_field h) = flat refl (flat refl (flat refl done))
  nests_head (head_super_call a) = flat refl (flat refl (flat refl (nests_args a)))
  nests_head (head_new m a) = flat refl (eased (behind (nests_name m) (λ c. nests_args a)) (omega arith))
  nests_head (head_new_array m d h) = flat refl (eased (behind (nests_base m) (λ c. nests_dims d)) (omega arith))
  nests_head (head_new_list m q l) = flat refl (eased (behind (nests_base m) (λ c. pairs_first q (λ r. nests_list refl l))) (omega arith))

  pub nests_dims : {most : ℕ} {b : Option Terminal} {es : ExprTrees} {n : ℕ} {xs ys : List Terminal} (d : DerivesDims es n xs ys) → Nests most false b (suc (suc (deep_dims d))) xs ys
  nests_dims (dims_one d q) = eased (square (part (nests_expr refl d)) (nests_pairs q)) (omega arith)
  nests_dims (dims_more d r) = eased (square (part (nests_expr refl d)) (nests_dims r)) (omega arith)

  pub nests_args : {most : ℕ} {b : Option Terminal} {es : ExprTrees} {xs ys : List Terminal} (d : DerivesArgs es xs ys) → Nests most false b (suc (deep_args d)) xs ys
  nests_args args_none = eased (round (part done) done) (omega arith)
  nests_args (args_some d) = eased (round (parts_exprs refl d) done) (omega arith)

  pub parts_exprs : {most : ℕ} {b : Option Terminal} {es : ExprTrees} {xs ys : List Terminal} → IsFree b → (d : DerivesExprs es xs ys) → Parts most b (suc (deep_exprs d)) xs ys
  parts_exprs n (exprs_one d) = part (nests_expr n d)
  parts_exprs n (exprs_more d r) = eased_parts (parts (part (nests_expr n d)) (λ c. loose refl (parts_exprs refl r))) (omega arith)

  pub parts_init : {most : ℕ} {b : Option Terminal} {i : InitTree} {xs ys : List Terminal} → IsFree b → (d : DerivesInit i xs ys) → Parts most b (suc (deep_init d)) xs ys
  parts_init n (init_expr d) = part (nests_expr n d)
  parts_init n (init_list d) = eased_parts (part (nests_list {ends = true} refl d)) (omega arith)

  -- a list: behind `]` it keeps the load, elsewhere it may set it to the base
  pub nests_list : {most : ℕ} {ends : Bool} {b : Option Terminal} {p : ℕ} {is : InitTrees} {xs ys : List Terminal}
      → ends || is_there (is_mark 5) b ≡ true → (d : DerivesList p is xs ys) → Nests most ends b (suc (deep_list d)) xs ys
  nests_list h (list_none list_end) = eased (braces h (part done)) (omega arith)
  nests_list h (list_none list_comma_end) = eased (braces h (loose refl (part done))) (omega arith)
  nests_list h (list_some d list_end) = eased (braces h (parts_inits refl d)) (omega arith)
  nests_list h (list_some d list_comma_end) = eased (braces h (parts (parts_inits refl d) (λ c. loose refl (part done)))) (omega arith)

  pub parts_inits : {most : ℕ} {b : Option Terminal} {is : InitTrees} {xs ys : List Terminal} → IsFree b → (d : DerivesInits is xs ys) → Parts most b (suc (deep_inits d)) xs ys
  parts_inits n (inits_one d) = parts_init n d
  parts_inits n (inits_more d r) = eased_parts (parts (parts_init n d) (λ c. loose refl (parts_inits refl r))) (omega arith)

-- what may stand as a statement begins with no sign
effect_bin : {most : ℕ} {b : Option Terminal} {levels' : List (List ℕ)} {e : ExprTree} {xs ys : List Terminal} (d : DerivesBin levels' Effect e xs ys) → Nests most false b (suc (deep_bin d)) xs ys
effect_bin (bin_unary (unary_step {p} {o} h d)) = eased (chained p o (among IsChained postfix_operators o steps_chained h) (nests_unary d)) (omega arith)
effect_bin (bin_unary (unary_post d)) = nests_post d
effect_bin (bin_one d) = effect_bin d

pub nests_effect : {most : ℕ} {b : Option Terminal} {e : ExprTree} {xs ys : List Terminal} (d : DerivesExpr Effect e xs ys) → Nests most false b (suc (deep_expr d)) xs ys
nests_effect (expr_assign {p} {o} d h r) = (let m = among IsChained assignment_operators o assignments_chained h in eased (behind (nests_primary d) (λ c. chained p o m (nests_expr m.0.1 r))) (omega arith))
nests_effect (expr_cond (cond_bin d)) = effect_bin d
