-- What derives is read: each reader gives the derivation that ends where the terminal behind it binds more loosely.
use Rattle.std.proofs.Common.{◌≡◌, ℕ, zero, suc, ◌<◌, ◌≤◌, ◌&&◌, Bool, true, false, cond, nat_eq, List, [], ◌∷◌, length, arith, refl, sym, ap, ◌∙◌, true≢false, Ok, lit<}
use Rattle.std.specs.List.{list_any}
use borrow.Author.Tests.{eqb-true}
use Rattle.jv_tree.specs.declared.name.Ident.{Ident as Identifier}
use Rattle.jv_tree.specs.TypeTree.{named}
use Rattle.jv_tree.specs.ExprTree as t
use Rattle.jv_tree.specs.ExprTree.{ExprTree, KindTree, TargetTree, OperandTree, InitTree, ExprTrees, InitTrees, LinkTrees}
use Rattle.jv_tree.specs.Shaped.{IsOneOf, levels, instance_of, postfix_operators, assignment_operators}
use Rattle.jv_grammar.specs.declared.terminal.Terminal.{Terminal}
use Rattle.jv_grammar.specs.declared.terminal.Terminal.TheVariants.{Ident, Keyword, Minimum, MinimumLong, Punct}
use Rattle.jv_grammar.specs.declared.form.Form.{Form}
use Rattle.jv_grammar.specs.declared.form.Form.TheVariants.{Target, Effect, Other}
use Rattle.jv_grammar.specs.Marks.{paren_open, paren_close, brace_open, brace_close, bracket_open, bracket_close, comma, dot, question_mark, complements, signs, word_instanceof}
use Rattle.jv_grammar.specs.TypeGrammar.{starts, DerivesName, name_one, name_more, DerivesBase, base_prim, base_name, DerivesPairs, pairs_none, pairs_more, ty}
use Rattle.jv_grammar.specs.ExprGrammar.{at_of, IsMarkOf, DerivesExpr, expr_assign, expr_cond, DerivesCond, cond_bin, cond_choice, DerivesBin, bin_unary, bin_one, bin_chain, DerivesLinks, links_one, links_more, link_operand, link_type, DerivesUnary, unary_sign, unary_step, unary_minimum, unary_minimum_long, unary_cast, unary_post, DerivesCast, cast_prim, cast_reference, DerivesPlain, plain_sign, plain_cast, plain_post, DerivesPost, post_primary, post_step, DerivesPrimary, primary_head, primary_field, primary_call, primary_index, DerivesHead, head_literal, head_this, head_paren, head_name, head_call, head_super_field, head_super_call, head_new, head_new_array, head_new_list, DerivesDims, dims_one, dims_more, DerivesArgs, args_none, args_some, DerivesExprs, exprs_one, exprs_more, DerivesInit, init_expr, init_list, DerivesList, list_none, list_some, DerivesInits, inits_one, inits_more, DerivesListEnd, list_end, list_comma_end}
use Rattle.jv_grammar.specs.Reader.{Reads, ◌>>=◌}
use Rattle.jv_grammar.specs.TypeReader.{reference_of, starts_pair}
use Rattle.jv_grammar.specs.ExprReader.{Parsed, Below, exprs_of, args_of, inits_of, list_of, sizes_of, new_of, head_of, suffixes_of, primary_of, steps_of, post_of, cast_of, signed_by, signed_of, unary_of, is_mark_of, links_of, chained, bin_of, cond_of, assigned_of, expr_of, init_of, below}
use Rattle.jv_grammar.specs.Width.{count_dims, wide_expr, wide_cond, wide_bin, wide_links, wide_unary, wide_cast, wide_plain, wide_post, wide_primary, wide_head, wide_dims, wide_args, wide_exprs, wide_init, wide_list, wide_inits}
use Rattle.jv_grammar.proofs.Depth.{deep_expr, deep_cond, deep_bin, deep_links, deep_unary, deep_cast, deep_plain, deep_post, deep_primary, deep_head, deep_dims, deep_args, deep_exprs, deep_init, deep_list, deep_inits, less_reference, less_expr, less_bin, less_head, less_args, less_init}
use Rattle.jv_grammar.proofs.Read.{among}
use Rattle.jv_grammar.proofs.Ranks.{first_rank, apart, starts_apart, AreRanked, IsRanked, levels_ranked, assignments_ranked, ranked, not_ranked, not_step}
use Rattle.jv_grammar.proofs.Types.{reads_base, reads_pairs, reads_ty, is_ty, reads_reference, prim_not_named}
use Rattle.jv_grammar.proofs.Starts.{is_start, IsStart, not_starts, plain_begins, start_unary, start_expr, start_exprs}
use Rattle.jv_grammar.proofs.Heads.{name_runs}
use Rattle.jv_grammar.proofs.Ahead.{links_rank, prim_ahead, reference_ahead, no_cast_ahead}

abbrev pub got : Form → ExprTree → List Terminal → Reads Parsed
got f e ys = Ok ((f, e), ys)

abbrev pub got_exprs : ExprTrees → List Terminal → Reads ExprTrees
got_exprs es ys = Ok (es, ys)

abbrev pub got_sizes : ExprTrees → ℕ → List Terminal → Reads (ExprTrees × ℕ)
got_sizes es n ys = Ok ((es, n), ys)

abbrev pub got_links : LinkTrees → List Terminal → Reads LinkTrees
got_links ls ys = Ok (ls, ys)

abbrev pub got_init : InitTree → List Terminal → Reads InitTree
got_init i ys = Ok (i, ys)

abbrev pub got_inits : InitTrees → List Terminal → Reads InitTrees
got_inits is ys = Ok (is, ys)

abbrev first_at : List Identifier → ℕ
first_at [] = 0
first_at (i ∷ ids) = i.at

-- The readers below read each derivation that nests less than n deep and whose types have at most 200 pairs of brackets.
pub record Comp (n : ℕ) (b : Below) : Type 0 where
  pub expr : {f : Form} {e : ExprTree} {xs ys : List Terminal} (d : DerivesExpr f e xs ys) → deep_expr d < n → wide_expr d ≤ 200 → 12 < first_rank ys → b.expr xs ≡ got f e ys
  pub cond : {f : Form} {e : ExprTree} {xs ys : List Terminal} (d : DerivesCond f e xs ys) → deep_cond d < n → wide_cond d ≤ 200 → 11 < first_rank ys → b.cond xs ≡ got f e ys
  pub unary : {f : Form} {e : ExprTree} {xs ys : List Terminal} (d : DerivesUnary f e xs ys) → deep_unary d < n → wide_unary d ≤ 200 → 0 < first_rank ys → b.unary xs ≡ got f e ys
  pub init : {i : InitTree} {xs ys : List Terminal} (d : DerivesInit i xs ys) → deep_init d < n → wide_init d ≤ 200 → 12 < first_rank ys → b.init xs ≡ got_init i ys

-- what parts begin with
pub args_open : {es : ExprTrees} {xs ys : List Terminal} → DerivesArgs es xs ys → (starts paren_open xs ≡ true) × (starts dot xs ≡ false)
args_open args_none = (refl, refl)
args_open (args_some d) = (refl, refl)

pub dims_open : {es : ExprTrees} {n : ℕ} {xs ys : List Terminal} → DerivesDims es n xs ys → (starts dot xs ≡ false) × (starts paren_open xs ≡ false) × (starts_pair xs ≡ false) × (starts bracket_open xs ≡ true)
dims_open (dims_one {xs} d q) = (refl, refl, not_starts bracket_close xs refl (start_expr d), refl)
dims_open (dims_more {xs} d r) = (refl, refl, not_starts bracket_close xs refl (start_expr d), refl)

list_open : {p : ℕ} {is : InitTrees} {xs ys : List Terminal} → DerivesList p is xs ys → starts bracket_open xs ≡ false
list_open (list_none d) = refl
list_open (list_some d e) = refl

list_starts : (n : ℕ) {p : ℕ} {is : InitTrees} {xs ys : List Terminal} → nat_eq brace_open n ≡ false → DerivesList p is xs ys → starts n xs ≡ false
list_starts n h (list_none d) = h
list_starts n h (list_some d e) = h

init_starts : (n : ℕ) {i : InitTree} {xs ys : List Terminal} → is_start (Punct 0 n) ≡ false → nat_eq brace_open n ≡ false → DerivesInit i xs ys → starts n xs ≡ false
init_starts n h h' (init_expr {xs} d) = not_starts n xs h (start_expr d)
init_starts n h h' (init_list d) = list_starts n h' d

pub inits_starts : (n : ℕ) {is : InitTrees} {xs ys : List Terminal} → is_start (Punct 0 n) ≡ false → nat_eq brace_open n ≡ false → DerivesInits is xs ys → starts n xs ≡ false
inits_starts n h h' (inits_one d) = init_starts n h h' d
inits_starts n h h' (inits_more d r) = init_starts n h h' d

pub base_named : {ids : List Identifier} {xs ys : List Terminal} → DerivesName ids xs ys → (q : ℕ) × DerivesBase q (named ids) xs ys
base_named (name_one {i}) = (i.at, base_name name_one)
base_named (name_more {i} d) = (i.at, base_name (name_more d))

-- a `plain` is a unary
pub unary_plain : {f : Form} {e : ExprTree} {xs ys : List Terminal} (d : DerivesPlain f e xs ys) → (u : DerivesUnary f e xs ys) × (deep_unary u ≡ deep_plain d) × (wide_unary u ≡ wide_plain d)
unary_plain (plain_sign {o} h d) = (unary_sign (among (λ n. IsOneOf signs n) complements o (refl, (refl, tt)) h) d, refl, refl)
unary_plain (plain_cast d) = (unary_cast d, refl, refl)
unary_plain (plain_post d) = (unary_post d, refl, refl)

pub sign_no_step : (o : ℕ) → IsOneOf signs o → list_any (nat_eq o) postfix_operators ≡ false
sign_no_step o h = among (λ n. list_any (nat_eq n) postfix_operators ≡ false) signs o (refl, (refl, (refl, (refl, tt)))) h

pub mark_seen : (level : List ℕ) (o : ℕ) → IsMarkOf level o → is_mark_of level o ≡ true
mark_seen level o h =
    let no : nat_eq o instance_of ≡ false = apart (λ n. nat_eq n instance_of) o (λ e. h.1 (eqb-true o instance_of e)) in
    rw (h.0, no) refl

links_end : (operand : List Terminal → Reads Parsed) (level : List ℕ) (k c : ℕ) (ys : List Terminal) → AreRanked k level → k < first_rank ys → 0 < c → links_of operand level c ys ≡ got_links t.no_links ys
unfolding links_of
links_end operand level k zero ys a h l = absurd (omega arith)
links_end operand level k (suc c) [] a h l = refl
links_end operand level k (suc c) (Punct p o ∷ ys) a h l = rw (not_ranked k level o a (λ e. omega arith)) refl
links_end operand level k (suc c) (Keyword p w ∷ ys) a h l = by (nat_eq w word_instanceof) h
  where
    by : (b : Bool) → k < cond b 4 13
        → cond (b && list_any (nat_eq instance_of) level) (reference_of ys >>= λ r. links_of operand level c r.1 >>= λ s. Ok (t.links p instance_of (t.of_type r.0) s.0, s.1)) (got_links t.no_links (Keyword p w ∷ ys))
        ≡ got_links t.no_links (Keyword p w ∷ ys)
    by false h' = refl
    by true h' = rw (not_ranked k level instance_of a (λ e. let four : 4 ≡ k = e in omega arith)) refl
links_end operand level k (suc c) (x ∷ ys) a h l = refl

assigned_ends : (b : Below) (r : Parsed) (ys : List Terminal) → 12 < first_rank ys → assigned_of b r ys ≡ Ok (r, ys)
assigned_ends b r [] h = refl
assigned_ends b r (Punct p o ∷ ys) h = rw (not_ranked 12 assignment_operators o assignments_ranked (λ e. omega arith)) refl
assigned_ends b r (x ∷ ys) h = refl

steps_end : (f : Form) (e : ExprTree) (ys : List Terminal) → 0 < first_rank ys → steps_of f e ys ≡ ((f, e), ys)
unfolding steps_of
steps_end f e [] h = refl
steps_end f e (Punct p o ∷ ys) h = rw (not_step o h) refl
steps_end f e (x ∷ ys) h = refl

chain_made : (f : Form) (e : ExprTree) {level : List ℕ} {tighter : List (List ℕ)} {ls : LinkTrees} {xs ys : List Terminal} → DerivesLinks level tighter ls xs ys
    → got (chained (f, e) ls).0 (chained (f, e) ls).1 ys ≡ got Other (t.expr (at_of e) (t.chain e ls)) ys
chain_made f e (links_one d) = refl
chain_made f e (links_more d l) = refl

module _ (n : ℕ) (b : Below) (c : Comp n b) where
  pub c_exprs : {es : ExprTrees} {xs ys : List Terminal} (d : DerivesExprs es xs ys) (k : ℕ) → deep_exprs d < n → wide_exprs d ≤ 200 → 12 < first_rank ys → starts comma ys ≡ false → length xs ≤ k → exprs_of b.expr k xs ≡ got_exprs es ys
  unfolding exprs_of
  c_exprs (exprs_one d) zero h w r s l = absurd (omega (arith, less_expr d))
  c_exprs (exprs_one d) (suc k) h w r s l = rw (c.expr d h w r) (rw s refl)
  c_exprs (exprs_more d m) zero h w r s l = absurd (omega (arith, less_expr d))
  c_exprs (exprs_more d m) (suc k) h w r s l =
      rw (c.expr d (omega arith) (omega arith) (lit< tt)) (rw (c_exprs m k (omega arith) (omega arith) r s (omega (arith, less_expr d))) refl)

  pub c_args : {es : ExprTrees} {xs ys : List Terminal} (d : DerivesArgs es xs ys) → deep_args d ≤ n → wide_args d ≤ 200 → args_of b.expr xs ≡ got_exprs es ys
  unfolding args_of
  c_args args_none h w = refl
  c_args (args_some {xs} d) h w =
      rw (not_starts paren_close xs refl (start_exprs d)) (rw (c_exprs d (suc (length xs)) (omega arith) w (lit< tt) refl (omega arith)) refl)

  pub c_inits : {is : InitTrees} {xs zs ys : List Terminal} (d : DerivesInits is xs zs) → DerivesListEnd zs ys → (k : ℕ) → deep_inits d < n → wide_inits d ≤ 200 → length xs ≤ k → inits_of b.init k xs ≡ got_inits is ys
  unfolding inits_of
  c_inits (inits_one d) e zero h w l = absurd (omega (arith, less_init d))
  c_inits (inits_one d) list_end (suc k) h w l = rw (c.init d h w (lit< tt)) refl
  c_inits (inits_one d) list_comma_end (suc k) h w l = rw (c.init d h w (lit< tt)) refl
  c_inits (inits_more d m) e zero h w l = absurd (omega (arith, less_init d))
  c_inits (inits_more d m) e (suc k) h w l =
      rw (c.init d (omega arith) (omega arith) (lit< tt)) (rw (inits_starts brace_close refl refl m) (rw (c_inits m e k (omega arith) (omega arith) (omega (arith, less_init d))) refl))

  pub c_list : {p : ℕ} {is : InitTrees} {xs ys : List Terminal} (d : DerivesList p is xs ys) → deep_list d ≤ n → wide_list d ≤ 200 → list_of b.init xs ≡ got_inits is ys
  unfolding list_of
  c_list (list_none list_end) h w = refl
  c_list (list_none list_comma_end) h w = refl
  c_list (list_some {xs} d e) h w =
      rw (inits_starts brace_close refl refl d, inits_starts comma refl refl d) (c_inits d e (suc (length xs)) (omega arith) w (omega arith))

  c_sizes_end : {m : ℕ} {xs ys : List Terminal} → DerivesPairs m xs ys → (room : ℕ) → m ≤ room → starts bracket_open ys ≡ false → sizes_of b.expr room xs ≡ got_sizes t.no_exprs m ys
  unfolding sizes_of
  c_sizes_end pairs_none zero l h = rw h refl
  c_sizes_end pairs_none (suc room) l h = rw h refl
  c_sizes_end (pairs_more d) zero l h = absurd (omega arith)
  c_sizes_end (pairs_more {p} {q} d) (suc room) l h = rw (reads_pairs (pairs_more {p = p} {q = q} d) (suc room) l h) refl

  pub c_sizes : {es : ExprTrees} {m : ℕ} {xs ys : List Terminal} (d : DerivesDims es m xs ys) (room : ℕ) → deep_dims d < n → wide_dims d ≤ 200 → count_dims d ≤ room → starts bracket_open ys ≡ false → sizes_of b.expr room xs ≡ got_sizes es m ys
  unfolding sizes_of
  c_sizes (dims_one d q) zero h w l s = absurd (omega arith)
  c_sizes (dims_one {xs} d q) (suc room) h w l s =
      rw (not_starts bracket_close xs refl (start_expr d)) (rw (c.expr d h w (lit< tt)) (rw (c_sizes_end q room (omega arith) s) refl))
  c_sizes (dims_more d m) zero h w l s = absurd (omega arith)
  c_sizes (dims_more {xs} d m) (suc room) h w l s =
      rw (not_starts bracket_close xs refl (start_expr d)) (rw (c.expr d (omega arith) (omega arith) (lit< tt)) (rw (c_sizes m room (omega arith) (omega arith) (omega arith) s) refl))

  pub c_head : {f : Form} {e : ExprTree} {xs ys : List Terminal} (d : DerivesHead f e xs ys) → deep_head d ≤ n → wide_head d ≤ 200 → head_of b xs ≡ got f e ys
  unfolding head_of new_of
  c_head head_literal h w = refl
  c_head head_this h w = refl
  c_head (head_paren nc d) h w = rw (c.expr d (omega arith) w (lit< tt)) refl
  c_head (head_name {ys} d ends) h w =
      let r = name_runs d ends in
      rw (r.first, r.no_call, r.run_is) (ap (λ z. got Target (t.expr (first_at z) (t.name z)) ys) (sym r.ids_are))
  c_head (head_call a) h w = rw (args_open a).0 (rw (c_args a h w) refl)
  c_head (head_super_field s) h w = rw s refl
  c_head (head_super_call a) h w = rw (args_open a).0 (rw (c_args a h w) refl)
  c_head (head_new m a) h w = rw (reads_base (base_named m).1 (args_open a).1) (rw (args_open a).0 (rw (c_args a h w) refl))
  c_head (head_new_array m d s) h w =
      let o = dims_open d in
      rw (reads_base m o.0) (rw (o.1, o.2, o.3) (rw (c_sizes d 200 (omega arith) (omega arith) (omega arith) s) refl))
  c_head (head_new_list m (pairs_more {p} {q} d) l) h w =
      rw (reads_base m refl) (rw (reads_pairs (pairs_more {p = p} {q = q} d) 200 (omega arith) (list_open l)) (rw (c_list l h (omega arith)) refl))

  suffix_field : (k : ℕ) (f : Form) (e : ExprTree) (p : ℕ) (i : Identifier) (ys : List Terminal) → starts paren_open ys ≡ false → suc (suc (length ys)) < k
      → (j : ℕ) × (length ys < j) × (suffixes_of b k f e (Punct p dot ∷ Ident i ∷ ys) ≡ suffixes_of b j Target (t.expr (at_of e) (t.field e i)) ys)
  unfolding suffixes_of
  suffix_field zero f e p i ys s l = absurd (omega arith)
  suffix_field (suc k) f e p i ys s l = (k, omega arith, rw s refl)

  suffix_call : (k : ℕ) (f : Form) (e : ExprTree) (p : ℕ) (i : Identifier) {es : ExprTrees} (zs ys : List Terminal) (a : DerivesArgs es zs ys) → deep_args a ≤ n → wide_args a ≤ 200 → suc (suc (length zs)) < k
      → (j : ℕ) × (length ys < j) × (suffixes_of b k f e (Punct p dot ∷ Ident i ∷ zs) ≡ suffixes_of b j Effect (t.expr (at_of e) (t.call (t.on e) i es)) ys)
  unfolding suffixes_of
  suffix_call zero f e p i zs ys a h w l = absurd (omega arith)
  suffix_call (suc k) f e p i zs ys a h w l = (k, omega (arith, less_args a), rw (args_open a).0 (rw (c_args a h w) refl))

  suffix_index : (k : ℕ) (f g : Form) (e x : ExprTree) (p q : ℕ) (zs ys : List Terminal) (d : DerivesExpr g x zs (Punct q bracket_close ∷ ys)) → deep_expr d < n → wide_expr d ≤ 200 → suc (length zs) < k
      → (j : ℕ) × (length ys < j) × (suffixes_of b k f e (Punct p bracket_open ∷ zs) ≡ suffixes_of b j Target (t.expr (at_of e) (t.index e x)) ys)
  unfolding suffixes_of
  suffix_index zero f g e x p q zs ys d h w l = absurd (omega arith)
  suffix_index (suc k) f g e x p q zs ys d h w l = (k, omega (arith, less_expr d), rw (c.expr d h w (lit< tt)) refl)

  -- the state of the loop over suffixes, behind what is read so far
  abbrev Goes : List Terminal → Form → ExprTree → List Terminal → Type 0
  Goes xs f e ys = (k : ℕ) × (length ys < k) × (primary_of b xs ≡ suffixes_of b k f e ys)

  goes_head : {f : Form} {e : ExprTree} {xs ys : List Terminal} (d : DerivesHead f e xs ys) → deep_head d ≤ n → wide_head d ≤ 200 → Goes xs f e ys
  unfolding primary_of
  goes_head {xs} d h w = (suc (length xs), omega (arith, less_head d), rw (c_head d h w) refl)

  goes_on_with : (xs : List Terminal) (f g : Form) (e o : ExprTree) (ys zs : List Terminal) (m : Goes xs f e ys) → (j : ℕ) × (length zs < j) × (suffixes_of b m.0 f e ys ≡ suffixes_of b j g o zs) → Goes xs g o zs
  goes_on_with xs f g e o ys zs m z = (z.0, z.1, m.2 ∙ z.2)

  -- A primary is a state of the loop, which then goes on.
  pub c_primary : {f : Form} {e : ExprTree} {xs ys : List Terminal} (d : DerivesPrimary f e xs ys) → deep_primary d ≤ n → wide_primary d ≤ 200 → Goes xs f e ys
  c_primary (primary_head d) h w = goes_head d h w
  c_primary (primary_field {f} {e} {i} {p} {xs} {ys} d s) h w =
      let m = c_primary d h w in
      goes_on_with xs f Target e _ _ ys m (suffix_field m.0 f e p i ys s m.1)
  c_primary (primary_call {f} {e} {i} {es} {p} {xs} {zs} {ys} d a) h w =
      let m = c_primary d (omega arith) (omega arith) in
      goes_on_with xs f Effect e _ _ ys m (suffix_call m.0 f e p i zs ys a (omega arith) (omega arith) m.1)
  c_primary (primary_index {f} {g} {e} {x} {p} {q} {xs} {zs} {ys} d y) h w =
      let m = c_primary d (omega arith) (omega arith) in
      goes_on_with xs f Target e _ _ ys m (suffix_index m.0 f g e x p q zs ys y (omega arith) (omega arith) m.1)

  suffixes_end : (k : ℕ) (f : Form) (e : ExprTree) (ys : List Terminal) → starts bracket_open ys ≡ false → starts dot ys ≡ false → 0 < k → suffixes_of b k f e ys ≡ got f e ys
  unfolding suffixes_of
  suffixes_end zero f e ys h h' l = absurd (omega arith)
  suffixes_end (suc k) f e ys h h' l = rw (h, h') refl

  pub c_post : {f : Form} {e : ExprTree} {xs ys : List Terminal} (d : DerivesPost f e xs ys) → deep_post d ≤ n → wide_post d ≤ 200 → starts bracket_open ys ≡ false → starts dot ys ≡ false → post_of b xs ≡ Ok (steps_of f e ys)
  unfolding post_of steps_of
  c_post (post_primary {f} {e} {xs} {ys} d) h w hb hd =
      let m = c_primary d h w in
      rw (m.2 ∙ suffixes_end m.0 f e ys hb hd (omega (arith, m.1))) refl
  c_post (post_step {f} {e} {p} {o} d s) h w hb hd =
      c_post d h w (among (λ x. nat_eq x bracket_open ≡ false) postfix_operators o (refl, (refl, tt)) s) (among (λ x. nat_eq x dot ≡ false) postfix_operators o (refl, (refl, tt)) s) ∙ rw s refl

  pub c_unary_post : {f : Form} {e : ExprTree} {xs ys : List Terminal} (d : DerivesPost f e xs ys) → deep_post d ≤ n → wide_post d ≤ 200 → 0 < first_rank ys → post_of b xs ≡ got f e ys
  c_unary_post {f} {e} {xs} {ys} d h w r = c_post d h w (starts_apart bracket_open ys r) (starts_apart dot ys r) ∙ ap (λ z. Ok z) (steps_end f e ys r)

  -- What begins a primary is no prefix operator and no cast.
  name_post : {ids : List Identifier} {xs ys : List Terminal} → DerivesName ids xs ys → unary_of b xs ≡ post_of b xs
  unfolding unary_of
  name_post name_one = refl
  name_post (name_more d) = refl

  to_post_head : {f : Form} {e : ExprTree} {xs ys : List Terminal} → DerivesHead f e xs ys → unary_of b xs ≡ post_of b xs
  unfolding unary_of
  to_post_head head_literal = refl
  to_post_head head_this = refl
  to_post_head (head_paren nc d) = rw (no_cast_ahead nc d) refl
  to_post_head (head_name d h) = name_post d
  to_post_head (head_call a) = refl
  to_post_head (head_super_field s) = refl
  to_post_head (head_super_call a) = refl
  to_post_head (head_new m a) = refl
  to_post_head (head_new_array m d s) = refl
  to_post_head (head_new_list m d l) = refl

  to_post_primary : {f : Form} {e : ExprTree} {xs ys : List Terminal} → DerivesPrimary f e xs ys → unary_of b xs ≡ post_of b xs
  to_post_primary (primary_head d) = to_post_head d
  to_post_primary (primary_field d h) = to_post_primary d
  to_post_primary (primary_call d a) = to_post_primary d
  to_post_primary (primary_index d x) = to_post_primary d

  pub to_post : {f : Form} {e : ExprTree} {xs ys : List Terminal} → DerivesPost f e xs ys → unary_of b xs ≡ post_of b xs
  to_post (post_primary d) = to_post_primary d
  to_post (post_step d h) = to_post d

  pub c_cast : {e : ExprTree} {xs ys : List Terminal} (d : DerivesCast e xs ys) → deep_cast d ≤ n → wide_cast d ≤ 200 → 0 < first_rank ys → unary_of b xs ≡ got Other e ys
  unfolding unary_of cast_of
  c_cast (cast_prim m d) h w r =
      rw (prim_ahead m) (rw (reads_ty (ty (base_prim m) pairs_none) (omega arith) refl refl) (rw (prim_not_named m) (rw (c.unary d (omega arith) w r) refl)))
  c_cast (cast_reference m d) h w r =
      let u = unary_plain d in
      let t' = is_ty m in
      rw (reference_ahead m (plain_begins d)) (rw (reads_ty t'.0 (omega (arith, t'.1)) refl refl) (rw (t'.2, plain_begins d) (rw (c.unary u.0 (omega (arith, u.1)) (omega (arith, u.2)) r) refl)))

  signed_is : (p o : ℕ) (xs : List Terminal) → IsStart xs → signed_of b p o xs ≡ signed_by b p o xs
  unfolding signed_of
  signed_is p o [] s = refl
  signed_is p o (Minimum q ∷ xs) s = absurd (true≢false (sym s))
  signed_is p o (MinimumLong q ∷ xs) s = absurd (true≢false (sym s))
  signed_is p o (x ∷ xs) s = refl

  pub c_unary : {f : Form} {e : ExprTree} {xs ys : List Terminal} (d : DerivesUnary f e xs ys) → deep_unary d ≤ n → wide_unary d ≤ 200 → 0 < first_rank ys → unary_of b xs ≡ got f e ys
  unfolding unary_of signed_of
  c_unary (unary_step s d) h w r = rw s (rw (c.unary d (omega arith) w r) refl)
  c_unary (unary_sign {p} {o} {xs} s d) h w r =
      rw (sign_no_step o s, s) (rw (signed_is p o xs (start_unary d)) (rw (c.unary d (omega arith) w r) refl))
  c_unary unary_minimum h w r = refl
  c_unary unary_minimum_long h w r = refl
  c_unary (unary_cast d) h w r = c_cast d h w r
  c_unary (unary_post d) h w r = to_post d ∙ c_unary_post d h w r

  -- the readers of operands of the levels read each derivation
  abbrev Operands : List (List ℕ) → Type 0
  Operands tighter = (f : Form) (e : ExprTree) (xs ys : List Terminal) (d : DerivesBin tighter f e xs ys) → deep_bin d ≤ n → wide_bin d ≤ 200 → length tighter < first_rank ys → bin_of b tighter xs ≡ got f e ys

  pub c_links : (level : List ℕ) (tighter : List (List ℕ)) → AreRanked (suc (length tighter)) level → Operands tighter
      → {ls : LinkTrees} {xs ys : List Terminal} (d : DerivesLinks level tighter ls xs ys) (k : ℕ) → deep_links d ≤ n → wide_links d ≤ 200 → suc (length tighter) < first_rank ys → length xs < k → links_of (bin_of b tighter) level k xs ≡ got_links ls ys
  unfolding links_of
  c_links level tighter a ih d zero h w r l = absurd (omega arith)
  c_links level tighter a ih (links_one {ys} (link_operand {o} m d)) (suc k) h w r l =
      rw (mark_seen level o m) (rw (ih _ _ _ _ d h w (omega arith)) (rw (links_end (bin_of b tighter) level _ k ys a r (omega (arith, less_bin d))) refl))
  c_links level tighter a ih (links_one {ys} (link_type m d)) (suc k) h w r l =
      rw m (rw (reads_reference d w (starts_apart dot ys (omega arith)) (starts_apart bracket_open ys (omega arith))) (rw (links_end (bin_of b tighter) level _ k ys a r (omega arith)) refl))
  c_links level tighter a ih (links_more (link_operand {o} m d) q) (suc k) h w r l =
      rw (mark_seen level o m) (rw (ih _ _ _ _ d (omega arith) (omega arith) (let e = links_rank _ a q in omega (arith, e))) (rw (c_links level tighter a ih q k (omega arith) (omega arith) r (omega (arith, less_bin d))) refl))
  c_links level tighter a ih (links_more {zs} (link_type m d) q) (suc k) h w r l =
      let e = links_rank _ a q in
      rw m (rw (reads_reference d (omega arith) (starts_apart dot zs (omega (arith, e))) (starts_apart bracket_open zs (omega (arith, e)))) (rw (c_links level tighter a ih q k (omega arith) (omega arith) r (omega (arith, less_reference d))) refl))

  pub c_bin : (levels : List (List ℕ)) → IsRanked levels → Operands levels
  unfolding bin_of
  c_bin [] a f e xs ys (bin_unary d) h w r = c_unary d h w r
  c_bin (level ∷ tighter) a f e xs ys (bin_one d) h w r =
      rw (c_bin tighter a.1 _ _ _ _ d h w (omega arith)) (rw (links_end (bin_of b tighter) level _ (suc (length xs)) ys a.0 r (omega arith)) refl)
  c_bin (level ∷ tighter) a _ _ xs ys (bin_chain {f} {e} d l) h w r =
      rw (c_bin tighter a.1 _ _ _ _ d (omega arith) (omega arith) (let k = links_rank _ a.0 l in omega (arith, k)))
      (rw (c_links level tighter a.0 (c_bin tighter a.1) l (suc (length xs)) (omega arith) (omega arith) r (omega (arith, less_bin d))) (chain_made f e l))

  pub c_cond : {f : Form} {e : ExprTree} {xs ys : List Terminal} (d : DerivesCond f e xs ys) → deep_cond d ≤ n → wide_cond d ≤ 200 → 11 < first_rank ys → cond_of b xs ≡ got f e ys
  unfolding cond_of
  c_cond (cond_bin {ys} d) h w r = rw (c_bin levels levels_ranked _ _ _ _ d h w (omega arith)) (rw (starts_apart question_mark ys r) refl)
  c_cond (cond_choice d x y) h w r =
      rw (c_bin levels levels_ranked _ _ _ _ d (omega arith) (omega arith) (lit< tt)) (rw (c.expr x (omega arith) (omega arith) (lit< tt)) (rw (c.cond y (omega arith) (omega arith) r) refl))

  -- a primary is a condition
  unfoldable pub lift : {f : Form} {e : ExprTree} {xs ys : List Terminal} → DerivesPrimary f e xs ys → DerivesCond f e xs ys
  lift d = cond_bin (bin_one (bin_one (bin_one (bin_one (bin_one (bin_one (bin_one (bin_one (bin_one (bin_one (bin_unary (unary_post (post_primary d)))))))))))))

  pub c_expr : {f : Form} {e : ExprTree} {xs ys : List Terminal} (d : DerivesExpr f e xs ys) → deep_expr d ≤ n → wide_expr d ≤ 200 → 12 < first_rank ys → expr_of b xs ≡ got f e ys
  unfolding expr_of lift
  c_expr (expr_cond {f} {e} {xs} {ys} d) h w r = rw (c_cond d h w (omega arith)) (assigned_ends b (f, e) ys r)
  c_expr (expr_assign {o} d s y) h w r =
      rw (c_cond (lift d) (omega arith) (omega arith) (let k = ranked 12 assignment_operators o assignments_ranked s in omega (arith, k))) (rw s (rw (c.expr y (omega arith) (omega arith) r) refl))

  init_is_expr : (xs : List Terminal) → IsStart xs → init_of b xs ≡ (expr_of b xs >>= λ r. Ok (t.one r.0.1, r.1))
  unfolding init_of
  init_is_expr [] s = refl
  init_is_expr (Punct p o ∷ xs) s = rw (not_starts brace_open (Punct p o ∷ xs) refl s) refl
  init_is_expr (x ∷ xs) s = refl

  init_is_list : {p : ℕ} {is : InitTrees} {xs ys : List Terminal} → DerivesList p is xs ys → list_of b.init xs ≡ got_inits is ys → init_of b xs ≡ got_init (t.list p is) ys
  unfolding init_of
  init_is_list (list_none d) h = rw h refl
  init_is_list (list_some d e) h = rw h refl

  pub c_init : {i : InitTree} {xs ys : List Terminal} (d : DerivesInit i xs ys) → deep_init d ≤ n → wide_init d ≤ 200 → 12 < first_rank ys → init_of b xs ≡ got_init i ys
  c_init (init_expr {xs} d) h w r = init_is_expr xs (start_expr d) ∙ rw (c_expr d h w r) refl
  c_init (init_list d) h w r = init_is_list d (c_list d h w)

-- at each depth of nesting
pub comp : (n : ℕ) → Comp n (below n)
unfolding below
comp zero = record {
  expr = λ d h w r. absurd (omega arith);
  cond = λ d h w r. absurd (omega arith);
  unary = λ d h w r. absurd (omega arith);
  init = λ d h w r. absurd (omega arith);
}
comp (suc n) = record {
  expr = λ d h w r. c_expr n (below n) (comp n) d (omega arith) w r;
  cond = λ d h w r. c_cond n (below n) (comp n) d (omega arith) w r;
  unary = λ d h w r. c_unary n (below n) (comp n) d (omega arith) w r;
  init = λ d h w r. c_init n (below n) (comp n) d (omega arith) w r;
}

pub reads_expr : (n : ℕ) {f : Form} {e : ExprTree} {xs ys : List Terminal} (d : DerivesExpr f e xs ys) → deep_expr d ≤ n → wide_expr d ≤ 200 → 12 < first_rank ys → expr_of (below n) xs ≡ got f e ys
reads_expr n d h w r = c_expr n (below n) (comp n) d h w r

pub reads_init : (n : ℕ) {i : InitTree} {xs ys : List Terminal} (d : DerivesInit i xs ys) → deep_init d ≤ n → wide_init d ≤ 200 → 12 < first_rank ys → init_of (below n) xs ≡ got_init i ys
reads_init n d h w r = c_init n (below n) (comp n) d h w r

pub reads_args : (n : ℕ) {es : ExprTrees} {xs ys : List Terminal} (d : DerivesArgs es xs ys) → deep_args d ≤ n → wide_args d ≤ 200 → args_of (below n).expr xs ≡ got_exprs es ys
reads_args n d h w = c_args n (below n) (comp n) d h w
