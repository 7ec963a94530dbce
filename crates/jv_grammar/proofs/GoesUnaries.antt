-- What begins a cast or a unary is read to its end. Behind a `(` the test sees no cast where an expression is begun, since the reader
-- of that expression would stop at the `)` of the cast.
use Rattle.std.proofs.Common.{◌≡◌, ℕ, ◌<◌, ◌≤◌, inl, Bool, true, false, List, [], ◌∷◌, arith, refl, sym, ap, ◌∙◌, subst, true≢false, lit<}
use Rattle.jv_tree.specs.declared.name.Ident.{Ident as Identifier}
use Rattle.jv_tree.specs.TypeTree.{TypeTree}
use Rattle.jv_tree.specs.ExprTree.{ExprTree}
use Rattle.jv_tree.specs.Shaped.{IsOneOf}
use Rattle.jv_grammar.specs.declared.terminal.Terminal.{Terminal}
use Rattle.jv_grammar.specs.declared.terminal.Terminal.TheVariants.{Minimum, MinimumLong, Punct}
use Rattle.jv_grammar.specs.declared.form.Form.TheVariants.{Target}
use Rattle.jv_grammar.specs.Marks.{paren_open, paren_close, bracket_open, complements, signs}
use Rattle.jv_grammar.specs.TypeGrammar.{DerivesName, name_one, name_more, base_prim, pairs_none, pairs_more, ty, DerivesReference, reference_name, reference_prim}
use Rattle.jv_grammar.specs.ExprGrammar.{IsCast, name_ends, DerivesExpr, expr_cond, cond_bin, bin_unary, bin_one, unary_post, post_primary, primary_head, head_name}
use Rattle.jv_grammar.specs.TypeReader.{name_of, ty_of}
use Rattle.jv_grammar.specs.ExprReader.{Below, head_of, suffixes_of, primary_of, steps_of, post_of, is_cast, cast_ahead, cast_of, signed_by, signed_of, unary_of}
use Rattle.jv_grammar.specs.TypeBegins.{BeginsName, begun_name_none, begun_name_more, begun_name_whole, begun_pairs_none, begun_pairs_open, begun_pairs_more, BeginsReference, begun_reference_none, begun_reference_name, begun_reference_name_pairs, begun_reference_prim_pairs, begun_reference_whole}
use Rattle.jv_grammar.specs.ExprBegins.{BeginsExpr, begun_expr_cond, begun_cond_bin, begun_bin_unary, begun_bin_one, BeginsUnary, begun_unary_none, begun_unary_sign, begun_unary_step, begun_unary_cast, begun_unary_post, begun_unary_whole, begun_cast_none, begun_cast_type, begun_cast_prim, begun_cast_reference, begun_cast_whole, BeginsPlain, begun_plain_none, begun_plain_sign, begun_plain_cast, begun_plain_post, begun_plain_whole, BeginsPost, begun_post_none, begun_post_primary, begun_post_whole, BeginsPrimary, begun_primary_none, begun_primary_head, begun_primary_dot, begun_primary_call, begun_primary_index, begun_primary_whole, BeginsHead, begun_head_none, begun_head_paren, begun_head_name, begun_head_call, begun_head_super, begun_head_super_dot, begun_head_super_call, begun_head_new, begun_head_new_args, begun_head_new_dims, begun_head_new_pairs, begun_head_new_list, begun_head_whole}
use Rattle.jv_grammar.proofs.BegunDepth.{begun_deep_expr, begun_deep_unary, begun_deep_plain, begun_deep_post, begun_deep_primary, begun_deep_head}
use Rattle.jv_grammar.proofs.Rows.{HasShortRows}
use Rattle.jv_grammar.proofs.Ending.{left_of, Ends}
use Rattle.jv_grammar.proofs.GoesLaw.{GoesBelow, GoesCast, GoesPlain, GoesUnary}
use Rattle.jv_grammar.specs.Width.{wide_expr}
use Rattle.jv_grammar.proofs.Depth.{deep_expr}
use Rattle.jv_grammar.proofs.Read.{among}
use Rattle.jv_grammar.proofs.Types.{reads_name, reads_ty, is_ty, prim_not_named}
use Rattle.jv_grammar.proofs.Few.{closed_prim, closed_reference}
use Rattle.jv_grammar.proofs.Ahead.{prim_ahead, name_cast, reference_ahead}
use Rattle.jv_grammar.proofs.Complete.{Comp, sign_no_step, unary_plain, to_post, c_cast, c_unary}
use Rattle.jv_grammar.proofs.Goes.{ends_bind}
use Rattle.jv_grammar.proofs.GoesTypes.{goes_ty, reference_begins_ty}
use Rattle.jv_grammar.proofs.BegunRows.{rows_behind, low_reference, low_unary, low_cast}
use Rattle.jv_grammar.proofs.BegunStarts.{IsBegunStart, begun_plain, begun_unary}
use Rattle.jv_grammar.proofs.BegunFree.{begun_no_cast}
use Rattle.jv_grammar.proofs.GoesHeads.{head_primary, goes_post}

-- a name is an expression
abbrev pub Named : List Terminal → List Terminal → Type 0
Named xs ys = (e : ExprTree) × (d : DerivesExpr Target e xs ys) × (deep_expr d ≡ 0) × (wide_expr d ≡ 0)

name_named : {i : Identifier} {ids : List Identifier} {xs ys : List Terminal} → DerivesName (i ∷ ids) xs ys → name_ends ys ≡ true → Named xs ys
name_named d h = (_, expr_cond (cond_bin (bin_one (bin_one (bin_one (bin_one (bin_one (bin_one (bin_one (bin_one (bin_one (bin_one (bin_unary (unary_post (post_primary (primary_head (head_name d h)))))))))))))))), refl, refl)

pub named : {ids : List Identifier} {xs ys : List Terminal} → DerivesName ids xs ys → name_ends ys ≡ true → Named xs ys
named (name_one {i}) h = name_named (name_one {i = i}) h
named (name_more {i} {p} d) h = name_named (name_more {i = i} {p = p} d) h

-- and so begins one
pub name_begins : {xs : List Terminal} → BeginsName xs → (d : BeginsExpr xs) × (begun_deep_expr d ≡ 0)
name_begins r = (begun_expr_cond (begun_cond_bin (begun_bin_one (begun_bin_one (begun_bin_one (begun_bin_one (begun_bin_one (begun_bin_one (begun_bin_one (begun_bin_one (begun_bin_one (begun_bin_one (begun_bin_unary (begun_unary_post (begun_post_primary (begun_primary_head (begun_head_name r)))))))))))))))), refl)

some_none : {x : Terminal} {xs : List Terminal} → x ∷ xs ≡ [] → ⊥
some_none h = cc

-- a `plain` that is begun begins a unary
pub plain_begins_unary : {xs : List Terminal} (d : BeginsPlain xs) → (u : BeginsUnary xs) × (begun_deep_unary u ≡ begun_deep_plain d)
plain_begins_unary begun_plain_none = (begun_unary_none, refl)
plain_begins_unary (begun_plain_sign {o} h r) = (begun_unary_sign (among (λ n. IsOneOf signs n) complements o (refl, (refl, tt)) h) r, refl)
plain_begins_unary (begun_plain_cast r) = (begun_unary_cast r, refl)
plain_begins_unary (begun_plain_post r) = (begun_unary_post r, refl)
plain_begins_unary (begun_plain_whole d) = let u = unary_plain d in (begun_unary_whole u.0, u.1)

-- The expression below ends behind a name with a bracket that is open, though the grammar counts what stands in it as one deeper.
abbrev pub GoesBracket : ℕ → Below → Type 0
GoesBracket n b = 0 < n → (ids : List Identifier) (xs : List Terminal) (p : ℕ) → DerivesName ids xs (Punct p bracket_open ∷ []) → Ends (b.expr xs)

name_test : {ids : List Identifier} {xs ys : List Terminal} → DerivesName ids xs ys → cast_ahead xs ≡ is_cast (name_of xs)
unfolding cast_ahead
name_test name_one = refl
name_test (name_more d) = refl

module _ (n : ℕ) (b : Below) (c : Comp n b) (g : GoesBelow n b) (o : GoesBracket n b) where
  no_cast : {xs : List Terminal} (r : BeginsExpr xs) → begun_deep_expr r < n → HasShortRows xs → IsCast xs → ⊥
  no_cast r l h (ids, p, zs, m, w) =
      let e = named m refl in
      some_none (subst Ends (c.expr e.1 (omega (arith, e.2)) (omega (arith, e.3)) (lit< tt)) (g.expr r l h))

  -- What begins a primary is no prefix operator and no cast.
  name_post : {xs : List Terminal} → BeginsName xs → unary_of b xs ≡ post_of b xs
  unfolding unary_of
  name_post begun_name_none = refl
  name_post (begun_name_more r) = refl
  name_post (begun_name_whole name_one) = refl
  name_post (begun_name_whole (name_more d)) = refl

  head_post : {xs : List Terminal} (d : BeginsHead xs) → begun_deep_head d ≤ n → HasShortRows xs → unary_of b xs ≡ post_of b xs
  unfolding unary_of
  head_post begun_head_none l h = refl
  head_post (begun_head_paren r) l h = rw (begun_no_cast r (no_cast r l h.1)) refl
  head_post (begun_head_name r) l h = name_post r
  head_post (begun_head_call r) l h = refl
  head_post begun_head_super l h = refl
  head_post begun_head_super_dot l h = refl
  head_post (begun_head_super_call r) l h = refl
  head_post (begun_head_new r) l h = refl
  head_post (begun_head_new_args m r) l h = refl
  head_post (begun_head_new_dims m r) l h = refl
  head_post (begun_head_new_pairs m r) l h = refl
  head_post (begun_head_new_list m q r) l h = refl
  head_post (begun_head_whole d) l h = to_post n b c (post_primary (primary_head d))

  primary_post : {xs : List Terminal} (d : BeginsPrimary xs) → begun_deep_primary d ≤ n → HasShortRows xs → unary_of b xs ≡ post_of b xs
  unfolding unary_of
  primary_post begun_primary_none l h = refl
  primary_post (begun_primary_head r) l h = head_post r l h
  primary_post (begun_primary_dot d) l h = to_post n b c (post_primary d)
  primary_post (begun_primary_call d r) l h = to_post n b c (post_primary d)
  primary_post (begun_primary_index d r) l h = to_post n b c (post_primary d)
  primary_post (begun_primary_whole d) l h = to_post n b c (post_primary d)

  post_ends : (xs : List Terminal) (d : BeginsPost xs) → begun_deep_post d ≤ n → HasShortRows xs → Ends (unary_of b xs)
  unfolding unary_of post_of primary_of head_of
  post_ends xs begun_post_none l h = refl
  post_ends xs (begun_post_primary r) l h = subst Ends (sym (primary_post r l h)) (goes_post n b c g xs (begun_post_primary r) l h)
  post_ends xs (begun_post_whole d) l h = ap left_of (c_unary n b c (unary_post d) l (low_unary h (unary_post d)) (lit< tt))

  -- behind a `(` stands a begun type: that of a cast, or an expression
  type_expr : {xs : List Terminal} → BeginsReference xs → 0 < n → cast_ahead xs ≡ false → HasShortRows xs → Ends (b.expr xs)
  type_expr begun_reference_none l e h = g.no_expr
  type_expr (begun_reference_name r) l e h = let d = name_begins r in g.expr d.0 (omega (arith, d.1)) h
  type_expr (begun_reference_name_pairs m begun_pairs_none) l e h = let d = name_begins (begun_name_whole m) in g.expr d.0 (omega (arith, d.1)) h
  type_expr (begun_reference_name_pairs {ids} {xs} m (begun_pairs_open {p})) l e h = o l ids xs p m
  type_expr (begun_reference_name_pairs m (begun_pairs_more q)) l e h = absurd (true≢false (sym (name_cast m (rw (reads_name m refl) refl)) ∙ e))
  type_expr (begun_reference_prim_pairs m q) l e h = absurd (true≢false (sym (prim_ahead m) ∙ e))
  type_expr (begun_reference_whole (reference_name m pairs_none)) l e h = let d = name_begins (begun_name_whole m) in g.expr d.0 (omega (arith, d.1)) h
  type_expr (begun_reference_whole (reference_name m (pairs_more q))) l e h = absurd (true≢false (sym (name_cast m (rw (reads_name m refl) refl)) ∙ e))
  type_expr (begun_reference_whole (reference_prim m q)) l e h = absurd (true≢false (sym (prim_ahead m) ∙ e))

  -- an expression in parentheses
  paren_ends : (p : ℕ) (xs : List Terminal) → Ends (b.expr xs) → Ends (post_of b (Punct p paren_open ∷ xs))
  unfolding post_of head_of steps_of
  paren_ends p xs h = ends_bind (primary_of b (Punct p paren_open ∷ xs)) _ (head_primary n b c g (Punct p paren_open ∷ xs) (inl (ends_bind (b.expr xs) _ h (λ x. refl)))) (λ x. refl)

  cast_type : (p : ℕ) (xs : List Terminal) → BeginsReference xs → 0 < n → HasShortRows xs → (t : Bool) → cast_ahead xs ≡ t → Ends (unary_of b (Punct p paren_open ∷ xs))
  unfolding unary_of cast_of
  cast_type p xs r l h true e = rw e (ends_bind (ty_of xs) _ (goes_ty xs (reference_begins_ty r) h) (λ x. refl))
  cast_type p xs r l h false e = rw e (paren_ends p xs (type_expr r l e h))

  -- a type that is no bare primitive in parentheses, and nothing behind it
  cast_seen : (p : ℕ) {q : ℕ} {r : TypeTree} {xs : List Terminal} (m : DerivesReference r xs (Punct q paren_close ∷ [])) → HasShortRows xs → cast_ahead xs ≡ true → Ends (unary_of b (Punct p paren_open ∷ xs))
  unfolding unary_of cast_of
  cast_seen p m h e = let t' = is_ty m in rw e (rw (reads_ty t'.0 (omega (arith, t'.1, low_reference h m)) refl refl) (rw t'.2 refl))

  name_closed : (p : ℕ) {q : ℕ} {ids : List Identifier} {xs : List Terminal} → DerivesName ids xs (Punct q paren_close ∷ []) → 0 < n → Ends (unary_of b (Punct p paren_open ∷ xs))
  unfolding unary_of post_of primary_of head_of suffixes_of steps_of
  name_closed p m l =
      let e = named m refl in
      rw (name_test m ∙ ap is_cast (reads_name m refl)) (rw (c.expr e.1 (omega (arith, e.2)) (omega (arith, e.3)) (lit< tt)) refl)

  cast_closed : (p : ℕ) {q : ℕ} {r : TypeTree} {xs : List Terminal} (m : DerivesReference r xs (Punct q paren_close ∷ [])) → 0 < n → HasShortRows xs → Ends (unary_of b (Punct p paren_open ∷ xs))
  cast_closed p (reference_name m pairs_none) l h = name_closed p m l
  cast_closed p (reference_name {i} m (pairs_more {p = a} {q = z} d)) l h =
      cast_seen p (reference_name {i = i} m (pairs_more {p = a} {q = z} d)) h (name_cast m (rw (reads_name m refl) refl))
  cast_closed p (reference_prim m d) l h = cast_seen p (reference_prim m d) h (prim_ahead m)

  cast_plain : (p : ℕ) {q : ℕ} {r : TypeTree} {xs : List Terminal} (zs : List Terminal) (m : DerivesReference r xs (Punct q paren_close ∷ zs)) (d : BeginsPlain zs) → begun_deep_plain d < n → HasShortRows xs → Ends (unary_of b (Punct p paren_open ∷ xs))
  unfolding unary_of cast_of
  cast_plain p [] m d l h = cast_closed p m (omega arith) h
  cast_plain p (z ∷ zs) m d l h =
      let u = plain_begins_unary d in
      let t' = is_ty m in
      let w = begun_plain d in
      rw (reference_ahead m w) (rw (reads_ty t'.0 (omega (arith, t'.1, low_reference h m)) refl refl) (rw (t'.2, w)
      (ends_bind (b.unary (z ∷ zs)) _ (g.unary u.0 (omega (arith, u.1)) (rows_behind (closed_reference m) h).1) (λ x. refl))))

  pub goes_cast : GoesCast n b
  unfolding unary_of cast_of post_of primary_of head_of
  goes_cast vs begun_cast_none l h = refl
  goes_cast vs (begun_cast_type {p} {xs} r) l h = cast_type p xs r l h.1 (cast_ahead xs) refl
  goes_cast vs (begun_cast_prim {zs} m r) l h =
      rw (prim_ahead m) (rw (reads_ty (ty (base_prim m) pairs_none) (omega arith) refl refl) (rw (prim_not_named m)
      (ends_bind (b.unary zs) _ (g.unary r (omega arith) (rows_behind (closed_prim m) h.1).1) (λ x. refl))))
  goes_cast vs (begun_cast_reference {p} {zs} m r) l h = cast_plain p zs m r l h.1
  goes_cast vs (begun_cast_whole d) l h = ap left_of (c_cast n b c d l (low_cast h d) (lit< tt))

  signed_begun : (p o' : ℕ) (xs : List Terminal) → IsBegunStart xs → signed_of b p o' xs ≡ signed_by b p o' xs
  unfolding signed_of
  signed_begun p o' [] s = refl
  signed_begun p o' (Minimum q ∷ xs) s = absurd (true≢false (sym s))
  signed_begun p o' (MinimumLong q ∷ xs) s = absurd (true≢false (sym s))
  signed_begun p o' (x ∷ xs) s = refl

  pub goes_unary : GoesUnary n b
  unfolding unary_of post_of primary_of head_of
  goes_unary vs begun_unary_none l h = refl
  goes_unary vs (begun_unary_sign {p} {o = a} {xs} s r) l h =
      rw (sign_no_step a s, s) (rw (signed_begun p a xs (begun_unary r)) (ends_bind (b.unary xs) _ (g.unary r l h.1) (λ x. refl)))
  goes_unary vs (begun_unary_step {xs} s r) l h = rw s (ends_bind (b.unary xs) _ (g.unary r l h.1) (λ x. refl))
  goes_unary vs (begun_unary_cast r) l h = goes_cast vs r l h
  goes_unary vs (begun_unary_post r) l h = post_ends vs r l h
  goes_unary vs (begun_unary_whole d) l h = ap left_of (c_unary n b c d l (low_unary h d) (lit< tt))

  pub goes_plain : GoesPlain n b
  goes_plain vs d l h = let u = plain_begins_unary d in goes_unary vs u.0 (omega (arith, u.1)) h
