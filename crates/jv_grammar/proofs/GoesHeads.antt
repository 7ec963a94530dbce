-- What begins a primary is read to its end. The head alone is not where it is a name with a dot at the end: its reader leaves that dot.
use Rattle.std.proofs.Common.{◌≡◌, ℕ, zero, suc, ◌<◌, ◌≤◌, ◌⊎◌, inl, inr, true, false, List, [], ◌∷◌, length, arith, refl, ap, Ok, lit<}
use Rattle.jv_tree.specs.declared.name.Ident.{Ident as Identifier}
use Rattle.jv_tree.specs.TypeTree.{BaseTree}
use Rattle.jv_tree.specs.ExprTree as t
use Rattle.jv_tree.specs.ExprTree.{ExprTree, KindTree, TargetTree}
use Rattle.jv_grammar.specs.declared.terminal.Terminal.{Terminal}
use Rattle.jv_grammar.specs.declared.terminal.Terminal.TheVariants.{Ident, Punct}
use Rattle.jv_grammar.specs.declared.form.Form.{Form}
use Rattle.jv_grammar.specs.declared.form.Form.TheVariants.{Target, Effect}
use Rattle.jv_grammar.specs.Marks.{paren_open, bracket_open, bracket_close, dot}
use Rattle.jv_grammar.specs.TypeGrammar.{starts, DerivesName, name_one, name_more, pairs_more}
use Rattle.jv_grammar.specs.ExprGrammar.{at_of, primary_head, head_name, head_call, head_new}
use Rattle.jv_grammar.specs.Reader.{Reads}
use Rattle.jv_grammar.specs.TypeReader.{base_of, pairs_of, starts_pair}
use Rattle.jv_grammar.specs.ExprReader.{Parsed, Below, run_of, args_of, list_of, sizes_of, array_of, new_of, member_of, done, head_of, suffixes_of, primary_of, steps_of, post_of}
use Rattle.jv_grammar.specs.TypeBegins.{BeginsName, begun_name_none, begun_name_more, begun_name_whole, BeginsPairs, begun_pairs_none, begun_pairs_open, begun_pairs_more}
use Rattle.jv_grammar.specs.ExprBegins.{begun_post_none, begun_post_primary, begun_post_whole, begun_primary_none, begun_primary_head, begun_primary_dot, begun_primary_call, begun_primary_index, begun_primary_whole, BeginsHead, begun_head_none, begun_head_paren, begun_head_name, begun_head_call, begun_head_super, begun_head_super_dot, begun_head_super_call, begun_head_new, begun_head_new_args, begun_head_new_dims, begun_head_new_pairs, begun_head_new_list, begun_head_whole, BeginsDims, begun_dims_none, begun_dims_size, begun_dims_more, begun_dims_pairs, begun_dims_whole, BeginsArgs, begun_args_none, begun_args_some, begun_args_whole}
use Rattle.jv_grammar.proofs.BegunDepth.{begun_deep_head, begun_deep_dims, begun_deep_args}
use Rattle.jv_grammar.proofs.Rows.{HasShortRows}
use Rattle.jv_grammar.proofs.Ending.{left_of, Ends}
use Rattle.jv_grammar.proofs.GoesLaw.{GoesBelow, GoesPrimary, GoesPost}
use Rattle.jv_grammar.proofs.Starts.{not_starts, start_expr}
use Rattle.jv_grammar.proofs.Types.{reads_base, reads_pairs}
use Rattle.jv_grammar.proofs.Few.{closed_name, closed_base, closed_pairs, closed_primary}
use Rattle.jv_grammar.proofs.Complete.{got, Comp, base_named, args_open, dims_open, c_head, c_primary, c_unary_post}
use Rattle.jv_grammar.proofs.Goes.{ends_bind, goes_base, goes_pairs}
use Rattle.jv_grammar.proofs.GoesTypes.{pairs_no_dot}
use Rattle.jv_grammar.proofs.BegunRows.{rows_behind, short_row, short_pairs, low_pairs, low_post, low_primary, low_head}
use Rattle.jv_grammar.proofs.BegunStarts.{not_begun, begun_expr, list_apart}
use Rattle.jv_grammar.proofs.GoesLists.{dims_row, goes_args, goes_list, sizes_pairs, goes_sizes}

-- the reader comes to the end, or stops in front of a dot that stands there
abbrev pub Halts : Reads Parsed → Type 0
Halts r = Ends r ⊎ ((x : Parsed) × (p : ℕ) × (r ≡ Ok (x, Punct p dot ∷ [])))

-- a run of a begun name comes to the end, or to the dot there
run_ends : (p : ℕ) {ids : List Identifier} {xs : List Terminal} → DerivesName ids xs [] → (run_of (Punct p dot ∷ xs)).1 ≡ []
unfolding run_of
run_ends p name_one = refl
run_ends p (name_more {p = q} d) = run_ends q d

run_halts : (p : ℕ) {xs : List Terminal} → BeginsName xs → ((run_of (Punct p dot ∷ xs)).1 ≡ []) ⊎ ((q : ℕ) × ((run_of (Punct p dot ∷ xs)).1 ≡ Punct q dot ∷ []))
unfolding run_of
run_halts p begun_name_none = inr (p, refl)
run_halts p (begun_name_more {p = q} r) = run_halts q r
run_halts p (begun_name_whole d) = inl (run_ends p d)

-- what dims begin with
dims_begun : {xs : List Terminal} → BeginsDims xs → (starts dot xs ≡ false) × (starts paren_open xs ≡ false)
dims_begun begun_dims_none = (refl, refl)
dims_begun (begun_dims_size r) = (refl, refl)
dims_begun (begun_dims_more d r) = (refl, refl)
dims_begun (begun_dims_pairs d r) = (refl, refl)
dims_begun (begun_dims_whole d) = let o = dims_open d in (o.0, o.1)

pub pairs_no_paren : {xs : List Terminal} → BeginsPairs xs → starts paren_open xs ≡ false
pairs_no_paren begun_pairs_none = refl
pairs_no_paren begun_pairs_open = refl
pairs_no_paren (begun_pairs_more r) = refl

module _ (n : ℕ) (b : Below) (c : Comp n b) (g : GoesBelow n b) where
  -- a new array behind its base
  sized : (p q : ℕ) (base : BaseTree) (xs : List Terminal) (d : BeginsDims xs) → starts_pair xs ≡ false → starts bracket_open xs ≡ true → begun_deep_dims d ≤ n → HasShortRows xs → Ends (array_of b p q base xs)
  sized p q base xs d s o l h = rw (s, o) (ends_bind (sizes_of b.expr 200 xs) _ (goes_sizes n b c g xs d 200 l h (short_row h (dims_row d))) (λ x. refl))

  array_dims : (p q : ℕ) (base : BaseTree) (xs : List Terminal) (d : BeginsDims xs) → begun_deep_dims d ≤ n → HasShortRows xs → Ends (array_of b p q base xs)
  array_dims p q base xs begun_dims_none l h = refl
  array_dims p q base vs (begun_dims_size {p = o} {xs} r) l h = sized p q base vs (begun_dims_size {p = o} r) (not_begun bracket_close xs refl (begun_expr r)) refl l h
  array_dims p q base vs (begun_dims_more {p = o} {xs} d r) l h = sized p q base vs (begun_dims_more {p = o} d r) (not_starts bracket_close xs refl (start_expr d)) refl l h
  array_dims p q base vs (begun_dims_pairs {p = o} {xs} d r) l h = sized p q base vs (begun_dims_pairs {p = o} d r) (not_starts bracket_close xs refl (start_expr d)) refl l h
  array_dims p q base xs (begun_dims_whole d) l h = let o = dims_open d in sized p q base xs (begun_dims_whole d) o.2 o.3 l h

  array_pairs : (p q : ℕ) (base : BaseTree) (xs : List Terminal) → BeginsPairs xs → HasShortRows xs → Ends (array_of b p q base xs)
  unfolding list_of
  array_pairs p q base xs begun_pairs_none h = refl
  array_pairs p q base vs (begun_pairs_open {p = o}) h = ends_bind (sizes_of b.expr 200 vs) _ (sizes_pairs n b c g (begun_pairs_open {p = o}) 200 (omega arith)) (λ x. refl)
  array_pairs p q base vs (begun_pairs_more {p = o} {q = r} d) h =
      ends_bind (pairs_of 200 vs) _ (goes_pairs (begun_pairs_more {p = o} {q = r} d) 200 (short_pairs h (begun_pairs_more {p = o} {q = r} d))) (λ x. refl)

  -- an identifier with what begins its arguments
  member_ends : (go : Form → ExprTree → List Terminal → Reads Parsed) → ((f : Form) (e : ExprTree) → Ends (go f e [])) → (p : ℕ) (target : TargetTree) (field : Identifier → KindTree) (i : Identifier) (xs : List Terminal) (d : BeginsArgs xs)
      → begun_deep_args d ≤ n → HasShortRows xs → Ends (member_of b.expr go p target field (Ident i ∷ xs))
  member_ends go end p target field i xs begun_args_none l h = end Target (t.expr p (field i))
  member_ends go end p target field i vs (begun_args_some {p = o} r) l h =
      ends_bind (args_of b.expr vs) _ (goes_args n b c g vs (begun_args_some {p = o} r) l h) (λ x. end Effect (t.expr p (t.call target i x)))
  member_ends go end p target field i xs (begun_args_whole d) l h =
      rw (args_open d).0 (ends_bind (args_of b.expr xs) _ (goes_args n b c g xs (begun_args_whole d) l h) (λ x. end Effect (t.expr p (t.call target i x))))

  -- a head that is a name halts
  goes_name_head : {xs : List Terminal} → BeginsName xs → Halts (head_of b xs)
  unfolding head_of
  goes_name_head begun_name_none = inl refl
  goes_name_head (begun_name_more {i} {p} {xs} r) = elim (run_halts p r) [
    | inl w ↦ inl w
    | inr w ↦ inr ((Target, t.expr i.at (t.name (i ∷ (run_of (Punct p dot ∷ xs)).0))), w.0, ap (got Target (t.expr i.at (t.name (i ∷ (run_of (Punct p dot ∷ xs)).0)))) w.1)
  ]
  goes_name_head (begun_name_whole (name_one {i})) = inl (ap left_of (c_head n b c (head_name (name_one {i = i}) refl) (omega arith) (omega arith)))
  goes_name_head (begun_name_whole (name_more {i} {p} d)) = inl (ap left_of (c_head n b c (head_name (name_more {i = i} {p = p} d) refl) (omega arith) (omega arith)))

  -- so each begun head does
  pub goes_head : {xs : List Terminal} (d : BeginsHead xs) → begun_deep_head d ≤ n → HasShortRows xs → Halts (head_of b xs)
  unfolding head_of new_of run_of list_of args_of
  goes_head begun_head_none l h = inl refl
  goes_head (begun_head_paren {xs} r) l h = inl (ends_bind (b.expr xs) _ (g.expr r l h.1) (λ x. refl))
  goes_head (begun_head_name r) l h = goes_name_head r
  goes_head (begun_head_call begun_args_none) l h = inl refl
  goes_head (begun_head_call (begun_args_some {p} {xs} r)) l h =
      inl (ends_bind (args_of b.expr (Punct p paren_open ∷ xs)) _ (goes_args n b c g (Punct p paren_open ∷ xs) (begun_args_some r) l h.1) (λ x. refl))
  goes_head (begun_head_call (begun_args_whole a)) l h = inl (ap left_of (c_head n b c (head_call a) l (low_head h (head_call a))))
  goes_head begun_head_super l h = inl refl
  goes_head begun_head_super_dot l h = inl refl
  goes_head (begun_head_super_call {i} {p} {xs} r) l h = inl (member_ends done (λ f e. refl) p t.super t.super_field i xs r l h.1.1.1)
  goes_head (begun_head_new {xs} r) l h = inl (ends_bind (base_of xs) _ (goes_base r) (λ x. refl))
  goes_head (begun_head_new_args m begun_args_none) l h = inl (rw (reads_base (base_named m).1 refl) refl)
  goes_head (begun_head_new_args m (begun_args_some {p} {xs} r)) l h =
      inl (rw (reads_base (base_named m).1 refl) (ends_bind (args_of b.expr (Punct p paren_open ∷ xs)) _ (goes_args n b c g (Punct p paren_open ∷ xs) (begun_args_some r) l (rows_behind (closed_name m) h.1)) (λ x. refl)))
  goes_head (begun_head_new_args {p} m (begun_args_whole a)) l h = inl (ap left_of (c_head n b c (head_new {p = p} m a) l (low_head h (head_new {p = p} m a))))
  goes_head (begun_head_new_dims {b = base} {p} {q} {zs} m r) l h =
      let o = dims_begun r in
      inl (rw (reads_base m o.0) (rw o.1 (array_dims p q base zs r l (rows_behind (closed_base m) h.1))))
  goes_head (begun_head_new_pairs {b = base} {p} {q} {zs} m r) l h =
      inl (rw (reads_base m (pairs_no_dot r)) (rw (pairs_no_paren r) (array_pairs p q base zs r (rows_behind (closed_base m) h.1))))
  goes_head (begun_head_new_list {ws} m (pairs_more {p} {q} d) r) l h =
      let k = rows_behind (closed_base m) h.1 in
      inl (rw (reads_base m refl) (rw (reads_pairs (pairs_more {p = p} {q = q} d) 200 (low_pairs k (pairs_more {p = p} {q = q} d)) (list_apart bracket_open refl r))
      (ends_bind (list_of b.init ws) _ (goes_list n b c g ws r l (rows_behind (closed_pairs d) k.1.1)) (λ x. refl))))
  goes_head (begun_head_whole d) l h = inl (ap left_of (c_head n b c d l (low_head h d)))

  suffix_none : (k : ℕ) (f : Form) (e : ExprTree) → Ends (suffixes_of b k f e [])
  unfolding suffixes_of
  suffix_none zero f e = refl
  suffix_none (suc k) f e = refl

  suffix_dot : (k : ℕ) (f : Form) (e : ExprTree) (p : ℕ) → 0 < k → Ends (suffixes_of b k f e (Punct p dot ∷ []))
  unfolding suffixes_of
  suffix_dot zero f e p l = absurd (omega arith)
  suffix_dot (suc k) f e p l = refl

  suffix_member : (k : ℕ) (f : Form) (e : ExprTree) (p : ℕ) (i : Identifier) (xs : List Terminal) (d : BeginsArgs xs) → begun_deep_args d ≤ n → HasShortRows xs → 0 < k → Ends (suffixes_of b k f e (Punct p dot ∷ Ident i ∷ xs))
  unfolding suffixes_of
  suffix_member zero f e p i xs d l h k = absurd (omega arith)
  suffix_member (suc m) f e p i xs d l h k = member_ends (suffixes_of b m) (suffix_none m) (at_of e) (t.on e) (t.field e) i xs d l h

  suffix_open : (k : ℕ) (f : Form) (e : ExprTree) (p : ℕ) (xs : List Terminal) → Ends (b.expr xs) → 0 < k → Ends (suffixes_of b k f e (Punct p bracket_open ∷ xs))
  unfolding suffixes_of
  suffix_open zero f e p xs h k = absurd (omega arith)
  suffix_open (suc m) f e p xs h k = ends_bind (b.expr xs) _ h (λ x. refl)

  pub head_primary : (xs : List Terminal) → Halts (head_of b xs) → Ends (primary_of b xs)
  unfolding primary_of
  head_primary xs (inl h) = ends_bind (head_of b xs) _ h (λ x. suffix_none (suc (length xs)) x.0 x.1)
  head_primary xs (inr w) = rw w.2 (suffix_dot (suc (length xs)) w.0.0 w.0.1 w.1 (omega arith))

  pub goes_primary : GoesPrimary n b
  unfolding primary_of head_of
  goes_primary xs begun_primary_none l h = refl
  goes_primary xs (begun_primary_head r) l h = head_primary xs (goes_head r l h)
  goes_primary xs (begun_primary_dot {f} {e} {p} d) l h =
      let m = c_primary n b c d l (low_primary h d) in
      rw m.2 (suffix_dot m.0 f e p (omega (arith, m.1)))
  goes_primary xs (begun_primary_call {f} {e} {i} {p} {zs} d r) l h =
      let m = c_primary n b c d (omega arith) (low_primary h d) in
      rw m.2 (suffix_member m.0 f e p i zs r (omega arith) (rows_behind (closed_primary d) h).1.1 (omega (arith, m.1)))
  goes_primary xs (begun_primary_index {f} {e} {p} {zs} d r) l h =
      let m = c_primary n b c d (omega arith) (low_primary h d) in
      rw m.2 (suffix_open m.0 f e p zs (g.expr r (omega arith) (rows_behind (closed_primary d) h).1) (omega (arith, m.1)))
  goes_primary xs (begun_primary_whole {f} {e} d) l h =
      let m = c_primary n b c d l (low_primary h d) in
      rw m.2 (suffix_none m.0 f e)

  pub goes_post : GoesPost n b
  unfolding post_of steps_of primary_of head_of
  goes_post xs begun_post_none l h = refl
  goes_post xs (begun_post_primary r) l h = ends_bind (primary_of b xs) _ (goes_primary xs r l h) (λ x. refl)
  goes_post xs (begun_post_whole d) l h = ap left_of (c_unary_post n b c d l (low_post h d) (lit< tt))

  -- a name with a bracket behind it that is open at the end
  bracket_at : {i : Identifier} {ids : List Identifier} {xs : List Terminal} (p : ℕ) → DerivesName (i ∷ ids) xs (Punct p bracket_open ∷ []) → Ends (primary_of b xs)
  bracket_at {i} {ids} p d =
      let m = c_primary n b c (primary_head (head_name d refl)) (omega arith) (omega arith) in
      rw m.2 (suffix_open m.0 Target (t.expr i.at (t.name (i ∷ ids))) p [] g.no_expr (omega (arith, m.1)))

  pub goes_bracket : {ids : List Identifier} {xs : List Terminal} (p : ℕ) → DerivesName ids xs (Punct p bracket_open ∷ []) → Ends (primary_of b xs)
  goes_bracket p (name_one {i}) = bracket_at p (name_one {i = i})
  goes_bracket p (name_more {i} {p = q} d) = bracket_at p (name_more {i = i} {p = q} d)
