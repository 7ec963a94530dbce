-- What begins local variables, effects or a part of a `for` is read to its end.
use Rattle.std.proofs.Common.{◌≡◌, ℕ, zero, suc, ◌≤◌, Bool, true, false, List, [], ◌∷◌, length, arith, refl, sym, ap, ◌∙◌, subst, true≢false, Ok, Err, lit<}
use Rattle.jv_tree.specs.declared.name.Ident.{Ident as Identifier}
use Rattle.jv_tree.specs.TypeTree.{TypeTree}
use Rattle.jv_grammar.specs.declared.terminal.Terminal.{Terminal}
use Rattle.jv_grammar.specs.declared.terminal.Terminal.TheVariants.{Punct}
use Rattle.jv_grammar.specs.Marks.{paren_close, bracket_open, semicolon, word_final}
use Rattle.jv_grammar.specs.TypeGrammar.{starts_word, DerivesName, name_one, name_more, base_prim, base_name, pairs_none, pairs_more, DerivesTy, ty}
use Rattle.jv_grammar.specs.StmtGrammar.{var_alone, var_init, first_none, first_local, first_effects, optional_none, optional_some, updates_none, updates_some}
use Rattle.jv_grammar.specs.TypeReader.{ty_of, declares}
use Rattle.jv_grammar.specs.ExprReader.{Below, expr_of, init_of, below}
use Rattle.jv_grammar.specs.StmtReader.{var_by, vars_up_to, vars_by, final_by, plain_by, local_by, begins_local, is_effect, effect_by, effects_up_to, effects_by, first_by, optional_by, updates_by}
use Rattle.jv_grammar.specs.TypeBegins.{BeginsName, begun_name_whole, begun_base_none, begun_base_name, begun_base_whole, begun_pairs_none, begun_pairs_open, begun_pairs_more, BeginsTy, begun_ty_none, begun_ty_base, begun_ty_pairs, begun_ty_whole}
use Rattle.jv_grammar.specs.ExprBegins.{BeginsExpr, begun_expr_none, begun_expr_whole}
use Rattle.jv_grammar.specs.StmtBegins.{BeginsVar, begun_var_none, begun_var_init, begun_var_whole, BeginsVars, begun_vars_none, begun_vars_one, begun_vars_more, begun_vars_whole, BeginsLocal, begun_local_none, begun_local_ty, begun_local_vars, begun_local_final_ty, begun_local_final_vars, begun_local_whole, BeginsEffects, begun_effects_none, begun_effects_one, begun_effects_more, begun_effects_whole, BeginsFirst, begun_first_none, begun_first_local, begun_first_effects, begun_first_whole, BeginsOptional, begun_optional_none, begun_optional_some, begun_optional_whole, BeginsUpdates, begun_updates_none, begun_updates_some, begun_updates_whole}
use Rattle.jv_grammar.proofs.BegunDepth.{begun_deep_expr, begun_deep_var, begun_deep_vars, begun_deep_local, begun_deep_effects, begun_deep_first, begun_deep_optional, begun_deep_updates}
use Rattle.jv_grammar.proofs.Rows.{HasShortRows}
use Rattle.jv_grammar.proofs.Ending.{left_of, Ends}
use Rattle.jv_grammar.proofs.GoesLaw.{GoesBelow, GoesVars, GoesEffects, GoesFirst, GoesOptional, GoesUpdates}
use Rattle.jv_grammar.proofs.Depth.{less_expr}
use Rattle.jv_grammar.proofs.StmtDepth.{less_var}
use Rattle.jv_grammar.proofs.Read.{or_false}
use Rattle.jv_grammar.proofs.Types.{reads_name, reads_ty}
use Rattle.jv_grammar.proofs.Few.{closed_ty, closed_expr}
use Rattle.jv_grammar.proofs.StmtFew.{closed_var, few_var, few_vars, few_local, few_effects}
use Rattle.jv_grammar.proofs.Ahead.{declares_ty, name_declares, prim_declares}
use Rattle.jv_grammar.proofs.Complete.{Comp, comp, c_init}
use Rattle.jv_grammar.proofs.StmtStarts.{plain_local, local_seen}
use Rattle.jv_grammar.proofs.StmtComplete.{c_var, c_vars_up_to, c_local, c_effect, c_effects_up_to}
use Rattle.jv_grammar.proofs.Goes.{ends_bind}
use Rattle.jv_grammar.proofs.Cut.{none_left}
use Rattle.jv_grammar.proofs.GoesTypes.{ends_if, goes_ty}
use Rattle.jv_grammar.proofs.BegunRows.{few_rows, rows_behind, low_ty, low_expr, low_init}
use Rattle.jv_grammar.proofs.BegunStarts.{IsBegunStart, not_begun, begun_expr}
use Rattle.jv_grammar.proofs.GoesUnaries.{GoesBracket, name_begins}
use Rattle.jv_grammar.proofs.GoesExpressions.{both_go, goes_expr, goes_init, open_bracket_ends}
use Rattle.jv_grammar.proofs.BegunStmtStarts.{begun_vars, ty_local, local_apart, begun_effects, effects_no_local}

module _ (n : ℕ) (b : Below) (c : Comp n b) (g : GoesBelow n b) (o : GoesBracket n b) where
  goes_var : (xs : List Terminal) (d : BeginsVar xs) → begun_deep_var d ≤ n → HasShortRows xs → Ends (var_by b xs)
  unfolding var_by
  goes_var vs begun_var_none l h = refl
  goes_var vs (begun_var_init {xs} r) l h = ends_bind (init_of b xs) _ (goes_init n b c g o xs r l h.1.1) (λ x. refl)
  goes_var vs (begun_var_whole var_alone) l h = refl
  goes_var vs (begun_var_whole (var_init {xs} d)) l h = ends_bind (init_of b xs) _ (ap left_of (c_init n b c d l (low_init h.1.1 d) (lit< tt))) (λ x. refl)

  vars_go_up_to : (xs : List Terminal) (d : BeginsVars xs) (k : ℕ) → begun_deep_vars d ≤ n → HasShortRows xs → length xs ≤ k → Ends (vars_up_to b k xs)
  unfolding vars_up_to var_by
  vars_go_up_to xs begun_vars_none zero l h m = refl
  vars_go_up_to xs begun_vars_none (suc k) l h m = refl
  vars_go_up_to xs (begun_vars_one r) zero l h m = none_left xs m
  vars_go_up_to xs (begun_vars_one r) (suc k) l h m = ends_bind (var_by b xs) _ (goes_var xs r l h) (λ x. refl)
  vars_go_up_to xs (begun_vars_more d r) zero l h m = absurd (omega (arith, less_var d))
  vars_go_up_to xs (begun_vars_more {zs} d r) (suc k) l h m =
      rw (c_var n b c d (omega arith) (few_var (few_rows xs h) d) (lit< tt))
      (ends_bind (vars_up_to b k zs) _ (vars_go_up_to zs r k (omega arith) (rows_behind (closed_var d) h).1 (omega (arith, less_var d))) (λ x. refl))
  vars_go_up_to xs (begun_vars_whole d) k l h m = ap left_of (c_vars_up_to n b c d k l (few_vars (few_rows xs h) d) (lit< tt) refl m)

  pub vars_go : (xs : List Terminal) (d : BeginsVars xs) → begun_deep_vars d ≤ n → HasShortRows xs → Ends (vars_by b xs)
  unfolding vars_by
  vars_go xs d l h = vars_go_up_to xs d (length xs) l h (omega arith)

  plain_begun : (xs : List Terminal) → BeginsTy xs → HasShortRows xs → Ends (plain_by b xs)
  unfolding plain_by vars_by vars_up_to
  plain_begun xs r h = ends_bind (ty_of xs) _ (goes_ty xs r h) (λ x. refl)

  final_begun : (p : ℕ) (xs : List Terminal) → BeginsTy xs → HasShortRows xs → Ends (final_by b p xs)
  unfolding final_by vars_by vars_up_to
  final_begun p xs r h = ends_bind (ty_of xs) _ (goes_ty xs r h) (λ x. refl)

  plain_vars : {r : TypeTree} {xs zs : List Terminal} → DerivesTy r xs zs → (q : BeginsVars zs) → begun_deep_vars q ≤ n → HasShortRows xs → Ends (plain_by b xs)
  unfolding plain_by
  plain_vars {zs} d q l h =
      let i = begun_vars q in
      rw (reads_ty d (low_ty h d) i.1 i.2) (ends_bind (vars_by b zs) _ (vars_go zs q l (rows_behind (closed_ty d) h)) (λ x. refl))

  final_vars : (p : ℕ) {r : TypeTree} {xs zs : List Terminal} → DerivesTy r xs zs → (q : BeginsVars zs) → begun_deep_vars q ≤ n → HasShortRows xs → Ends (final_by b p xs)
  unfolding final_by
  final_vars p {zs} d q l h =
      let i = begun_vars q in
      rw (reads_ty d (low_ty h d) i.1 i.2) (ends_bind (vars_by b zs) _ (vars_go zs q l (rows_behind (closed_ty d) h)) (λ x. refl))

  pub locals_go : (xs : List Terminal) (d : BeginsLocal xs) → begun_deep_local d ≤ n → HasShortRows xs → Ends (local_by b xs)
  unfolding local_by
  locals_go vs begun_local_none l h = plain_begun [] begun_ty_none tt
  locals_go vs (begun_local_ty r) l h = subst Ends (sym (ty_local b r)) (plain_begun vs r h)
  locals_go vs (begun_local_vars d r) l h = subst Ends (sym (plain_local b d)) (plain_vars d r l h)
  locals_go vs (begun_local_final_ty {p} {xs} r) l h = final_begun p xs r h.1
  locals_go vs (begun_local_final_vars {p} d r) l h = final_vars p d r l h.1
  locals_go vs (begun_local_whole d) l h = ap left_of (c_local n b c d l (few_local (few_rows vs h) d) (lit< tt) refl)

  -- Where an expression ends, so do an effect and effects.
  pub effect_ends : (xs : List Terminal) → Ends (expr_of b xs) → Ends (effect_by b xs)
  unfolding effect_by
  effect_ends xs h = ends_bind (expr_of b xs) _ h (λ x. ends_if (is_effect x.0) (Ok (x.1, [])) (Err []) refl refl)

  effects_end : (xs : List Terminal) → Ends (expr_of b xs) → Ends (effects_by b xs)
  unfolding effects_by effects_up_to
  effects_end [] h = refl
  effects_end (x ∷ xs) h = ends_bind (effect_by b (x ∷ xs)) _ (effect_ends (x ∷ xs) h) (λ y. refl)

  effects_go_up_to : (xs : List Terminal) (d : BeginsEffects xs) (k : ℕ) → begun_deep_effects d ≤ n → HasShortRows xs → length xs ≤ k → Ends (effects_up_to b k xs)
  unfolding effects_up_to
  effects_go_up_to xs begun_effects_none zero l h m = refl
  effects_go_up_to xs begun_effects_none (suc k) l h m = ends_bind (effect_by b []) _ (effect_ends [] (goes_expr n b c g o [] begun_expr_none (omega arith) tt)) (λ x. refl)
  effects_go_up_to xs (begun_effects_one r) zero l h m = none_left xs m
  effects_go_up_to xs (begun_effects_one r) (suc k) l h m = ends_bind (effect_by b xs) _ (effect_ends xs (goes_expr n b c g o xs r l h)) (λ x. refl)
  effects_go_up_to xs (begun_effects_more d r) zero l h m = absurd (omega (arith, less_expr d))
  effects_go_up_to xs (begun_effects_more {zs} d r) (suc k) l h m =
      rw (c_effect n b c d (omega arith) (low_expr h d) (lit< tt))
      (ends_bind (effects_up_to b k zs) _ (effects_go_up_to zs r k (omega arith) (rows_behind (closed_expr d) h).1 (omega (arith, less_expr d))) (λ x. refl))
  effects_go_up_to xs (begun_effects_whole d) k l h m = ap left_of (c_effects_up_to n b c d k l (few_effects (few_rows xs h) d) (lit< tt) refl m)

  pub effects_go : (xs : List Terminal) (d : BeginsEffects xs) → begun_deep_effects d ≤ n → HasShortRows xs → Ends (effects_by b xs)
  unfolding effects_by
  effects_go xs d l h = effects_go_up_to xs d (length xs) l h (omega arith)

  -- Begun local variables that are not taken for such are read as an expression.
  abbrev Expressed : List Terminal → Type 0
  Expressed xs = IsBegunStart xs × Ends (expr_of b xs)

  name_expressed : {xs : List Terminal} → BeginsName xs → HasShortRows xs → Expressed xs
  name_expressed {xs} r h = let d = name_begins r in (begun_expr d.0, goes_expr n b c g o xs d.0 (omega (arith, d.1)) h)

  open_expressed : {ids : List Identifier} {xs : List Terminal} (p : ℕ) → DerivesName ids xs (Punct p bracket_open ∷ []) → Expressed xs
  open_expressed p (name_one {i}) = (refl, open_bracket_ends n b c g o p (name_one {i = i}))
  open_expressed p (name_more {i} {p = q} d) = (refl, open_bracket_ends n b c g o p (name_more {i = i} {p = q} d))

  ty_expressed : {xs : List Terminal} → BeginsTy xs → HasShortRows xs → declares xs ≡ false → Expressed xs
  ty_expressed begun_ty_none h e = (tt, goes_expr n b c g o [] begun_expr_none (omega arith) tt)
  ty_expressed (begun_ty_base begun_base_none) h e = (tt, goes_expr n b c g o [] begun_expr_none (omega arith) tt)
  ty_expressed (begun_ty_base (begun_base_name r)) h e = name_expressed r h
  ty_expressed (begun_ty_base (begun_base_whole (base_prim d))) h e = absurd (true≢false (sym (prim_declares d) ∙ e))
  ty_expressed (begun_ty_base (begun_base_whole (base_name d))) h e = name_expressed (begun_name_whole d) h
  ty_expressed (begun_ty_pairs (base_prim d) r) h e = absurd (true≢false (sym (prim_declares d) ∙ e))
  ty_expressed (begun_ty_pairs (base_name d) begun_pairs_none) h e = name_expressed (begun_name_whole d) h
  ty_expressed (begun_ty_pairs (base_name d) (begun_pairs_open {p})) h e = open_expressed p d
  ty_expressed (begun_ty_pairs (base_name d) (begun_pairs_more r)) h e = absurd (true≢false (sym (name_declares d (rw (reads_name d refl) refl)) ∙ e))
  ty_expressed (begun_ty_whole (ty (base_prim d) q)) h e = absurd (true≢false (sym (prim_declares d) ∙ e))
  ty_expressed (begun_ty_whole (ty (base_name d) pairs_none)) h e = name_expressed (begun_name_whole d) h
  ty_expressed (begun_ty_whole (ty (base_name d) (pairs_more q))) h e = absurd (true≢false (sym (name_declares d (rw (reads_name d refl) refl)) ∙ e))

  pub local_expressed : (xs : List Terminal) → BeginsLocal xs → HasShortRows xs → begins_local xs ≡ false → IsBegunStart xs × Ends (expr_of b xs)
  local_expressed vs begun_local_none h e = (tt, goes_expr n b c g o [] begun_expr_none (omega arith) tt)
  local_expressed vs (begun_local_ty r) h e = ty_expressed r h (or_false (starts_word word_final vs) (declares vs) e).1
  local_expressed vs (begun_local_vars {zs = []} d r) h e = ty_expressed (begun_ty_whole d) h (or_false (starts_word word_final vs) (declares vs) e).1
  local_expressed vs (begun_local_vars {zs = z ∷ zs} d r) h e =
      absurd (true≢false (sym (declares_ty d (begun_vars r).0) ∙ (or_false (starts_word word_final vs) (declares vs) e).1))
  local_expressed vs (begun_local_final_ty r) h e = absurd (true≢false e)
  local_expressed vs (begun_local_final_vars d r) h e = absurd (true≢false e)
  local_expressed vs (begun_local_whole d) h e = absurd (true≢false (sym (local_seen d) ∙ e))

  first_local_ends : (xs : List Terminal) (d : BeginsLocal xs) → begun_deep_local d ≤ n → HasShortRows xs → (t : Bool) → begins_local xs ≡ t → Ends (first_by b xs)
  unfolding first_by
  first_local_ends xs d l h true e = rw (local_apart semicolon d, e) (ends_bind (local_by b xs) _ (locals_go xs d l h) (λ x. refl))
  first_local_ends xs d l h false e = rw (local_apart semicolon d, e) (ends_bind (effects_by b xs) _ (effects_end xs (local_expressed xs d h e).1) (λ x. refl))

  first_effects_end : (xs : List Terminal) (d : BeginsEffects xs) → begun_deep_effects d ≤ n → HasShortRows xs → Ends (first_by b xs)
  unfolding first_by
  first_effects_end xs d l h = rw (not_begun semicolon xs refl (begun_effects d), effects_no_local d) (ends_bind (effects_by b xs) _ (effects_go xs d l h) (λ x. refl))

  pub first_go : (xs : List Terminal) (d : BeginsFirst xs) → begun_deep_first d ≤ n → HasShortRows xs → Ends (first_by b xs)
  first_go xs begun_first_none l h = first_effects_end [] begun_effects_none (omega arith) tt
  first_go xs (begun_first_local r) l h = first_local_ends xs r l h (begins_local xs) refl
  first_go xs (begun_first_effects r) l h = first_effects_end xs r l h
  first_go xs (begun_first_whole first_none) l h = first_effects_end [] begun_effects_none (omega arith) tt
  first_go xs (begun_first_whole (first_local d)) l h = first_local_ends xs (begun_local_whole d) l h (begins_local xs) refl
  first_go xs (begun_first_whole (first_effects d)) l h = first_effects_end xs (begun_effects_whole d) l h

  optional_ends : (xs : List Terminal) (d : BeginsExpr xs) → begun_deep_expr d ≤ n → HasShortRows xs → Ends (optional_by b xs)
  unfolding optional_by
  optional_ends xs d l h = rw (not_begun semicolon xs refl (begun_expr d)) (ends_bind (expr_of b xs) _ (goes_expr n b c g o xs d l h) (λ x. refl))

  pub optional_go : (xs : List Terminal) (d : BeginsOptional xs) → begun_deep_optional d ≤ n → HasShortRows xs → Ends (optional_by b xs)
  optional_go xs begun_optional_none l h = optional_ends [] begun_expr_none (omega arith) tt
  optional_go xs (begun_optional_some r) l h = optional_ends xs r l h
  optional_go xs (begun_optional_whole optional_none) l h = optional_ends [] begun_expr_none (omega arith) tt
  optional_go xs (begun_optional_whole (optional_some d)) l h = optional_ends xs (begun_expr_whole d) l h

  updates_end : (xs : List Terminal) (d : BeginsEffects xs) → begun_deep_effects d ≤ n → HasShortRows xs → Ends (updates_by b xs)
  unfolding updates_by
  updates_end xs d l h = rw (not_begun paren_close xs refl (begun_effects d)) (effects_go xs d l h)

  pub updates_go : (xs : List Terminal) (d : BeginsUpdates xs) → begun_deep_updates d ≤ n → HasShortRows xs → Ends (updates_by b xs)
  updates_go xs begun_updates_none l h = updates_end [] begun_effects_none (omega arith) tt
  updates_go xs (begun_updates_some r) l h = updates_end xs r l h
  updates_go xs (begun_updates_whole updates_none) l h = updates_end [] begun_effects_none (omega arith) tt
  updates_go xs (begun_updates_whole (updates_some d)) l h = updates_end xs (begun_effects_whole d) l h

-- The laws, at each depth of nesting.
pub goes_vars : GoesVars
goes_vars n = vars_go n (below n) (comp n) (both_go n).0 (both_go n).1

pub goes_effects : GoesEffects
goes_effects n = effects_go n (below n) (comp n) (both_go n).0 (both_go n).1

pub goes_first : GoesFirst
goes_first n = first_go n (below n) (comp n) (both_go n).0 (both_go n).1

pub goes_optional : GoesOptional
goes_optional n = optional_go n (below n) (comp n) (both_go n).0 (both_go n).1

pub goes_updates : GoesUpdates
goes_updates n = updates_go n (below n) (comp n) (both_go n).0 (both_go n).1
