-- A reader that asks for one more terminal at the end was given what begins its part: local variables, effects, and what stands in the
-- parentheses of a statement.
use Rattle.std.proofs.Common.{◌≡◌, ℕ, zero, suc, ◌⊎◌, inl, inr, true, nat_eq, List, [], ◌∷◌, length, sym, subst, true≢false, Ok, Some, Option}
use borrow.Author.Tests.{eqb-true}
use Rattle.jv_tree.specs.ExprTree.{ExprTree, ExprTrees}
use Rattle.jv_tree.specs.StmtTree.{VarTree, StmtTrees}
use Rattle.jv_grammar.specs.declared.terminal.Terminal.{Terminal}
use Rattle.jv_grammar.specs.declared.terminal.Terminal.TheVariants.{Ident, Keyword, Punct}
use Rattle.jv_grammar.specs.declared.form.Form.{Form}
use Rattle.jv_grammar.specs.declared.form.Form.TheVariants.{Target, Effect, Other}
use Rattle.jv_grammar.specs.Marks.{paren_open, paren_close, semicolon, comma, equals_sign, word_final, word_for}
use Rattle.jv_grammar.specs.TypeGrammar.{starts, starts_word}
use Rattle.jv_grammar.specs.ExprGrammar.{DerivesExpr}
use Rattle.jv_grammar.specs.StmtGrammar.{DerivesVar, var_alone, var_init, DerivesEffects, effects_one, effects_more, DerivesFirst, first_none, first_local, first_effects, DerivesOptional, optional_none, optional_some, DerivesUpdates, updates_none, updates_some}
use Rattle.jv_grammar.specs.Reader.{rest_of}
use Rattle.jv_grammar.specs.TypeReader.{ty_of}
use Rattle.jv_grammar.specs.ExprReader.{Below, expr_of, init_of}
use Rattle.jv_grammar.specs.StmtReader.{behind, behind_word, var_by, vars_up_to, vars_by, final_by, plain_by, local_by, begins_local, is_effect, effect_by, effects_up_to, effects_by, first_by, optional_by, updates_by, paren_by, ForHead, for_head_by}
use Rattle.jv_grammar.specs.ExprBegins.{BeginsExpr, begun_expr_whole}
use Rattle.jv_grammar.specs.StmtBegins.{BeginsVar, begun_var_none, begun_var_init, BeginsVars, begun_vars_none, begun_vars_one, begun_vars_more, BeginsLocal, begun_local_ty, begun_local_vars, begun_local_final_ty, begun_local_final_vars, BeginsEffects, begun_effects_none, begun_effects_one, begun_effects_more, BeginsFirst, begun_first_local, begun_first_effects, begun_first_whole, BeginsOptional, begun_optional_some, begun_optional_whole, BeginsUpdates, begun_updates_some, begun_updates_whole, BeginsStmt, begun_stmt_for, begun_stmt_for_first, begun_stmt_for_test, begun_stmt_for_updates, begun_stmt_for_body}
use Rattle.jv_grammar.proofs.Ending.{Stops}
use Rattle.jv_grammar.proofs.StuckLaw.{IsStuck, StuckBelow, StuckVar, StuckVars, StuckLocal, StuckEffect, StuckEffects, StuckForParts}
use Rattle.jv_grammar.proofs.Read.{bind_then, chosen, err_ok, ok_is, starts_is, closed_ok}
use Rattle.jv_grammar.proofs.Types.{derives_ty}
use Rattle.jv_grammar.proofs.Sound.{Sound, s_expr, s_init}
use Rattle.jv_grammar.proofs.StmtSound.{behind_ok, s_local}
use Rattle.jv_grammar.proofs.Stuck.{failing, err_is, ok_err, more_err, stops_then, stuck_ty}
use Rattle.jv_grammar.proofs.StuckHeads.{closed_stop}
use Rattle.jv_grammar.proofs.StuckReaders.{stuck_expr, stuck_init}

pub behind_stop : (n : ℕ) (xs : List Terminal) → behind n xs ≡ failing (List Terminal) [] → xs ≡ []
behind_stop n xs h = elim (chosen (starts n xs) _ _ _ h) [ inl w ↦ absurd (ok_err w.1) | inr w ↦ err_is w.1 ]

pub behind_word_stop : (n : ℕ) (xs : List Terminal) → behind_word n xs ≡ failing (List Terminal) [] → xs ≡ []
behind_word_stop n xs h = elim (chosen (starts_word n xs) _ _ _ h) [ inl w ↦ absurd (ok_err w.1) | inr w ↦ err_is w.1 ]

effect_derives : (f : Form) {e : ExprTree} {xs ys : List Terminal} → is_effect f ≡ true → DerivesExpr f e xs ys → DerivesExpr Effect e xs ys
effect_derives Target h d = absurd (true≢false (sym h))
effect_derives Effect h d = d
effect_derives Other h d = absurd (true≢false (sym h))

module _ (b : Below) (o : Sound b) where
  -- what is read derives
  pub var_derives : (xs : List Terminal) (r : VarTree × List Terminal) → var_by b xs ≡ Ok r → DerivesVar r.0 xs r.1
  unfolding var_by
  var_derives [] r h = absurd (err_ok h)
  var_derives (Ident i ∷ xs) r h = elim (chosen (starts equals_sign xs) _ _ _ h) [
    | inl w ↦ bind_then (init_of b (rest_of xs)) _ _ w.1 (λ x e k'.
        subst (λ (z : VarTree × List Terminal). DerivesVar z.0 (Ident i ∷ xs) z.1) (ok_is k')
        (subst (λ z. DerivesVar (record { name = i; init = Some x.0 }) (Ident i ∷ z) x.1) (sym (starts_is equals_sign xs w.0).1) (var_init (s_init b o (rest_of xs) x e).0)))
    | inr w ↦ subst (λ (z : VarTree × List Terminal). DerivesVar z.0 (Ident i ∷ xs) z.1) (ok_is w.1) var_alone
  ]
  var_derives (x ∷ xs) r h = absurd (err_ok h)

  pub effect_by_derives : (xs : List Terminal) (r : ExprTree × List Terminal) → effect_by b xs ≡ Ok r → DerivesExpr Effect r.0 xs r.1
  unfolding effect_by
  effect_by_derives xs r h = bind_then (expr_of b xs) _ _ h (λ x e h'. elim (chosen (is_effect x.0.0) _ _ _ h') [
    | inl w ↦ subst (λ (z : ExprTree × List Terminal). DerivesExpr Effect z.0 xs z.1) (ok_is w.1) (effect_derives x.0.0 w.0 (s_expr b o xs x e).0)
    | inr w ↦ absurd (err_ok w.1)
  ])

  effects_up_to_derive : (c : ℕ) (xs : List Terminal) (r : ExprTrees × List Terminal) → effects_up_to b c xs ≡ Ok r → DerivesEffects r.0 xs r.1
  unfolding effects_up_to
  effects_up_to_derive zero xs r h = absurd (err_ok h)
  effects_up_to_derive (suc c) xs r h = bind_then (effect_by b xs) _ _ h (λ x e h'. elim (chosen (starts comma x.1) _ _ _ h') [
    | inl w ↦ bind_then (effects_up_to b c (rest_of x.1)) _ _ w.1 (λ y e' k'.
        subst (λ (z : ExprTrees × List Terminal). DerivesEffects z.0 xs z.1) (ok_is k')
        (effects_more (subst (DerivesExpr Effect x.0 xs) (starts_is comma x.1 w.0).1 (effect_by_derives xs x e)) (effects_up_to_derive c (rest_of x.1) y e')))
    | inr w ↦ subst (λ (z : ExprTrees × List Terminal). DerivesEffects z.0 xs z.1) (ok_is w.1) (effects_one (effect_by_derives xs x e))
  ])

  effects_derive : (xs : List Terminal) (r : ExprTrees × List Terminal) → effects_by b xs ≡ Ok r → DerivesEffects r.0 xs r.1
  unfolding effects_by
  effects_derive xs r h = effects_up_to_derive (length xs) xs r h

  first_derives : (xs : List Terminal) (r : StmtTrees × List Terminal) → first_by b xs ≡ Ok r → DerivesFirst r.0 xs r.1
  unfolding first_by
  first_derives xs r h = elim (chosen (starts semicolon xs) _ _ _ h) [
    | inl w ↦ subst (λ (z : StmtTrees × List Terminal). DerivesFirst z.0 xs z.1) (ok_is w.1) first_none
    | inr w ↦ elim (chosen (begins_local xs) _ _ _ w.1) [
      | inl v ↦ bind_then (local_by b xs) _ _ v.1 (λ x e k'. subst (λ (z : StmtTrees × List Terminal). DerivesFirst z.0 xs z.1) (ok_is k') (first_local (s_local b o xs x e).0))
      | inr v ↦ bind_then (effects_by b xs) _ _ v.1 (λ x e k'. subst (λ (z : StmtTrees × List Terminal). DerivesFirst z.0 xs z.1) (ok_is k') (first_effects (effects_derive xs x e)))
    ]
  ]

  pub optional_derives : (xs : List Terminal) (r : Option ExprTree × List Terminal) → optional_by b xs ≡ Ok r → DerivesOptional r.0 xs r.1
  unfolding optional_by
  optional_derives xs r h = elim (chosen (starts semicolon xs) _ _ _ h) [
    | inl w ↦ subst (λ (z : Option ExprTree × List Terminal). DerivesOptional z.0 xs z.1) (ok_is w.1) optional_none
    | inr w ↦ bind_then (expr_of b xs) _ _ w.1 (λ x e k'. subst (λ (z : Option ExprTree × List Terminal). DerivesOptional z.0 xs z.1) (ok_is k') (optional_some (s_expr b o xs x e).0))
  ]

  updates_derive : (xs : List Terminal) (r : ExprTrees × List Terminal) → updates_by b xs ≡ Ok r → DerivesUpdates r.0 xs r.1
  unfolding updates_by
  updates_derive xs r h = elim (chosen (starts paren_close xs) _ _ _ h) [
    | inl w ↦ subst (λ (z : ExprTrees × List Terminal). DerivesUpdates z.0 xs z.1) (ok_is w.1) updates_none
    | inr w ↦ updates_some (effects_derive xs r w.1)
  ]

  pub paren_derives : (xs : List Terminal) (r : ExprTree × List Terminal) → paren_by b xs ≡ Ok r
      → (f : Form) × (p : ℕ) × (q : ℕ) × (zs : List Terminal) × (xs ≡ Punct p paren_open ∷ zs) × DerivesExpr f r.0 zs (Punct q paren_close ∷ r.1)
  unfolding paren_by
  paren_derives xs r h = bind_then (behind paren_open xs) _ _ h (λ ys e h'. bind_then (expr_of b ys) _ _ h' (λ x e' h''.
      let m = behind_ok paren_open xs ys e in
      let q = closed_ok paren_close x.0.1 x.1 r h'' in
      (x.0.0, m.0, q.0, ys, m.1, subst (λ v. DerivesExpr x.0.0 v ys (Punct q.0 paren_close ∷ r.1)) (sym q.2) (subst (DerivesExpr x.0.0 x.0.1 ys) q.1 (s_expr b o ys x e').0))))

  -- behind the head of a `for`
  pub for_body : (p : ℕ) (xs : List Terminal) (r : ForHead × List Terminal) → for_head_by b xs ≡ Ok r → BeginsStmt r.1 → BeginsStmt (Keyword p word_for ∷ xs)
  unfolding for_head_by
  for_body p xs r h t = bind_then (behind paren_open xs) _ _ h (λ ys e h1. bind_then (first_by b ys) _ _ h1 (λ i e1 h2. bind_then (behind semicolon i.1) _ _ h2 (λ zs e2 h3.
      bind_then (optional_by b zs) _ _ h3 (λ c e3 h4. bind_then (behind semicolon c.1) _ _ h4 (λ ws e4 h5. bind_then (updates_by b ws) _ _ h5 (λ u e5 h6.
      subst (λ z. BeginsStmt (Keyword p word_for ∷ z)) (sym (behind_ok paren_open xs ys e).1) (begun_stmt_for_body
      (subst (DerivesFirst i.0 ys) (behind_ok semicolon i.1 zs e2).1 (first_derives ys i e1))
      (subst (DerivesOptional c.0 zs) (behind_ok semicolon c.1 ws e4).1 (optional_derives zs c e3))
      (subst (DerivesUpdates u.0 ws) (closed_ok paren_close (record { first = i.0; condition = c.0; updates = u.0 }) u.1 r h6).1 (updates_derive ws u e5))
      t)))))))

module _ (b : Below) (o : Sound b) (k : StuckBelow b) where
  pub stuck_var : StuckVar b
  unfolding var_by
  stuck_var [] h = begun_var_none
  stuck_var (Ident i ∷ xs) h = elim (chosen (starts equals_sign xs) _ _ _ h) [
    | inl w ↦ (let m = starts_is equals_sign xs w.0 in
        subst (λ z. BeginsVar (Ident i ∷ z)) (sym m.1) (begun_var_init (stops_then (init_of b (rest_of xs)) _ w.1 (stuck_init b o k (rest_of xs)) (λ y e k'. absurd (ok_err k')))))
    | inr w ↦ absurd (ok_err w.1)
  ]
  stuck_var (x ∷ xs) h = absurd (more_err h)

  stuck_vars_up_to : (c : ℕ) → IsStuck (vars_up_to b c) BeginsVars
  unfolding vars_up_to
  stuck_vars_up_to zero xs h = subst BeginsVars (sym (err_is h)) begun_vars_none
  stuck_vars_up_to (suc c) xs h = stops_then (var_by b xs) _ h (λ q. begun_vars_one (stuck_var xs q)) (λ x e h'.
      elim (chosen (starts comma x.1) _ _ _ h') [
        | inl w ↦ stops_then (vars_up_to b c (rest_of x.1)) _ w.1
            (λ q. begun_vars_more (subst (DerivesVar x.0 xs) (starts_is comma x.1 w.0).1 (var_derives b o xs x e)) (stuck_vars_up_to c (rest_of x.1) q))
            (λ y e' k'. absurd (ok_err k'))
        | inr w ↦ absurd (ok_err w.1)
      ])

  stuck_vars_by : IsStuck (vars_by b) BeginsVars
  unfolding vars_by
  stuck_vars_by xs h = stuck_vars_up_to (length xs) xs h

  pub stuck_vars : StuckVars b
  stuck_vars = (stuck_vars_up_to, stuck_vars_by)

  stuck_final : (p : ℕ) → IsStuck (final_by b p) (λ xs. BeginsLocal (Keyword p word_final ∷ xs))
  unfolding final_by
  stuck_final p xs h = stops_then (ty_of xs) _ h (λ q. begun_local_final_ty (stuck_ty xs q)) (λ x e h'.
      stops_then (vars_by b x.1) _ h' (λ q. begun_local_final_vars (derives_ty xs x e).0 (stuck_vars_by x.1 q)) (λ y e' k'. absurd (ok_err k')))

  stuck_plain : IsStuck (plain_by b) BeginsLocal
  unfolding plain_by
  stuck_plain xs h = stops_then (ty_of xs) _ h (λ q. begun_local_ty (stuck_ty xs q)) (λ x e h'.
      stops_then (vars_by b x.1) _ h' (λ q. begun_local_vars (derives_ty xs x e).0 (stuck_vars_by x.1 q)) (λ y e' k'. absurd (ok_err k')))

  pub stuck_local_by : IsStuck (local_by b) BeginsLocal
  unfolding local_by
  stuck_local_by [] h = stuck_plain [] h
  stuck_local_by (Keyword p j ∷ xs) h = elim (chosen (nat_eq j word_final) _ _ _ h) [
    | inl w ↦ subst (λ n. BeginsLocal (Keyword p n ∷ xs)) (sym (eqb-true j word_final w.0)) (stuck_final p xs w.1)
    | inr w ↦ stuck_plain (Keyword p j ∷ xs) w.1
  ]
  stuck_local_by (x ∷ xs) h = stuck_plain (x ∷ xs) h

  pub stuck_local : StuckLocal b
  stuck_local = (stuck_final, stuck_plain, stuck_local_by)

  pub stuck_effect : StuckEffect b
  unfolding effect_by
  stuck_effect xs h = stops_then (expr_of b xs) _ h (stuck_expr b o k xs) (λ x e h'. elim (chosen (is_effect x.0.0) _ _ _ h') [
    | inl w ↦ absurd (ok_err w.1)
    | inr w ↦ begun_expr_whole (subst (DerivesExpr x.0.0 x.0.1 xs) (err_is w.1) (s_expr b o xs x e).0)
  ])

  stuck_effects_up_to : (c : ℕ) → IsStuck (effects_up_to b c) BeginsEffects
  unfolding effects_up_to
  stuck_effects_up_to zero xs h = subst BeginsEffects (sym (err_is h)) begun_effects_none
  stuck_effects_up_to (suc c) xs h = stops_then (effect_by b xs) _ h (λ q. begun_effects_one (stuck_effect xs q)) (λ x e h'.
      elim (chosen (starts comma x.1) _ _ _ h') [
        | inl w ↦ stops_then (effects_up_to b c (rest_of x.1)) _ w.1
            (λ q. begun_effects_more (subst (DerivesExpr Effect x.0 xs) (starts_is comma x.1 w.0).1 (effect_by_derives b o xs x e)) (stuck_effects_up_to c (rest_of x.1) q))
            (λ y e' k'. absurd (ok_err k'))
        | inr w ↦ absurd (ok_err w.1)
      ])

  stuck_effects_by : IsStuck (effects_by b) BeginsEffects
  unfolding effects_by
  stuck_effects_by xs h = stuck_effects_up_to (length xs) xs h

  pub stuck_effects : StuckEffects b
  stuck_effects = (stuck_effects_up_to, stuck_effects_by)

  stuck_first : IsStuck (first_by b) BeginsFirst
  unfolding first_by
  stuck_first xs h = elim (chosen (starts semicolon xs) _ _ _ h) [
    | inl w ↦ absurd (ok_err w.1)
    | inr w ↦ elim (chosen (begins_local xs) _ _ _ w.1) [
      | inl v ↦ begun_first_local (stops_then (local_by b xs) _ v.1 (stuck_local_by xs) (λ y e k'. absurd (ok_err k')))
      | inr v ↦ begun_first_effects (stops_then (effects_by b xs) _ v.1 (stuck_effects_by xs) (λ y e k'. absurd (ok_err k')))
    ]
  ]

  pub stuck_optional : IsStuck (optional_by b) BeginsOptional
  unfolding optional_by
  stuck_optional xs h = elim (chosen (starts semicolon xs) _ _ _ h) [
    | inl w ↦ absurd (ok_err w.1)
    | inr w ↦ begun_optional_some (stops_then (expr_of b xs) _ w.1 (stuck_expr b o k xs) (λ y e k'. absurd (ok_err k')))
  ]

  stuck_updates : IsStuck (updates_by b) BeginsUpdates
  unfolding updates_by
  stuck_updates xs h = elim (chosen (starts paren_close xs) _ _ _ h) [ inl w ↦ absurd (ok_err w.1) | inr w ↦ begun_updates_some (stuck_effects_by xs w.1) ]

  pub stuck_for_parts : StuckForParts b
  stuck_for_parts = (stuck_first, stuck_optional, stuck_updates)

  -- in front of a `(`, or behind it
  pub stuck_paren : (xs : List Terminal) → Stops (paren_by b xs) → (xs ≡ []) ⊎ ((q : ℕ) × (zs : List Terminal) × (xs ≡ Punct q paren_open ∷ zs) × BeginsExpr zs)
  unfolding paren_by
  stuck_paren xs h = stops_then (behind paren_open xs) _ h (λ q. inl (behind_stop paren_open xs q)) (λ ys e h'.
      let m = behind_ok paren_open xs ys e in
      inr (
        m.0,
        ys,
        m.1,
        stops_then (expr_of b ys) _ h' (stuck_expr b o k ys)
            (λ x e' k'. begun_expr_whole (subst (DerivesExpr x.0.0 x.0.1 ys) (closed_stop paren_close x.0.1 x.1 k') (s_expr b o ys x e').0)),
      ))

  pub stuck_for_head : (p : ℕ) (xs : List Terminal) → Stops (for_head_by b xs) → BeginsStmt (Keyword p word_for ∷ xs)
  unfolding for_head_by
  stuck_for_head p xs h = stops_then (behind paren_open xs) _ h (λ q. subst (λ z. BeginsStmt (Keyword p word_for ∷ z)) (sym (behind_stop paren_open xs q)) begun_stmt_for) (λ ys e h1.
      subst (λ z. BeginsStmt (Keyword p word_for ∷ z)) (sym (behind_ok paren_open xs ys e).1)
      (stops_then (first_by b ys) _ h1 (λ q. begun_stmt_for_first (stuck_first ys q)) (λ i e1 h2.
      stops_then (behind semicolon i.1) _ h2 (λ q. begun_stmt_for_first (begun_first_whole (subst (DerivesFirst i.0 ys) (behind_stop semicolon i.1 q) (first_derives b o ys i e1)))) (λ zs e2 h3.
      let f = subst (DerivesFirst i.0 ys) (behind_ok semicolon i.1 zs e2).1 (first_derives b o ys i e1) in
      stops_then (optional_by b zs) _ h3 (λ q. begun_stmt_for_test f (stuck_optional zs q)) (λ c e3 h4.
      stops_then (behind semicolon c.1) _ h4 (λ q. begun_stmt_for_test f (begun_optional_whole (subst (DerivesOptional c.0 zs) (behind_stop semicolon c.1 q) (optional_derives b o zs c e3)))) (λ ws e4 h5.
      let g = subst (DerivesOptional c.0 zs) (behind_ok semicolon c.1 ws e4).1 (optional_derives b o zs c e3) in
      stops_then (updates_by b ws) _ h5 (λ q. begun_stmt_for_updates f g (stuck_updates ws q)) (λ u e5 h6.
      begun_stmt_for_updates f g (begun_updates_whole (subst (DerivesUpdates u.0 ws) (closed_stop paren_close (record { first = i.0; condition = c.0; updates = u.0 }) u.1 h6) (updates_derive b o ws u e5))))))))))
