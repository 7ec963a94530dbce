-- A reader that asks for one more terminal at the end was given what begins its part: casts, operators, expressions and initializers,
-- at each depth of nesting.
use Rattle.std.proofs.Common.{◌≡◌, ℕ, zero, suc, ◌≤◌, ◌||◌, ◌&&◌, not, inl, inr, true, false, cond, nat_eq, List, [], ◌∷◌, length, refl, sym, ap, ◌∙◌, subst, true≢false}
use Rattle.std.specs.List.{list_any}
use borrow.Author.Tests.{eqb-true, eq-eqb}
use Rattle.jv_tree.specs.TypeTree.{TypeTree}
use Rattle.jv_tree.specs.ExprTree.{ExprTree}
use Rattle.jv_tree.specs.Shaped.{IsOneOf, levels, instance_of, postfix_operators, assignment_operators}
use Rattle.jv_grammar.specs.declared.terminal.Terminal.{Terminal}
use Rattle.jv_grammar.specs.declared.terminal.Terminal.TheVariants.{Keyword, Minimum, MinimumLong, Punct}
use Rattle.jv_grammar.specs.declared.form.Form.{Form}
use Rattle.jv_grammar.specs.declared.form.Form.TheVariants.{Target, Effect, Other}
use Rattle.jv_grammar.specs.Marks.{paren_open, paren_close, brace_open, question_mark, colon, minus_sign, complements, signs, word_instanceof}
use Rattle.jv_grammar.specs.TypeGrammar.{starts, base_prim, base_name, pairs_none, pairs_more, DerivesTy, ty}
use Rattle.jv_grammar.specs.ExprGrammar.{begins_plain, IsCast, DerivesExpr, DerivesCond, cond_bin, DerivesBin, bin_unary, bin_one, link_operand, link_type, DerivesUnary, unary_sign, unary_step, unary_minimum, unary_minimum_long, unary_cast, unary_post, DerivesPlain, plain_sign, plain_cast, plain_post, DerivesPost, post_primary, DerivesPrimary}
use Rattle.jv_grammar.specs.Reader.{rest_of, closed}
use Rattle.jv_grammar.specs.TypeReader.{ty_of, is_named, is_bare, reference_of}
use Rattle.jv_grammar.specs.ExprReader.{Parsed, Below, list_of, cast_ahead, cast_of, signed_of, unary_of, is_mark_of, links_of, bin_of, cond_of, assigned_to, assigned_of, expr_of, init_of, below}
use Rattle.jv_grammar.specs.Width.{wide_ty}
use Rattle.jv_grammar.specs.TypeBegins.{begun_ty_whole}
use Rattle.jv_grammar.specs.ExprBegins.{BeginsExpr, begun_expr_none, begun_expr_assign, begun_expr_cond, begun_expr_whole, BeginsCond, begun_cond_none, begun_cond_bin, begun_cond_yes, begun_cond_no, begun_bin_unary, begun_bin_one, begun_bin_chain, BeginsLinks, begun_links_none, begun_links_one, begun_links_more, begun_link_operand, begun_link_type, BeginsUnary, begun_unary_none, begun_unary_sign, begun_unary_step, begun_unary_cast, begun_unary_post, begun_unary_whole, BeginsCast, begun_cast_type, begun_cast_prim, begun_cast_reference, BeginsPlain, begun_plain_none, begun_plain_sign, begun_plain_cast, begun_plain_post, begun_plain_whole, BeginsInit, begun_init_none, begun_init_expr, begun_init_list}
use Rattle.jv_grammar.proofs.Ending.{Stops}
use Rattle.jv_grammar.proofs.StuckLaw.{StuckBelow, StuckCast, StuckSigned, StuckUnary, StuckLinks, StuckBin, StuckCond, StuckExpr, StuckInit, ReadersAreStuck}
use Rattle.jv_grammar.proofs.Read.{chosen, either, both, or_either, or_false, not_true, starts_is, closed_ok, among}
use Rattle.jv_grammar.proofs.Types.{derives_ty, derives_reference, refers, prim_not_named, suc_not_zero}
use Rattle.jv_grammar.proofs.Ahead.{cast_seen}
use Rattle.jv_grammar.proofs.Sound.{Sound, sound, s_bin, s_cond}
use Rattle.jv_grammar.proofs.Stuck.{err_is, ok_err, more_err, stops_then, stuck_ty, ty_begins_reference, stuck_reference}
use Rattle.jv_grammar.proofs.StuckHeads.{closed_stop, stuck_list, stuck_post}

-- a unary that begins as a `plain` is one
plain_is : {f : Form} {e : ExprTree} {xs ys : List Terminal} → DerivesUnary f e xs ys → begins_plain xs ≡ true → DerivesPlain f e xs ys
plain_is (unary_sign {o} m d) h = elim (or_either (nat_eq o paren_open) (list_any (nat_eq o) complements) h) [
  | inl w ↦ absurd (true≢false (sym w ∙ among (λ n. nat_eq n paren_open ≡ false) signs o (refl, (refl, (refl, (refl, tt)))) m))
  | inr w ↦ plain_sign w d
]
plain_is (unary_step {o} m d) h =
    absurd (true≢false (sym h ∙ among (λ n. (nat_eq n paren_open || list_any (nat_eq n) complements) ≡ false) postfix_operators o (refl, (refl, tt)) m))
plain_is unary_minimum h = absurd (true≢false (sym h))
plain_is unary_minimum_long h = absurd (true≢false (sym h))
plain_is (unary_cast d) h = plain_cast d
plain_is (unary_post d) h = plain_post d

-- a begun one too
plain_begins : {xs : List Terminal} → BeginsUnary xs → begins_plain xs ≡ true → BeginsPlain xs
plain_begins begun_unary_none h = begun_plain_none
plain_begins (begun_unary_sign {o} m r) h = elim (or_either (nat_eq o paren_open) (list_any (nat_eq o) complements) h) [
  | inl w ↦ absurd (true≢false (sym w ∙ among (λ n. nat_eq n paren_open ≡ false) signs o (refl, (refl, (refl, (refl, tt)))) m))
  | inr w ↦ begun_plain_sign w r
]
plain_begins (begun_unary_step {o} m r) h =
    absurd (true≢false (sym h ∙ among (λ n. (nat_eq n paren_open || list_any (nat_eq n) complements) ≡ false) postfix_operators o (refl, (refl, tt)) m))
plain_begins (begun_unary_cast r) h = begun_plain_cast r
plain_begins (begun_unary_post r) h = begun_plain_post r
plain_begins (begun_unary_whole d) h = begun_plain_whole (plain_is d h)

-- a cast to a bare primitive type
bare_begins : {r : TypeTree} (p : ℕ) {q : ℕ} {xs zs : List Terminal} → DerivesTy r xs (Punct q paren_close ∷ zs) → is_bare r ≡ true → BeginsUnary zs → BeginsCast (Punct p paren_open ∷ xs)
bare_begins p (ty (base_prim m) pairs_none) h u = begun_cast_prim m u
bare_begins p (ty {b} (base_prim m) (pairs_more {n} d)) h u = absurd (true≢false (sym h ∙ by))
  where
    by : cond (is_named b) false (nat_eq (suc n) 0) ≡ false
    by = rw (prim_not_named m, suc_not_zero n) refl
bare_begins p (ty (base_name m) d) h u = absurd (true≢false (sym h))

-- what can be assigned is a primary
target_post : {e : ExprTree} {xs ys : List Terminal} → DerivesPost Target e xs ys → DerivesPrimary Target e xs ys
target_post (post_primary d) = d

target_unary : {e : ExprTree} {xs ys : List Terminal} → DerivesUnary Target e xs ys → DerivesPrimary Target e xs ys
target_unary (unary_post d) = target_post d

target_bin : {rest : List (List ℕ)} {e : ExprTree} {xs ys : List Terminal} → DerivesBin rest Target e xs ys → DerivesPrimary Target e xs ys
target_bin (bin_unary d) = target_unary d
target_bin (bin_one d) = target_bin d

target_cond : {e : ExprTree} {xs ys : List Terminal} → DerivesCond Target e xs ys → DerivesPrimary Target e xs ys
target_cond (cond_bin d) = target_bin d

module _ (b : Below) (s : Sound b) (k : StuckBelow b) where
  pub stuck_cast : StuckCast b
  unfolding cast_of
  stuck_cast p xs h = stops_then (ty_of xs) _ h (λ q. begun_cast_type (ty_begins_reference (stuck_ty xs q))) (λ x e h'.
      stops_then (closed paren_close x.0 x.1) _ h'
      (λ q. begun_cast_type (ty_begins_reference (begun_ty_whole (subst (DerivesTy x.0 xs) (closed_stop paren_close x.0 x.1 q) (derives_ty xs x e).0))))
      (λ y e' h''.
      let q = closed_ok paren_close x.0 x.1 y e' in
      let d : (d' : DerivesTy y.0 xs (Punct q.0 paren_close ∷ y.1)) × (wide_ty d' ≤ 200) =
      subst (λ z. (d' : DerivesTy z xs (Punct q.0 paren_close ∷ y.1)) × (wide_ty d' ≤ 200)) (sym q.2)
      (subst (λ z. (d' : DerivesTy x.0 xs z) × (wide_ty d' ≤ 200)) q.1 (derives_ty xs x e)) in
      elim (chosen (is_bare y.0 || begins_plain y.1) _ _ _ h'') [
        | inl w ↦ stops_then (b.unary y.1) _ w.1
            (λ u. elim (either (is_bare y.0)) [
              | inl bare ↦ bare_begins p d.0 bare (k.unary y.1 u)
              | inr boxed ↦ (let plain = elim (or_either (is_bare y.0) (begins_plain y.1) w.0) as (λ z. begins_plain y.1 ≡ true) [ inl z ↦ absurd (true≢false (sym z ∙ boxed)) | inr z ↦ z ] in
                  begun_cast_reference (refers d.0 d.1 boxed).0 (plain_begins (k.unary y.1 u) plain))
            ])
            (λ u o k'. absurd (ok_err k'))
        | inr w ↦ begun_cast_reference (refers d.0 d.1 (or_false (is_bare y.0) (begins_plain y.1) w.0).0).0 (subst BeginsPlain (sym (err_is w.1)) begun_plain_none)
      ]))

  pub stuck_signed : StuckSigned b
  unfolding signed_of
  stuck_signed p o m [] h = begun_unary_sign m begun_unary_none
  stuck_signed p o m (Minimum q ∷ xs) h = elim (chosen (nat_eq o minus_sign) _ _ _ h) [ inl w ↦ absurd (ok_err w.1) | inr w ↦ absurd (more_err w.1) ]
  stuck_signed p o m (MinimumLong q ∷ xs) h = elim (chosen (nat_eq o minus_sign) _ _ _ h) [ inl w ↦ absurd (ok_err w.1) | inr w ↦ absurd (more_err w.1) ]
  stuck_signed p o m (x ∷ xs) h = begun_unary_sign m (stops_then (b.unary (x ∷ xs)) _ h (λ q. k.unary (x ∷ xs) q) (λ y e k'. absurd (ok_err k')))

  pub stuck_unary : StuckUnary b
  unfolding unary_of
  stuck_unary [] h = begun_unary_none
  stuck_unary (Punct p o ∷ xs) h = elim (chosen (list_any (nat_eq o) postfix_operators) _ _ _ h) [
    | inl w ↦ begun_unary_step w.0 (stops_then (b.unary xs) _ w.1 (λ q. k.unary xs q) (λ y e k'. absurd (ok_err k')))
    | inr w ↦ elim (chosen (list_any (nat_eq o) signs) _ _ _ w.1) [
      | inl v ↦ stuck_signed p o v.0 xs v.1
      | inr v ↦ elim (chosen (nat_eq o paren_open && cast_ahead xs) _ _ _ v.1) [
        | inl u ↦ (let m = both (nat_eq o paren_open) (cast_ahead xs) u.0 in
            begun_unary_cast (subst (λ n. BeginsCast (Punct p n ∷ xs)) (sym (eqb-true o paren_open m.0)) (stuck_cast p xs u.1)))
        | inr u ↦ begun_unary_post (stuck_post b s k (Punct p o ∷ xs) (λ q zs e c. by q zs e c u.0) u.1)
      ]
    ]
  ]
    where
      by : (q : ℕ) (zs : List Terminal) → Punct p o ∷ xs ≡ Punct q paren_open ∷ zs → IsCast zs → nat_eq o paren_open && cast_ahead xs ≡ false → ⊥
      by q zs e c other =
          let same : xs ≡ zs = ap (λ z. rest_of z) e in
          let zero_is : o ≡ 0 = cc in
          let first : nat_eq o paren_open ≡ true = eq-eqb o 0 zero_is in
          let ahead : cast_ahead xs ≡ true = ap cast_ahead same ∙ cast_seen zs c in
          true≢false (sym (rw (first, ahead) refl) ∙ other)
  stuck_unary (x ∷ xs) h = begun_unary_post (stuck_post b s k (x ∷ xs) (λ p zs e c. cc) h)

  pub stuck_links : StuckLinks b
  unfolding links_of
  stuck_links level tighter ih zero xs h = subst (BeginsLinks level tighter) (sym (err_is h)) begun_links_none
  stuck_links level tighter ih (suc c) [] h = absurd (ok_err h)
  stuck_links level tighter ih (suc c) (Punct p o ∷ xs) h = elim (chosen (is_mark_of level o) _ _ _ h) [
    | inl w ↦ (let m = both (list_any (nat_eq o) level) (not (nat_eq o instance_of)) w.0 in
        let other : o ≡ instance_of → ⊥ = λ e. true≢false (sym (eq-eqb o instance_of e) ∙ not_true _ m.1) in
        stops_then (bin_of b tighter xs) _ w.1 (λ q. begun_links_one (begun_link_operand (m.0, other) (ih xs q))) (λ x e h'.
        stops_then (links_of (bin_of b tighter) level c x.1) _ h'
        (λ q. begun_links_more (link_operand {p = p} (m.0, other) (s_bin b s tighter xs x e).0) (stuck_links level tighter ih c x.1 q))
        (λ y e' k'. absurd (ok_err k'))))
    | inr w ↦ absurd (ok_err w.1)
  ]
  stuck_links level tighter ih (suc c) (Keyword p v ∷ xs) h = elim (chosen (nat_eq v word_instanceof && list_any (nat_eq instance_of) level) _ _ _ h) [
    | inl w ↦ (let m = both (nat_eq v word_instanceof) (list_any (nat_eq instance_of) level) w.0 in
        subst (λ n. BeginsLinks level tighter (Keyword p n ∷ xs)) (sym (eqb-true v word_instanceof m.0))
        (stops_then (reference_of xs) _ w.1 (λ q. begun_links_one (begun_link_type m.1 (stuck_reference xs q))) (λ x e h'.
        stops_then (links_of (bin_of b tighter) level c x.1) _ h'
        (λ q. begun_links_more (link_type {p = p} m.1 (derives_reference xs x e).0) (stuck_links level tighter ih c x.1 q))
        (λ y e' k'. absurd (ok_err k')))))
    | inr w ↦ absurd (ok_err w.1)
  ]
  stuck_links level tighter ih (suc c) (x ∷ xs) h = absurd (ok_err h)

  pub stuck_bin : StuckBin b
  unfolding bin_of
  stuck_bin [] xs h = begun_bin_unary (stuck_unary xs h)
  stuck_bin (level ∷ tighter) xs h = stops_then (bin_of b tighter xs) _ h (λ q. begun_bin_one (stuck_bin tighter xs q)) (λ x e h'.
      stops_then (links_of (bin_of b tighter) level (suc (length xs)) x.1) _ h'
      (λ q. begun_bin_chain (s_bin b s tighter xs x e).0 (stuck_links level tighter (stuck_bin tighter) (suc (length xs)) x.1 q))
      (λ y e' k'. absurd (ok_err k')))

  pub stuck_cond : StuckCond b
  unfolding cond_of
  stuck_cond xs h = stops_then (bin_of b levels xs) _ h (λ q. begun_cond_bin (stuck_bin levels xs q)) (λ x e h'.
      elim (chosen (starts question_mark x.1) _ _ _ h') [
        | inl w ↦ (let m = starts_is question_mark x.1 w.0 in
            let d = subst (DerivesBin levels x.0.0 x.0.1 xs) m.1 (s_bin b s levels xs x e).0 in
            stops_then (b.expr (rest_of x.1)) _ w.1 (λ q. begun_cond_yes d (k.expr (rest_of x.1) q)) (λ y e' h''.
            stops_then (closed colon y.0.1 y.1) _ h''
            (λ q. begun_cond_yes d (begun_expr_whole (subst (DerivesExpr y.0.0 y.0.1 (rest_of x.1)) (closed_stop colon y.0.1 y.1 q) (s.expr (rest_of x.1) y e').0)))
            (λ z o k'.
            let c = closed_ok colon y.0.1 y.1 z o in
            stops_then (b.cond z.1) _ k'
            (λ q. begun_cond_no d (subst (DerivesExpr y.0.0 y.0.1 (rest_of x.1)) c.1 (s.expr (rest_of x.1) y e').0) (k.cond z.1 q))
            (λ u o' k''. absurd (ok_err k'')))))
        | inr w ↦ absurd (ok_err w.1)
      ])

  assigned_to_begins : (xs : List Terminal) (f : Form) (e : ExprTree) (p o : ℕ) (ys : List Terminal) → IsOneOf assignment_operators o → DerivesCond f e xs (Punct p o ∷ ys) → Stops (assigned_to b f e p o ys) → BeginsExpr xs
  assigned_to_begins xs Target e p o ys m d h = stops_then (b.expr ys) _ h (λ q. begun_expr_assign (target_cond d) m (k.expr ys q)) (λ y e' k'. absurd (ok_err k'))
  assigned_to_begins xs Effect e p o ys m d h = absurd (more_err h)
  assigned_to_begins xs Other e p o ys m d h = absurd (more_err h)

  assigned_begins : (xs : List Terminal) (x : Parsed) (ys : List Terminal) → DerivesCond x.0 x.1 xs ys → Stops (assigned_of b x ys) → BeginsExpr xs
  assigned_begins xs x [] d h = absurd (ok_err h)
  assigned_begins xs x (Punct p o ∷ ys) d h = elim (chosen (list_any (nat_eq o) assignment_operators) _ _ _ h) [
    | inl w ↦ assigned_to_begins xs x.0 x.1 p o ys w.0 d w.1
    | inr w ↦ absurd (ok_err w.1)
  ]
  assigned_begins xs x (y ∷ ys) d h = absurd (ok_err h)

  pub stuck_expr : StuckExpr b
  unfolding expr_of
  stuck_expr xs h = stops_then (cond_of b xs) _ h (λ q. begun_expr_cond (stuck_cond xs q)) (λ x e h'. assigned_begins xs x.0 x.1 (s_cond b s xs x e).0 h')

  pub stuck_init : StuckInit b
  unfolding init_of
  stuck_init [] h = begun_init_none
  stuck_init (Punct p o ∷ xs) h = elim (chosen (nat_eq o brace_open) _ _ _ h) [
    | inl w ↦ begun_init_list (stops_then (list_of b.init (Punct p o ∷ xs)) _ w.1 (stuck_list b s k (Punct p o ∷ xs)) (λ y e k'. absurd (ok_err k')))
    | inr w ↦ begun_init_expr (stops_then (expr_of b (Punct p o ∷ xs)) _ w.1 (stuck_expr (Punct p o ∷ xs)) (λ y e k'. absurd (ok_err k')))
  ]
  stuck_init (x ∷ xs) h = begun_init_expr (stops_then (expr_of b (x ∷ xs)) _ h (stuck_expr (x ∷ xs)) (λ y e k'. absurd (ok_err k')))

-- at each depth of nesting
pub readers_are_stuck : ReadersAreStuck
unfolding below
readers_are_stuck zero = record {
  expr = λ xs h. subst BeginsExpr (sym (err_is h)) begun_expr_none;
  cond = λ xs h. subst BeginsCond (sym (err_is h)) begun_cond_none;
  unary = λ xs h. subst BeginsUnary (sym (err_is h)) begun_unary_none;
  init = λ xs h. subst BeginsInit (sym (err_is h)) begun_init_none;
}
readers_are_stuck (suc n) = record {
  expr = stuck_expr (below n) (sound n) (readers_are_stuck n);
  cond = stuck_cond (below n) (sound n) (readers_are_stuck n);
  unary = stuck_unary (below n) (sound n) (readers_are_stuck n);
  init = stuck_init (below n) (sound n) (readers_are_stuck n);
}
