-- A reader that asks for one more terminal at the end was given what begins its part: arguments, lists and sizes, heads and what stands
-- behind them.
use Rattle.std.proofs.Common.{◌≡◌, ℕ, zero, suc, inl, inr, true, false, nat_eq, List, [], ◌∷◌, length, refl, sym, ap, ◌∙◌, subst, true≢false, Ok}
use borrow.Author.Tests.{eqb-true}
use Rattle.jv_tree.specs.declared.name.Ident.{Ident as Identifier}
use Rattle.jv_tree.specs.TypeTree.{BaseTree}
use Rattle.jv_tree.specs.ExprTree as t
use Rattle.jv_tree.specs.ExprTree.{ExprTree, KindTree, TargetTree, ExprTrees}
use Rattle.jv_grammar.specs.declared.terminal.Terminal.{Terminal}
use Rattle.jv_grammar.specs.declared.terminal.Terminal.TheVariants.{Ident, Keyword, Literal, Punct}
use Rattle.jv_grammar.specs.declared.form.Form.{Form}
use Rattle.jv_grammar.specs.declared.form.Form.TheVariants.{Target, Effect}
use Rattle.jv_grammar.specs.Marks.{paren_open, paren_close, brace_open, brace_close, bracket_open, bracket_close, comma, dot, word_new, word_super, word_this}
use Rattle.jv_grammar.specs.TypeGrammar.{starts, DerivesPrim, prim_boolean, prim_char, prim_int, prim_long, DerivesBase, base_prim, base_name, DerivesPairs, pairs_none, pairs_more}
use Rattle.jv_grammar.specs.ExprGrammar.{at_of, DerivesExpr, DerivesPrimary, primary_head, primary_field, primary_call, primary_index, DerivesArgs, DerivesExprs, DerivesInit, inits_more}
use Rattle.jv_grammar.specs.Reader.{Reads, rest_of, closed}
use Rattle.jv_grammar.specs.TypeReader.{base_of, pairs_of, starts_pair}
use Rattle.jv_grammar.specs.ExprReader.{Parsed, Below, exprs_of, args_of, inits_of, list_of, sizes_of, object_of, array_of, new_of, member_of, done, head_of, suffixes_of, primary_of, post_of}
use Rattle.jv_grammar.specs.TypeBegins.{begun_base_whole}
use Rattle.jv_grammar.specs.ExprBegins.{BeginsListEnd, begun_list_end_comma, begun_expr_whole, begun_post_primary, begun_primary_head, begun_primary_dot, begun_primary_call, begun_primary_index, begun_primary_whole, BeginsHead, begun_head_none, begun_head_paren, begun_head_call, begun_head_super, begun_head_super_dot, begun_head_super_call, begun_head_new, begun_head_new_args, begun_head_new_dims, begun_head_new_pairs, begun_head_new_list, BeginsDims, begun_dims_none, begun_dims_size, begun_dims_more, begun_dims_pairs, BeginsArgs, begun_args_none, begun_args_some, BeginsExprs, begun_exprs_none, begun_exprs_one, begun_exprs_more, begun_exprs_whole, begun_init_whole, BeginsList, begun_list_none, begun_list_empty, begun_list_some, begun_list_end, BeginsInits, begun_inits_none, begun_inits_one, begun_inits_more}
use Rattle.jv_grammar.proofs.Ending.{Stops}
use Rattle.jv_grammar.proofs.StuckLaw.{StuckBelow, StuckExprs, StuckArgs, StuckInits, StuckList, BeginsSizes, StuckSizes, StuckNew, StuckSuper, StuckHead, StuckSuffixes, StuckPrimary, StuckPost}
use Rattle.jv_grammar.proofs.Read.{chosen, both, starts_is, closed_ok}
use Rattle.jv_grammar.proofs.Types.{derives_base, derives_pairs}
use Rattle.jv_grammar.proofs.Sound.{Sound, NoCast, pairs_stop, s_exprs, s_args, s_head}
use Rattle.jv_grammar.proofs.Stuck.{failing, err_is, ok_err, more_err, stops_then, stuck_base, stuck_pairs}

-- where a mark has to stand and the terminals are at their end, nothing is left
pub closed_stop : {A : Type 0} (n : ℕ) (x : A) (xs : List Terminal) → closed n x xs ≡ failing (A × List Terminal) [] → xs ≡ []
closed_stop n x xs h = elim (chosen (starts n xs) _ _ _ h) [ inl w ↦ absurd (ok_err w.1) | inr w ↦ err_is w.1 ]

module _ (b : Below) (s : Sound b) (k : StuckBelow b) where
  pub stuck_exprs : StuckExprs b
  unfolding exprs_of
  stuck_exprs zero xs h = subst BeginsExprs (sym (err_is h)) begun_exprs_none
  stuck_exprs (suc c) xs h = stops_then (b.expr xs) _ h (λ q. begun_exprs_one (k.expr xs q)) (λ x e h'.
      elim (chosen (starts comma x.1) _ _ _ h') [
        | inl w ↦ (let m = starts_is comma x.1 w.0 in
            let d = subst (DerivesExpr x.0.0 x.0.1 xs) m.1 (s.expr xs x e).0 in
            stops_then (exprs_of b.expr c (rest_of x.1)) _ w.1 (λ q. begun_exprs_more d (stuck_exprs c (rest_of x.1) q)) (λ y e' k'. absurd (ok_err k')))
        | inr w ↦ absurd (ok_err w.1)
      ])

  pub stuck_args : StuckArgs b
  unfolding args_of
  stuck_args xs h = elim (chosen (starts paren_open xs) _ _ _ h) [
    | inl w ↦ elim (chosen (starts paren_close (rest_of xs)) _ _ _ w.1) [
      | inl v ↦ absurd (ok_err v.1)
      | inr v ↦ (let m = starts_is paren_open xs w.0 in
          subst BeginsArgs (sym m.1) (begun_args_some (stops_then (exprs_of b.expr (length xs) (rest_of xs)) _ v.1
          (λ q. stuck_exprs (length xs) (rest_of xs) q)
          (λ x e h'. begun_exprs_whole (subst (DerivesExprs x.0 (rest_of xs)) (closed_stop paren_close x.0 x.1 h') (s_exprs b s (length xs) (rest_of xs) x e).0)))))
    ]
    | inr w ↦ subst BeginsArgs (sym (err_is w.1)) begun_args_none
  ]

  pub stuck_inits : StuckInits b
  unfolding inits_of
  stuck_inits zero xs h = inl (subst BeginsInits (sym (err_is h)) begun_inits_none)
  stuck_inits (suc c) xs h = stops_then (b.init xs) _ h (λ q. inl (begun_inits_one (k.init xs q))) (λ x e h'.
      elim (chosen (starts comma x.1) _ _ _ h') [
        | inl w ↦ elim (chosen (starts brace_close (rest_of x.1)) _ _ _ w.1) [
          | inl v ↦ absurd (ok_err v.1)
          | inr v ↦ (let m = starts_is comma x.1 w.0 in
              let d = subst (DerivesInit x.0 xs) m.1 (s.init xs x e).0 in
              stops_then (inits_of b.init c (rest_of x.1)) _ v.1
              (λ q. elim (stuck_inits c (rest_of x.1) q) [
                | inl r ↦ inl (begun_inits_more d r)
                | inr r ↦ inr (t.inits x.0 r.0, r.1, inits_more d r.2, r.3)
              ])
              (λ y e' k'. absurd (ok_err k')))
        ]
        | inr w ↦ inl (begun_inits_one (begun_init_whole (subst (DerivesInit x.0 xs) (closed_stop brace_close (t.inits x.0 t.no_inits) x.1 w.1) (s.init xs x e).0)))
      ])

  pub stuck_list : StuckList b
  unfolding list_of
  stuck_list xs h = elim (chosen (starts brace_open xs) _ _ _ h) [
    | inr w ↦ subst BeginsList (sym (err_is w.1)) begun_list_none
    | inl w ↦ (let m = starts_is brace_open xs w.0 in
        subst BeginsList (sym m.1) (elim (chosen (starts brace_close (rest_of xs)) _ _ _ w.1) as (λ z. BeginsList (Punct m.0 brace_open ∷ rest_of xs)) [
          | inl v ↦ absurd (ok_err v.1)
          | inr v ↦ elim (chosen (starts comma (rest_of xs)) _ _ _ v.1) [
            | inl u ↦ (let n = starts_is comma (rest_of xs) u.0 in
                begun_list_empty (subst BeginsListEnd (sym (n.1 ∙ ap (λ z. Punct n.0 comma ∷ z) (closed_stop brace_close t.no_inits (rest_of (rest_of xs)) u.1))) begun_list_end_comma))
            | inr u ↦ elim (stuck_inits (length xs) (rest_of xs) u.1) [
              | inl r ↦ begun_list_some r
              | inr r ↦ begun_list_end r.2 r.3
            ]
          ]
        ]))
  ]

  -- a size behind its `[`, and what stands behind its `]`
  sizes_on : (p : ℕ) (xs : List Terminal) (x : Parsed × List Terminal) (y : ExprTree × List Terminal) → b.expr xs ≡ Ok x → closed bracket_close x.0.1 x.1 ≡ Ok y → BeginsSizes y.1 → BeginsDims (Punct p bracket_open ∷ xs)
  sizes_on p xs x y e e' r =
      let z = closed_ok bracket_close x.0.1 x.1 y e' in
      let d = subst (DerivesExpr x.0.0 x.0.1 xs) z.1 (s.expr xs x e).0 in
      elim r [ inl v ↦ begun_dims_more d v | inr v ↦ begun_dims_pairs d v ]

  pub stuck_sizes : StuckSizes b
  unfolding sizes_of
  stuck_sizes zero xs h = elim (chosen (starts bracket_open xs) _ _ _ h) [
    | inl w ↦ inl (subst BeginsDims (sym (err_is w.1)) begun_dims_none)
    | inr w ↦ absurd (ok_err w.1)
  ]
  stuck_sizes (suc room) xs h = elim (chosen (starts_pair xs) _ _ _ h) [
    | inl w ↦ stops_then (pairs_of (suc room) xs) _ w.1 (λ q. inr (stuck_pairs (suc room) xs q)) (λ y e' k'. absurd (ok_err k'))
    | inr w ↦ elim (chosen (starts bracket_open xs) _ _ _ w.1) [
      | inl v ↦ (let m = starts_is bracket_open xs v.0 in
          inl (subst BeginsDims (sym m.1) (stops_then (b.expr (rest_of xs)) _ v.1 (λ q. begun_dims_size (k.expr (rest_of xs) q)) (λ x e h'.
          stops_then (closed bracket_close x.0.1 x.1) _ h'
          (λ q. begun_dims_size (begun_expr_whole (subst (DerivesExpr x.0.0 x.0.1 (rest_of xs)) (closed_stop bracket_close x.0.1 x.1 q) (s.expr (rest_of xs) x e).0)))
          (λ y e' h''. stops_then (sizes_of b.expr room y.1) _ h'' (λ q. sizes_on m.0 (rest_of xs) x y e e' (stuck_sizes room y.1 q)) (λ z e'' k'. absurd (ok_err k')))))))
      | inr v ↦ absurd (ok_err v.1)
    ]
  ]

  -- behind a class or a base, where a `(` stands or not
  stuck_object_prim : (p q : ℕ) (base : BaseTree) (xs zs : List Terminal) → DerivesPrim q base xs zs → Stops (object_of b p base zs) → zs ≡ []
  stuck_object_prim p q base xs zs prim_boolean h = err_is h
  stuck_object_prim p q base xs zs prim_char h = err_is h
  stuck_object_prim p q base xs zs prim_int h = err_is h
  stuck_object_prim p q base xs zs prim_long h = err_is h

  stuck_object : (p q : ℕ) (base : BaseTree) (xs zs : List Terminal) → DerivesBase q base xs zs → Stops (object_of b p base zs) → BeginsHead (Keyword p word_new ∷ xs)
  stuck_object p q base xs zs (base_prim m) h = begun_head_new (begun_base_whole (subst (DerivesBase q base xs) (stuck_object_prim p q base xs zs m h) (base_prim m)))
  stuck_object p q base xs zs (base_name m) h = stops_then (args_of b.expr zs) _ h (λ r. begun_head_new_args m (stuck_args zs r)) (λ y e k'. absurd (ok_err k'))

  stuck_listed : (p q : ℕ) (base : BaseTree) (n : ℕ) (xs zs ws : List Terminal) → starts bracket_open zs ≡ true → starts bracket_open ws ≡ false → DerivesBase q base xs zs → DerivesPairs n zs ws → BeginsList ws
      → BeginsHead (Keyword p word_new ∷ xs)
  stuck_listed p q base n xs zs ws st ends m pairs_none r = absurd (true≢false (sym st ∙ ends))
  stuck_listed p q base n xs zs ws st ends m (pairs_more c) r = begun_head_new_list m (pairs_more c) r

  stuck_array : (p q : ℕ) (base : BaseTree) (xs zs : List Terminal) → DerivesBase q base xs zs → Stops (array_of b p q base zs) → BeginsHead (Keyword p word_new ∷ xs)
  stuck_array p q base xs zs m h = elim (chosen (starts_pair zs) _ _ _ h) [
    | inl w ↦ (let st = both (starts bracket_open zs) (starts bracket_close (rest_of zs)) w.0 in
        stops_then (pairs_of 200 zs) _ w.1 (λ r. begun_head_new_pairs m (stuck_pairs 200 zs r)) (λ x e h'.
        stops_then (list_of b.init x.1) _ h' (λ r. stuck_listed p q base x.0 xs zs x.1 st.0 (pairs_stop 200 zs x e) m (derives_pairs 200 zs x e).0 (stuck_list x.1 r)) (λ y e' k'. absurd (ok_err k'))))
    | inr w ↦ elim (chosen (starts bracket_open zs) _ _ _ w.1) [
      | inl v ↦ stops_then (sizes_of b.expr 200 zs) _ v.1
          (λ r. elim (stuck_sizes 200 zs r) [ inl u ↦ begun_head_new_dims m u | inr u ↦ begun_head_new_pairs m u ])
          (λ y e' k'. absurd (ok_err k'))
      | inr v ↦ begun_head_new (begun_base_whole (subst (DerivesBase q base xs) (err_is v.1) m))
    ]
  ]

  pub stuck_new : StuckNew b
  unfolding new_of
  stuck_new p xs h = stops_then (base_of xs) _ h (λ q. begun_head_new (stuck_base xs q)) (λ x e h'.
      elim (chosen (starts paren_open x.1) _ _ _ h') [
        | inl w ↦ stuck_object p x.0.0 x.0.1 xs x.1 (derives_base xs x e) w.1
        | inr w ↦ stuck_array p x.0.0 x.0.1 xs x.1 (derives_base xs x e) w.1
      ])

  -- where a member is stuck: in front of its identifier, in its arguments, or behind it
  pub stuck_member : {C : Type 0} (go : Form → ExprTree → List Terminal → Reads Parsed) (p : ℕ) (target : TargetTree) (field : Identifier → KindTree) (zs : List Terminal) → Stops (member_of b.expr go p target field zs)
      → (zs ≡ [] → C) → ((i : Identifier) (ws : List Terminal) → zs ≡ Ident i ∷ ws → BeginsArgs ws → C)
      → ((i : Identifier) (ws : List Terminal) (es : ExprTrees) (ys : List Terminal) → zs ≡ Ident i ∷ ws → DerivesArgs es ws ys → Stops (go Effect (t.expr p (t.call target i es)) ys) → C)
      → ((i : Identifier) (ws : List Terminal) → zs ≡ Ident i ∷ ws → starts paren_open ws ≡ false → Stops (go Target (t.expr p (field i)) ws) → C) → C
  stuck_member go p target field [] h none args call other = none refl
  stuck_member go p target field (Ident i ∷ ws) h none args call other = elim (chosen (starts paren_open ws) _ _ _ h) [
    | inl w ↦ stops_then (args_of b.expr ws) _ w.1 (λ q. args i ws refl (stuck_args ws q)) (λ x e h'. call i ws x.0 x.1 refl (s_args b s ws x e).0 h')
    | inr w ↦ other i ws refl w.0 w.1
  ]
  stuck_member go p target field (x ∷ ws) h none args call other = absurd (more_err h)

  pub stuck_super : StuckSuper b
  stuck_super p xs h = elim (chosen (starts dot xs) _ _ _ h) [
    | inl w ↦ (let m = starts_is dot xs w.0 in
        subst (λ z. BeginsHead (Keyword p word_super ∷ z)) (sym m.1) (stuck_member done p t.super t.super_field (rest_of xs) w.1
        (λ z. subst (λ y. BeginsHead (Keyword p word_super ∷ Punct m.0 dot ∷ y)) (sym z) begun_head_super_dot)
        (λ i ws z a. subst (λ y. BeginsHead (Keyword p word_super ∷ Punct m.0 dot ∷ y)) (sym z) (begun_head_super_call a))
        (λ i ws es ys z a g. absurd (ok_err g))
        (λ i ws z n g. absurd (ok_err g))))
    | inr w ↦ subst (λ z. BeginsHead (Keyword p word_super ∷ z)) (sym (err_is w.1)) begun_head_super
  ]

  head_word : (n p j : ℕ) (xs : List Terminal) → nat_eq j n ≡ true → BeginsHead (Keyword p n ∷ xs) → BeginsHead (Keyword p j ∷ xs)
  head_word n p j xs e r = subst (λ z. BeginsHead (Keyword p z ∷ xs)) (sym (eqb-true j n e)) r

  pub stuck_head : StuckHead b
  unfolding head_of
  stuck_head [] h = begun_head_none
  stuck_head (Ident i ∷ xs) h = elim (chosen (starts paren_open xs) _ _ _ h) [
    | inl w ↦ stops_then (args_of b.expr xs) _ w.1 (λ q. begun_head_call (stuck_args xs q)) (λ y e k'. absurd (ok_err k'))
    | inr w ↦ absurd (ok_err w.1)
  ]
  stuck_head (Literal p l ∷ xs) h = absurd (ok_err h)
  stuck_head (Keyword p j ∷ xs) h = elim (chosen (nat_eq j word_this) _ _ _ h) [
    | inl w ↦ absurd (ok_err w.1)
    | inr w ↦ elim (chosen (nat_eq j word_super) _ _ _ w.1) [
      | inl v ↦ head_word word_super p j xs v.0 (stuck_super p xs v.1)
      | inr v ↦ elim (chosen (nat_eq j word_new) _ _ _ v.1) [
        | inl u ↦ head_word word_new p j xs u.0 (stuck_new p xs u.1)
        | inr u ↦ absurd (more_err u.1)
      ]
    ]
  ]
  stuck_head (Punct p o ∷ xs) h = elim (chosen (nat_eq o paren_open) _ _ _ h) [
    | inl w ↦ subst (λ n. BeginsHead (Punct p n ∷ xs)) (sym (eqb-true o paren_open w.0)) (begun_head_paren (stops_then (b.expr xs) _ w.1 (λ q. k.expr xs q)
        (λ x e h'. begun_expr_whole (subst (DerivesExpr x.0.0 x.0.1 xs) (closed_stop paren_close _ x.1 h') (s.expr xs x e).0))))
    | inr w ↦ absurd (more_err w.1)
  ]
  stuck_head (x ∷ xs) h = absurd (more_err h)

  pub stuck_suffixes : StuckSuffixes b
  unfolding suffixes_of
  stuck_suffixes zero f e ws xs d h = begun_primary_whole (subst (DerivesPrimary f e ws) (err_is h) d)
  stuck_suffixes (suc c) f e ws xs d h = elim (chosen (starts bracket_open xs) _ _ _ h) [
    | inl w ↦ (let m = starts_is bracket_open xs w.0 in
        let d' = subst (DerivesPrimary f e ws) m.1 d in
        stops_then (b.expr (rest_of xs)) _ w.1 (λ q. begun_primary_index d' (k.expr (rest_of xs) q)) (λ x o h'.
        stops_then (closed bracket_close x.0.1 x.1) _ h'
        (λ q. begun_primary_index d' (begun_expr_whole (subst (DerivesExpr x.0.0 x.0.1 (rest_of xs)) (closed_stop bracket_close x.0.1 x.1 q) (s.expr (rest_of xs) x o).0)))
        (λ y o' h''.
        let z = closed_ok bracket_close x.0.1 x.1 y o' in
        let here : DerivesPrimary Target (t.expr (at_of e) (t.index e x.0.1)) ws y.1 = primary_index d' (subst (DerivesExpr x.0.0 x.0.1 (rest_of xs)) z.1 (s.expr (rest_of xs) x o).0) in
        stuck_suffixes c Target (t.expr (at_of e) (t.index e y.0)) ws y.1 (subst (λ v. DerivesPrimary Target (t.expr (at_of e) (t.index e v)) ws y.1) (sym z.2) here) h'')))
    | inr w ↦ elim (chosen (starts dot xs) _ _ _ w.1) [
      | inl v ↦ (let m = starts_is dot xs v.0 in
          let at : (us : List Terminal) → rest_of xs ≡ us → DerivesPrimary f e ws (Punct m.0 dot ∷ us) = λ us z. subst (DerivesPrimary f e ws) (m.1 ∙ ap (λ y. Punct m.0 dot ∷ y) z) d in
          stuck_member (suffixes_of b c) (at_of e) (t.on e) (t.field e) (rest_of xs) v.1
          (λ z. begun_primary_dot (at [] z))
          (λ i us z a. begun_primary_call (at (Ident i ∷ us) z) a)
          (λ i us es ys z a g. stuck_suffixes c _ _ ws ys (primary_call (at (Ident i ∷ us) z) a) g)
          (λ i us z n g. stuck_suffixes c _ _ ws us (primary_field (at (Ident i ∷ us) z) n) g))
      | inr v ↦ absurd (ok_err v.1)
    ]
  ]

  pub stuck_primary : StuckPrimary b
  unfolding primary_of NoCast
  stuck_primary xs nc h = stops_then (head_of b xs) _ h (λ q. begun_primary_head (stuck_head xs q)) (λ x e h'.
      stuck_suffixes (suc (length xs)) x.0.0 x.0.1 xs x.1 (primary_head (s_head b s xs x nc e).0) h')

  pub stuck_post : StuckPost b
  unfolding post_of
  stuck_post xs nc h = stops_then (primary_of b xs) _ h (λ q. begun_post_primary (stuck_primary xs nc q)) (λ y e k'. absurd (ok_err k'))
