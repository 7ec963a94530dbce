-- What is read derives, and its types have at most 200 pairs of brackets.
use Rattle.std.proofs.Common.{◌≡◌, ℕ, zero, suc, ◌≤◌, ◌||◌, ◌&&◌, not, ◌⊎◌, inl, inr, Bool, true, false, cond, nat_eq, List, [], ◌∷◌, length, arith, refl, sym, ap, ◌∙◌, subst, true≢false, Ok}
use Rattle.std.specs.List.{list_any}
use borrow.Author.Tests.{eqb-true, eq-eqb}
use Rattle.jv_tree.specs.declared.name.Ident.{Ident as Identifier}
use Rattle.jv_tree.specs.TypeTree.{BaseTree, TypeTree}
use Rattle.jv_tree.specs.ExprTree as t
use Rattle.jv_tree.specs.ExprTree.{ExprTree, KindTree, TargetTree, OperandTree, InitTree, ExprTrees, InitTrees, LinkTrees}
use Rattle.jv_tree.specs.Shaped.{IsOneOf, levels, instance_of, postfix_operators, assignment_operators}
use Rattle.jv_grammar.specs.declared.terminal.Terminal.{Terminal}
use Rattle.jv_grammar.specs.declared.terminal.Terminal.TheVariants.{Ident, Keyword, Literal, Minimum, MinimumLong, Punct}
use Rattle.jv_grammar.specs.declared.form.Form.{Form}
use Rattle.jv_grammar.specs.declared.form.Form.TheVariants.{Target, Effect, Other}
use Rattle.jv_grammar.specs.Marks.{paren_open, paren_close, brace_open, brace_close, bracket_open, bracket_close, comma, dot, question_mark, colon, minus_sign, complements, signs, word_instanceof, word_new, word_super, word_this}
use Rattle.jv_grammar.specs.TypeGrammar.{starts, DerivesPrim, prim_boolean, prim_char, prim_int, prim_long, DerivesBase, base_prim, base_name, DerivesPairs, pairs_none, pairs_more, DerivesTy, ty}
use Rattle.jv_grammar.specs.ExprGrammar.{at_of, kind_of, begins_plain, IsCast, DerivesExpr, expr_assign, expr_cond, DerivesCond, cond_bin, cond_choice, DerivesBin, bin_unary, bin_one, bin_chain, DerivesLinks, links_one, links_more, DerivesLink, link_operand, link_type, DerivesUnary, unary_sign, unary_step, unary_minimum, unary_minimum_long, unary_cast, unary_post, DerivesCast, cast_prim, cast_reference, DerivesPlain, plain_sign, plain_cast, plain_post, DerivesPost, post_primary, post_step, DerivesPrimary, primary_head, primary_field, primary_call, primary_index, DerivesHead, head_literal, head_this, head_paren, head_name, head_call, head_super_field, head_super_call, head_new, head_new_array, head_new_list, DerivesDims, dims_one, dims_more, DerivesArgs, args_none, args_some, DerivesExprs, exprs_one, exprs_more, DerivesInit, init_expr, init_list, DerivesList, list_none, list_some, DerivesInits, inits_one, inits_more, DerivesListEnd, list_end, list_comma_end}
use Rattle.jv_grammar.specs.Reader.{Reads, ◌>>=◌, rest_of, closed}
use Rattle.jv_grammar.specs.TypeReader.{base_of, pairs_of, ty_of, is_named, is_bare, reference_of, starts_pair}
use Rattle.jv_grammar.specs.ExprReader.{Parsed, Below, exprs_of, args_of, inits_of, list_of, sizes_of, object_of, array_of, new_of, member_of, done, super_of, head_of, suffixes_of, primary_of, steps_of, post_of, cast_ahead, cast_of, signed_by, signed_of, unary_of, is_mark_of, links_of, chained, bin_of, cond_of, assigned_to, assigned_of, expr_of, init_of, below}
use Rattle.jv_grammar.specs.Width.{wide_ty, count_dims, wide_expr, wide_cond, wide_bin, wide_links, wide_link, wide_unary, wide_cast, wide_plain, wide_post, wide_primary, wide_head, wide_dims, wide_args, wide_exprs, wide_init, wide_list, wide_inits}
use Rattle.jv_grammar.proofs.Read.{bind_ok, bind_then, chosen, gives, err_ok, ok_is, either, both, or_either, not_true, starts_is, closed_ok, among}
use Rattle.jv_grammar.proofs.Types.{derives_base, derives_pairs, derives_ty, derives_reference, refers, prim_not_named, suc_not_zero}
use Rattle.jv_grammar.proofs.Heads.{run_name, run_stops}
use Rattle.jv_grammar.proofs.Ahead.{cast_seen}

-- derivations whose types have at most 200 pairs of brackets
abbrev pub IsExpr : Form → ExprTree → List Terminal → List Terminal → Type 0
IsExpr f e xs ys = (d : DerivesExpr f e xs ys) × (wide_expr d ≤ 200)

abbrev pub IsCond : Form → ExprTree → List Terminal → List Terminal → Type 0
IsCond f e xs ys = (d : DerivesCond f e xs ys) × (wide_cond d ≤ 200)

abbrev pub IsBin : List (List ℕ) → Form → ExprTree → List Terminal → List Terminal → Type 0
IsBin levels f e xs ys = (d : DerivesBin levels f e xs ys) × (wide_bin d ≤ 200)

abbrev pub AreLinks : List ℕ → List (List ℕ) → LinkTrees → List Terminal → List Terminal → Type 0
AreLinks level tighter ls xs ys = (d : DerivesLinks level tighter ls xs ys) × (wide_links d ≤ 200)

abbrev pub IsLink : List ℕ → List (List ℕ) → ℕ → ℕ → OperandTree → List Terminal → List Terminal → Type 0
IsLink level tighter p o x xs ys = (d : DerivesLink level tighter p o x xs ys) × (wide_link d ≤ 200)

abbrev pub IsUnary : Form → ExprTree → List Terminal → List Terminal → Type 0
IsUnary f e xs ys = (d : DerivesUnary f e xs ys) × (wide_unary d ≤ 200)

abbrev pub IsCasting : ExprTree → List Terminal → List Terminal → Type 0
IsCasting e xs ys = (d : DerivesCast e xs ys) × (wide_cast d ≤ 200)

abbrev pub IsPost : Form → ExprTree → List Terminal → List Terminal → Type 0
IsPost f e xs ys = (d : DerivesPost f e xs ys) × (wide_post d ≤ 200)

abbrev pub IsPrimary : Form → ExprTree → List Terminal → List Terminal → Type 0
IsPrimary f e xs ys = (d : DerivesPrimary f e xs ys) × (wide_primary d ≤ 200)

abbrev pub IsHead : Form → ExprTree → List Terminal → List Terminal → Type 0
IsHead f e xs ys = (d : DerivesHead f e xs ys) × (wide_head d ≤ 200)

abbrev pub AreDims : ℕ → ExprTrees → ℕ → List Terminal → List Terminal → Type 0
AreDims room es n xs ys = (d : DerivesDims es n xs ys) × (wide_dims d ≤ 200) × (count_dims d ≤ room)

abbrev pub AreArgs : ExprTrees → List Terminal → List Terminal → Type 0
AreArgs es xs ys = (d : DerivesArgs es xs ys) × (wide_args d ≤ 200)

abbrev pub AreExprs : ExprTrees → List Terminal → List Terminal → Type 0
AreExprs es xs ys = (d : DerivesExprs es xs ys) × (wide_exprs d ≤ 200)

abbrev pub IsInit : InitTree → List Terminal → List Terminal → Type 0
IsInit i xs ys = (d : DerivesInit i xs ys) × (wide_init d ≤ 200)

abbrev pub IsList : ℕ → InitTrees → List Terminal → List Terminal → Type 0
IsList p is xs ys = (d : DerivesList p is xs ys) × (wide_list d ≤ 200)

abbrev pub AreInits : InitTrees → List Terminal → List Terminal → Type 0
AreInits is xs ys = (d : DerivesInits is xs ys) × (wide_inits d ≤ 200)

abbrev FoundExpr : List Terminal → Parsed × List Terminal → Type 0
FoundExpr xs r = IsExpr r.0.0 r.0.1 xs r.1

abbrev FoundCond : List Terminal → Parsed × List Terminal → Type 0
FoundCond xs r = IsCond r.0.0 r.0.1 xs r.1

abbrev FoundUnary : List Terminal → Parsed × List Terminal → Type 0
FoundUnary xs r = IsUnary r.0.0 r.0.1 xs r.1

abbrev FoundHead : List Terminal → Parsed × List Terminal → Type 0
FoundHead xs r = IsHead r.0.0 r.0.1 xs r.1

abbrev FoundPrimary : List Terminal → Parsed × List Terminal → Type 0
FoundPrimary xs r = IsPrimary r.0.0 r.0.1 xs r.1

abbrev FoundPost : List Terminal → Parsed × List Terminal → Type 0
FoundPost xs r = IsPost r.0.0 r.0.1 xs r.1

abbrev FoundBin : List (List ℕ) → List Terminal → Parsed × List Terminal → Type 0
FoundBin levels xs r = IsBin levels r.0.0 r.0.1 xs r.1

abbrev FoundInit : List Terminal → InitTree × List Terminal → Type 0
FoundInit xs r = IsInit r.0 xs r.1

abbrev FoundArgs : List Terminal → ExprTrees × List Terminal → Type 0
FoundArgs xs r = AreArgs r.0 xs r.1

abbrev FoundExprs : List Terminal → ExprTrees × List Terminal → Type 0
FoundExprs xs r = AreExprs r.0 xs r.1

-- What the readers below read derives.
pub record Sound (b : Below) : Type 0 where
  pub expr : (xs : List Terminal) (r : Parsed × List Terminal) → b.expr xs ≡ Ok r → FoundExpr xs r
  pub cond : (xs : List Terminal) (r : Parsed × List Terminal) → b.cond xs ≡ Ok r → FoundCond xs r
  pub unary : (xs : List Terminal) (r : Parsed × List Terminal) → b.unary xs ≡ Ok r → FoundUnary xs r
  pub init : (xs : List Terminal) (r : InitTree × List Terminal) → b.init xs ≡ Ok r → FoundInit xs r

-- two marks one behind the other
pub two_are : (n m : ℕ) (xs : List Terminal) → starts n xs ≡ true → starts m (rest_of xs) ≡ true → (p : ℕ) × (q : ℕ) × (xs ≡ Punct p n ∷ Punct q m ∷ rest_of (rest_of xs))
two_are n m xs h h' =
    let a = starts_is n xs h in
    let c = starts_is m (rest_of xs) h' in
    (a.0, c.0, a.1 ∙ ap (λ z. Punct a.0 n ∷ z) c.1)

-- the elements of a list and its end
abbrev Ended : List Terminal → InitTrees × List Terminal → Type 0
Ended xs r = (zs : List Terminal) × AreInits r.0 xs zs × DerivesListEnd zs r.1

abbrev FoundList : List Terminal → InitTrees × List Terminal → Type 0
FoundList xs r = (p : ℕ) × (xs ≡ Punct p brace_open ∷ rest_of xs) × IsList p r.0 xs r.1

-- sizes and pairs, or pairs alone
abbrev Sized : ℕ → List Terminal → (ExprTrees × ℕ) × List Terminal → Type 0
Sized room xs r = ((r.0.0 ≡ t.no_exprs) × DerivesPairs r.0.1 xs r.1 × (r.0.1 ≤ room)) ⊎ AreDims room r.0.0 r.0.1 xs r.1

abbrev FoundSizes : ℕ → List Terminal → (ExprTrees × ℕ) × List Terminal → Type 0
FoundSizes room xs r = Sized room xs r × (starts bracket_open r.1 ≡ false)

-- behind the pairs that are read stands no `[`
pub pairs_stop : (room : ℕ) (xs : List Terminal) (r : ℕ × List Terminal) → pairs_of room xs ≡ Ok r → starts bracket_open r.1 ≡ false
unfolding pairs_of
pairs_stop zero xs r h = elim (chosen (starts bracket_open xs) _ _ _ h) [
  | inl w ↦ absurd (err_ok w.1)
  | inr w ↦ subst (λ (z : ℕ × List Terminal). starts bracket_open z.1 ≡ false) (ok_is w.1) w.0
]
pairs_stop (suc room) xs r h = elim (chosen (starts bracket_open xs) _ _ _ h) [
  | inl w ↦ elim (chosen (starts bracket_close (rest_of xs)) _ _ _ w.1) [
    | inl v ↦ (let y = bind_ok (pairs_of room (rest_of (rest_of xs))) _ _ v.1 in
        subst (λ (z : ℕ × List Terminal). starts bracket_open z.1 ≡ false) (ok_is y.2) (pairs_stop room _ _ y.1))
    | inr v ↦ absurd (err_ok v.1)
  ]
  | inr w ↦ subst (λ (z : ℕ × List Terminal). starts bracket_open z.1 ≡ false) (ok_is w.1) w.0
]

-- a first size in front of what stands behind it
add_size : (room : ℕ) (f : Form) (e : ExprTree) (p q : ℕ) (xs zs : List Terminal) (u : (ExprTrees × ℕ) × List Terminal) → IsExpr f e xs (Punct q bracket_close ∷ zs) → Sized room zs u
    → AreDims (suc room) (t.exprs e u.0.0) u.0.1 (Punct p bracket_open ∷ xs) u.1
add_size room f e p q xs zs u d (inl w) =
    subst (λ z. AreDims (suc room) (t.exprs e z) u.0.1 (Punct p bracket_open ∷ xs) u.1) (sym w.0) (dims_one d.0 w.1, d.1, omega (arith, w.2))
add_size room f e p q xs zs u d (inr w) = (dims_more d.0 w.0, omega (arith, d.1, w.1), omega (arith, w.2))

one_more : (room : ℕ) (xs : List Terminal) (x : Parsed × List Terminal) (y : ExprTree × List Terminal) (u : (ExprTrees × ℕ) × List Terminal) → starts bracket_open xs ≡ true → FoundExpr (rest_of xs) x
    → closed bracket_close x.0.1 x.1 ≡ Ok y → FoundSizes room y.1 u → FoundSizes (suc room) xs ((t.exprs y.0 u.0.0, u.0.1), u.1)
one_more room xs x y u s d h z =
    let m = starts_is bracket_open xs s in
    let q = closed_ok bracket_close x.0.1 x.1 y h in
    let here = add_size room x.0.0 x.0.1 m.0 q.0 (rest_of xs) y.1 u (subst (IsExpr x.0.0 x.0.1 (rest_of xs)) q.1 d) z.0 in
    (inr (subst (λ v. AreDims (suc room) (t.exprs v u.0.0) u.0.1 xs u.1) (sym q.2) (subst (λ v. AreDims (suc room) (t.exprs x.0.1 u.0.0) u.0.1 v u.1) (sym m.1) here)), z.1)

-- where a size has to stand, pairs alone do not
some_sizes : (room : ℕ) (xs : List Terminal) (r : (ExprTrees × ℕ) × List Terminal) → starts_pair xs ≡ false → starts bracket_open xs ≡ true → FoundSizes room xs r → AreDims room r.0.0 r.0.1 xs r.1
some_sizes room xs r n s (inr w, e) = w
some_sizes room xs r n s (inl w, e) = absurd (by r.0.1 xs r.1 w.1 n s e)
  where
    by : (m : ℕ) (us vs : List Terminal) → DerivesPairs m us vs → starts_pair us ≡ false → starts bracket_open us ≡ true → starts bracket_open vs ≡ false → ⊥
    by m us vs pairs_none n' s' e' = true≢false (sym s' ∙ e')
    by m us vs (pairs_more d) n' s' e' = true≢false n'

-- what reading a member gives: a method with its arguments, or a field
pub record Method (b : Below) (go : Form → ExprTree → List Terminal → Reads Parsed) (p : ℕ) (target : TargetTree) (zs : List Terminal) (r : Parsed × List Terminal) : Type 0 where
  pub i : Identifier
  pub es : ExprTrees
  pub ws : List Terminal
  pub ys : List Terminal
  pub first : zs ≡ Ident i ∷ ws
  pub args : AreArgs es ws ys
  pub goes : go Effect (t.expr p (t.call target i es)) ys ≡ Ok r

pub record FieldOf (go : Form → ExprTree → List Terminal → Reads Parsed) (p : ℕ) (field : Identifier → KindTree) (zs : List Terminal) (r : Parsed × List Terminal) : Type 0 where
  pub i : Identifier
  pub ws : List Terminal
  pub first : zs ≡ Ident i ∷ ws
  pub no_call : starts paren_open ws ≡ false
  pub goes : go Target (t.expr p (field i)) ws ≡ Ok r

-- a `plain` is a unary that begins as one
plain_unary : {f : Form} {e : ExprTree} {xs ys : List Terminal} (d : DerivesUnary f e xs ys) → begins_plain xs ≡ true → (u : DerivesPlain f e xs ys) × (wide_plain u ≡ wide_unary d)
plain_unary (unary_sign {o} s d) h = elim (or_either (nat_eq o paren_open) (list_any (nat_eq o) complements) h) [
  | inl w ↦ absurd (true≢false (sym w ∙ among (λ n. nat_eq n paren_open ≡ false) signs o (refl, (refl, (refl, (refl, tt)))) s))
  | inr w ↦ (plain_sign w d, refl)
]
plain_unary (unary_step {o} s d) h =
    absurd (true≢false (sym h ∙ among (λ n. (nat_eq n paren_open || list_any (nat_eq n) complements) ≡ false) postfix_operators o (refl, (refl, tt)) s))
plain_unary unary_minimum h = absurd (true≢false (sym h))
plain_unary unary_minimum_long h = absurd (true≢false (sym h))
plain_unary (unary_cast d) h = (plain_cast d, refl)
plain_unary (unary_post d) h = (plain_post d, refl)

cast_bare : {r : TypeTree} {f : Form} {e : ExprTree} (p : ℕ) {q : ℕ} {xs zs ys : List Terminal} → DerivesTy r xs (Punct q paren_close ∷ zs) → is_bare r ≡ true → IsUnary f e zs ys
    → IsCasting (t.expr p (t.cast r e)) (Punct p paren_open ∷ xs) ys
cast_bare p (ty (base_prim m) pairs_none) h u = (cast_prim m u.0, u.1)
cast_bare p (ty {b} (base_prim m) (pairs_more {n} d)) h u = absurd (true≢false (sym h ∙ by))
  where
    by : cond (is_named b) false (nat_eq (suc n) 0) ≡ false
    by = rw (prim_not_named m, suc_not_zero n) refl
cast_bare p (ty (base_name m) d) h u = absurd (true≢false (sym h))

-- no operator, or some
abbrev pub Joined : List ℕ → List (List ℕ) → List Terminal → LinkTrees × List Terminal → Type 0
Joined level tighter xs r = ((r.0 ≡ t.no_links) × (r.1 ≡ xs)) ⊎ AreLinks level tighter r.0 xs r.1

joins : {level : List ℕ} {tighter : List (List ℕ)} {p o : ℕ} {x : OperandTree} (xs zs : List Terminal) (r : LinkTrees × List Terminal) → IsLink level tighter p o x xs zs → Joined level tighter zs r
    → AreLinks level tighter (t.links p o x r.0) xs r.1
joins {level} {tighter} {p} {o} {x} xs zs r d (inl w) =
    subst (λ z. AreLinks level tighter (t.links p o x z) xs r.1) (sym w.0)
    (subst (λ z. AreLinks level tighter (t.links p o x t.no_links) xs z) (sym w.1) (links_one d.0, d.1))
joins xs zs r d (inr w) = (links_more d.0 w.0, omega (arith, d.1, w.1))

no_links_none : {level : List ℕ} {tighter : List (List ℕ)} {xs ys : List Terminal} → DerivesLinks level tighter t.no_links xs ys → ⊥
no_links_none d = elim d [ ]

chains : {level : List ℕ} {tighter : List (List ℕ)} (xs : List Terminal) (e : Parsed) (zs : List Terminal) (r : LinkTrees × List Terminal) → IsBin tighter e.0 e.1 xs zs → Joined level tighter zs r
    → IsBin (level ∷ tighter) (chained e r.0).0 (chained e r.0).1 xs r.1
chains {level} {tighter} xs e zs r d (inl w) =
    subst (λ z. IsBin (level ∷ tighter) (chained e z).0 (chained e z).1 xs r.1) (sym w.0)
    (subst (λ z. IsBin (level ∷ tighter) e.0 e.1 xs z) (sym w.1) (bin_one d.0, d.1))
chains {level} {tighter} xs e zs (t.no_links, ys) d (inr w) = absurd (no_links_none w.0)
chains {level} {tighter} xs e zs (t.links p o x ls, ys) d (inr w) = (bin_chain d.0 w.0, omega (arith, d.1, w.1))

choice : (xs : List Terminal) (x y : Parsed × List Terminal) (z : ExprTree × List Terminal) (u : Parsed × List Terminal) → starts question_mark x.1 ≡ true → FoundBin levels xs x → FoundExpr (rest_of x.1) y
    → closed colon y.0.1 y.1 ≡ Ok z → FoundCond z.1 u → IsCond Other (t.expr (at_of x.0.1) (t.choice x.0.1 z.0 u.0.1)) xs u.1
choice xs x y z u s d e h c =
    let m = starts_is question_mark x.1 s in
    let q = closed_ok colon y.0.1 y.1 z h in
    let d' = subst (IsBin levels x.0.0 x.0.1 xs) m.1 d in
    let e' = subst (IsExpr y.0.0 y.0.1 (rest_of x.1)) q.1 e in
    let here : IsCond Other (t.expr (at_of x.0.1) (t.choice x.0.1 y.0.1 u.0.1)) xs u.1 = (cond_choice d'.0 e'.0 c.0, omega (arith, d'.1, e'.1, c.1)) in
    subst (λ v. IsCond Other (t.expr (at_of x.0.1) (t.choice x.0.1 v u.0.1)) xs u.1) (sym q.2) here

-- what can be assigned is a primary
target_post : {e : ExprTree} {xs ys : List Terminal} (d : DerivesPost Target e xs ys) → (u : DerivesPrimary Target e xs ys) × (wide_primary u ≡ wide_post d)
target_post (post_primary d) = (d, refl)

target_unary : {e : ExprTree} {xs ys : List Terminal} (d : DerivesUnary Target e xs ys) → (u : DerivesPrimary Target e xs ys) × (wide_primary u ≡ wide_unary d)
target_unary (unary_post d) = target_post d

target_bin : {levels : List (List ℕ)} {e : ExprTree} {xs ys : List Terminal} (d : DerivesBin levels Target e xs ys) → (u : DerivesPrimary Target e xs ys) × (wide_primary u ≡ wide_bin d)
target_bin (bin_unary d) = target_unary d
target_bin (bin_one d) = target_bin d

target_cond : {e : ExprTree} {xs ys : List Terminal} (d : DerivesCond Target e xs ys) → (u : DerivesPrimary Target e xs ys) × (wide_primary u ≡ wide_cond d)
target_cond (cond_bin d) = target_bin d

-- No cast begins here.
unfoldable pub NoCast : List Terminal → Type 0
NoCast xs = (p : ℕ) (zs : List Terminal) → xs ≡ Punct p paren_open ∷ zs → IsCast zs → ⊥

module _ (b : Below) (s : Sound b) where
  pub s_exprs : (k : ℕ) (xs : List Terminal) (r : ExprTrees × List Terminal) → exprs_of b.expr k xs ≡ Ok r → FoundExprs xs r
  unfolding exprs_of
  s_exprs zero xs r h = absurd (err_ok h)
  s_exprs (suc k) xs r h =
      let x = bind_ok (b.expr xs) _ _ h in
      let d = s.expr xs _ x.1 in
      elim (chosen (starts comma x.0.1) _ _ _ x.2) [
        | inl w ↦ (let m = starts_is comma x.0.1 w.0 in
            let y = bind_ok (exprs_of b.expr k (rest_of x.0.1)) _ _ w.1 in
            let d' = subst (IsExpr x.0.0.0 x.0.0.1 xs) m.1 d in
            let q = s_exprs k _ _ y.1 in
            subst (FoundExprs xs) (ok_is y.2) (exprs_more d'.0 q.0, omega (arith, d'.1, q.1)))
        | inr w ↦ subst (FoundExprs xs) (ok_is w.1) (exprs_one d.0, d.1)
      ]

  pub s_args : (xs : List Terminal) (r : ExprTrees × List Terminal) → args_of b.expr xs ≡ Ok r → FoundArgs xs r
  unfolding args_of
  s_args xs r h = elim (chosen (starts paren_open xs) _ _ _ h) [
    | inl w ↦ elim (chosen (starts paren_close (rest_of xs)) _ _ _ w.1) [
      | inl v ↦ (let m = two_are paren_open paren_close xs w.0 v.0 in
          subst (FoundArgs xs) (ok_is v.1) (subst (λ z. AreArgs t.no_exprs z (rest_of (rest_of xs))) (sym m.2) (args_none, omega arith)))
      | inr v ↦ (let m = starts_is paren_open xs w.0 in
          let x = bind_ok (exprs_of b.expr (length xs) (rest_of xs)) _ _ v.1 in
          let q = closed_ok paren_close x.0.0 x.0.1 r x.2 in
          let d = subst (AreExprs x.0.0 (rest_of xs)) q.1 (s_exprs (length xs) _ _ x.1) in
          subst (λ z. AreArgs z xs r.1) (sym q.2) (subst (λ z. AreArgs x.0.0 z r.1) (sym m.1) (args_some d.0, d.1)))
    ]
    | inr w ↦ absurd (err_ok w.1)
  ]

  pub s_inits : (k : ℕ) (xs : List Terminal) (r : InitTrees × List Terminal) → inits_of b.init k xs ≡ Ok r → Ended xs r
  unfolding inits_of
  s_inits zero xs r h = absurd (err_ok h)
  s_inits (suc k) xs r h =
      let x = bind_ok (b.init xs) _ _ h in
      let d = s.init xs _ x.1 in
      elim (chosen (starts comma x.0.1) _ _ _ x.2) [
        | inl w ↦ elim (chosen (starts brace_close (rest_of x.0.1)) _ _ _ w.1) [
          | inl v ↦ (let m = two_are comma brace_close x.0.1 w.0 v.0 in
              subst (Ended xs) (ok_is v.1) (x.0.1, (inits_one d.0, d.1), subst (λ z. DerivesListEnd z (rest_of (rest_of x.0.1))) (sym m.2) list_comma_end))
          | inr v ↦ (let m = starts_is comma x.0.1 w.0 in
              let y = bind_ok (inits_of b.init k (rest_of x.0.1)) _ _ v.1 in
              let d' = subst (IsInit x.0.0 xs) m.1 d in
              let q = s_inits k _ _ y.1 in
              subst (Ended xs) (ok_is y.2) (q.0, (inits_more d'.0 q.1.0, omega (arith, d'.1, q.1.1)), q.2))
        ]
        | inr w ↦ (let q = closed_ok brace_close (t.inits x.0.0 t.no_inits) x.0.1 r w.1 in
            let here : AreInits (t.inits x.0.0 t.no_inits) xs x.0.1 = (inits_one d.0, d.1) in
            (x.0.1, subst (λ z. AreInits z xs x.0.1) (sym q.2) here, subst (λ z. DerivesListEnd z r.1) (sym q.1) list_end))
      ]

  pub s_list : (xs : List Terminal) (r : InitTrees × List Terminal) → list_of b.init xs ≡ Ok r → FoundList xs r
  unfolding list_of
  s_list xs r h = elim (chosen (starts brace_open xs) _ _ _ h) [
    | inr w ↦ absurd (err_ok w.1)
    | inl w ↦ (let m = starts_is brace_open xs w.0 in
        elim (chosen (starts brace_close (rest_of xs)) _ _ _ w.1) [
          | inl v ↦ (let n = starts_is brace_close (rest_of xs) v.0 in
              let here : IsList m.0 t.no_inits xs (rest_of (rest_of xs)) =
              subst (λ z. IsList m.0 t.no_inits z (rest_of (rest_of xs))) (sym m.1) (list_none (subst (λ z. DerivesListEnd z (rest_of (rest_of xs))) (sym n.1) list_end), omega arith) in
              subst (FoundList xs) (ok_is v.1) (m.0, m.1, here))
          | inr v ↦ elim (chosen (starts comma (rest_of xs)) _ _ _ v.1) [
            | inl u ↦ (let n = starts_is comma (rest_of xs) u.0 in
                let q = closed_ok brace_close t.no_inits (rest_of (rest_of xs)) r u.1 in
                let end : DerivesListEnd (rest_of xs) r.1 = subst (λ z. DerivesListEnd z r.1) (sym (n.1 ∙ ap (λ z. Punct n.0 comma ∷ z) q.1)) list_comma_end in
                (m.0, m.1, subst (λ z. IsList m.0 z xs r.1) (sym q.2) (subst (λ z. IsList m.0 t.no_inits z r.1) (sym m.1) (list_none end, omega arith))))
            | inr u ↦ (let q = s_inits (length xs) (rest_of xs) r u.1 in
                (m.0, m.1, subst (λ z. IsList m.0 r.0 z r.1) (sym m.1) (list_some q.1.0 q.2, q.1.1)))
          ]
        ])
  ]

  pub s_sizes : (room : ℕ) (xs : List Terminal) (r : (ExprTrees × ℕ) × List Terminal) → sizes_of b.expr room xs ≡ Ok r → FoundSizes room xs r
  unfolding sizes_of
  s_sizes zero xs r h = elim (chosen (starts bracket_open xs) _ _ _ h) [
    | inl w ↦ absurd (err_ok w.1)
    | inr w ↦ subst (FoundSizes zero xs) (ok_is w.1) (inl (refl, pairs_none, omega arith), w.0)
  ]
  s_sizes (suc room) xs r h = elim (chosen (starts_pair xs) _ _ _ h) [
    | inl w ↦ (let x = bind_ok (pairs_of (suc room) xs) _ _ w.1 in
        let d = derives_pairs (suc room) xs _ x.1 in
        subst (FoundSizes (suc room) xs) (ok_is x.2) (inl (refl, d.0, d.1), pairs_stop (suc room) xs _ x.1))
    | inr w ↦ elim (chosen (starts bracket_open xs) _ _ _ w.1) [
      | inl v ↦ bind_then (b.expr (rest_of xs)) _ _ v.1 (λ x e h'.
          bind_then (closed bracket_close x.0.1 x.1) _ _ h' (λ y e' k.
          bind_then (sizes_of b.expr room y.1) _ _ k (λ u e'' k'.
          subst (FoundSizes (suc room) xs) (ok_is k') (one_more room xs x y u v.0 (s.expr _ _ e) e' (s_sizes room y.1 u e'')))))
      | inr v ↦ subst (FoundSizes (suc room) xs) (ok_is v.1) (inl (refl, pairs_none, omega arith), v.0)
    ]
  ]

  pub s_member : (go : Form → ExprTree → List Terminal → Reads Parsed) (p : ℕ) (target : TargetTree) (field : Identifier → KindTree) (zs : List Terminal) (r : Parsed × List Terminal)
      → member_of b.expr go p target field zs ≡ Ok r → Method b go p target zs r ⊎ FieldOf go p field zs r
  s_member go p target field [] r h = absurd (err_ok h)
  s_member go p target field (Ident i ∷ ws) r h = elim (chosen (starts paren_open ws) _ _ _ h) [
    | inl w ↦ (let x = bind_ok (args_of b.expr ws) _ _ w.1 in
        inl (record { i = i; es = x.0.0; ws = ws; ys = x.0.1; first = refl; args = s_args ws _ x.1; goes = x.2 }))
    | inr w ↦ inr (record { i = i; ws = ws; first = refl; no_call = w.0; goes = w.1 })
  ]
  s_member go p target field (x ∷ ws) r h = absurd (err_ok h)

  s_super : (p : ℕ) (xs : List Terminal) (r : Parsed × List Terminal) → super_of b p xs ≡ Ok r → FoundHead (Keyword p word_super ∷ xs) r
  s_super p xs r h = elim (chosen (starts dot xs) _ _ _ h) [
    | inl w ↦ (let m = starts_is dot xs w.0 in
        elim (s_member done p t.super t.super_field (rest_of xs) r w.1) [
          | inl c ↦ subst (FoundHead (Keyword p word_super ∷ xs)) (ok_is c.goes)
              (subst (λ z. IsHead Effect (t.expr p (t.call t.super c.i c.es)) (Keyword p word_super ∷ z) c.ys) (sym (m.1 ∙ ap (λ z. Punct m.0 dot ∷ z) c.first)) (head_super_call c.args.0, c.args.1))
          | inr c ↦ subst (FoundHead (Keyword p word_super ∷ xs)) (ok_is c.goes)
              (subst (λ z. IsHead Target (t.expr p (t.super_field c.i)) (Keyword p word_super ∷ z) c.ws) (sym (m.1 ∙ ap (λ z. Punct m.0 dot ∷ z) c.first)) (head_super_field c.no_call, omega arith))
        ])
    | inr w ↦ absurd (err_ok w.1)
  ]

  s_object_prim : (p q : ℕ) (base : BaseTree) (xs zs : List Terminal) (r : Parsed × List Terminal) → DerivesPrim q base xs zs → object_of b p base zs ≡ Ok r → FoundHead (Keyword p word_new ∷ xs) r
  s_object_prim p q base xs zs r prim_boolean h = absurd (err_ok h)
  s_object_prim p q base xs zs r prim_char h = absurd (err_ok h)
  s_object_prim p q base xs zs r prim_int h = absurd (err_ok h)
  s_object_prim p q base xs zs r prim_long h = absurd (err_ok h)

  s_object : (p q : ℕ) (base : BaseTree) (xs zs : List Terminal) (r : Parsed × List Terminal) → DerivesBase q base xs zs → object_of b p base zs ≡ Ok r → FoundHead (Keyword p word_new ∷ xs) r
  s_object p q base xs zs r (base_prim m) h = s_object_prim p q base xs zs r m h
  s_object p q base xs zs r (base_name m) h =
      let x = bind_ok (args_of b.expr zs) _ _ h in
      let a = s_args zs _ x.1 in
      subst (FoundHead (Keyword p word_new ∷ xs)) (ok_is x.2) (head_new m a.0, a.1)

  s_listed : (p q : ℕ) (base : BaseTree) (n : ℕ) (xs zs ws : List Terminal) (l : ℕ) (is : InitTrees) (ys : List Terminal) → starts bracket_open zs ≡ true → starts bracket_open ws ≡ false
      → DerivesBase q base xs zs → DerivesPairs n zs ws → n ≤ 200 → IsList l is ws ys → IsHead Other (t.expr p (t.new_list (record { at = q; base = base; dims = n }) is)) (Keyword p word_new ∷ xs) ys
  s_listed p q base n xs zs ws l is ys st ends m pairs_none le d = absurd (true≢false (sym st ∙ ends))
  s_listed p q base n xs zs ws l is ys st ends m (pairs_more c) le d = (head_new_list m (pairs_more c) d.0, omega (arith, d.1))

  s_array : (p q : ℕ) (base : BaseTree) (xs zs : List Terminal) (r : Parsed × List Terminal) → DerivesBase q base xs zs → array_of b p q base zs ≡ Ok r → FoundHead (Keyword p word_new ∷ xs) r
  s_array p q base xs zs r m h = elim (chosen (starts_pair zs) _ _ _ h) [
    | inl w ↦ (let st = both (starts bracket_open zs) (starts bracket_close (rest_of zs)) w.0 in
        let x = bind_ok (pairs_of 200 zs) _ _ w.1 in
        let y = bind_ok (list_of b.init x.0.1) _ _ x.2 in
        let c = derives_pairs 200 zs _ x.1 in
        let l = s_list x.0.1 _ y.1 in
        subst (FoundHead (Keyword p word_new ∷ xs)) (ok_is y.2) (s_listed p q base x.0.0 xs zs x.0.1 l.0 y.0.0 y.0.1 st.0 (pairs_stop 200 zs _ x.1) m c.0 c.1 l.2))
    | inr w ↦ elim (chosen (starts bracket_open zs) _ _ _ w.1) [
      | inl v ↦ (let x = bind_ok (sizes_of b.expr 200 zs) _ _ v.1 in
          let z = s_sizes 200 zs _ x.1 in
          let d = some_sizes 200 zs _ w.0 v.0 z in
          subst (FoundHead (Keyword p word_new ∷ xs)) (ok_is x.2) (head_new_array m d.0 z.1, omega (arith, d.1, d.2)))
      | inr v ↦ absurd (err_ok v.1)
    ]
  ]

  s_new : (p : ℕ) (xs : List Terminal) (r : Parsed × List Terminal) → new_of b p xs ≡ Ok r → FoundHead (Keyword p word_new ∷ xs) r
  unfolding new_of
  s_new p xs r h =
      let x = bind_ok (base_of xs) _ _ h in
      let m = derives_base xs _ x.1 in
      elim (chosen (starts paren_open x.0.1) _ _ _ x.2) [
        | inl w ↦ s_object p _ _ xs x.0.1 r m w.1
        | inr w ↦ s_array p _ _ xs x.0.1 r m w.1
      ]

  at_word : (n p k : ℕ) (xs : List Terminal) (r : Parsed × List Terminal) → nat_eq k n ≡ true → FoundHead (Keyword p n ∷ xs) r → FoundHead (Keyword p k ∷ xs) r
  at_word n p k xs r e d = subst (λ z. FoundHead (Keyword p z ∷ xs) r) (sym (eqb-true k n e)) d

  pub s_head : (xs : List Terminal) (r : Parsed × List Terminal) → NoCast xs → head_of b xs ≡ Ok r → FoundHead xs r
  unfolding head_of NoCast
  s_head [] r nc h = absurd (err_ok h)
  s_head (Ident i ∷ xs) r nc h = elim (chosen (starts paren_open xs) _ _ _ h) [
    | inl w ↦ (let x = bind_ok (args_of b.expr xs) _ _ w.1 in
        let a = s_args xs _ x.1 in
        subst (FoundHead (Ident i ∷ xs)) (ok_is x.2) (head_call a.0, a.1))
    | inr w ↦ subst (FoundHead (Ident i ∷ xs)) (ok_is w.1) (head_name (run_name i xs) (run_stops xs w.0), omega arith)
  ]
  s_head (Literal p l ∷ xs) r nc h = subst (FoundHead (Literal p l ∷ xs)) (ok_is h) (head_literal, omega arith)
  s_head (Keyword p k ∷ xs) r nc h = elim (chosen (nat_eq k word_this) _ _ _ h) [
    | inl w ↦ at_word word_this p k xs r w.0 (subst (FoundHead (Keyword p word_this ∷ xs)) (ok_is w.1) (head_this, omega arith))
    | inr w ↦ elim (chosen (nat_eq k word_super) _ _ _ w.1) [
      | inl v ↦ at_word word_super p k xs r v.0 (s_super p xs r v.1)
      | inr v ↦ elim (chosen (nat_eq k word_new) _ _ _ v.1) [
        | inl u ↦ at_word word_new p k xs r u.0 (s_new p xs r u.1)
        | inr u ↦ absurd (err_ok u.1)
      ]
    ]
  ]
  s_head (Punct p o ∷ xs) r nc h = elim (chosen (nat_eq o paren_open) _ _ _ h) [
    | inl w ↦ (let o_is = eqb-true o paren_open w.0 in
        let x = bind_ok (b.expr xs) _ _ w.1 in
        let y = closed_ok paren_close _ x.0.1 r x.2 in
        let d = subst (IsExpr x.0.0.0 x.0.0.1 xs) y.1 (s.expr _ _ x.1) in
        let here : IsHead Other (t.expr p (kind_of x.0.0.1)) (Punct p paren_open ∷ xs) r.1 = (head_paren (nc p xs (ap (λ n. Punct p n ∷ xs) o_is)) d.0, d.1) in
        subst (λ (z : Parsed). IsHead z.0 z.1 (Punct p o ∷ xs) r.1) (sym y.2)
        (subst (λ n. IsHead Other (t.expr p (kind_of x.0.0.1)) (Punct p n ∷ xs) r.1) (sym o_is) here))
    | inr w ↦ absurd (err_ok w.1)
  ]
  s_head (x ∷ xs) r nc h = absurd (err_ok h)

  -- The loop over suffixes, from a primary that starts at xs.
  pub s_suffixes : (k : ℕ) (xs : List Terminal) (f : Form) (e : ExprTree) (ys : List Terminal) (r : Parsed × List Terminal) → IsPrimary f e xs ys → suffixes_of b k f e ys ≡ Ok r → FoundPrimary xs r
  unfolding suffixes_of
  s_suffixes zero xs f e ys r d h = absurd (err_ok h)
  s_suffixes (suc k) xs f e ys r d h = elim (chosen (starts bracket_open ys) _ _ _ h) [
    | inl w ↦ (let m = starts_is bracket_open ys w.0 in
        let x = bind_ok (b.expr (rest_of ys)) _ _ w.1 in
        let y = bind_ok (closed bracket_close x.0.0.1 x.0.1) _ _ x.2 in
        let z = closed_ok bracket_close x.0.0.1 x.0.1 y.0 y.1 in
        let d' = subst (IsPrimary f e xs) m.1 d in
        let x' = subst (IsExpr x.0.0.0 x.0.0.1 (rest_of ys)) z.1 (s.expr _ _ x.1) in
        let here : IsPrimary Target (t.expr (at_of e) (t.index e x.0.0.1)) xs y.0.1 = (primary_index d'.0 x'.0, omega (arith, d'.1, x'.1)) in
        s_suffixes k xs _ _ _ r (subst (λ v. IsPrimary Target (t.expr (at_of e) (t.index e v)) xs y.0.1) (sym z.2) here) y.2)
    | inr w ↦ elim (chosen (starts dot ys) _ _ _ w.1) [
      | inl v ↦ (let m = starts_is dot ys v.0 in
          elim (s_member (suffixes_of b k) (at_of e) (t.on e) (t.field e) (rest_of ys) r v.1) [
            | inl c ↦ (let d' = subst (IsPrimary f e xs) (m.1 ∙ ap (λ z. Punct m.0 dot ∷ z) c.first) d in
                s_suffixes k xs _ _ _ r (primary_call d'.0 c.args.0, omega (arith, d'.1, c.args.1)) c.goes)
            | inr c ↦ (let d' = subst (IsPrimary f e xs) (m.1 ∙ ap (λ z. Punct m.0 dot ∷ z) c.first) d in
                s_suffixes k xs _ _ _ r (primary_field d'.0 c.no_call, d'.1) c.goes)
          ])
      | inr v ↦ subst (FoundPrimary xs) (ok_is v.1) d
    ]
  ]

  pub s_primary : (xs : List Terminal) (r : Parsed × List Terminal) → NoCast xs → primary_of b xs ≡ Ok r → FoundPrimary xs r
  unfolding primary_of
  s_primary xs r nc h =
      let x = bind_ok (head_of b xs) _ _ h in
      let d = s_head xs _ nc x.1 in
      s_suffixes (suc (length xs)) xs _ _ _ r (primary_head d.0, d.1) x.2

  pub s_steps : (xs : List Terminal) (f : Form) (e : ExprTree) (ys : List Terminal) → IsPost f e xs ys → FoundPost xs (steps_of f e ys)
  unfolding steps_of
  s_steps xs f e [] d = d
  s_steps xs f e (Punct p o ∷ ys) d = by (list_any (nat_eq o) postfix_operators) refl (λ h. s_steps xs Effect (t.expr (at_of e) (t.post p o e)) ys (post_step d.0 h, d.1))
    where
      by : (u : Bool) → list_any (nat_eq o) postfix_operators ≡ u → (list_any (nat_eq o) postfix_operators ≡ true → FoundPost xs (steps_of Effect (t.expr (at_of e) (t.post p o e)) ys))
          → FoundPost xs (cond u (steps_of Effect (t.expr (at_of e) (t.post p o e)) ys) ((f, e), Punct p o ∷ ys))
      by true h go = go h
      by false h go = d
  s_steps xs f e (y ∷ ys) d = d

  pub s_post : (xs : List Terminal) (r : Parsed × List Terminal) → NoCast xs → post_of b xs ≡ Ok r → FoundUnary xs r
  unfolding post_of
  s_post xs r nc h =
      let x = bind_ok (primary_of b xs) _ _ h in
      let d = s_primary xs _ nc x.1 in
      let p = s_steps xs _ _ _ (post_primary d.0, d.1) in
      subst (FoundUnary xs) (ok_is x.2) (unary_post p.0, p.1)

  no_cast : (p : ℕ) (xs : List Terminal) → cast_ahead xs ≡ false → NoCast (Punct p paren_open ∷ xs)
  unfolding NoCast
  no_cast p xs h q zs e c =
      let same : xs ≡ zs = ap (λ z. rest_of z) e in
      true≢false (sym (cast_seen zs c) ∙ ap cast_ahead (sym same) ∙ h)

  pub s_cast : (p : ℕ) (xs : List Terminal) (r : Parsed × List Terminal) → cast_of b p xs ≡ Ok r → FoundUnary (Punct p paren_open ∷ xs) r
  unfolding cast_of
  s_cast p xs r h =
      let x = bind_ok (ty_of xs) _ _ h in
      let y = bind_ok (closed paren_close x.0.0 x.0.1) _ _ x.2 in
      let q = closed_ok paren_close x.0.0 x.0.1 y.0 y.1 in
      let d : (d' : DerivesTy y.0.0 xs (Punct q.0 paren_close ∷ y.0.1)) × (wide_ty d' ≤ 200) =
      subst (λ z. (d' : DerivesTy z xs (Punct q.0 paren_close ∷ y.0.1)) × (wide_ty d' ≤ 200)) (sym q.2)
      (subst (λ z. (d' : DerivesTy x.0.0 xs z) × (wide_ty d' ≤ 200)) q.1 (derives_ty xs _ x.1)) in
      elim (chosen (is_bare y.0.0 || begins_plain y.0.1) _ _ _ y.2) [
        | inl w ↦ (let u = bind_ok (b.unary y.0.1) _ _ w.1 in
            let v = s.unary _ _ u.1 in
            elim (either (is_bare y.0.0)) [
              | inl bare ↦ (let c = cast_bare p d.0 bare v in subst (FoundUnary (Punct p paren_open ∷ xs)) (ok_is u.2) (unary_cast c.0, c.1))
              | inr boxed ↦ (let m = refers d.0 d.1 boxed in
                  let plain = elim (or_either (is_bare y.0.0) (begins_plain y.0.1) w.0) as (λ z. begins_plain y.0.1 ≡ true) [ inl z ↦ absurd (true≢false (sym z ∙ boxed)) | inr z ↦ z ] in
                  let k = plain_unary v.0 plain in
                  subst (FoundUnary (Punct p paren_open ∷ xs)) (ok_is u.2) (unary_cast (cast_reference m.0 k.0), omega (arith, m.1, k.1, v.1)))
            ])
        | inr w ↦ absurd (err_ok w.1)
      ]

  s_signed_by : (p o : ℕ) (xs : List Terminal) (r : Parsed × List Terminal) → IsOneOf signs o → signed_by b p o xs ≡ Ok r → FoundUnary (Punct p o ∷ xs) r
  s_signed_by p o xs r m h =
      let x = bind_ok (b.unary xs) _ _ h in
      let d = s.unary _ _ x.1 in
      subst (FoundUnary (Punct p o ∷ xs)) (ok_is x.2) (unary_sign m d.0, d.1)

  s_signed : (p o : ℕ) (xs : List Terminal) (r : Parsed × List Terminal) → IsOneOf signs o → signed_of b p o xs ≡ Ok r → FoundUnary (Punct p o ∷ xs) r
  unfolding signed_of
  s_signed p o [] r m h = s_signed_by p o [] r m h
  s_signed p o (Minimum q ∷ xs) r m h = elim (chosen (nat_eq o minus_sign) _ _ _ h) [
    | inl w ↦ subst (FoundUnary (Punct p o ∷ Minimum q ∷ xs)) (ok_is w.1)
        (subst (λ n. IsUnary Other (t.expr p (t.pre p n (t.expr q t.int))) (Punct p n ∷ Minimum q ∷ xs) xs) (sym (eqb-true o minus_sign w.0)) (unary_minimum, omega arith))
    | inr w ↦ absurd (err_ok w.1)
  ]
  s_signed p o (MinimumLong q ∷ xs) r m h = elim (chosen (nat_eq o minus_sign) _ _ _ h) [
    | inl w ↦ subst (FoundUnary (Punct p o ∷ MinimumLong q ∷ xs)) (ok_is w.1)
        (subst (λ n. IsUnary Other (t.expr p (t.pre p n (t.expr q t.long))) (Punct p n ∷ MinimumLong q ∷ xs) xs) (sym (eqb-true o minus_sign w.0)) (unary_minimum_long, omega arith))
    | inr w ↦ absurd (err_ok w.1)
  ]
  s_signed p o (x ∷ xs) r m h = s_signed_by p o (x ∷ xs) r m h

  pub s_unary : (xs : List Terminal) (r : Parsed × List Terminal) → unary_of b xs ≡ Ok r → FoundUnary xs r
  unfolding unary_of NoCast
  s_unary [] r h = s_post _ r (λ p zs e c. cc) h
  s_unary (Punct p o ∷ xs) r h = elim (chosen (list_any (nat_eq o) postfix_operators) _ _ _ h) [
    | inl w ↦ (let x = bind_ok (b.unary xs) _ _ w.1 in
        let d = s.unary _ _ x.1 in
        subst (FoundUnary (Punct p o ∷ xs)) (ok_is x.2) (unary_step w.0 d.0, d.1))
    | inr w ↦ elim (chosen (list_any (nat_eq o) signs) _ _ _ w.1) [
      | inl v ↦ s_signed p o xs r v.0 v.1
      | inr v ↦ elim (chosen (nat_eq o paren_open && cast_ahead xs) _ _ _ v.1) [
        | inl u ↦ (let m = both (nat_eq o paren_open) (cast_ahead xs) u.0 in
            subst (λ n. FoundUnary (Punct p n ∷ xs) r) (sym (eqb-true o paren_open m.0)) (s_cast p xs r u.1))
        | inr u ↦ s_post _ r (λ q zs e c. by q zs e c u.0) u.1
      ]
    ]
  ]
    where
      by : (q : ℕ) (zs : List Terminal) → Punct p o ∷ xs ≡ Punct q paren_open ∷ zs → IsCast zs → nat_eq o paren_open && cast_ahead xs ≡ false → ⊥
      by q zs e c other =
          let same : xs ≡ zs = ap (λ z. rest_of z) e in
          let zero_is : o ≡ 0 = cc in
          let first : nat_eq o paren_open ≡ true = eq-eqb o 0 zero_is in
          let ahead : cast_ahead xs ≡ true = ap cast_ahead same ∙ cast_seen zs c in
          true≢false (sym (rw (first, ahead) refl) ∙ other)
  s_unary (x ∷ xs) r h = s_post _ r (λ p zs e c. cc) h

  abbrev OperandsOf : List (List ℕ) → Type 0
  OperandsOf tighter = (xs : List Terminal) (r : Parsed × List Terminal) → bin_of b tighter xs ≡ Ok r → FoundBin tighter xs r

  abbrev none_is : {level : List ℕ} {tighter : List (List ℕ)} (xs : List Terminal) (r : LinkTrees × List Terminal) → gives (t.no_links, xs) ≡ gives r → Joined level tighter xs r
  none_is xs r h = inl (sym (ap (λ (z : LinkTrees × List Terminal). z.0) (ok_is h)), sym (ap (λ (z : LinkTrees × List Terminal). z.1) (ok_is h)))

  pub s_links : (level : List ℕ) (tighter : List (List ℕ)) → OperandsOf tighter → (k : ℕ) (xs : List Terminal) (r : LinkTrees × List Terminal) → links_of (bin_of b tighter) level k xs ≡ Ok r → Joined level tighter xs r
  unfolding links_of
  s_links level tighter ih zero xs r h = absurd (err_ok h)
  s_links level tighter ih (suc k) [] r h = none_is [] r h
  s_links level tighter ih (suc k) (Punct p o ∷ xs) r h = elim (chosen (is_mark_of level o) _ _ _ h) [
    | inl w ↦ (let m = both (list_any (nat_eq o) level) (not (nat_eq o instance_of)) w.0 in
        let x = bind_ok (bin_of b tighter xs) _ _ w.1 in
        let y = bind_ok (links_of (bin_of b tighter) level k x.0.1) _ _ x.2 in
        let d = ih xs _ x.1 in
        let no : o ≡ instance_of → ⊥ = λ e. true≢false (sym (eq-eqb o instance_of e) ∙ not_true _ m.1) in
        subst (Joined level tighter (Punct p o ∷ xs)) (ok_is y.2) (inr (joins (Punct p o ∷ xs) x.0.1 y.0 (link_operand (m.0, no) d.0, d.1) (s_links level tighter ih k _ _ y.1))))
    | inr w ↦ none_is (Punct p o ∷ xs) r w.1
  ]
  s_links level tighter ih (suc k) (Keyword p v ∷ xs) r h = elim (chosen (nat_eq v word_instanceof && list_any (nat_eq instance_of) level) _ _ _ h) [
    | inl w ↦ (let m = both (nat_eq v word_instanceof) (list_any (nat_eq instance_of) level) w.0 in
        let x = bind_ok (reference_of xs) _ _ w.1 in
        let y = bind_ok (links_of (bin_of b tighter) level k x.0.1) _ _ x.2 in
        let d = derives_reference xs _ x.1 in
        let here = joins (Keyword p word_instanceof ∷ xs) x.0.1 y.0 (link_type {p = p} m.1 d.0, d.1) (s_links level tighter ih k _ _ y.1) in
        subst (Joined level tighter (Keyword p v ∷ xs)) (ok_is y.2)
        (subst (λ n. Joined level tighter (Keyword p n ∷ xs) (t.links p instance_of (t.of_type x.0.0) y.0.0, y.0.1)) (sym (eqb-true v word_instanceof m.0)) (inr here)))
    | inr w ↦ none_is (Keyword p v ∷ xs) r w.1
  ]
  s_links level tighter ih (suc k) (x ∷ xs) r h = none_is (x ∷ xs) r h

  pub s_bin : (levels : List (List ℕ)) → OperandsOf levels
  unfolding bin_of
  s_bin [] xs r h = let d = s_unary xs r h in (bin_unary d.0, d.1)
  s_bin (level ∷ tighter) xs r h =
      let x = bind_ok (bin_of b tighter xs) _ _ h in
      let y = bind_ok (links_of (bin_of b tighter) level (suc (length xs)) x.0.1) _ _ x.2 in
      subst (FoundBin (level ∷ tighter) xs) (ok_is y.2)
      (chains xs x.0.0 x.0.1 y.0 (s_bin tighter xs _ x.1) (s_links level tighter (s_bin tighter) (suc (length xs)) _ _ y.1))

  pub s_cond : (xs : List Terminal) (r : Parsed × List Terminal) → cond_of b xs ≡ Ok r → FoundCond xs r
  unfolding cond_of
  s_cond xs r h = bind_then (bin_of b levels xs) _ _ h (λ x e h'.
      let d = s_bin levels xs x e in
      elim (chosen (starts question_mark x.1) _ _ _ h') [
        | inl w ↦ bind_then (b.expr (rest_of x.1)) _ _ w.1 (λ y e' k.
            bind_then (closed colon y.0.1 y.1) _ _ k (λ z e'' k'.
            bind_then (b.cond z.1) _ _ k' (λ u o k''.
            subst (FoundCond xs) (ok_is k'') (choice xs x y z u w.0 d (s.expr _ _ e') e'' (s.cond _ _ o)))))
        | inr w ↦ subst (FoundCond xs) (ok_is w.1) (cond_bin d.0, d.1)
      ])

  s_assigned_to : (xs : List Terminal) (f : Form) (e : ExprTree) (p o : ℕ) (ys : List Terminal) (r : Parsed × List Terminal) → IsOneOf assignment_operators o → IsCond f e xs (Punct p o ∷ ys) → assigned_to b f e p o ys ≡ Ok r → FoundExpr xs r
  s_assigned_to xs Target e p o ys r m d h =
      let x = bind_ok (b.expr ys) _ _ h in
      let l = target_cond d.0 in
      let v = s.expr _ _ x.1 in
      subst (FoundExpr xs) (ok_is x.2) (expr_assign l.0 m v.0, omega (arith, l.1, d.1, v.1))
  s_assigned_to xs Effect e p o ys r m d h = absurd (err_ok h)
  s_assigned_to xs Other e p o ys r m d h = absurd (err_ok h)

  s_assigned : (xs : List Terminal) (x : Parsed) (ys : List Terminal) (r : Parsed × List Terminal) → IsCond x.0 x.1 xs ys → assigned_of b x ys ≡ Ok r → FoundExpr xs r
  s_assigned xs x [] r d h = subst (FoundExpr xs) (ok_is h) (expr_cond d.0, d.1)
  s_assigned xs x (Punct p o ∷ ys) r d h = elim (chosen (list_any (nat_eq o) assignment_operators) _ _ _ h) [
    | inl w ↦ s_assigned_to xs x.0 x.1 p o ys r w.0 d w.1
    | inr w ↦ subst (FoundExpr xs) (ok_is w.1) (expr_cond d.0, d.1)
  ]
  s_assigned xs x (y ∷ ys) r d h = subst (FoundExpr xs) (ok_is h) (expr_cond d.0, d.1)

  pub s_expr : (xs : List Terminal) (r : Parsed × List Terminal) → expr_of b xs ≡ Ok r → FoundExpr xs r
  unfolding expr_of
  s_expr xs r h =
      let x = bind_ok (cond_of b xs) _ _ h in
      s_assigned xs x.0.0 x.0.1 r (s_cond xs _ x.1) x.2

  s_one : (xs : List Terminal) (r : InitTree × List Terminal) → (expr_of b xs >>= λ r'. Ok (t.one r'.0.1, r'.1)) ≡ gives r → FoundInit xs r
  s_one xs r h =
      let x = bind_ok (expr_of b xs) _ _ h in
      let d = s_expr xs _ x.1 in
      subst (FoundInit xs) (ok_is x.2) (init_expr d.0, d.1)

  pub s_init : (xs : List Terminal) (r : InitTree × List Terminal) → init_of b xs ≡ Ok r → FoundInit xs r
  unfolding init_of
  s_init [] r h = s_one [] r h
  s_init (Punct p o ∷ xs) r h = elim (chosen (nat_eq o brace_open) _ _ _ h) [
    | inl w ↦ (let x = bind_ok (list_of b.init (Punct p o ∷ xs)) _ _ w.1 in
        let l = s_list (Punct p o ∷ xs) _ x.1 in
        let here = subst (λ n. IsList n x.0.0 (Punct p o ∷ xs) x.0.1) (sym (place l.0 l.1)) l.2 in
        subst (FoundInit (Punct p o ∷ xs)) (ok_is x.2) (init_list here.0, here.1))
    | inr w ↦ s_one (Punct p o ∷ xs) r w.1
  ]
    where
      place : (q : ℕ) → Punct p o ∷ xs ≡ Punct q brace_open ∷ xs → p ≡ q
      place q e = cc
  s_init (x ∷ xs) r h = s_one (x ∷ xs) r h

-- at each depth of nesting
pub sound : (n : ℕ) → Sound (below n)
unfolding below
sound zero = record { expr = λ xs r h. absurd (err_ok h); cond = λ xs r h. absurd (err_ok h); unary = λ xs r h. absurd (err_ok h); init = λ xs r h. absurd (err_ok h) }
sound (suc n) = record { expr = s_expr (below n) (sound n); cond = s_cond (below n) (sound n); unary = s_unary (below n) (sound n); init = s_init (below n) (sound n) }

pub derives_expr : (n : ℕ) (xs : List Terminal) (r : Parsed × List Terminal) → expr_of (below n) xs ≡ Ok r → FoundExpr xs r
derives_expr n xs r h = s_expr (below n) (sound n) xs r h

pub derives_init : (n : ℕ) (xs : List Terminal) (r : InitTree × List Terminal) → init_of (below n) xs ≡ Ok r → FoundInit xs r
derives_init n xs r h = s_init (below n) (sound n) xs r h

pub derives_args : (n : ℕ) (xs : List Terminal) (r : ExprTrees × List Terminal) → args_of (below n).expr xs ≡ Ok r → FoundArgs xs r
derives_args n xs r h = s_args (below n) (sound n) xs r h
