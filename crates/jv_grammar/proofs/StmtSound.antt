-- What is read as statements derives, and its types have at most 200 pairs of brackets.
use Rattle.std.proofs.Common.{◌≡◌, ℕ, zero, suc, ◌≤◌, inl, inr, true, nat_eq, List, [], ◌∷◌, length, arith, refl, sym, ap, ◌∙◌, subst, true≢false, Ok, Some, Option}
use borrow.Author.Tests.{eqb-true}
use Rattle.jv_tree.specs.ExprTree.{ExprTree, ExprTrees}
use Rattle.jv_tree.specs.StmtTree as s
use Rattle.jv_tree.specs.StmtTree.{VarTree, StmtTree, StmtTrees}
use Rattle.jv_grammar.specs.declared.terminal.Terminal.{Terminal}
use Rattle.jv_grammar.specs.declared.terminal.Terminal.TheVariants.{Ident, Keyword, Literal, Minimum, MinimumLong, Punct}
use Rattle.jv_grammar.specs.declared.form.Form.{Form}
use Rattle.jv_grammar.specs.declared.form.Form.TheVariants.{Target, Effect, Other}
use Rattle.jv_grammar.specs.Marks.{paren_open, paren_close, brace_open, brace_close, semicolon, comma, equals_sign, word_break, word_continue, word_do, word_else, word_final, word_for, word_if, word_return, word_while}
use Rattle.jv_grammar.specs.TypeGrammar.{is_word, starts, starts_word}
use Rattle.jv_grammar.specs.ExprGrammar.{at_of}
use Rattle.jv_grammar.specs.StmtGrammar.{if_else_kind, DerivesVar, var_alone, var_init, DerivesVars, vars_one, vars_more, DerivesLocal, local_vars, local_final, DerivesEffects, effects_one, effects_more, DerivesFirst, first_none, first_local, first_effects, DerivesOptional, optional_none, optional_some, DerivesUpdates, updates_none, updates_some, DerivesBlock, block, DerivesBstmts, bstmts_none, bstmts_more, DerivesBstmt, bstmt_local, bstmt_stmt, DerivesStmt, stmt_block, stmt_empty, stmt_effect, stmt_if, stmt_if_else, stmt_while, stmt_do, stmt_for, stmt_return, stmt_break, stmt_continue}
use Rattle.jv_grammar.specs.Reader.{rest_of, closed}
use Rattle.jv_grammar.specs.TypeReader.{ty_of}
use Rattle.jv_grammar.specs.ExprReader.{Below, expr_of, init_of, below}
use Rattle.jv_grammar.specs.StmtReader.{BelowStmt, behind, behind_word, var_by, vars_up_to, vars_by, final_by, plain_by, local_by, begins_local, is_effect, effect_by, effects_up_to, effects_by, first_by, optional_by, updates_by, paren_by, block_by, effect_stmt_by, if_by, while_by, do_by, ForHead, for_head_by, for_by, return_by, word_by, stmt_by, bstmt_by, ends_block, bstmts_up_to, bstmts_by, below_stmt, vars_of, local_of, block_of, bstmts_of, stmt_of}
use Rattle.jv_grammar.specs.StmtWidth.{wide_var, wide_vars, wide_local, wide_effects, wide_first, wide_optional, wide_updates, wide_block, wide_bstmts, wide_bstmt, wide_stmt}
use Rattle.jv_grammar.proofs.Read.{bind_ok, chosen, err_ok, ok_is, starts_is, closed_ok}
use Rattle.jv_grammar.proofs.Types.{derives_ty}
use Rattle.jv_grammar.proofs.Sound.{IsExpr, Sound, sound, s_expr, s_init}

-- derivations whose types have at most 200 pairs of brackets
abbrev pub IsVar : VarTree → List Terminal → List Terminal → Type 0
IsVar v xs ys = (d : DerivesVar v xs ys) × (wide_var d ≤ 200)

abbrev pub AreVars : List VarTree → List Terminal → List Terminal → Type 0
AreVars vs xs ys = (d : DerivesVars vs xs ys) × (wide_vars d ≤ 200)

abbrev pub IsLocal : StmtTree → List Terminal → List Terminal → Type 0
IsLocal x xs ys = (d : DerivesLocal x xs ys) × (wide_local d ≤ 200)

abbrev pub AreEffectsRead : ExprTrees → List Terminal → List Terminal → Type 0
AreEffectsRead es xs ys = (d : DerivesEffects es xs ys) × (wide_effects d ≤ 200)

abbrev pub IsFirst : StmtTrees → List Terminal → List Terminal → Type 0
IsFirst ss xs ys = (d : DerivesFirst ss xs ys) × (wide_first d ≤ 200)

abbrev pub IsOptional : Option ExprTree → List Terminal → List Terminal → Type 0
IsOptional c xs ys = (d : DerivesOptional c xs ys) × (wide_optional d ≤ 200)

abbrev pub AreUpdatesRead : ExprTrees → List Terminal → List Terminal → Type 0
AreUpdatesRead es xs ys = (d : DerivesUpdates es xs ys) × (wide_updates d ≤ 200)

abbrev pub IsBlock : ℕ → StmtTrees → List Terminal → List Terminal → Type 0
IsBlock p ss xs ys = (d : DerivesBlock p ss xs ys) × (wide_block d ≤ 200)

abbrev pub AreBstmts : StmtTrees → List Terminal → List Terminal → Type 0
AreBstmts ss xs ys = (d : DerivesBstmts ss xs ys) × (wide_bstmts d ≤ 200)

abbrev pub IsBstmt : StmtTree → List Terminal → List Terminal → Type 0
IsBstmt x xs ys = (d : DerivesBstmt x xs ys) × (wide_bstmt d ≤ 200)

abbrev pub IsStmt : StmtTree → List Terminal → List Terminal → Type 0
IsStmt x xs ys = (d : DerivesStmt x xs ys) × (wide_stmt d ≤ 200)

abbrev FoundVar : List Terminal → VarTree × List Terminal → Type 0
FoundVar xs r = IsVar r.0 xs r.1

abbrev FoundVars : List Terminal → List VarTree × List Terminal → Type 0
FoundVars xs r = AreVars r.0 xs r.1

abbrev FoundLocal : List Terminal → StmtTree × List Terminal → Type 0
FoundLocal xs r = IsLocal r.0 xs r.1

abbrev FoundEffect : List Terminal → ExprTree × List Terminal → Type 0
FoundEffect xs r = IsExpr Effect r.0 xs r.1

abbrev FoundEffects : List Terminal → ExprTrees × List Terminal → Type 0
FoundEffects xs r = AreEffectsRead r.0 xs r.1

abbrev FoundFirst : List Terminal → StmtTrees × List Terminal → Type 0
FoundFirst xs r = IsFirst r.0 xs r.1

abbrev FoundOptional : List Terminal → Option ExprTree × List Terminal → Type 0
FoundOptional xs r = IsOptional r.0 xs r.1

abbrev FoundUpdates : List Terminal → ExprTrees × List Terminal → Type 0
FoundUpdates xs r = AreUpdatesRead r.0 xs r.1

abbrev FoundBlock : List Terminal → (ℕ × StmtTrees) × List Terminal → Type 0
FoundBlock xs r = IsBlock r.0.0 r.0.1 xs r.1

abbrev FoundBstmts : List Terminal → StmtTrees × List Terminal → Type 0
FoundBstmts xs r = AreBstmts r.0 xs r.1

abbrev FoundBstmt : List Terminal → StmtTree × List Terminal → Type 0
FoundBstmt xs r = IsBstmt r.0 xs r.1

abbrev FoundStmt : List Terminal → StmtTree × List Terminal → Type 0
FoundStmt xs r = IsStmt r.0 xs r.1

-- an expression in parentheses
abbrev FoundParen : List Terminal → ExprTree × List Terminal → Type 0
FoundParen xs r = (f : Form) × (p : ℕ) × (q : ℕ) × (zs : List Terminal) × (xs ≡ Punct p paren_open ∷ zs) × IsExpr f r.0 zs (Punct q paren_close ∷ r.1)

-- the head of a `for`, in its parentheses
record IsForHeadRead (h : ForHead) (xs ys : List Terminal) : Type 0 where
  pub open_at : ℕ
  pub close_at : ℕ
  pub first_end : ℕ
  pub condition_end : ℕ
  pub zs : List Terminal
  pub ws : List Terminal
  pub vs : List Terminal
  pub opens : xs ≡ Punct open_at paren_open ∷ zs
  pub first : IsFirst h.first zs (Punct first_end semicolon ∷ ws)
  pub condition : IsOptional h.condition ws (Punct condition_end semicolon ∷ vs)
  pub updates : AreUpdatesRead h.updates vs (Punct close_at paren_close ∷ ys)

word_is : (n : ℕ) (x : Terminal) → is_word n x ≡ true → (p : ℕ) × (x ≡ Keyword p n)
word_is n (Ident i) h = absurd (true≢false (sym h))
word_is n (Keyword p k) h = (p, ap (λ m. Keyword p m) (eqb-true k n h))
word_is n (Literal p l) h = absurd (true≢false (sym h))
word_is n (Minimum p) h = absurd (true≢false (sym h))
word_is n (MinimumLong p) h = absurd (true≢false (sym h))
word_is n (Punct p o) h = absurd (true≢false (sym h))

pub starts_word_is : (n : ℕ) (xs : List Terminal) → starts_word n xs ≡ true → (p : ℕ) × (xs ≡ Keyword p n ∷ rest_of xs)
starts_word_is n [] h = absurd (true≢false (sym h))
starts_word_is n (x ∷ xs) h = let m = word_is n x h in (m.0, ap (λ y. y ∷ xs) m.1)

pub behind_ok : (n : ℕ) (xs ys : List Terminal) → behind n xs ≡ Ok ys → (p : ℕ) × (xs ≡ Punct p n ∷ ys)
behind_ok n xs ys h = elim (chosen (starts n xs) _ _ _ h) [
  | inl w ↦ (let m = starts_is n xs w.0 in (m.0, m.1 ∙ ap (λ z. Punct m.0 n ∷ z) (ok_is w.1)))
  | inr w ↦ absurd (err_ok w.1)
]

pub behind_word_ok : (n : ℕ) (xs ys : List Terminal) → behind_word n xs ≡ Ok ys → (p : ℕ) × (xs ≡ Keyword p n ∷ ys)
behind_word_ok n xs ys h = elim (chosen (starts_word n xs) _ _ _ h) [
  | inl w ↦ (let m = starts_word_is n xs w.0 in (m.0, m.1 ∙ ap (λ z. Keyword m.0 n ∷ z) (ok_is w.1)))
  | inr w ↦ absurd (err_ok w.1)
]

effect_is : (f : Form) → is_effect f ≡ true → f ≡ Effect
effect_is Target h = absurd (true≢false (sym h))
effect_is Effect h = refl
effect_is Other h = absurd (true≢false (sym h))

module _ (b : Below) (o : Sound b) where
  s_var : (xs : List Terminal) (r : VarTree × List Terminal) → var_by b xs ≡ Ok r → FoundVar xs r
  unfolding var_by
  s_var [] r h = absurd (err_ok h)
  s_var (Ident i ∷ xs) r h = elim (chosen (starts equals_sign xs) _ _ _ h) [
    | inl w ↦ (let m = starts_is equals_sign xs w.0 in
        let x = bind_ok (init_of b (rest_of xs)) _ _ w.1 in
        let d = s_init b o (rest_of xs) x.0 x.1 in
        subst (FoundVar (Ident i ∷ xs)) (ok_is x.2)
        (subst (λ z. IsVar (record { name = i; init = Some x.0.0 }) (Ident i ∷ z) x.0.1) (sym m.1) (var_init d.0, d.1)))
    | inr w ↦ subst (FoundVar (Ident i ∷ xs)) (ok_is w.1) (var_alone, omega arith)
  ]
  s_var (x ∷ xs) r h = absurd (err_ok h)

  s_vars_up_to : (k : ℕ) (xs : List Terminal) (r : List VarTree × List Terminal) → vars_up_to b k xs ≡ Ok r → FoundVars xs r
  unfolding vars_up_to
  s_vars_up_to zero xs r h = absurd (err_ok h)
  s_vars_up_to (suc k) xs r h =
      let x = bind_ok (var_by b xs) _ _ h in
      let d = s_var xs x.0 x.1 in
      elim (chosen (starts comma x.0.1) _ _ _ x.2) [
        | inl w ↦ (let m = starts_is comma x.0.1 w.0 in
            let y = bind_ok (vars_up_to b k (rest_of x.0.1)) _ _ w.1 in
            let d' = subst (IsVar x.0.0 xs) m.1 d in
            let q = s_vars_up_to k (rest_of x.0.1) y.0 y.1 in
            subst (FoundVars xs) (ok_is y.2) (vars_more d'.0 q.0, omega (arith, d'.1, q.1)))
        | inr w ↦ subst (FoundVars xs) (ok_is w.1) (vars_one d.0, d.1)
      ]

  pub s_vars : (xs : List Terminal) (r : List VarTree × List Terminal) → vars_by b xs ≡ Ok r → FoundVars xs r
  unfolding vars_by
  s_vars xs r h = s_vars_up_to (length xs) xs r h

  s_plain : (xs : List Terminal) (r : StmtTree × List Terminal) → plain_by b xs ≡ Ok r → FoundLocal xs r
  unfolding plain_by
  s_plain xs r h =
      let x = bind_ok (ty_of xs) _ _ h in
      let y = bind_ok (vars_by b x.0.1) _ _ x.2 in
      let d = derives_ty xs x.0 x.1 in
      let v = s_vars x.0.1 y.0 y.1 in
      subst (FoundLocal xs) (ok_is y.2) (local_vars d.0 v.0, omega (arith, d.1, v.1))

  s_final : (p : ℕ) (xs : List Terminal) (r : StmtTree × List Terminal) → final_by b p xs ≡ Ok r → FoundLocal (Keyword p word_final ∷ xs) r
  unfolding final_by
  s_final p xs r h =
      let x = bind_ok (ty_of xs) _ _ h in
      let y = bind_ok (vars_by b x.0.1) _ _ x.2 in
      let d = derives_ty xs x.0 x.1 in
      let v = s_vars x.0.1 y.0 y.1 in
      subst (FoundLocal (Keyword p word_final ∷ xs)) (ok_is y.2) (local_final d.0 v.0, omega (arith, d.1, v.1))

  pub s_local : (xs : List Terminal) (r : StmtTree × List Terminal) → local_by b xs ≡ Ok r → FoundLocal xs r
  unfolding local_by
  s_local [] r h = s_plain [] r h
  s_local (Keyword p k ∷ xs) r h = elim (chosen (nat_eq k word_final) _ _ _ h) [
    | inl w ↦ subst (λ n. FoundLocal (Keyword p n ∷ xs) r) (sym (eqb-true k word_final w.0)) (s_final p xs r w.1)
    | inr w ↦ s_plain (Keyword p k ∷ xs) r w.1
  ]
  s_local (x ∷ xs) r h = s_plain (x ∷ xs) r h

  s_effect : (xs : List Terminal) (r : ExprTree × List Terminal) → effect_by b xs ≡ Ok r → FoundEffect xs r
  unfolding effect_by
  s_effect xs r h =
      let x = bind_ok (expr_of b xs) _ _ h in
      elim (chosen (is_effect x.0.0.0) _ _ _ x.2) [
        | inl w ↦ subst (FoundEffect xs) (ok_is w.1) (subst (λ f. IsExpr f x.0.0.1 xs x.0.1) (effect_is x.0.0.0 w.0) (s_expr b o xs x.0 x.1))
        | inr w ↦ absurd (err_ok w.1)
      ]

  s_effects_up_to : (k : ℕ) (xs : List Terminal) (r : ExprTrees × List Terminal) → effects_up_to b k xs ≡ Ok r → FoundEffects xs r
  unfolding effects_up_to
  s_effects_up_to zero xs r h = absurd (err_ok h)
  s_effects_up_to (suc k) xs r h =
      let x = bind_ok (effect_by b xs) _ _ h in
      let d = s_effect xs x.0 x.1 in
      elim (chosen (starts comma x.0.1) _ _ _ x.2) [
        | inl w ↦ (let m = starts_is comma x.0.1 w.0 in
            let y = bind_ok (effects_up_to b k (rest_of x.0.1)) _ _ w.1 in
            let d' = subst (IsExpr Effect x.0.0 xs) m.1 d in
            let q = s_effects_up_to k (rest_of x.0.1) y.0 y.1 in
            subst (FoundEffects xs) (ok_is y.2) (effects_more d'.0 q.0, omega (arith, d'.1, q.1)))
        | inr w ↦ subst (FoundEffects xs) (ok_is w.1) (effects_one d.0, d.1)
      ]

  s_effects : (xs : List Terminal) (r : ExprTrees × List Terminal) → effects_by b xs ≡ Ok r → FoundEffects xs r
  unfolding effects_by
  s_effects xs r h = s_effects_up_to (length xs) xs r h

  s_first : (xs : List Terminal) (r : StmtTrees × List Terminal) → first_by b xs ≡ Ok r → FoundFirst xs r
  unfolding first_by
  s_first xs r h = elim (chosen (starts semicolon xs) _ _ _ h) [
    | inl w ↦ subst (FoundFirst xs) (ok_is w.1) (first_none, omega arith)
    | inr w ↦ elim (chosen (begins_local xs) _ _ _ w.1) [
      | inl v ↦ (let x = bind_ok (local_by b xs) _ _ v.1 in
          let d = s_local xs x.0 x.1 in
          subst (FoundFirst xs) (ok_is x.2) (first_local d.0, d.1))
      | inr v ↦ (let x = bind_ok (effects_by b xs) _ _ v.1 in
          let d = s_effects xs x.0 x.1 in
          subst (FoundFirst xs) (ok_is x.2) (first_effects d.0, d.1))
    ]
  ]

  s_optional : (xs : List Terminal) (r : Option ExprTree × List Terminal) → optional_by b xs ≡ Ok r → FoundOptional xs r
  unfolding optional_by
  s_optional xs r h = elim (chosen (starts semicolon xs) _ _ _ h) [
    | inl w ↦ subst (FoundOptional xs) (ok_is w.1) (optional_none, omega arith)
    | inr w ↦ (let x = bind_ok (expr_of b xs) _ _ w.1 in
        let d = s_expr b o xs x.0 x.1 in
        subst (FoundOptional xs) (ok_is x.2) (optional_some d.0, d.1))
  ]

  s_updates : (xs : List Terminal) (r : ExprTrees × List Terminal) → updates_by b xs ≡ Ok r → FoundUpdates xs r
  unfolding updates_by
  s_updates xs r h = elim (chosen (starts paren_close xs) _ _ _ h) [
    | inl w ↦ subst (FoundUpdates xs) (ok_is w.1) (updates_none, omega arith)
    | inr w ↦ (let d = s_effects xs r w.1 in (updates_some d.0, d.1))
  ]

  s_paren : (xs : List Terminal) (r : ExprTree × List Terminal) → paren_by b xs ≡ Ok r → FoundParen xs r
  unfolding paren_by
  s_paren xs r h =
      let x = bind_ok (behind paren_open xs) _ _ h in
      let m = behind_ok paren_open xs x.0 x.1 in
      let y = bind_ok (expr_of b x.0) _ _ x.2 in
      let q = closed_ok paren_close y.0.0.1 y.0.1 r y.2 in
      let d = subst (IsExpr y.0.0.0 y.0.0.1 x.0) q.1 (s_expr b o x.0 y.0 y.1) in
      (y.0.0.0, m.0, q.0, x.0, m.1, subst (λ v. IsExpr y.0.0.0 v x.0 (Punct q.0 paren_close ∷ r.1)) (sym q.2) d)

  s_for_head : (xs : List Terminal) (r : ForHead × List Terminal) → for_head_by b xs ≡ Ok r → IsForHeadRead r.0 xs r.1
  unfolding for_head_by
  s_for_head xs r h =
      let x = bind_ok (behind paren_open xs) _ _ h in
      let m = behind_ok paren_open xs x.0 x.1 in
      let i = bind_ok (first_by b x.0) _ _ x.2 in
      let y = bind_ok (behind semicolon i.0.1) _ _ i.2 in
      let u = behind_ok semicolon i.0.1 y.0 y.1 in
      let c = bind_ok (optional_by b y.0) _ _ y.2 in
      let z = bind_ok (behind semicolon c.0.1) _ _ c.2 in
      let v = behind_ok semicolon c.0.1 z.0 z.1 in
      let e = bind_ok (updates_by b z.0) _ _ z.2 in
      let q = closed_ok paren_close (record { first = i.0.0; condition = c.0.0; updates = e.0.0 }) e.0.1 r e.2 in
      subst (λ k. IsForHeadRead k xs r.1) (sym q.2) (record {
        open_at = m.0;
        close_at = q.0;
        first_end = u.0;
        condition_end = v.0;
        zs = x.0;
        ws = y.0;
        vs = z.0;
        opens = m.1;
        first = subst (IsFirst i.0.0 x.0) u.1 (s_first x.0 i.0 i.1);
        condition = subst (IsOptional c.0.0 y.0) v.1 (s_optional y.0 c.0 c.1);
        updates = subst (AreUpdatesRead e.0.0 z.0) q.1 (s_updates z.0 e.0 e.1);
      })

  s_effect_stmt : (xs : List Terminal) (r : StmtTree × List Terminal) → effect_stmt_by b xs ≡ Ok r → FoundStmt xs r
  unfolding effect_stmt_by
  s_effect_stmt xs r h =
      let x = bind_ok (effect_by b xs) _ _ h in
      let q = closed_ok semicolon (s.stmt (at_of x.0.0) (s.effect x.0.0)) x.0.1 r x.2 in
      let d = subst (IsExpr Effect x.0.0 xs) q.1 (s_effect xs x.0 x.1) in
      subst (λ z. IsStmt z xs r.1) (sym q.2) (stmt_effect d.0, d.1)

  s_return : (p : ℕ) (xs : List Terminal) (r : StmtTree × List Terminal) → return_by b p xs ≡ Ok r → FoundStmt (Keyword p word_return ∷ xs) r
  unfolding return_by
  s_return p xs r h =
      let x = bind_ok (optional_by b xs) _ _ h in
      let q = closed_ok semicolon (s.stmt p (s.return x.0.0)) x.0.1 r x.2 in
      let d = subst (IsOptional x.0.0 xs) q.1 (s_optional xs x.0 x.1) in
      subst (λ z. IsStmt z (Keyword p word_return ∷ xs) r.1) (sym q.2) (stmt_return d.0, d.1)

s_break : (p : ℕ) (xs : List Terminal) (r : StmtTree × List Terminal) → closed semicolon (s.stmt p s.break) xs ≡ Ok r → FoundStmt (Keyword p word_break ∷ xs) r
s_break p xs r h =
    let q = closed_ok semicolon (s.stmt p s.break) xs r h in
    subst (λ z. IsStmt z (Keyword p word_break ∷ xs) r.1) (sym q.2)
    (subst (λ z. IsStmt (s.stmt p s.break) (Keyword p word_break ∷ z) r.1) (sym q.1) (stmt_break, omega arith))

s_continue : (p : ℕ) (xs : List Terminal) (r : StmtTree × List Terminal) → closed semicolon (s.stmt p s.continue) xs ≡ Ok r → FoundStmt (Keyword p word_continue ∷ xs) r
s_continue p xs r h =
    let q = closed_ok semicolon (s.stmt p s.continue) xs r h in
    subst (λ z. IsStmt z (Keyword p word_continue ∷ xs) r.1) (sym q.2)
    (subst (λ z. IsStmt (s.stmt p s.continue) (Keyword p word_continue ∷ z) r.1) (sym q.1) (stmt_continue, omega arith))

-- What the readers below read derives.
pub record SoundStmt (l : BelowStmt) : Type 0 where
  pub stmt : (xs : List Terminal) (r : StmtTree × List Terminal) → l.stmt xs ≡ Ok r → FoundStmt xs r
  pub bstmts : (xs : List Terminal) (r : StmtTrees × List Terminal) → l.bstmts xs ≡ Ok r → FoundBstmts xs r

module _ (b : Below) (o : Sound b) (l : BelowStmt) (m : SoundStmt l) where
  pub s_block : (xs : List Terminal) (r : (ℕ × StmtTrees) × List Terminal) → block_by l xs ≡ Ok r → FoundBlock xs r
  unfolding block_by
  s_block [] r h = absurd (err_ok h)
  s_block (Punct p k ∷ xs) r h = elim (chosen (nat_eq k brace_open) _ _ _ h) [
    | inl w ↦ (let x = bind_ok (l.bstmts xs) _ _ w.1 in
        let q = closed_ok brace_close (p, x.0.0) x.0.1 r x.2 in
        let d = subst (AreBstmts x.0.0 xs) q.1 (m.bstmts xs x.0 x.1) in
        let here : IsBlock p x.0.0 (Punct p brace_open ∷ xs) r.1 = (block d.0, d.1) in
        subst (λ (z : ℕ × StmtTrees). IsBlock z.0 z.1 (Punct p k ∷ xs) r.1) (sym q.2)
        (subst (λ n. IsBlock p x.0.0 (Punct p n ∷ xs) r.1) (sym (eqb-true k brace_open w.0)) here))
    | inr w ↦ absurd (err_ok w.1)
  ]
  s_block (x ∷ xs) r h = absurd (err_ok h)

  s_if : (p : ℕ) (xs : List Terminal) (r : StmtTree × List Terminal) → if_by b l p xs ≡ Ok r → FoundStmt (Keyword p word_if ∷ xs) r
  unfolding if_by
  s_if p xs r h =
      let x = bind_ok (paren_by b xs) _ _ h in
      let e = s_paren b o xs x.0 x.1 in
      let y = bind_ok (l.stmt x.0.1) _ _ x.2 in
      let d = m.stmt x.0.1 y.0 y.1 in
      elim (chosen (starts_word word_else y.0.1) _ _ _ y.2) [
        | inl w ↦ (let q = starts_word_is word_else y.0.1 w.0 in
            let u = bind_ok (l.stmt (rest_of y.0.1)) _ _ w.1 in
            let d' = subst (IsStmt y.0.0 x.0.1) q.1 d in
            let v = m.stmt (rest_of y.0.1) u.0 u.1 in
            subst (FoundStmt (Keyword p word_if ∷ xs)) (ok_is u.2)
            (subst (λ z. IsStmt (s.stmt p (if_else_kind x.0.0 y.0.0 u.0.0)) (Keyword p word_if ∷ z) u.0.1) (sym e.4)
            (stmt_if_else e.5.0 d'.0 v.0, omega (arith, e.5.1, d'.1, v.1))))
        | inr w ↦ subst (FoundStmt (Keyword p word_if ∷ xs)) (ok_is w.1)
            (subst (λ z. IsStmt (s.stmt p (s.if_else (s.branches x.0.0 y.0.0 s.no_branches) s.no_else)) (Keyword p word_if ∷ z) y.0.1) (sym e.4)
            (stmt_if e.5.0 d.0 w.0, omega (arith, e.5.1, d.1)))
      ]

  s_while : (p : ℕ) (xs : List Terminal) (r : StmtTree × List Terminal) → while_by b l p xs ≡ Ok r → FoundStmt (Keyword p word_while ∷ xs) r
  unfolding while_by
  s_while p xs r h =
      let x = bind_ok (paren_by b xs) _ _ h in
      let e = s_paren b o xs x.0 x.1 in
      let y = bind_ok (l.stmt x.0.1) _ _ x.2 in
      let d = m.stmt x.0.1 y.0 y.1 in
      subst (FoundStmt (Keyword p word_while ∷ xs)) (ok_is y.2)
      (subst (λ z. IsStmt (s.stmt p (s.while_loop x.0.0 y.0.0)) (Keyword p word_while ∷ z) y.0.1) (sym e.4)
      (stmt_while e.5.0 d.0, omega (arith, e.5.1, d.1)))

  s_do : (p : ℕ) (xs : List Terminal) (r : StmtTree × List Terminal) → do_by b l p xs ≡ Ok r → FoundStmt (Keyword p word_do ∷ xs) r
  unfolding do_by
  s_do p xs r h =
      let x = bind_ok (l.stmt xs) _ _ h in
      let y = bind_ok (behind_word word_while x.0.1) _ _ x.2 in
      let v = behind_word_ok word_while x.0.1 y.0 y.1 in
      let z = bind_ok (paren_by b y.0) _ _ y.2 in
      let e = s_paren b o y.0 z.0 z.1 in
      let q = closed_ok semicolon (s.stmt p (s.do_loop x.0.0 z.0.0)) z.0.1 r z.2 in
      let d = subst (IsStmt x.0.0 xs) (v.1 ∙ ap (λ k. Keyword v.0 word_while ∷ k) e.4) (m.stmt xs x.0 x.1) in
      let c = subst (λ k. IsExpr e.0 z.0.0 e.3 (Punct e.2 paren_close ∷ k)) q.1 e.5 in
      subst (λ k. IsStmt k (Keyword p word_do ∷ xs) r.1) (sym q.2) (stmt_do d.0 c.0, omega (arith, d.1, c.1))

  s_for : (p : ℕ) (xs : List Terminal) (r : StmtTree × List Terminal) → for_by b l p xs ≡ Ok r → FoundStmt (Keyword p word_for ∷ xs) r
  unfolding for_by
  s_for p xs r h =
      let x = bind_ok (for_head_by b xs) _ _ h in
      let e = s_for_head b o xs x.0 x.1 in
      let y = bind_ok (l.stmt x.0.1) _ _ x.2 in
      let d = m.stmt x.0.1 y.0 y.1 in
      subst (FoundStmt (Keyword p word_for ∷ xs)) (ok_is y.2)
      (subst (λ z. IsStmt (s.stmt p (s.for_loop x.0.0.first x.0.0.condition x.0.0.updates y.0.0)) (Keyword p word_for ∷ z) y.0.1) (sym e.opens)
      (stmt_for e.first.0 e.condition.0 e.updates.0 d.0, omega (arith, e.first.1, e.condition.1, e.updates.1, d.1)))

  s_word : (p k : ℕ) (xs : List Terminal) (r : StmtTree × List Terminal) → word_by b l p k xs ≡ Ok r → FoundStmt (Keyword p k ∷ xs) r
  unfolding word_by
  s_word p k xs r h = elim (chosen (nat_eq k word_if) _ _ _ h) [
    | inl w ↦ is word_if w.0 (s_if p xs r w.1)
    | inr w1 ↦ elim (chosen (nat_eq k word_while) _ _ _ w1.1) [
      | inl w ↦ is word_while w.0 (s_while p xs r w.1)
      | inr w2 ↦ elim (chosen (nat_eq k word_do) _ _ _ w2.1) [
        | inl w ↦ is word_do w.0 (s_do p xs r w.1)
        | inr w3 ↦ elim (chosen (nat_eq k word_for) _ _ _ w3.1) [
          | inl w ↦ is word_for w.0 (s_for p xs r w.1)
          | inr w4 ↦ elim (chosen (nat_eq k word_return) _ _ _ w4.1) [
            | inl w ↦ is word_return w.0 (s_return b o p xs r w.1)
            | inr w5 ↦ elim (chosen (nat_eq k word_break) _ _ _ w5.1) [
              | inl w ↦ is word_break w.0 (s_break p xs r w.1)
              | inr w6 ↦ elim (chosen (nat_eq k word_continue) _ _ _ w6.1) [
                | inl w ↦ is word_continue w.0 (s_continue p xs r w.1)
                | inr w7 ↦ s_effect_stmt b o (Keyword p k ∷ xs) r w7.1
              ]
            ]
          ]
        ]
      ]
    ]
  ]
    where
      is : (n : ℕ) → nat_eq k n ≡ true → FoundStmt (Keyword p n ∷ xs) r → FoundStmt (Keyword p k ∷ xs) r
      is n e d = subst (λ z. FoundStmt (Keyword p z ∷ xs) r) (sym (eqb-true k n e)) d

  pub s_stmt : (xs : List Terminal) (r : StmtTree × List Terminal) → stmt_by b l xs ≡ Ok r → FoundStmt xs r
  unfolding stmt_by
  s_stmt [] r h = s_effect_stmt b o [] r h
  s_stmt (Keyword p k ∷ xs) r h = s_word p k xs r h
  s_stmt (Punct p k ∷ xs) r h = elim (chosen (nat_eq k brace_open) _ _ _ h) [
    | inl w ↦ (let x = bind_ok (block_by l (Punct p k ∷ xs)) _ _ w.1 in
        let d = s_block (Punct p k ∷ xs) x.0 x.1 in
        subst (FoundStmt (Punct p k ∷ xs)) (ok_is x.2) (stmt_block d.0, d.1))
    | inr w ↦ elim (chosen (nat_eq k semicolon) _ _ _ w.1) [
      | inl v ↦ subst (FoundStmt (Punct p k ∷ xs)) (ok_is v.1)
          (subst (λ n. IsStmt (s.stmt p s.empty) (Punct p n ∷ xs) xs) (sym (eqb-true k semicolon v.0)) (stmt_empty, omega arith))
      | inr v ↦ s_effect_stmt b o (Punct p k ∷ xs) r v.1
    ]
  ]
  s_stmt (x ∷ xs) r h = s_effect_stmt b o (x ∷ xs) r h

  s_bstmt : (xs : List Terminal) (r : StmtTree × List Terminal) → bstmt_by b l xs ≡ Ok r → FoundBstmt xs r
  unfolding bstmt_by
  s_bstmt xs r h = elim (chosen (begins_local xs) _ _ _ h) [
    | inl w ↦ (let x = bind_ok (local_by b xs) _ _ w.1 in
        let q = closed_ok semicolon x.0.0 x.0.1 r x.2 in
        let d = subst (IsLocal x.0.0 xs) q.1 (s_local b o xs x.0 x.1) in
        subst (λ z. IsBstmt z xs r.1) (sym q.2) (bstmt_local d.0, d.1))
    | inr w ↦ (let d = s_stmt xs r w.1 in (bstmt_stmt d.0, d.1))
  ]

  s_bstmts_up_to : (k : ℕ) (xs : List Terminal) (r : StmtTrees × List Terminal) → bstmts_up_to b l k xs ≡ Ok r → FoundBstmts xs r
  unfolding bstmts_up_to
  s_bstmts_up_to zero xs r h = absurd (err_ok h)
  s_bstmts_up_to (suc k) xs r h = elim (chosen (ends_block xs) _ _ _ h) [
    | inl w ↦ subst (FoundBstmts xs) (ok_is w.1) (bstmts_none, omega arith)
    | inr w ↦ (let x = bind_ok (bstmt_by b l xs) _ _ w.1 in
        let y = bind_ok (bstmts_up_to b l k x.0.1) _ _ x.2 in
        let d = s_bstmt xs x.0 x.1 in
        let q = s_bstmts_up_to k x.0.1 y.0 y.1 in
        subst (FoundBstmts xs) (ok_is y.2) (bstmts_more d.0 q.0, omega (arith, d.1, q.1)))
  ]

  pub s_bstmts : (xs : List Terminal) (r : StmtTrees × List Terminal) → bstmts_by b l xs ≡ Ok r → FoundBstmts xs r
  unfolding bstmts_by
  s_bstmts xs r h = s_bstmts_up_to (suc (length xs)) xs r h

-- at each depth of nesting
pub sound_stmt : (n : ℕ) → SoundStmt (below_stmt n)
unfolding below_stmt
sound_stmt zero = record { stmt = λ xs r h. absurd (err_ok h); bstmts = λ xs r h. absurd (err_ok h) }
sound_stmt (suc n) = record { stmt = s_stmt (below n) (sound n) (below_stmt n) (sound_stmt n); bstmts = s_bstmts (below n) (sound n) (below_stmt n) (sound_stmt n) }

pub derives_vars : (n : ℕ) (xs : List Terminal) (r : List VarTree × List Terminal) → vars_of n xs ≡ Ok r → FoundVars xs r
derives_vars n xs r h = s_vars (below n) (sound n) xs r h

pub derives_local : (n : ℕ) (xs : List Terminal) (r : StmtTree × List Terminal) → local_of n xs ≡ Ok r → FoundLocal xs r
derives_local n xs r h = s_local (below n) (sound n) xs r h

pub derives_block : (n : ℕ) (xs : List Terminal) (r : (ℕ × StmtTrees) × List Terminal) → block_of n xs ≡ Ok r → FoundBlock xs r
derives_block n xs r h = s_block (below n) (sound n) (below_stmt n) (sound_stmt n) xs r h

pub derives_bstmts : (n : ℕ) (xs : List Terminal) (r : StmtTrees × List Terminal) → bstmts_of n xs ≡ Ok r → FoundBstmts xs r
derives_bstmts n xs r h = s_bstmts (below n) (sound n) (below_stmt n) (sound_stmt n) xs r h

pub derives_stmt : (n : ℕ) (xs : List Terminal) (r : StmtTree × List Terminal) → stmt_of n xs ≡ Ok r → FoundStmt xs r
derives_stmt n xs r h = s_stmt (below n) (sound n) (below_stmt n) (sound_stmt n) xs r h
