-- A reader that asks for one more terminal at the end was given what begins its part: statements and blocks, at each depth of nesting.
use Rattle.std.proofs.Common.{◌≡◌, ℕ, zero, suc, inl, inr, true, nat_eq, List, [], ◌∷◌, length, sym, subst, Ok}
use borrow.Author.Tests.{eqb-true}
use Rattle.jv_tree.specs.StmtTree as s
use Rattle.jv_tree.specs.StmtTree.{StmtTree, StmtTrees}
use Rattle.jv_grammar.specs.declared.terminal.Terminal.{Terminal}
use Rattle.jv_grammar.specs.declared.terminal.Terminal.TheVariants.{Keyword, Punct}
use Rattle.jv_grammar.specs.declared.form.Form.TheVariants.{Effect}
use Rattle.jv_grammar.specs.Marks.{paren_close, brace_open, brace_close, semicolon, word_break, word_continue, word_do, word_else, word_for, word_if, word_return, word_while}
use Rattle.jv_grammar.specs.TypeGrammar.{starts_word}
use Rattle.jv_grammar.specs.ExprGrammar.{at_of, DerivesExpr}
use Rattle.jv_grammar.specs.StmtGrammar.{DerivesLocal, DerivesOptional, DerivesBstmts, DerivesBstmt, bstmt_local, bstmt_stmt, DerivesStmt}
use Rattle.jv_grammar.specs.Reader.{rest_of}
use Rattle.jv_grammar.specs.ExprReader.{Below, below}
use Rattle.jv_grammar.specs.StmtReader.{BelowStmt, behind_word, local_by, begins_local, effect_by, optional_by, paren_by, block_by, effect_stmt_by, if_by, while_by, do_by, for_head_by, for_by, return_by, word_by, stmt_by, bstmt_by, ends_block, bstmts_up_to, bstmts_by, below_stmt}
use Rattle.jv_grammar.specs.ExprBegins.{begun_expr_whole}
use Rattle.jv_grammar.specs.StmtBegins.{begun_local_whole, begun_optional_whole, BeginsBlock, begun_block_none, begun_block_some, BeginsBstmts, begun_bstmts_none, begun_bstmts_one, begun_bstmts_more, begun_bstmts_whole, begun_bstmt_local, begun_bstmt_stmt, BeginsStmt, begun_stmt_none, begun_stmt_block, begun_stmt_effect, begun_stmt_if, begun_stmt_if_test, begun_stmt_if_then, begun_stmt_if_else, begun_stmt_while, begun_stmt_while_test, begun_stmt_while_body, begun_stmt_do, begun_stmt_do_while, begun_stmt_do_test, begun_stmt_do_close, begun_stmt_return, begun_stmt_break, begun_stmt_continue, begun_stmt_whole}
use Rattle.jv_grammar.proofs.StuckLaw.{IsStuck, StuckBelow, StuckBelowStmt, StuckBlock, StuckEffectStmt, StuckIf, StuckWhile, StuckDo, StuckFor, StuckReturn, StuckWord, StuckStmt, StuckBstmt, StuckBstmts, StatementsAreStuck}
use Rattle.jv_grammar.proofs.Read.{bind_then, chosen, closed_ok}
use Rattle.jv_grammar.proofs.Sound.{Sound, sound}
use Rattle.jv_grammar.proofs.StmtSound.{SoundStmt, sound_stmt, starts_word_is, behind_word_ok, s_local, s_stmt}
use Rattle.jv_grammar.proofs.Stuck.{err_is, ok_err, more_err, stops_then}
use Rattle.jv_grammar.proofs.StuckHeads.{closed_stop}
use Rattle.jv_grammar.proofs.StuckReaders.{readers_are_stuck}
use Rattle.jv_grammar.proofs.StmtStuckParts.{behind_word_stop, effect_by_derives, optional_derives, paren_derives, for_body, stuck_local_by, stuck_effect, stuck_optional, stuck_paren, stuck_for_head}

-- where a keyword is what a statement begins with, the statement is begun by it
word_begins : (n p j : ℕ) (xs : List Terminal) → nat_eq j n ≡ true → BeginsStmt (Keyword p n ∷ xs) → BeginsStmt (Keyword p j ∷ xs)
word_begins n p j xs e r = subst (λ z. BeginsStmt (Keyword p z ∷ xs)) (sym (eqb-true j n e)) r

module _ (b : Below) (o : Sound b) (k : StuckBelow b) where
  pub stuck_effect_stmt : StuckEffectStmt b
  unfolding effect_stmt_by
  stuck_effect_stmt xs h = begun_stmt_effect (stops_then (effect_by b xs) _ h (stuck_effect b o k xs) (λ x e h'.
      begun_expr_whole (subst (DerivesExpr Effect x.0 xs) (closed_stop semicolon (s.stmt (at_of x.0) (s.effect x.0)) x.1 h') (effect_by_derives b o xs x e))))

  pub stuck_return : StuckReturn b
  unfolding return_by
  stuck_return p xs h = begun_stmt_return (stops_then (optional_by b xs) _ h (stuck_optional b o k xs) (λ x e h'.
      begun_optional_whole (subst (DerivesOptional x.0 xs) (closed_stop semicolon (s.stmt p (s.return x.0)) x.1 h') (optional_derives b o xs x e))))

module _ (l : BelowStmt) (m : SoundStmt l) (u : StuckBelowStmt l) where
  pub stuck_block : StuckBlock l
  unfolding block_by
  stuck_block [] h = begun_block_none
  stuck_block (Punct p j ∷ xs) h = elim (chosen (nat_eq j brace_open) _ _ _ h) [
    | inl w ↦ subst (λ n. BeginsBlock (Punct p n ∷ xs)) (sym (eqb-true j brace_open w.0)) (begun_block_some (stops_then (l.bstmts xs) _ w.1 (u.bstmts xs) (λ x e h'.
        begun_bstmts_whole (subst (DerivesBstmts x.0 xs) (closed_stop {A = ℕ × StmtTrees} brace_close (p, x.0) x.1 h') (m.bstmts xs x e).0))))
    | inr w ↦ absurd (more_err w.1)
  ]
  stuck_block (x ∷ xs) h = absurd (more_err h)

module _ (b : Below) (o : Sound b) (k : StuckBelow b) (l : BelowStmt) (m : SoundStmt l) (u : StuckBelowStmt l) where
  pub stuck_if : StuckIf b l
  unfolding if_by
  stuck_if p xs h = stops_then (paren_by b xs) _ h
      (λ q. elim (stuck_paren b o k xs q) [
        | inl e ↦ subst (λ z. BeginsStmt (Keyword p word_if ∷ z)) (sym e) begun_stmt_if
        | inr e ↦ subst (λ z. BeginsStmt (Keyword p word_if ∷ z)) (sym e.2) (begun_stmt_if_test e.3)
      ])
      (λ x e h'.
      let d = paren_derives b o xs x e in
      subst (λ z. BeginsStmt (Keyword p word_if ∷ z)) (sym d.4) (stops_then (l.stmt x.1) _ h' (λ q. begun_stmt_if_then d.5 (u.stmt x.1 q)) (λ y e' h''.
      elim (chosen (starts_word word_else y.1) _ _ _ h'') [
        | inl w ↦ (let v = starts_word_is word_else y.1 w.0 in
            stops_then (l.stmt (rest_of y.1)) _ w.1
            (λ q. begun_stmt_if_else d.5 (subst (DerivesStmt y.0 x.1) v.1 (m.stmt x.1 y e').0) (u.stmt (rest_of y.1) q))
            (λ z e'' k'. absurd (ok_err k')))
        | inr w ↦ absurd (ok_err w.1)
      ])))

  pub stuck_while : StuckWhile b l
  unfolding while_by
  stuck_while p xs h = stops_then (paren_by b xs) _ h
      (λ q. elim (stuck_paren b o k xs q) [
        | inl e ↦ subst (λ z. BeginsStmt (Keyword p word_while ∷ z)) (sym e) begun_stmt_while
        | inr e ↦ subst (λ z. BeginsStmt (Keyword p word_while ∷ z)) (sym e.2) (begun_stmt_while_test e.3)
      ])
      (λ x e h'.
      let d = paren_derives b o xs x e in
      subst (λ z. BeginsStmt (Keyword p word_while ∷ z)) (sym d.4) (stops_then (l.stmt x.1) _ h' (λ q. begun_stmt_while_body d.5 (u.stmt x.1 q)) (λ y e' k'. absurd (ok_err k'))))

  pub stuck_do : StuckDo b l
  unfolding do_by
  stuck_do p xs h = stops_then (l.stmt xs) _ h (λ q. begun_stmt_do (u.stmt xs q)) (λ x e h'.
      stops_then (behind_word word_while x.1) _ h'
      (λ q. begun_stmt_do (begun_stmt_whole (subst (DerivesStmt x.0 xs) (behind_word_stop word_while x.1 q) (m.stmt xs x e).0)))
      (λ ys e' h''.
      let v = behind_word_ok word_while x.1 ys e' in
      let d = subst (DerivesStmt x.0 xs) v.1 (m.stmt xs x e).0 in
      stops_then (paren_by b ys) _ h''
      (λ q. elim (stuck_paren b o k ys q) [
        | inl n ↦ begun_stmt_do_while (subst (λ z. DerivesStmt x.0 xs (Keyword v.0 word_while ∷ z)) n d)
        | inr n ↦ begun_stmt_do_test (subst (λ z. DerivesStmt x.0 xs (Keyword v.0 word_while ∷ z)) n.2 d) n.3
      ])
      (λ z e'' k'.
      let c = paren_derives b o ys z e'' in
      begun_stmt_do_close (subst (λ i. DerivesStmt x.0 xs (Keyword v.0 word_while ∷ i)) c.4 d)
      (subst (λ i. DerivesExpr c.0 z.0 c.3 (Punct c.2 paren_close ∷ i)) (closed_stop semicolon (s.stmt p (s.do_loop x.0 z.0)) z.1 k') c.5))))

  pub stuck_for : StuckFor b l
  unfolding for_by
  stuck_for p xs h = stops_then (for_head_by b xs) _ h (stuck_for_head b o k p xs) (λ x e h'.
      stops_then (l.stmt x.1) _ h' (λ q. for_body b o p xs x e (u.stmt x.1 q)) (λ y e' k'. absurd (ok_err k')))

  pub stuck_word : StuckWord b l
  unfolding word_by
  stuck_word p j xs h = elim (chosen (nat_eq j word_if) _ _ _ h) [
    | inl w ↦ word_begins word_if p j xs w.0 (stuck_if p xs w.1)
    | inr w1 ↦ elim (chosen (nat_eq j word_while) _ _ _ w1.1) [
      | inl w ↦ word_begins word_while p j xs w.0 (stuck_while p xs w.1)
      | inr w2 ↦ elim (chosen (nat_eq j word_do) _ _ _ w2.1) [
        | inl w ↦ word_begins word_do p j xs w.0 (stuck_do p xs w.1)
        | inr w3 ↦ elim (chosen (nat_eq j word_for) _ _ _ w3.1) [
          | inl w ↦ word_begins word_for p j xs w.0 (stuck_for p xs w.1)
          | inr w4 ↦ elim (chosen (nat_eq j word_return) _ _ _ w4.1) [
            | inl w ↦ word_begins word_return p j xs w.0 (stuck_return b o k p xs w.1)
            | inr w5 ↦ elim (chosen (nat_eq j word_break) _ _ _ w5.1) [
              | inl w ↦ word_begins word_break p j xs w.0 (subst (λ z. BeginsStmt (Keyword p word_break ∷ z)) (sym (closed_stop semicolon (s.stmt p s.break) xs w.1)) begun_stmt_break)
              | inr w6 ↦ elim (chosen (nat_eq j word_continue) _ _ _ w6.1) [
                | inl w ↦ word_begins word_continue p j xs w.0 (subst (λ z. BeginsStmt (Keyword p word_continue ∷ z)) (sym (closed_stop semicolon (s.stmt p s.continue) xs w.1)) begun_stmt_continue)
                | inr w7 ↦ stuck_effect_stmt b o k (Keyword p j ∷ xs) w7.1
              ]
            ]
          ]
        ]
      ]
    ]
  ]

  pub stuck_stmt : StuckStmt b l
  unfolding stmt_by
  stuck_stmt [] h = begun_stmt_none
  stuck_stmt (Keyword p j ∷ xs) h = stuck_word p j xs h
  stuck_stmt (Punct p j ∷ xs) h = elim (chosen (nat_eq j brace_open) _ _ _ h) [
    | inl w ↦ begun_stmt_block (stops_then (block_by l (Punct p j ∷ xs)) _ w.1 (stuck_block l m u (Punct p j ∷ xs)) (λ y e k'. absurd (ok_err k')))
    | inr w ↦ elim (chosen (nat_eq j semicolon) _ _ _ w.1) [
      | inl v ↦ absurd (ok_err v.1)
      | inr v ↦ stuck_effect_stmt b o k (Punct p j ∷ xs) v.1
    ]
  ]
  stuck_stmt (x ∷ xs) h = stuck_effect_stmt b o k (x ∷ xs) h

  pub stuck_bstmt : StuckBstmt b l
  unfolding bstmt_by
  stuck_bstmt xs h = elim (chosen (begins_local xs) _ _ _ h) [
    | inl w ↦ begun_bstmt_local (stops_then (local_by b xs) _ w.1 (stuck_local_by b o k xs) (λ x e h'.
        begun_local_whole (subst (DerivesLocal x.0 xs) (closed_stop semicolon x.0 x.1 h') (s_local b o xs x e).0)))
    | inr w ↦ begun_bstmt_stmt (stuck_stmt xs w.1)
  ]

  bstmt_derives : (xs : List Terminal) (r : StmtTree × List Terminal) → bstmt_by b l xs ≡ Ok r → DerivesBstmt r.0 xs r.1
  unfolding bstmt_by
  bstmt_derives xs r h = elim (chosen (begins_local xs) _ _ _ h) [
    | inl w ↦ bind_then (local_by b xs) _ _ w.1 (λ x e k'.
        let q = closed_ok semicolon x.0 x.1 r k' in
        subst (λ z. DerivesBstmt z xs r.1) (sym q.2) (bstmt_local (subst (DerivesLocal x.0 xs) q.1 (s_local b o xs x e).0)))
    | inr w ↦ bstmt_stmt (s_stmt b o l m xs r w.1).0
  ]

  stuck_bstmts_up_to : (c : ℕ) → IsStuck (bstmts_up_to b l c) BeginsBstmts
  unfolding bstmts_up_to
  stuck_bstmts_up_to zero xs h = subst BeginsBstmts (sym (err_is h)) begun_bstmts_none
  stuck_bstmts_up_to (suc c) xs h = elim (chosen (ends_block xs) _ _ _ h) [
    | inl w ↦ absurd (ok_err w.1)
    | inr w ↦ stops_then (bstmt_by b l xs) _ w.1 (λ q. begun_bstmts_one (stuck_bstmt xs q)) (λ x e h'.
        stops_then (bstmts_up_to b l c x.1) _ h' (λ q. begun_bstmts_more (bstmt_derives xs x e) (stuck_bstmts_up_to c x.1 q)) (λ y e' k'. absurd (ok_err k')))
  ]

  stuck_bstmts_by : IsStuck (bstmts_by b l) BeginsBstmts
  unfolding bstmts_by
  stuck_bstmts_by xs h = stuck_bstmts_up_to (suc (length xs)) xs h

  pub stuck_bstmts : StuckBstmts b l
  stuck_bstmts = (stuck_bstmts_up_to, stuck_bstmts_by)

-- at each depth of nesting
pub statements_are_stuck : StatementsAreStuck
unfolding below_stmt
statements_are_stuck zero = record { stmt = λ xs h. subst BeginsStmt (sym (err_is h)) begun_stmt_none; bstmts = λ xs h. subst BeginsBstmts (sym (err_is h)) begun_bstmts_none }
statements_are_stuck (suc n) = record {
  stmt = stuck_stmt (below n) (sound n) (readers_are_stuck n) (below_stmt n) (sound_stmt n) (statements_are_stuck n);
  bstmts = (stuck_bstmts (below n) (sound n) (readers_are_stuck n) (below_stmt n) (sound_stmt n) (statements_are_stuck n)).1;
}
