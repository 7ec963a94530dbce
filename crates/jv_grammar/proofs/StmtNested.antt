-- How deep statements nest: no deeper than the load leaves room for.
use Rattle.std.proofs.Common.{◌≡◌, ℕ, suc, ◌+◌, ◌≤◌, max, Bool, true, false, not, ◌||◌, List, ◌∷◌, Option, Some, if◌then◌else◌, refl, arith, true≢false}
use Rattle.jv_tree.specs.ExprTree.{ExprTree, ExprTrees}
use Rattle.jv_tree.specs.StmtTree.{VarTree, StmtTree, StmtTrees}
use Rattle.jv_grammar.specs.declared.terminal.Terminal.{Terminal}
use Rattle.jv_grammar.specs.declared.terminal.Terminal.TheVariants.{Keyword}
use Rattle.jv_grammar.specs.StmtGrammar.{DerivesVar, var_alone, var_init, DerivesVars, vars_one, vars_more, DerivesLocal, local_vars, local_final, DerivesEffects, effects_one, effects_more, DerivesFirst, first_none, first_local, first_effects, DerivesOptional, optional_none, optional_some, DerivesUpdates, updates_none, updates_some, DerivesBlock, block, DerivesBstmts, bstmts_none, bstmts_more, DerivesBstmt, bstmt_local, bstmt_stmt, DerivesStmt, stmt_block, stmt_empty, stmt_effect, stmt_if, stmt_if_else, stmt_while, stmt_do, stmt_for, stmt_return, stmt_break, stmt_continue}
use Rattle.jv_grammar.specs.Load.{is_keyword, is_there}
use Rattle.jv_grammar.proofs.Depth.{deep_expr}
use Rattle.jv_grammar.proofs.StmtDepth.{deep_var, deep_vars, deep_local, deep_effects, deep_first, deep_optional, deep_updates, deep_block, deep_bstmts, deep_bstmt, deep_stmt}
use Rattle.jv_grammar.proofs.Stretches.{Nests, Parts, done, eased, eased_parts, behind, flat, chain, round, braces, kept_on, part, parts, loose, semicolon_end}
use Rattle.jv_grammar.proofs.Nested.{IsFree, nests_ty, nests_expr, nests_effect, parts_init}

pub parts_var : {most : ℕ} {b : Option Terminal} {v : VarTree} {xs ys : List Terminal} (d : DerivesVar v xs ys) → Parts most b (suc (deep_var d)) xs ys
parts_var var_alone = loose refl (part done)
parts_var (var_init d) = loose refl (loose refl (parts_init refl d))

pub parts_vars : {most : ℕ} {b : Option Terminal} {vs : List VarTree} {xs ys : List Terminal} (d : DerivesVars vs xs ys) → Parts most b (suc (deep_vars d)) xs ys
parts_vars (vars_one d) = parts_var d
parts_vars (vars_more d r) = eased_parts (parts (parts_var d) (λ c. loose refl (parts_vars r))) (omega arith)

pub parts_local : {most : ℕ} {b : Option Terminal} {x : StmtTree} {xs ys : List Terminal} (d : DerivesLocal x xs ys) → Parts most b (suc (deep_local d)) xs ys
parts_local (local_vars d r) = eased_parts (parts (part (nests_ty d)) (λ c. parts_vars r)) (omega arith)
parts_local (local_final d r) = loose refl (eased_parts (parts (part (nests_ty d)) (λ c. parts_vars r)) (omega arith))

pub parts_effects : {most : ℕ} {b : Option Terminal} {es : ExprTrees} {xs ys : List Terminal} (d : DerivesEffects es xs ys) → Parts most b (suc (deep_effects d)) xs ys
parts_effects (effects_one d) = part (nests_effect d)
parts_effects (effects_more d r) = eased_parts (parts (part (nests_effect d)) (λ c. loose refl (parts_effects r))) (omega arith)

pub parts_first : {most : ℕ} {b : Option Terminal} {ss : StmtTrees} {xs ys : List Terminal} (d : DerivesFirst ss xs ys) → Parts most b (suc (deep_first d)) xs ys
parts_first first_none = part done
parts_first (first_local d) = parts_local d
parts_first (first_effects d) = parts_effects d

pub nests_optional : {most : ℕ} {b : Option Terminal} {c : Option ExprTree} {xs ys : List Terminal} → IsFree b → (d : DerivesOptional c xs ys) → Nests most false b (suc (deep_optional d)) xs ys
nests_optional n optional_none = done
nests_optional n (optional_some d) = nests_expr n d

pub parts_updates : {most : ℕ} {b : Option Terminal} {es : ExprTrees} {xs ys : List Terminal} (d : DerivesUpdates es xs ys) → Parts most b (suc (deep_updates d)) xs ys
parts_updates updates_none = part done
parts_updates (updates_some d) = parts_effects d

-- An `if` directly behind `else` is no chain token: room for one level more, but none behind `else`.
abbrev pub spare_of : Bool → ℕ
spare_of b = if b then 0 else 1

abbrev pub spare : Option Terminal → ℕ
spare before = spare_of (is_there (is_keyword 14) before)

pub spare_low : (b : Bool) → spare_of b ≤ 1
spare_low true = omega arith
spare_low false = omega arith

pub no_else : (a : Bool) → a ≡ false → not a || false || false || false ≡ true
no_else true h = absurd (true≢false h)
no_else false h = refl

if_first : {most : ℕ} {b : Option Terminal} {k p : ℕ} {ts us : List Terminal} → Nests most true (Some (Keyword p 22)) (suc k) ts us → Nests most true b (spare b + suc k) (Keyword p 22 ∷ ts) us
if_first {most} {b} {k} {p} {ts} {us} s = at (is_there (is_keyword 14) b) refl
  where
    at : (e : Bool) → is_there (is_keyword 14) b ≡ e → Nests most true b (spare_of e + suc k) (Keyword p 22 ∷ ts) us
    at true e = eased (flat refl s) (omega arith)
    at false e = eased (chain refl (no_else (is_there (is_keyword 14) b) e) s) (omega arith)

mutual
  pub nests_block : {most : ℕ} {b : Option Terminal} {p : ℕ} {ss : StmtTrees} {xs ys : List Terminal} (d : DerivesBlock p ss xs ys) → Nests most true b (suc (deep_block d)) xs ys
  nests_block (block d) = eased (braces refl (parts_bstmts d)) (omega arith)

  pub parts_bstmts : {most : ℕ} {b : Option Terminal} {ss : StmtTrees} {xs ys : List Terminal} (d : DerivesBstmts ss xs ys) → Parts most b (deep_bstmts d) xs ys
  parts_bstmts bstmts_none = eased_parts (part done) (omega arith)
  parts_bstmts (bstmts_more d r) = parts (parts_bstmt d) (λ c. parts_bstmts r)

  pub parts_bstmt : {most : ℕ} {b : Option Terminal} {x : StmtTree} {xs ys : List Terminal} (d : DerivesBstmt x xs ys) → Parts most b (deep_bstmt d) xs ys
  parts_bstmt (bstmt_local d) = eased_parts (parts (parts_local d) (λ c. loose refl (part done))) (omega arith)
  parts_bstmt (bstmt_stmt d) = eased_parts (part (nests_stmt d)) (omega arith)

  pub nests_stmt : {most : ℕ} {b : Option Terminal} {x : StmtTree} {xs ys : List Terminal} (d : DerivesStmt x xs ys) → Nests most true b (spare b + deep_stmt d) xs ys
  nests_stmt {b} (stmt_block d) = eased (nests_block d) (omega (arith, spare_low (is_there (is_keyword 14) b)))
  nests_stmt {b} stmt_empty = eased semicolon_end (omega (arith, spare_low (is_there (is_keyword 14) b)))
  nests_stmt {b} (stmt_effect d) = eased (behind (nests_effect d) (λ c. semicolon_end)) (omega (arith, spare_low (is_there (is_keyword 14) b)))
  nests_stmt {b} (stmt_if c d h) = eased (if_first (eased {j = suc (max (deep_expr c) (deep_stmt d))} (round (part (nests_expr refl c)) (nests_stmt d)) (omega arith))) (omega arith)
  nests_stmt {b} (stmt_if_else c d r) =
      eased (if_first (eased {j = suc (max (deep_expr c) (max (deep_stmt d) (deep_stmt r)))}
      (round (part (nests_expr refl c)) (behind (kept_on refl (nests_stmt d)) (λ c. chain refl refl (nests_stmt r)))) (omega arith))) (omega arith)
  nests_stmt {b} (stmt_while c d) = eased (chain refl refl (round (part (nests_expr refl c)) (nests_stmt d))) (omega (arith, spare_low (is_there (is_keyword 14) b)))
  nests_stmt {b} (stmt_do d c) =
      eased (chain refl refl (behind (kept_on refl (nests_stmt d)) (λ c'. flat refl (round (part (nests_expr refl c)) semicolon_end)))) (omega (arith, spare_low (is_there (is_keyword 14) b)))
  nests_stmt {b} (stmt_for i c u d) =
      eased (chain refl refl (round (parts (parts_first i) (λ c'. loose refl (parts (part (nests_optional refl c)) (λ c'. loose refl (parts_updates u))))) (nests_stmt d)))
      (omega (arith, spare_low (is_there (is_keyword 14) b)))
  nests_stmt {b} (stmt_return c) = eased (flat refl (behind (nests_optional refl c) (λ c'. semicolon_end))) (omega (arith, spare_low (is_there (is_keyword 14) b)))
  nests_stmt {b} stmt_break = eased (flat refl semicolon_end) (omega (arith, spare_low (is_there (is_keyword 14) b)))
  nests_stmt {b} stmt_continue = eased (flat refl semicolon_end) (omega (arith, spare_low (is_there (is_keyword 14) b)))
