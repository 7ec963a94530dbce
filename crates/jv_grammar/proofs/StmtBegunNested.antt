-- How deep begun statements nest: no deeper than the load leaves room for.
use Rattle.std.proofs.Common.{◌≡◌, ℕ, suc, ◌+◌, ◌-◌, ◌≤◌, Bool, true, false, List, ◌∷◌, Option, Some, if◌then◌else◌, refl, arith, true≢false}
use Rattle.jv_tree.specs.StmtTree.{StmtTree}
use Rattle.jv_grammar.specs.declared.terminal.Terminal.{Terminal}
use Rattle.jv_grammar.specs.declared.terminal.Terminal.TheVariants.{Keyword}
use Rattle.jv_grammar.specs.StmtGrammar.{optional_none, optional_some, DerivesBstmt, bstmt_local, bstmt_stmt}
use Rattle.jv_grammar.specs.StmtBegins.{BeginsVar, begun_var_none, begun_var_init, begun_var_whole, BeginsVars, begun_vars_none, begun_vars_one, begun_vars_more, begun_vars_whole, BeginsLocal, begun_local_none, begun_local_ty, begun_local_vars, begun_local_final_ty, begun_local_final_vars, begun_local_whole, BeginsEffects, begun_effects_none, begun_effects_one, begun_effects_more, begun_effects_whole, BeginsFirst, begun_first_none, begun_first_local, begun_first_effects, begun_first_whole, BeginsOptional, begun_optional_none, begun_optional_some, begun_optional_whole, BeginsUpdates, begun_updates_none, begun_updates_some, begun_updates_whole, BeginsBlock, begun_block_none, begun_block_some, begun_block_whole, BeginsBstmts, begun_bstmts_none, begun_bstmts_one, begun_bstmts_more, begun_bstmts_whole, BeginsBstmt, begun_bstmt_none, begun_bstmt_local, begun_bstmt_stmt, begun_bstmt_whole, BeginsStmt, begun_stmt_none, begun_stmt_block, begun_stmt_effect, begun_stmt_if, begun_stmt_if_test, begun_stmt_if_then, begun_stmt_if_else, begun_stmt_while, begun_stmt_while_test, begun_stmt_while_body, begun_stmt_do, begun_stmt_do_while, begun_stmt_do_test, begun_stmt_do_close, begun_stmt_for, begun_stmt_for_first, begun_stmt_for_test, begun_stmt_for_updates, begun_stmt_for_body, begun_stmt_return, begun_stmt_break, begun_stmt_continue, begun_stmt_whole}
use Rattle.jv_grammar.specs.Load.{is_keyword, is_there, ends_operand}
use Rattle.jv_grammar.proofs.BegunDepth.{begun_deep_var, begun_deep_vars, begun_deep_local, begun_deep_effects, begun_deep_first, begun_deep_optional, begun_deep_updates, begun_deep_block, begun_deep_bstmts, begun_deep_bstmt, begun_deep_stmt}
use Rattle.jv_grammar.proofs.StmtDepth.{deep_bstmt}
use Rattle.jv_grammar.proofs.Stretches.{IsCalm, kept_on, part, parts, loose}
use Rattle.jv_grammar.proofs.BegunStretches.{Begun, BegunParts, Ended, begun_here, begun_eased, begun_eased_parts, begun_whole, begun_whole_parts, begun_behind, begun_flat, begun_chain, begun_paren, begun_brace, begun_round, begun_part, begun_parts, begun_loose, ended_stmt, ended_parts, ended_eased, begun_ended}
use Rattle.jv_grammar.proofs.Nested.{nests_ty, nests_expr, nests_effect}
use Rattle.jv_grammar.proofs.StmtNested.{spare, spare_of, no_else, parts_var, parts_vars, parts_local, parts_effects, parts_first, nests_optional, parts_updates, nests_block, parts_bstmts, parts_bstmt, nests_stmt}
use Rattle.jv_grammar.proofs.BegunNested.{free_of, free, free_at_most, any_expr, nests_begun_expr, parts_begun_init}

pub parts_begun_var : {most : ℕ} {b : Option Terminal} {xs : List Terminal} (d : BeginsVar xs) → BegunParts most b (suc (begun_deep_var d)) xs
parts_begun_var begun_var_none = begun_part begun_here
parts_begun_var (begun_var_init r) = begun_loose refl (begun_loose refl (parts_begun_init refl r))
parts_begun_var (begun_var_whole d) = begun_whole_parts (parts_var d)

pub parts_begun_vars : {most : ℕ} {b : Option Terminal} {xs : List Terminal} (d : BeginsVars xs) → BegunParts most b (suc (begun_deep_vars d)) xs
parts_begun_vars begun_vars_none = begun_part begun_here
parts_begun_vars (begun_vars_one r) = parts_begun_var r
parts_begun_vars (begun_vars_more d r) = begun_eased_parts (begun_parts (parts_var d) (λ c. begun_loose refl (parts_begun_vars r))) (omega arith)
parts_begun_vars (begun_vars_whole d) = begun_whole_parts (parts_vars d)

parts_begun_local : {most : ℕ} {b : Option Terminal} {xs : List Terminal} (d : BeginsLocal xs) → BegunParts most b (suc (begun_deep_local d)) xs
parts_begun_local begun_local_none = begun_part begun_here
parts_begun_local (begun_local_ty r) = begun_part begun_here
parts_begun_local (begun_local_vars d r) = begun_eased_parts (begun_parts (part (nests_ty d)) (λ c. parts_begun_vars r)) (omega arith)
parts_begun_local (begun_local_final_ty r) = begun_part begun_here
parts_begun_local (begun_local_final_vars d r) = begun_loose refl (begun_eased_parts (begun_parts (part (nests_ty d)) (λ c. parts_begun_vars r)) (omega arith))
parts_begun_local (begun_local_whole d) = begun_whole_parts (parts_local d)

-- begun effects may begin with a sign
parts_begun_effects : {most : ℕ} {b : Option Terminal} {xs : List Terminal} (d : BeginsEffects xs) → BegunParts most b (begun_deep_effects d) xs
parts_begun_effects begun_effects_none = begun_eased_parts (begun_part begun_here) (omega arith)
parts_begun_effects (begun_effects_one r) = begun_eased_parts (begun_part (nests_begun_expr r)) (omega arith)
parts_begun_effects (begun_effects_more d r) = begun_eased_parts (begun_parts (part (nests_effect d)) (λ c. begun_loose refl (parts_begun_effects r))) (omega arith)
parts_begun_effects (begun_effects_whole d) = begun_eased_parts (begun_whole_parts (parts_effects d)) (omega arith)

parts_begun_first : {most : ℕ} {b : Option Terminal} {xs : List Terminal} (d : BeginsFirst xs) → BegunParts most b (begun_deep_first d) xs
parts_begun_first begun_first_none = begun_eased_parts (begun_part begun_here) (omega arith)
parts_begun_first (begun_first_local r) = begun_eased_parts (parts_begun_local r) (omega arith)
parts_begun_first (begun_first_effects r) = parts_begun_effects r
parts_begun_first (begun_first_whole d) = begun_eased_parts (begun_whole_parts (parts_first d)) (omega arith)

nests_begun_optional : {most : ℕ} {b : Option Terminal} {xs : List Terminal} (d : BeginsOptional xs) → Begun most b (free b + begun_deep_optional d) xs
nests_begun_optional {b} begun_optional_none = begun_eased begun_here (omega (arith, free_at_most b))
nests_begun_optional (begun_optional_some r) = nests_begun_expr r
nests_begun_optional {b} (begun_optional_whole optional_none) = begun_eased begun_here (omega (arith, free_at_most b))
nests_begun_optional (begun_optional_whole (optional_some d)) = begun_whole (any_expr d)

parts_begun_updates : {most : ℕ} {b : Option Terminal} {xs : List Terminal} (d : BeginsUpdates xs) → BegunParts most b (begun_deep_updates d) xs
parts_begun_updates begun_updates_none = begun_eased_parts (begun_part begun_here) (omega arith)
parts_begun_updates (begun_updates_some r) = parts_begun_effects r
parts_begun_updates (begun_updates_whole d) = begun_eased_parts (begun_whole_parts (parts_updates d)) (omega arith)

-- What may be spared behind a terminal, and one more: a statement may begin with a sign, and with an `if`. A sign directly behind an
-- operand is no chain token, and so is no `if` directly behind `else`.
abbrev spare_twice_of : Bool → Bool → ℕ
spare_twice_of e o = if e then 0 else suc (free_of o)

abbrev pub spare_twice : Option Terminal → ℕ
spare_twice before = spare_twice_of (is_there (is_keyword 14) before) (is_there ends_operand before)

twice_free : (e o : Bool) → spare_twice_of e o ≤ suc (free_of o)
twice_free true o = omega arith
twice_free false o = omega arith

twice_spare : (e o : Bool) → spare_twice_of e o ≤ suc (spare_of e)
twice_spare true o = omega arith
twice_spare false true = omega arith
twice_spare false false = omega arith

twice_low : (b : Option Terminal) → spare_twice b ≤ 2
twice_low b = omega (arith, twice_free (is_there (is_keyword 14) b) (is_there ends_operand b), free_at_most b)

twice_expr : (b : Option Terminal) → spare_twice b ≤ suc (free b)
twice_expr b = twice_free (is_there (is_keyword 14) b) (is_there ends_operand b)

twice_stmt : (b : Option Terminal) → spare_twice b ≤ suc (spare b)
twice_stmt b = twice_spare (is_there (is_keyword 14) b) (is_there ends_operand b)

calm_spares : (e o : Bool) → e ≡ false → 1 ≤ spare_twice_of e o
calm_spares true o h = absurd (true≢false h)
calm_spares false o h = omega arith

twice_calm : (b : Option Terminal) → IsCalm b → 1 ≤ spare_twice b
twice_calm b n = calm_spares (is_there (is_keyword 14) b) (is_there ends_operand b) n

begun_if : {most : ℕ} {b : Option Terminal} {k p : ℕ} {ts : List Terminal} → Begun most (Some (Keyword p 22)) k ts → Begun most b (spare_twice b + k) (Keyword p 22 ∷ ts)
begun_if {most} {b} {k} {p} {ts} s = at (is_there (is_keyword 14) b) refl
  where
    at : (e : Bool) → is_there (is_keyword 14) b ≡ e → Begun most b (spare_twice_of e (is_there ends_operand b) + k) (Keyword p 22 ∷ ts)
    at true e = begun_eased (begun_flat refl s) (omega arith)
    at false e = begun_eased (begun_chain refl (no_else (is_there (is_keyword 14) b) e) s) (omega (arith, free_at_most b))

ended_bstmt : {most : ℕ} {b : Option Terminal} {x : StmtTree} {xs ys : List Terminal} (d : DerivesBstmt x xs ys) → Ended most b (deep_bstmt d) xs ys
ended_bstmt (bstmt_local d) = ended_eased (ended_parts (parts_local d)) (omega arith)
ended_bstmt (bstmt_stmt d) = ended_eased (ended_stmt (nests_stmt d)) (omega arith)

mutual
  pub nests_begun_block : {most : ℕ} {b : Option Terminal} {xs : List Terminal} (d : BeginsBlock xs) → Begun most b (suc (begun_deep_block d)) xs
  nests_begun_block begun_block_none = begun_here
  nests_begun_block (begun_block_some r) = begun_eased (begun_brace (parts_begun_bstmts refl r)) (omega arith)
  nests_begun_block (begun_block_whole d) = begun_whole (nests_block d)

  pub parts_begun_bstmts : {most : ℕ} {b : Option Terminal} {xs : List Terminal} → IsCalm b → (d : BeginsBstmts xs) → BegunParts most b (begun_deep_bstmts d) xs
  parts_begun_bstmts n begun_bstmts_none = begun_eased_parts (begun_part begun_here) (omega arith)
  parts_begun_bstmts n (begun_bstmts_one r) = parts_begun_bstmt n r
  parts_begun_bstmts n (begun_bstmts_more d r) = begun_ended (ended_bstmt d) (λ c m. parts_begun_bstmts m r)
  parts_begun_bstmts n (begun_bstmts_whole d) = begun_whole_parts (parts_bstmts d)

  parts_begun_bstmt : {most : ℕ} {b : Option Terminal} {xs : List Terminal} → IsCalm b → (d : BeginsBstmt xs) → BegunParts most b (begun_deep_bstmt d) xs
  parts_begun_bstmt n begun_bstmt_none = begun_eased_parts (begun_part begun_here) (omega arith)
  parts_begun_bstmt n (begun_bstmt_local r) = begun_eased_parts (parts_begun_local r) (omega arith)
  parts_begun_bstmt {b} n (begun_bstmt_stmt r) = begun_eased_parts (begun_part (nests_begun_stmt r)) (omega (arith, twice_calm b n))
  parts_begun_bstmt n (begun_bstmt_whole d) = begun_whole_parts (parts_bstmt d)

  pub nests_begun_stmt : {most : ℕ} {b : Option Terminal} {xs : List Terminal} (d : BeginsStmt xs) → Begun most b ((spare_twice b + begun_deep_stmt d) - 1) xs
  nests_begun_stmt {b} begun_stmt_none = begun_eased begun_here (omega (arith, twice_low b))
  nests_begun_stmt {b} (begun_stmt_block r) = begun_eased (nests_begun_block r) (omega (arith, twice_low b))
  nests_begun_stmt {b} (begun_stmt_effect r) = begun_eased (nests_begun_expr r) (omega (arith, twice_expr b))
  nests_begun_stmt {b} begun_stmt_if = begun_eased begun_here (omega (arith, twice_low b))
  nests_begun_stmt {b} (begun_stmt_if_test r) = begun_eased (begun_flat refl (begun_paren (begun_part (nests_begun_expr r)))) (omega (arith, twice_low b))
  nests_begun_stmt {b} (begun_stmt_if_then c r) = begun_eased (begun_if (begun_round (part (nests_expr refl c)) (nests_begun_stmt r))) (omega (arith, twice_low b))
  nests_begun_stmt {b} (begun_stmt_if_else c d r) =
      begun_eased (begun_if (begun_round (part (nests_expr refl c)) (begun_behind (kept_on refl (nests_stmt d)) (λ c. begun_chain refl refl (nests_begun_stmt r))))) (omega (arith, twice_low b))
  nests_begun_stmt {b} begun_stmt_while = begun_eased begun_here (omega (arith, twice_low b))
  nests_begun_stmt {b} (begun_stmt_while_test r) = begun_eased (begun_flat refl (begun_paren (begun_part (nests_begun_expr r)))) (omega (arith, twice_low b))
  nests_begun_stmt {b} (begun_stmt_while_body c r) = begun_eased (begun_chain refl refl (begun_round (part (nests_expr refl c)) (nests_begun_stmt r))) (omega (arith, twice_low b))
  nests_begun_stmt {b} (begun_stmt_do r) = begun_eased (begun_chain refl refl (nests_begun_stmt r)) (omega (arith, twice_low b))
  nests_begun_stmt {b} (begun_stmt_do_while d) = begun_eased (begun_chain refl refl (begun_whole (nests_stmt d))) (omega (arith, twice_low b))
  nests_begun_stmt {b} (begun_stmt_do_test d r) =
      begun_eased (begun_chain refl refl (begun_behind (kept_on refl (nests_stmt d)) (λ c. begun_flat refl (begun_paren (begun_part (nests_begun_expr r)))))) (omega (arith, twice_low b))
  nests_begun_stmt {b} (begun_stmt_do_close d c) =
      begun_eased (begun_chain refl refl (begun_behind (kept_on refl (nests_stmt d)) (λ c'. begun_flat refl (begun_paren (begun_whole_parts (part (nests_expr refl c))))))) (omega (arith, twice_low b))
  nests_begun_stmt {b} begun_stmt_for = begun_eased begun_here (omega (arith, twice_low b))
  nests_begun_stmt {b} (begun_stmt_for_first r) = begun_eased (begun_flat refl (begun_paren (parts_begun_first r))) (omega (arith, twice_low b))
  nests_begun_stmt {b} (begun_stmt_for_test i r) =
      begun_eased (begun_flat refl (begun_paren (begun_parts (parts_first i) (λ c. begun_loose refl (begun_part (nests_begun_optional r)))))) (omega (arith, twice_low b))
  nests_begun_stmt {b} (begun_stmt_for_updates i c r) =
      begun_eased (begun_flat refl (begun_paren (begun_parts (parts_first i) (λ c'. begun_loose refl (begun_parts (part (nests_optional refl c)) (λ c'. begun_loose refl (parts_begun_updates r)))))))
      (omega (arith, twice_low b))
  nests_begun_stmt {b} (begun_stmt_for_body i c u r) =
      begun_eased (begun_chain refl refl (begun_round (parts (parts_first i) (λ c'. loose refl (parts (part (nests_optional refl c)) (λ c'. loose refl (parts_updates u))))) (nests_begun_stmt r)))
      (omega (arith, twice_low b))
  nests_begun_stmt {b} (begun_stmt_return r) = begun_eased (begun_flat refl (nests_begun_optional r)) (omega (arith, twice_low b))
  nests_begun_stmt {b} begun_stmt_break = begun_eased begun_here (omega (arith, twice_low b))
  nests_begun_stmt {b} begun_stmt_continue = begun_eased begun_here (omega (arith, twice_low b))
  nests_begun_stmt {b} (begun_stmt_whole d) = begun_eased (begun_whole (nests_stmt d)) (omega (arith, twice_stmt b))
