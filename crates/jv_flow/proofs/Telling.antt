-- What the lists of faults and of diagnostics tell.
use Rattle.std.proofs.Common.{◌≡◌, ℕ, ◌↔◌, Bool, true, false, not, ◌&&◌, List, [], ◌++◌, map, Some, inl, inr, refl, sym, ap, ◌∙◌, subst}
use Rattle.std.specs.Prelude.{IsTrue}
use Rattle.std.specs.List.{Contains}
use Rattle.std.proofs.lemmas.List.Elements.{Contains-append_left, Contains-append_right, Contains-append_cases}
use Rattle.jv_diag.specs.Plain.{DiagOf, fault_if}
use Rattle.jv_tree.specs.declared.name.Ident.{Ident}
use Rattle.jv_tree.specs.DeclTree.{MethodTree}
use Rattle.jv_tree.specs.StmtTree.{StmtTree, stmt, block, empty, local, effect, if_else, while_loop, do_loop, for_loop, return, break, continue, StmtTrees, no_stmts, stmts, BranchTrees, no_branches, branches, ElseTree, no_else, otherwise}
use Rattle.jv_tree.specs.Shaped.{AreShapedStmts}
use Rattle.jv_flow.specs.Condition.{literal_of, optional_literal, is_false}
use Rattle.jv_flow.specs.Place.{PlaceIn, PlaceInAll, PlaceInBranches, PlaceInElse}
use Rattle.jv_flow.specs.Reachable.{CompletesNormally, IsReachable, completes, all_complete, reachable, all_reachable, branch_reachable, else_reachable}
use Rattle.jv_flow.specs.Fault.{AreFaultPlaces}
use Rattle.jv_flow.specs.FaultList.{faults, all_faults, branch_faults, else_faults, fault_places}
use Rattle.jv_flow.specs.FlowFaults.{IsFlowFault, unreachable_at, unreachable_in, missing_return, missing_return_in, flow_faults, optional_flow_faults, method_flow, gives_value}
use Rattle.jv_flow.specs.Law.{SomeRunExecutes, SomeRunFallsOff}
use Rattle.jv_flow.proofs.Agreeing.{rules_tell_runs}
use Rattle.jv_flow.proofs.Bools.{and_both, and_first, and_second, never}
use Rattle.jv_flow.proofs.Faulty.{alone}
use Rattle.jv_flow.proofs.Findings.{tells_places}
use Rattle.jv_flow.proofs.Members.{first_in, cases_in, none_in, in_mapped, from_mapped}
use Rattle.jv_flow.proofs.Ordered.{one_list}
use Rattle.jv_flow.proofs.RisingOrder.{order_increases, order_same}

pub places_told : (xs : StmtTrees) → AreFaultPlaces xs (IsReachable xs) (fault_places xs)
places_told xs = tells_places xs (fault_places xs) [] (all_faults true xs) (order_increases (all_faults true xs)) (order_same (all_faults true xs)) refl refl

-- ---- what a call of `flow` gives

pub same_places : (xs : StmtTrees) (ls : List ℕ) → AreFaultPlaces xs (IsReachable xs) ls → ls ≡ fault_places xs
same_places xs ls h = one_list xs (IsReachable xs) ls (fault_places xs) h (places_told xs)

same_bool : (b c : Bool) → (b ≡ true → c ≡ true) → (c ≡ true → b ≡ true) → b ≡ c
same_bool true c f g = sym (f refl)
same_bool false true f g = g refl
same_bool false false f g = refl

pub same_end : (xs : StmtTrees) (b : Bool) → IsTrue b ↔ CompletesNormally xs → b ≡ all_complete true xs
same_end xs b h = same_bool b (all_complete true xs) (λ e. h.0 e) (λ e. h.1 e)

pub same_diags : (xs : StmtTrees) (file : ℕ) (ls ps : List ℕ) (ds es : List DiagOf) → AreFaultPlaces xs (IsReachable xs) ls → ps ≡ ls → es ≡ [] → ds ≡ es ++ map (unreachable_at file) ps → ds ≡ unreachable_in file xs
same_diags xs file ls ps ds es h same none made =
    made ∙ ap (λ (l : List DiagOf). l ++ map (unreachable_at file) ps) none ∙ ap (map (unreachable_at file)) (same ∙ same_places xs ls h)

pub ruleset walked_steps = (same_end)

-- ---- diagnostics

from_fault_if : (b : Bool) (f d : DiagOf) → Contains (fault_if b f) d → (b ≡ true) × (f ≡ d)
from_fault_if true f d c = elim (cases_in f d [] c) [ inl e ↦ (refl, e) | inr n ↦ none_in d n ]
from_fault_if false f d c = none_in d c

in_fault_if : (b : Bool) (f : DiagOf) → b ≡ true → Contains (fault_if b f) f
in_fault_if true f e = first_in f []
in_fault_if false f e = never false refl e

module _ (names : List (List ℕ)) (file : ℕ) (xs : StmtTrees) (must : Bool) (i : Ident) where
  told : (d : DiagOf) → Contains (flow_faults names file xs must i) d → IsFlowFault names file xs must i d
  told d c = elim (Contains-append_cases (unreachable_in file xs) (missing_return names file xs must i) d c) [
    | inl l ↦ let u = from_mapped (unreachable_at file) (fault_places xs) d l in inl (u.0, ((places_told xs).exact u.0).0 u.1, u.2)
    | inr r ↦ let u = from_fault_if (must && all_complete true xs) (missing_return_in names file i) d r in inr (and_first must (all_complete true xs) u.0, and_second must (all_complete true xs) u.0, sym u.1)
  ]

  listed : (d : DiagOf) → IsFlowFault names file xs must i d → Contains (flow_faults names file xs must i) d
  listed d (inl u) =
      Contains-append_left (unreachable_in file xs) (missing_return names file xs must i) d
      (subst (Contains (unreachable_in file xs)) (sym u.2) (in_mapped (unreachable_at file) (fault_places xs) u.0 (((places_told xs).exact u.0).1 u.1)))
  listed d (inr u) =
      Contains-append_right (unreachable_in file xs) (missing_return names file xs must i) d
      (subst (Contains (missing_return names file xs must i)) (sym u.2) (in_fault_if (must && all_complete true xs) (missing_return_in names file i) (and_both must (all_complete true xs) u.0 u.1)))

  pub faults_told : (d : DiagOf) → Contains (flow_faults names file xs must i) d ↔ IsFlowFault names file xs must i d
  faults_told d = (told d, listed d)

-- ---- where nothing is wrong

mutual
  reached : (r : Bool) (x : StmtTree) → ((a : ℕ) → Contains (faults r x) a → ⊥) → (p : PlaceIn x) → reachable r x p ≡ true
  reached false (stmt at k) n p = absurd (n at (alone at))
  reached true (stmt at k) n (inl u) = refl
  reached true (stmt at (block xs)) n (inr p) = all_reached true xs n p
  reached true (stmt at empty) n (inr p) = elim p [ ]
  reached true (stmt at (local f t vs)) n (inr p) = elim p [ ]
  reached true (stmt at (effect x)) n (inr p) = elim p [ ]
  reached true (stmt at (if_else bs e)) n (inr (inl p)) = branch_reached bs (λ a c. n a (Contains-append_left (branch_faults bs) (else_faults e) a c)) p
  reached true (stmt at (if_else bs e)) n (inr (inr p)) = else_reached e (λ a c. n a (Contains-append_right (branch_faults bs) (else_faults e) a c)) p
  reached true (stmt at (while_loop x t)) n (inr p) = reached (not (is_false (literal_of x))) t n p
  reached true (stmt at (do_loop t x)) n (inr p) = reached true t n p
  reached true (stmt at (for_loop xs x ys t)) n (inr (inl p)) = refl
  reached true (stmt at (for_loop xs x ys t)) n (inr (inr p)) = reached (not (is_false (optional_literal x))) t n p
  reached true (stmt at (return x)) n (inr p) = elim p [ ]
  reached true (stmt at break) n (inr p) = elim p [ ]
  reached true (stmt at continue) n (inr p) = elim p [ ]

  pub all_reached : (r : Bool) (xs : StmtTrees) → ((a : ℕ) → Contains (all_faults r xs) a → ⊥) → (p : PlaceInAll xs) → all_reachable r xs p ≡ true
  all_reached r no_stmts n p = elim p [ ]
  all_reached true (stmts x xs) n (inl p) = reached true x (λ a c. n a (Contains-append_left (faults true x) (all_faults (completes true x) xs) a c)) p
  all_reached true (stmts x xs) n (inr p) = all_reached (completes true x) xs (λ a c. n a (Contains-append_right (faults true x) (all_faults (completes true x) xs) a c)) p
  all_reached false (stmts (stmt at k) xs) n p = absurd (n at (alone at))

  branch_reached : (bs : BranchTrees) → ((a : ℕ) → Contains (branch_faults bs) a → ⊥) → (p : PlaceInBranches bs) → branch_reachable true bs p ≡ true
  branch_reached no_branches n p = elim p [ ]
  branch_reached (branches c x bs) n (inl p) = reached true x (λ a c. n a (Contains-append_left (faults true x) (branch_faults bs) a c)) p
  branch_reached (branches c x bs) n (inr p) = branch_reached bs (λ a c. n a (Contains-append_right (faults true x) (branch_faults bs) a c)) p

  else_reached : (e : ElseTree) → ((a : ℕ) → Contains (else_faults e) a → ⊥) → (p : PlaceInElse e) → else_reachable true e p ≡ true
  else_reached no_else n p = elim p [ ]
  else_reached (otherwise x) n p = reached true x n p

module _ (names : List (List ℕ)) (file : ℕ) (xs : StmtTrees) (must : Bool) (i : Ident) (shaped : AreShapedStmts xs) (quiet : flow_faults names file xs must i ≡ []) where
  none : (d : DiagOf) → IsFlowFault names file xs must i d → ⊥
  none d h = none_in d (subst (λ (ds : List DiagOf). Contains ds d) quiet ((faults_told names file xs must i d).1 h))

  quiet_places : (a : ℕ) → Contains (all_faults true xs) a → ⊥
  quiet_places a c = none (unreachable_at file a) (inl (a, ((places_told xs).exact a).0 ((order_same (all_faults true xs) a).1 c), refl))

  pub each_executed : (p : PlaceInAll xs) → SomeRunExecutes xs p
  each_executed p = ((rules_tell_runs xs shaped).1 p).0 (all_reached true xs quiet_places p)

  pub none_falls_off : must ≡ true → SomeRunFallsOff xs → ⊥
  none_falls_off wanted h = none (missing_return_in names file i) (inr (wanted, (rules_tell_runs xs shaped).0.1 h, refl))

-- nothing is wrong with the statements of the body of a method with which nothing is wrong
pub body_quiet : (names : List (List ℕ)) (file : ℕ) (m : MethodTree) (xs : StmtTrees) → m.body ≡ Some xs → method_flow names file m ≡ [] → flow_faults names file xs (gives_value m.result.base) m.name ≡ []
body_quiet names file m xs body quiet = ap (λ o. optional_flow_faults names file o (gives_value m.result.base) m.name) (sym body) ∙ quiet
