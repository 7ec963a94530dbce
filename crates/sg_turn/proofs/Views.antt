-- Views, and numbers of them that are added up.
use Rattle.std.proofs.Common.{◌≡◌, ℕ, zero, suc, ◌+◌, ◌≤◌, List, [], ◌∷◌, ◌++◌, length, set, sym, refl, ap, ◌∙◌, subst, arith}
use mathlib.Core.Option as maybe
use mathlib.Core.Option.{some-injective, some-ne-none}
use mathlib.Core.Logic.{dite}
use native.Mathlib.Decide.{ℕ_discrete}
use lib.ListN.{get_elem?}
use Rattle.atomic_table.proofs.Lists.{set_else}
use Rattle.sg_turn.specs.declared.stage.Stage.{Stage}
use Rattle.sg_turn.specs.declared.stage.Stage.TheVariants.{Outside, Drawn, Inside, Spent, Joined}
use Rattle.sg_turn.specs.declared.view.View.{View}
use Rattle.sg_turn.specs.Stage.{draws_at, live_at, Has, IsFree}
use Rattle.sg_turn.specs.View.{joined_view, live_count, weight, total}

pub draws_one : (st : Stage) → draws_at st ≤ 1
draws_one Outside = omega arith
draws_one (Drawn t) = omega arith
draws_one (Inside t) = omega arith
draws_one Spent = omega arith
draws_one Joined = omega arith

pub no_ticket : (st : Stage) (t : ℕ) → IsFree st → Has st t → ⊥
no_ticket Outside t f h = h
no_ticket (Drawn u) t f h = f
no_ticket (Inside u) t f h = f
no_ticket Spent t f h = h
no_ticket Joined t f h = h

pub free_live : (st : Stage) → IsFree st → live_at st ≡ 1
free_live Outside f = refl
free_live (Drawn t) f = absurd f
free_live (Inside t) f = absurd f
free_live Spent f = refl
free_live Joined f = absurd f

module _ {E R : Type 0} where
  pub total_set : (f : View E R → ℕ) (vs : List (View E R)) (i : ℕ) (v w : View E R) → get_elem? vs i ≡ maybe.some v → total f (set vs i w) + f v ≡ total f vs + f w
  total_set f [] i v w e = absurd (some-ne-none v (sym e))
  total_set f (x ∷ xs) zero v w e = let s = ap f (some-injective x v e) in omega arith
  total_set f (x ∷ xs) (suc i) v w e = let h = total_set f xs i v w e in omega arith

  pub total_snoc : (f : View E R → ℕ) (vs : List (View E R)) (w : View E R) → total f (vs ++ w ∷ []) ≡ total f vs + f w
  total_snoc f [] w = omega arith
  total_snoc f (x ∷ xs) w = let h = total_snoc f xs w in omega arith

  pub total_le : (f : View E R → ℕ) → ((v : View E R) → f v ≤ 1) → (vs : List (View E R)) → total f vs ≤ length vs
  total_le f one [] = omega arith
  total_le f one (x ∷ xs) = let h = total_le f one xs in let o = one x in omega arith

  pub total_at : (f : View E R → ℕ) (vs : List (View E R)) (i : ℕ) (v : View E R) → get_elem? vs i ≡ maybe.some v → f v ≤ total f vs
  total_at f [] i v e = absurd (some-ne-none v (sym e))
  total_at f (x ∷ xs) zero v e = let s = ap f (some-injective x v e) in omega arith
  total_at f (x ∷ xs) (suc i) v e = let h = total_at f xs i v e in omega arith

  pub not_inside : (k x : View E R) (t : ℕ) → IsFree k.stage → x.stage ≡ Inside t → k ≡ x → ⊥
  not_inside k x t a b e = subst IsFree (ap (λ (z : View E R). z.stage) e ∙ b) a

  pub not_joined : (k : View E R) → IsFree k.stage → k ≡ joined_view → ⊥
  not_joined k a e = subst IsFree (ap (λ (z : View E R). z.stage) e) a

  -- a live seat that stands for all the others is the only one
  pub alone : (vs : List (View E R)) (i j : ℕ) (v w : View E R) → get_elem? vs i ≡ maybe.some v → get_elem? vs j ≡ maybe.some w → total weight vs ≤ weight v → live_count w ≡ 1 → j ≡ i
  alone vs i j v w ei ej most is_live = dite (ℕ_discrete j i) (λ e. e) (λ not.
      let a = total_set weight vs i v joined_view ei in let b = total_at weight (set vs i joined_view) j w (set_else vs i j joined_view not ∙ ej) in let o : live_count w ≤ weight w = omega arith in absurd (omega arith))
