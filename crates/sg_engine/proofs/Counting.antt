-- How many advances move in one state.
use Rattle.std.proofs.Common.{◌≡◌, ℕ, ◌+◌, ◌*◌, ◌<◌, ◌≤◌, List, [], ◌∷◌, ◌⊎◌, length, arith, refl, inl, inr}
use Rattle.sg_base.specs.List.{IsCount, MoreThan}
use Rattle.sg_base.specs.State.{State}
use Rattle.sg_base.proofs.Finite.{each_at, pigeons}
use Rattle.sg_query.specs.Query.{Asked}
use Rattle.sg_query.specs.State.{IsItem, IsSettled}
use Rattle.sg_engine.specs.declared.progress.Progress.{Progress}
use Rattle.sg_engine.specs.declared.progress.Progress.TheVariants.{Moved, Blocked, Ready}
use Rattle.sg_engine.specs.Law.{AreMoves, SearchesEnd}
use Rattle.sg_engine.specs.Search.{SearchOf, IsProgress}

-- where there are more than n things of a kind, there are not n or fewer
below_count : {X : Type 0} (n m : ℕ) (P : X → Type 0) → IsCount m P → MoreThan n P → n < m
below_count n m P c k = omega (arith, c.1, k.1, pigeons k.0 c.0 k.2 (λ x i. (c.3 x).1 (each_at P k.0 k.3 x i)))

module _ {P D : Type 0} (h : State D) (q : Asked D) (items : ℕ) (count : IsCount items (IsItem h q)) where
  -- the items that moves explore are items of the query
  few_explored : (ts : List (SearchOf P D)) (s : SearchOf P D) → s.front.explored ≤ items → AreMoves h q s ts → s.front.explored + 64 * length ts ≤ items
  few_explored [] s l m = omega (arith, l)
  few_explored (t ∷ ts) s l m =
      let now = below_count t.front.explored items (IsItem h q) count m.0.3 in
      omega (arith, m.0.0, few_explored ts t (omega (arith, now)) m.1)

  -- each 64 items let one advance move
  pub few_moves : (ts : List (SearchOf P D)) (s : SearchOf P D) → AreMoves h q s ts → 64 * length ts ≤ items
  few_moves [] s m = omega arith
  few_moves (t ∷ ts) s m =
      let now = below_count t.front.explored items (IsItem h q) count m.0.3 in
      omega (arith, m.0.0, few_explored ts t (omega (arith, now)) m.1)

-- where the query is settled, no advance is blocked
not_blocked : {P D : Type 0} (h : State D) (q : Asked D) → IsSettled h q → (s t : SearchOf P D) (p : Progress) → IsProgress h q s t p → (p ≡ Moved) ⊎ (p ≡ Ready)
not_blocked h q settled s t Moved k = inl refl
not_blocked h q settled s t Ready k = inr refl
not_blocked h q settled s t Blocked k = absurd (k.4 settled)

pub searches_end : (P D : Type 0) → SearchesEnd P D
searches_end P D h q settled = ((λ items s moved count m. few_moves h q items count moved s m), not_blocked h q settled)
