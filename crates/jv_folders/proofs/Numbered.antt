-- One more tree whose identifiers are numbered.
use Rattle.std.proofs.Common.{◌≡◌, ℕ, ◌≤◌, List, [], ◌∷◌, ◌++◌, map, inl, inr, sym, ap, ◌∙◌, subst}
use Rattle.std.proofs.lemmas.List.Elements.{Contains-append_cases}
use Rattle.std.proofs.lemmas.List.{map-append}
use Rattle.sg_base.proofs.Finite.{single}
use Rattle.jv_tree.specs.declared.declaration.Unit.{Unit as Tree}
use Rattle.jv_tree.specs.DeclTree.{UnitTree, tree_of}
use Rattle.jv_tree.specs.Numbered.{AreNumbered, IsNumbered}
use Rattle.jv_tree.proofs.Numbers.{unit_stays}

module _ (m n : ℕ) (us : List UnitTree) (u : UnitTree) (old : AreNumbered m us) (more : m ≤ n) (new : IsNumbered n u) where
  one_more_numbered : AreNumbered n (us ++ u ∷ [])
  one_more_numbered v c = elim (Contains-append_cases us (u ∷ []) v c) [
    | inl k ↦ unit_stays m n more v (old v k)
    | inr k ↦ subst (IsNumbered n) (sym (single u v k)) new
  ]

pub pushed_numbered : (m n : ℕ) (ts : List Tree) (t : Tree) (all : List Tree) → AreNumbered m (map tree_of ts) → m ≤ n → IsNumbered n (tree_of t) → all ≡ ts ++ t ∷ [] → AreNumbered n (map tree_of all)
pushed_numbered m n ts t all old more new e =
    subst (AreNumbered n) (sym (ap (map tree_of) e ∙ map-append tree_of ts (t ∷ []))) (one_more_numbered m n (map tree_of ts) (tree_of t) old more new)
