-- Paths that others shadow.
use Rattle.std.specs.Prelude.{Bool, IsTrue, List, ◌↔◌}
use Rattle.std.specs.List.{Contains}
use Rattle.sg_base.specs.declared.mark.Mark.{Mark}
use Rattle.sg_order.specs.Path.{IsPathBefore}
use Rattle.sg_query.specs.declared.found.Found.{Found}

-- a path of the list with the same datum comes before this one
abbrev pub IsShadowed : {D : Type 0} → (D → D → Bool) → (Mark → Mark → Bool) → List (Found D) → Found D → Type 0
IsShadowed {D} same order all f = (h : Found D) × Contains all h × IsTrue (same f.datum h.datum) × IsPathBefore order h.path.steps f.path.steps

-- the list holds exactly the paths of the first list that are not shadowed there
abbrev pub AreUnshadowed : {D : Type 0} → (D → D → Bool) → (Mark → Mark → Bool) → List (Found D) → List (Found D) → Type 0
AreUnshadowed {D} same order all fs = (f : Found D) → (Contains fs f) ↔ (Contains all f × (IsShadowed same order all f → ⊥))
