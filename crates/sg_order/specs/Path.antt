-- The specificity order of paths (Neron et al., "A Theory of Name Resolution", ESOP 2015).
use Rattle.std.specs.Prelude.{◌≡◌, ◌≢◌, List, [], ◌∷◌, ◌++◌, Bool, IsTrue}
use Rattle.sg_base.specs.declared.mark.Mark.{Mark}
use Rattle.sg_base.specs.declared.mark.Mark.TheVariants.{End, Of}
use Rattle.sg_base.specs.declared.step.Step.{Step}

-- the mark of what is left of a path: its next label, or its end
abbrev pub mark_of : List Step → Mark
mark_of [] = End
mark_of (p ∷ ps) = Of p.label

-- two rests of paths part here: they do not begin with one label, and not both have ended
abbrev pub PartHere : List Step → List Step → Type 0
PartHere [] [] = ⊥
PartHere [] (q ∷ qs) = Unit {0}
PartHere (p ∷ ps) [] = Unit {0}
PartHere (p ∷ ps) (q ∷ qs) = p.label ≢ q.label

-- after their longest common prefix, the mark of the one path comes before the mark of the other
abbrev pub IsPathBefore : (Mark → Mark → Bool) → List Step → List Step → Type 0
IsPathBefore order ps qs =
    (common : List Step) × (p : List Step) × (q : List Step) × (ps ≡ common ++ p) × (qs ≡ common ++ q) × PartHere p q × IsTrue (order (mark_of p) (mark_of q))
