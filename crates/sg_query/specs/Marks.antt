-- Which paths of a list others shadow, for the code that leaves these out and for it alone.
use Rattle.std.specs.Prelude.{◌≡◌, List, [], ◌∷◌, ◌++◌, ◌⊎◌, Bool, IsTrue, if◌then◌else◌, MatchBool}
use Rattle.std.specs.List.{Contains}
use Rattle.sg_base.specs.declared.mark.Mark.{Mark}
use Rattle.sg_query.specs.declared.found.Found.{Found}
use Rattle.sg_query.specs.Shadow.{IsShadowed}

-- each mark says whether a path of the first list shadows the path at its place in the second
abbrev pub AreMarked : {D : Type 0} → (D → D → Bool) → (Mark → Mark → Bool) → List (Found D) → List (Found D) → List Bool → Type 0
AreMarked same order all [] [] = Unit {0}
AreMarked same order all [] (b ∷ marks) = ⊥
AreMarked same order all (f ∷ fs) [] = ⊥
AreMarked same order all (f ∷ fs) (b ∷ marks) =
    MatchBool b (IsShadowed same order all f) (IsShadowed same order all f → ⊥) × AreMarked same order all fs marks

-- the new marks are the old ones and a mark for each path of the list, whether another of them shadows it
abbrev pub MarksOn : {D : Type 0} → (D → D → Bool) → (Mark → Mark → Bool) → List (Found D) → List Bool → List Bool → Type 0
MarksOn same order all old new = (more : List Bool) × (new ≡ old ++ more) × AreMarked same order all all more

-- each mark that is set stands in the second list at a path that one of the first shadows
abbrev pub AreShadowedWhereMarked : {D : Type 0} → (D → D → Bool) → (Mark → Mark → Bool) → List (Found D) → List (Found D) → List Bool → Type 0
AreShadowedWhereMarked same order all [] [] = Unit {0}
AreShadowedWhereMarked same order all [] (b ∷ marks) = ⊥
AreShadowedWhereMarked same order all (f ∷ fs) [] = ⊥
AreShadowedWhereMarked same order all (f ∷ fs) (b ∷ marks) = (IsTrue b → IsShadowed same order all f) × AreShadowedWhereMarked same order all fs marks

-- the second list has paths of the first alone, and each that it has not is shadowed in the first
abbrev pub LosesShadowed : {D : Type 0} → (D → D → Bool) → (Mark → Mark → Bool) → List (Found D) → List (Found D) → Type 0
LosesShadowed {D} same order all fs =
    ((f : Found D) → Contains fs f → Contains all f) × ((f : Found D) → Contains all f → Contains fs f ⊎ IsShadowed same order all f)

-- the things that have no mark
abbrev pub unmarked : {X : Type 0} → List X → List Bool → List X
unmarked [] marks = []
unmarked (x ∷ xs) [] = x ∷ xs
unmarked (x ∷ xs) (b ∷ marks) = if b then unmarked xs marks else x ∷ unmarked xs marks
