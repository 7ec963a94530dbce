-- The paths of a graph, one step after another, and what a walk keeps of them.
use Rattle.std.specs.Prelude.{◌≡◌, ℕ, zero, suc, ◌<◌, ◌≤◌, List, [], ◌∷◌, ◌++◌, Bool, if◌then◌else◌, map, ◌⊎◌, IsTrue, length, take, Option, MatchBool, MatchOption, ◌↔◌}
use Rattle.std.specs.List.{AllByRecursion, Contains, flat_map}
use Rattle.sg_base.specs.declared.scope.Scope.{Scope}
use Rattle.sg_base.specs.declared.step.Step.{Step}
use Rattle.sg_base.specs.Graph.{GraphOf, HasDatum, IsPath, row_of}
use Rattle.sg_base.specs.List.{IsDistinct, MoreThan}
use Rattle.sg_base.specs.Path.{end_of, word_of}
use Rattle.sg_base.specs.Label.{Word}
use Rattle.sg_expr.specs.Tree.{ExprOf, expr_of}
use Rattle.sg_expr.specs.Word.{In, IsContinuable}
use Rattle.sg_query.specs.declared.found.Found.{Found}
use Rattle.sg_query.specs.declared.going.Going.{Going}
use Rattle.sg_query.specs.declared.walk.Seen.{Seen}
use Rattle.sg_query.specs.declared.walk.Walk.{Walk}
use Rattle.sg_query.specs.Answer.{most_paths}
use Rattle.sg_query.specs.Steps.{is_fresh, if_any}

-- all labels below a number
abbrev pub labels_below : ℕ → List ℕ
labels_below zero = []
labels_below (suc n) = labels_below n ++ n ∷ []

-- the path with one more step to this scope, if it passes by there nowhere
abbrev pub into_scope : Scope → List Step → ℕ → Scope → List (List Step)
into_scope start ps l t = if is_fresh start ps t then (ps ++ (record { label = l; to = t }) ∷ []) ∷ [] else []

-- the path with one more step into this row
abbrev pub into_row : {D : Type 0} → GraphOf D → Scope → List Step → ℕ → List (List Step)
into_row g start ps l = flat_map (into_scope start ps l) (row_of g (end_of start ps) l)

-- the path with one more step
abbrev pub one_more : {D : Type 0} → GraphOf D → Scope → List Step → List (List Step)
one_more g start ps = flat_map (into_row g start ps) (labels_below 16)

-- the steps of a path, of which some first ones are those of the walk
abbrev pub path_at : List Step → Going → List Step
path_at ps x = take x.depth ps ++ if_any x.last

-- the steps of these paths
abbrev pub paths_of : List Step → List Going → List (List Step)
paths_of ps xs = map (path_at ps) xs

-- the expression has the words that may follow the word of these steps in the first one
abbrev pub IsRest : ExprOf → List Step → ExprOf → Type 0
IsRest e ps rest = (w : Word) → (In rest w) ↔ (In e (word_of ps ++ w))

-- the rest of a path has the words that may follow its word
abbrev pub HasRest : ExprOf → List Step → Going → Type 0
HasRest e ps x = IsRest e (path_at ps x) (expr_of x.rest)

-- each path begins with no more of n steps than those behind it
abbrev pub AreNested : ℕ → List Going → Type 0
AreNested n [] = Unit {0}
AreNested n (x ∷ xs) = (x.depth ≤ n) × AllByRecursion (λ y. x.depth ≤ y.depth) xs × AreNested n xs

-- the second list has, for each thing of the first in turn, one that belongs to it, where there is one
abbrev pub Gathers : {X Y : Type 0} → (X → Y → Type 0) → List X → List Y → Type 0
Gathers R [] ys = ys ≡ []
Gathers {X} {Y} R (x ∷ xs) ys = ((y : Y) × (zs : List Y) × R x y × (ys ≡ y ∷ zs) × Gathers R xs zs) ⊎ (((y : Y) → R x y → ⊥) × Gathers R xs ys)

-- the new list is the old one and what it gathers
abbrev pub GathersOn : {X Y : Type 0} → (X → Y → Type 0) → List X → List Y → List Y → Type 0
GathersOn {X} {Y} R xs old new = (ys : List Y) × (new ≡ old ++ ys) × Gathers R xs ys

-- the steps themselves, where their word goes on
abbrev pub IsGoing : ExprOf → List Step → List Step → Type 0
IsGoing e ps qs = (qs ≡ ps) × IsContinuable e (word_of ps)

-- the steps have a word of the expression, and their end this wanted datum
abbrev pub IsReached : {D : Type 0} → GraphOf D → ExprOf → (D → Bool) → Scope → List Step → D → Type 0
IsReached g e wants start ps d = In e (word_of ps) × HasDatum g (end_of start ps) d × IsTrue (wants d)

-- the path with these steps and the wanted datum at its end
abbrev pub IsFound : {D : Type 0} → GraphOf D → ExprOf → (D → Bool) → Scope → List Step → Found D → Type 0
IsFound g e wants start ps f = (f.path ≡ record { start = start; steps = ps }) × IsReached g e wants start ps f.datum

-- where a walk stands on some steps: of these paths, those that go on, each with its rest, and those that reach a wanted datum are added
-- to what was seen
pub record Visits {D : Type 0} (g : GraphOf D) (e : ExprOf) (wants : D → Bool) (start : Scope) (at : List Step) (pss : List (List Step)) (old new : Seen D) : Type 0 where
  pub going : GathersOn (IsGoing e) pss (paths_of at old.going.items) (paths_of at new.going.items)
  pub rests : AllByRecursion (HasRest e at) old.going.items → AllByRecursion (HasRest e at) new.going.items
  pub nested : AreNested (length at) old.going.items → AreNested (length at) new.going.items
  pub found : GathersOn (IsFound g e wants start) pss old.found.items new.found.items

-- all of these paths are visited, or so many that more go on than there is room for
abbrev pub VisitsWithin : {D : Type 0} → GraphOf D → ExprOf → (D → Bool) → Scope → List Step → List (List Step) → ℕ → Seen D → Seen D → Bool → Type 0
VisitsWithin g e wants start at pss room old new all =
    MatchBool all (Visits g e wants start at pss old new × (length new.going.items ≤ room)) ((front : List (List Step)) × (back : List (List Step)) × (pss ≡ front ++ back) × Visits g e wants start at front old new × (room < length new.going.items))

-- a path of the graph with a word of the expression and a wanted datum at its end
abbrev pub IsArrived : {D : Type 0} → GraphOf D → ExprOf → (D → Bool) → Scope → List Step → D → Type 0
IsArrived g e wants start ps d = IsPath g start ps × IsReached g e wants start ps d

-- a path of the graph whose word goes on
abbrev pub GoesOnFrom : {D : Type 0} → GraphOf D → ExprOf → Scope → List Step → Type 0
GoesOnFrom g e start ps = IsPath g start ps × IsContinuable e (word_of ps)

-- the list holds each path that arrives once, with its end's datum
pub record AreArrived {D : Type 0} (g : GraphOf D) (e : ExprOf) (wants : D → Bool) (start : Scope) (fs : List (Found D)) : Type 0 where
  pub once : IsDistinct (map (λ f. f.path) fs)
  pub arrived : (f : Found D) → (Contains fs f) ↔ ((f.path.start ≡ start) × IsArrived g e wants start f.path.steps f.datum)

-- where the walk stands on some steps, it visits these paths in its graph, by its expression and the data that its predicate wants
abbrev pub WalkVisits : {I D P : Type 0} → (P → D → Bool) → Walk I D P → List Step → List (List Step) → Seen D → Seen D → Type 0
WalkVisits wants w at pss old new = Visits w.graph.now (expr_of w.expr.now) (wants w.pred.now) w.start at pss old new

-- the walk visits all of these paths, or so many that more go on than there is room for
abbrev pub WalkVisitsWithin : {I D P : Type 0} → (P → D → Bool) → Walk I D P → List Step → List (List Step) → ℕ → Seen D → Seen D → Bool → Type 0
WalkVisitsWithin wants w at pss room old new all = VisitsWithin w.graph.now (expr_of w.expr.now) (wants w.pred.now) w.start at pss room old new all

-- the walk finds the path with these steps and the wanted datum at its end
abbrev pub WalkFinds : {I D P : Type 0} → (P → D → Bool) → Walk I D P → List Step → Found D → Type 0
WalkFinds wants w ps f = IsFound w.graph.now (expr_of w.expr.now) (wants w.pred.now) w.start ps f

-- the walk finds the path with these steps, or, where none is given, they reach no wanted datum
abbrev pub WalkFindsAny : {I D P : Type 0} → (P → D → Bool) → Walk I D P → List Step → Option (Found D) → Type 0
WalkFindsAny {I} {D} wants w ps o =
    MatchOption o ((d : D) → IsReached w.graph.now (expr_of w.expr.now) (wants w.pred.now) w.start ps d → ⊥) (WalkFinds wants w ps)

-- more paths of the walk go on than an answer looks at
abbrev pub WalkGoesTooFar : {I D P : Type 0} → Walk I D P → Type 0
WalkGoesTooFar w = MoreThan most_paths (GoesOnFrom w.graph.now (expr_of w.expr.now) w.start)

-- no more paths of the walk go on than an answer looks at, and the list holds each one that arrives
abbrev pub WalkArrives : {I D P : Type 0} → (P → D → Bool) → Walk I D P → List (Found D) → Type 0
WalkArrives wants w fs = (WalkGoesTooFar w → ⊥) × AreArrived w.graph.now (expr_of w.expr.now) (wants w.pred.now) w.start fs
