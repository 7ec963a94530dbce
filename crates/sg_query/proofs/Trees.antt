-- Paths that were found, by their places in a tree of paths.
use Rattle.std.proofs.Common.{◌≡◌, ℕ, zero, suc, ◌+◌, ◌<◌, ◌↔◌, List, [], ◌∷◌, ◌++◌, Bool, true, false, refl, sym, ap, ◌∙◌, subst, length, map, take, get_or, arith, length-append}
use Rattle.std.proofs.lemmas.List.{get_or-map, length-map, map-append}
use Rattle.std.specs.List.{AllByRecursion, Contains}
use Rattle.std.specs.List.Sorted.{IsPermutation, IsSortedBy}
use Rattle.std.proofs.lemmas.List.Sorted.{Contains-permutation, IsPermutation-map, IsPermutation-sym}
use Rattle.std.specs.Cmp.{IsTotalOrder}
use Rattle.std.specs.Ordering.{ordering_then, ordering_reverse}
use Rattle.std.specs.declared.cmp.Ordering.{Ordering}
use Rattle.std.specs.declared.cmp.Ordering.TheVariants.{Less, Equal, Greater}
use Rattle.sg_base.specs.declared.scope.Scope.{Scope}
use Rattle.sg_base.specs.declared.step.Step.{Step}
use Rattle.sg_base.specs.Path.{PathOf, path_cmp, step_cmp}
use Rattle.sg_base.specs.PathTree.{PathTreeOf, path_at, path_in}
use Rattle.sg_base.specs.Scope.{scope_cmp, scope_total}
use Rattle.std.specs.Cmp.Lexicographic.{slice_cmp}
use Rattle.sg_base.proofs.Finite.{each_at, each_from}
use Rattle.sg_base.proofs.Trees.{path_at-left}
use Rattle.sg_query.specs.declared.found.Found.{Found}
use Rattle.sg_query.specs.declared.found_at.FoundAt.{FoundAt}
use Rattle.sg_query.specs.Found.{FoundTreeOf, found_in, AreThere}
use Rattle.sg_query.specs.Marks.{unmarked}

-- ---- places

pub path_at-none : (ps : List (List Step)) (k : ℕ) → (k < length ps → ⊥) → path_at ps k ≡ []
path_at-none [] k n = refl
path_at-none (p ∷ ps) zero n = absurd (n (omega arith))
path_at-none (p ∷ ps) (suc k) n = path_at-none ps k (λ l. n (omega (arith, l)))

own_reverse : (o : Ordering) → o ≡ ordering_reverse o → o ≡ Equal
own_reverse Less e = absurd (cc)
own_reverse Equal e = refl
own_reverse Greater e = absurd (cc)

-- paths from one scope are in the order of their steps
pub one_start_cmp : (s : Scope) (ps qs : List Step) → path_cmp (record { start = s; steps = ps }) (record { start = s; steps = qs }) ≡ slice_cmp step_cmp ps qs
one_start_cmp s ps qs = ap (λ (o : Ordering). ordering_then o (slice_cmp step_cmp ps qs)) (own_reverse (scope_cmp s s) (scope_total.antisymm s s))

-- ---- found paths

abbrev pub found_of : {D : Type 0} → Scope → List Step → D → Found D
found_of s ps d = record { path = record { start = s; steps = ps }; datum = d }

abbrev pub tree_from : {D : Type 0} → Scope → List (Found D) → FoundTreeOf D
tree_from s fs = record { start = s; found = fs }

module _ {D : Type 0} where
  pub there_at : (t : PathTreeOf) (fs : List (FoundAt D)) → AreThere t fs → (f : FoundAt D) → Contains fs f → f.place < length t.paths
  there_at t = each_at (λ (f : FoundAt D). f.place < length t.paths)

  pub there_from : (t : PathTreeOf) (fs : List (FoundAt D)) → ((f : FoundAt D) → Contains fs f → f.place < length t.paths) → AreThere t fs
  there_from t = each_from (λ (f : FoundAt D). f.place < length t.paths)

  pub there_moved : (t : PathTreeOf) (fs hs : List (FoundAt D)) → IsPermutation fs hs → AreThere t fs → AreThere t hs
  there_moved t fs hs moved a = there_from t hs (λ f c. there_at t fs a f (Contains-permutation hs fs f (IsPermutation-sym fs hs moved) c))

  -- in a tree with more paths, the same ones were found
  module _ (t u : PathTreeOf) (more : List (List Step)) (start : u.start ≡ t.start) (grown : u.paths ≡ t.paths ++ more) where
    pub there_more : (fs : List (FoundAt D)) → AreThere t fs → AreThere u fs
    there_more [] a = tt
    there_more (f ∷ fs) a = (omega (arith, a.0, ap length grown, length-append t.paths more), there_more fs a.1)

    pub found_more : (fs : List (FoundAt D)) → AreThere t fs → map (found_in u) fs ≡ map (found_in t) fs
    found_more [] a = refl
    found_more (f ∷ fs) a =
        let path : path_at u.paths f.place ≡ path_at t.paths f.place = ap (λ (ps : List (List Step)). path_at ps f.place) grown ∙ path_at-left t.paths more f.place a.0 in
        ap (λ (s : Scope). found_of s (path_at u.paths f.place) f.datum ∷ map (found_in u) fs) start
        ∙ (ap (λ (ps : List Step). found_of t.start ps f.datum ∷ map (found_in u) fs) path
        ∙ ap (λ (hs : List (Found D)). found_in t f ∷ hs) (found_more fs a.1))

    pub tree_more : (fs : List (FoundAt D)) → AreThere t fs → tree_from u.start (map (found_in u) fs) ≡ tree_from t.start (map (found_in t) fs)
    tree_more fs a = ap (λ (s : Scope). tree_from s (map (found_in u) fs)) start ∙ ap (λ (hs : List (Found D)). tree_from t.start hs) (found_more fs a)

    pub tree_added : (fs : List (FoundAt D)) → AreThere t fs → (k : ℕ) (ps : List Step) (d : D) → path_at u.paths k ≡ ps → tree_from u.start (map (found_in u) (fs ++ record { place = k; datum = d } ∷ [])) ≡ tree_from t.start (map (found_in t) fs ++ found_of t.start ps d ∷ [])
    tree_added fs a k ps d path =
        ap (λ (hs : List (Found D)). tree_from u.start hs) (map-append (found_in u) fs (record { place = k; datum = d } ∷ []))
        ∙ (ap (λ (qs : List Step). tree_from u.start (map (found_in u) fs ++ found_of u.start qs d ∷ [])) path
        ∙ (ap (λ (s : Scope). tree_from s (map (found_in u) fs ++ found_of s ps d ∷ [])) start
        ∙ ap (λ (hs : List (Found D)). tree_from t.start (hs ++ found_of t.start ps d ∷ [])) (found_more fs a)))

-- ---- lists under a map

module _ {X Y : Type 0} (f : X → Y) where
  pub alike_moved : (xs ys : List X) → IsPermutation xs ys → (y : Y) → (Contains (map f ys) y) ↔ (Contains (map f xs) y)
  alike_moved xs ys moved y =
      let also : IsPermutation (map f xs) (map f ys) = IsPermutation-map f xs ys moved in
      ((λ c. Contains-permutation (map f ys) (map f xs) y (IsPermutation-sym (map f xs) (map f ys) also) c), (λ c. Contains-permutation (map f xs) (map f ys) y also c))

  pub sorted_map : (lt : Y → Y → Bool) (xs : List X) → IsSortedBy (λ a b. lt (f a) (f b)) xs → IsSortedBy lt (map f xs)
  sorted_map lt [] s k d a b = absurd (omega arith)
  sorted_map lt (x ∷ xs) s k d a b =
      let below : k + 1 < length (x ∷ xs) = omega (arith, b, length-map (x ∷ xs) f) in
      let next : get_or (map f (x ∷ xs)) (k + 1) d ≡ f (get_or (x ∷ xs) (k + 1) x) = get_or-map f (x ∷ xs) (k + 1) x d below in
      let here : get_or (map f (x ∷ xs)) k d ≡ f (get_or (x ∷ xs) k x) = get_or-map f (x ∷ xs) k x d (omega (arith, below)) in
      ap (λ (y : Y). lt y (get_or (map f (x ∷ xs)) k d)) next ∙ (ap (λ (y : Y). lt (f (get_or (x ∷ xs) (k + 1) x)) y) here ∙ s k x a below)

  pub unmarked_map : (xs : List X) (marks : List Bool) → map f (unmarked xs marks) ≡ unmarked (map f xs) marks
  unmarked_map [] marks = refl
  unmarked_map (x ∷ xs) [] = refl
  unmarked_map (x ∷ xs) (true ∷ marks) = unmarked_map xs marks
  unmarked_map (x ∷ xs) (false ∷ marks) = ap (λ (ys : List Y). f x ∷ ys) (unmarked_map xs marks)

pub unmarked_each : {X : Type 0} (P : X → Type 0) (xs : List X) (marks : List Bool) → AllByRecursion P xs → AllByRecursion P (unmarked xs marks)
unmarked_each P [] marks a = tt
unmarked_each P (x ∷ xs) [] a = a
unmarked_each P (x ∷ xs) (true ∷ marks) a = unmarked_each P xs marks a.1
unmarked_each P (x ∷ xs) (false ∷ marks) a = (a.0, unmarked_each P xs marks a.1)
