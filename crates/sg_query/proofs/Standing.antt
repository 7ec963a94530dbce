-- Where a walk stands between two paths that it looks behind.
use Rattle.std.proofs.Common.{◌≡◌, ℕ, ◌<◌, ◌≤◌, ◌+◌, ◌-◌, List, [], ◌∷◌, ◌++◌, Bool, Option, Some, None, inl, inr, refl, sym, ap, ◌∙◌, subst, length, take, map, arith, length-append}
use Rattle.std.proofs.lemmas.List.{append-nil, map-append, length-map}
use Rattle.std.proofs.lemmas.List.Elements.{Contains-append_left, Contains-push}
use Rattle.std.specs.List.{AllByRecursion, Contains}
use Rattle.std.specs.Option.{IfSome}
use Rattle.sg_base.specs.declared.scope.Scope.{Scope}
use Rattle.sg_base.specs.declared.step.Step.{Step}
use Rattle.sg_base.specs.Graph.{GraphOf, IsGraph}
use Rattle.sg_base.specs.List.{IsDistinct, MoreThan}
use Rattle.sg_base.specs.Path.{reached_by}
use Rattle.sg_base.proofs.Finite.{each_at, each_from, Distinct-last}
use Rattle.sg_expr.specs.Tree.{ExprOf}
use Rattle.sg_query.specs.declared.found.Found.{Found}
use Rattle.sg_query.specs.declared.going.Going.{Going}
use Rattle.sg_query.specs.declared.walk.Seen.{Seen}
use Rattle.sg_query.specs.Answer.{most_paths}
use Rattle.sg_query.specs.Steps.{if_any}
use Rattle.sg_query.specs.Walk.{GathersOn, IsGoing, IsFound, Visits, AreNested, HasRest, AreArrived, GoesOnFrom, one_more, path_at, paths_of}
use Rattle.sg_query.proofs.Gathering.{length-GathersOn, Nested-pop, Nested-more, paths_kept, rests_kept, gone}
use Rattle.sg_query.proofs.Paths.{reached_by-append}
use Rattle.sg_query.proofs.Walking.{Walked, walked_first, walked_next, too_many_go, not_too_many, all_found}

fresh_last : (ps : List Step) (o : Option Step) → IsDistinct (reached_by (ps ++ if_any o)) → IfSome o (λ x. Contains (reached_by ps) x.to → ⊥)
fresh_last ps None d = tt
fresh_last ps (Some x) d =
    Distinct-last (reached_by ps) x.to (subst (λ (t : List Scope). IsDistinct t) (reached_by-append ps (x ∷ [])) d)

module _ {D : Type 0} (g : GraphOf D) (ok : IsGraph g) (e : ExprOf) (start : Scope) (wants : D → Bool) where
  -- the paths behind which the walk has looked, and with those what it has seen so far
  pub record Stands (steps : List Step) (room : ℕ) (going : List Going) (found : List (Found D)) : Type 0 where
    pub done : List (List Step)
    pub sum : length done + room ≡ most_paths
    pub fits : length going ≤ room
    pub nested : AreNested (length steps) going
    pub rests : AllByRecursion (HasRest e steps) going
    pub walked : Walked g ok e start wants done (paths_of steps going) found

  pub stands_first : (steps : List Step) (old new : Seen D) → steps ≡ [] → old.going.items ≡ [] → old.found.items ≡ [] → Visits g e wants start steps ((steps ++ []) ∷ []) old new → Stands steps most_paths new.going.items new.found.items
  stands_first steps old new none no_going no_found v =
      subst (λ (t : List Step). Visits g e wants start t ((t ++ []) ∷ []) old new → Stands t most_paths new.going.items new.found.items) (sym none) (λ w.
      let going : GathersOn (IsGoing e) ([] ∷ []) [] (paths_of [] new.going.items) =
      subst (λ (t : List Going). GathersOn (IsGoing e) ([] ∷ []) (paths_of [] t) (paths_of [] new.going.items)) no_going w.going in
      let found : GathersOn (IsFound g e wants start) ([] ∷ []) [] new.found.items =
      subst (λ (t : List (Found D)). GathersOn (IsFound g e wants start) ([] ∷ []) t new.found.items) no_found w.found in
      record {
        done = [];
        sum = refl;
        fits = omega (arith, length-GathersOn (IsGoing e) ([] ∷ []) (paths_of [] new.going.items) going, length-map new.going.items (path_at []));
        nested = w.nested (subst (AreNested 0) (sym no_going) tt);
        rests = w.rests (subst (AllByRecursion (HasRest e [])) (sym no_going) tt);
        walked = walked_first g ok e start wants (paths_of [] new.going.items) new.found.items going found;
      }) v

  -- the walk takes the last path that it met
  module _ (steps : List Step) (room : ℕ) (going : List Going) (found : List (Found D)) (s : Stands steps room going found) (rest : List Going) (x : Going) (split : going ≡ rest ++ x ∷ []) where
    sizes : length going ≡ length rest + 1
    sizes = ap length split ∙ length-append rest (x ∷ [])

    pub has_room : 1 ≤ room
    has_room = omega (arith, sizes, s.fits)

    pub room_left : length rest ≤ room - 1
    room_left = omega (arith, sizes, s.fits)

    nest : AreNested x.depth rest × (x.depth ≤ length steps)
    nest = Nested-pop (length steps) rest x (subst (AreNested (length steps)) split s.nested)

    pub within : x.depth ≤ length steps
    within = nest.1

    paths : paths_of steps going ≡ paths_of steps rest ++ path_at steps x ∷ []
    paths = ap (paths_of steps) split ∙ map-append (path_at steps) rest (x ∷ [])

    walks : Walked g ok e start wants s.done (paths_of steps rest ++ path_at steps x ∷ []) found
    walks = subst (λ (t : List (List Step)). Walked g ok e start wants s.done t found) paths s.walked

    pub fresh : IfSome x.last (λ y. Contains (reached_by (take x.depth steps)) y.to → ⊥)
    fresh =
        fresh_last (take x.depth steps) x.last ((walks.known.goes (path_at steps x) (inr (Contains-push (paths_of steps rest) (path_at steps x)))).0.1.1)

    each : (y : Going) → Contains (rest ++ x ∷ []) y → HasRest e steps y
    each y c =
        each_at (HasRest e steps) (rest ++ x ∷ []) (subst (AllByRecursion (HasRest e steps)) split s.rests) y c

    pub has_rest : HasRest e steps x
    has_rest = each x (Contains-push rest x)

    module _ (old new : Seen D) (going_is : old.going.items ≡ rest) (found_is : old.found.items ≡ found) where
      -- what a visit from there gathers, by what was left
      gathered : (pss : List (List Step)) → Visits g e wants start (path_at steps x) pss old new → GathersOn (IsGoing e) pss (paths_of steps rest) (paths_of (path_at steps x) new.going.items)
      gathered pss v =
          subst (λ (t : List (List Step)). GathersOn (IsGoing e) pss t (paths_of (path_at steps x) new.going.items)) (ap (paths_of (path_at steps x)) going_is ∙ paths_kept steps x within rest nest.0) v.going

      next_at : Visits g e wants start (path_at steps x) (one_more g start (path_at steps x)) old new → length new.going.items ≤ room - 1 → Stands (path_at steps x) (room - 1) new.going.items new.found.items
      next_at v few = record {
        done = path_at steps x ∷ s.done;
        sum = omega (arith, s.sum, has_room);
        fits = few;
        nested = v.nested (subst (AreNested (length (path_at steps x))) (sym going_is) (Nested-more x.depth (length (path_at steps x)) rest (gone steps x within) nest.0));
        rests = v.rests (subst (AllByRecursion (HasRest e (path_at steps x))) (sym going_is) (rests_kept steps x within e rest nest.0 (each_from (HasRest e steps) rest (λ y c. each y (Contains-append_left rest (x ∷ []) y c)))));
        walked = walked_next g ok e start wants s.done (paths_of steps rest) (path_at steps x) found walks (paths_of (path_at steps x) new.going.items) new.found.items (gathered (one_more g start (path_at steps x)) v)
            (subst (λ (t : List (Found D)). GathersOn (IsFound g e wants start) (one_more g start (path_at steps x)) t new.found.items) found_is v.found);
      }

      over_at : (front back : List (List Step)) → one_more g start (path_at steps x) ≡ front ++ back → Visits g e wants start (path_at steps x) front old new → room - 1 < length new.going.items → MoreThan most_paths (GoesOnFrom g e start)
      over_at front back some v over =
          too_many_go g ok e start wants s.done (paths_of steps rest) (path_at steps x) found walks most_paths (room - 1) front back (paths_of (path_at steps x) new.going.items) some (gathered front v) (omega (arith, s.sum, has_room)) (omega (arith, over, length-map new.going.items (path_at (path_at steps x))))

      pub stands_next : (at : List Step) → at ≡ path_at steps x → Visits g e wants start at (one_more g start at) old new → length new.going.items ≤ room - 1 → Stands at (room - 1) new.going.items new.found.items
      stands_next at same v few =
          subst (λ (t : List Step). Visits g e wants start t (one_more g start t) old new → Stands t (room - 1) new.going.items new.found.items) (sym same) (λ w. next_at w few) v

      pub stands_over : (at : List Step) → at ≡ path_at steps x → (front back : List (List Step)) → one_more g start at ≡ front ++ back → Visits g e wants start at front old new → room - 1 < length new.going.items → MoreThan most_paths (GoesOnFrom g e start)
      stands_over at same front back some v over =
          over_at front back (subst (λ (t : List Step). one_more g start t ≡ front ++ back) same some) (subst (λ (t : List Step). Visits g e wants start t front old new) same v) over

  -- nothing is left
  module _ (steps : List Step) (room : ℕ) (going : List Going) (found : List (Found D)) (s : Stands steps room going found) (none : going ≡ []) where
    ended : Walked g ok e start wants s.done [] found
    ended = subst (λ (t : List Going). Walked g ok e start wants s.done (paths_of steps t) found) none s.walked

    pub stands_few : MoreThan most_paths (GoesOnFrom g e start) → ⊥
    stands_few = not_too_many g ok e start wants s.done found ended most_paths (omega (arith, s.sum))

    pub stands_all : AreArrived g e wants start found
    stands_all = all_found g ok e start wants s.done found ended
