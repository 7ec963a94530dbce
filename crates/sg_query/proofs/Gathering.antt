-- Lists that gather, for each thing of another list in turn, what belongs to it.
use Rattle.std.proofs.Common.{◌≡◌, ◌≢◌, ℕ, zero, suc, ◌<◌, ◌≤◌, List, [], ◌∷◌, ◌++◌, ◌↔◌, inl, inr, refl, sym, ap, ◌∙◌, subst, append_assoc, length, take, map, Bool, true, false, arith, length-append, length-take}
use Rattle.std.proofs.lemmas.List.{append-nil, map-append, take_all}
use Rattle.std.proofs.lemmas.List.Elements.{Contains-append_left, Contains-push}
use Rattle.std.specs.List.{AllByRecursion, Contains}
use Rattle.sg_base.specs.declared.scope.Scope.{Scope}
use Rattle.sg_base.specs.declared.step.Step.{Step}
use Rattle.sg_base.specs.Graph.{GraphOf}
use Rattle.sg_base.specs.Label.{Word}
use Rattle.sg_base.specs.List.{IsDistinct}
use Rattle.sg_base.proofs.Finite.{nothing_in, Contains-head, Contains-cons, Contains-tail, Contains-map, each_append, each_at, each_from}
use Rattle.sg_base.specs.Path.{word_of}
use Rattle.sg_expr.specs.Tree.{ExprOf, expr_of}
use Rattle.sg_expr.specs.Word.{In, IsContinuable}
use Rattle.sg_query.specs.declared.going.Going.{Going}
use Rattle.sg_query.specs.declared.walk.Seen.{Seen}
use Rattle.sg_query.specs.Steps.{if_any}
use Rattle.sg_query.specs.Walk.{Gathers, GathersOn, Visits, VisitsWithin, AreNested, IsGoing, IsFound, IsRest, HasRest, path_at, paths_of}
use Rattle.sg_query.proofs.Paths.{word_of-append}

module _ {X Y : Type 0} (R : X → Y → Type 0) where
  pub Gathers-append : (xs ws : List X) (ys zs : List Y) → Gathers R xs ys → Gathers R ws zs → Gathers R (xs ++ ws) (ys ++ zs)
  Gathers-append [] ws ys zs h k = subst (λ (t : List Y). Gathers R ws (t ++ zs)) (sym h) k
  Gathers-append (x ∷ xs) ws ys zs (inl h) k = inl (h.0, h.1 ++ zs, h.2, ap (λ (t : List Y). t ++ zs) h.3, Gathers-append xs ws h.1 zs h.4 k)
  Gathers-append (x ∷ xs) ws ys zs (inr h) k = inr (h.0, Gathers-append xs ws ys zs h.1 k)

  pub Gathers-from : (xs : List X) (ys : List Y) → Gathers R xs ys → (y : Y) → Contains ys y → (x : X) × Contains xs x × R x y
  Gathers-from [] ys h y c = absurd (nothing_in y (subst (λ (t : List Y). Contains t y) h c))
  Gathers-from (x ∷ xs) ys (inl h) y c =
      elim (Contains-cons h.0 y h.1 (subst (λ (t : List Y). Contains t y) h.3 c)) [
        | inl e ↦ (x, Contains-head x xs, subst (R x) (sym e) h.2)
        | inr k ↦ let m : (z : X) × Contains xs z × R z y = Gathers-from xs h.1 h.4 y k in (m.0, Contains-tail x m.0 xs m.1, m.2)
      ]
  Gathers-from (x ∷ xs) ys (inr h) y c =
      let m : (z : X) × Contains xs z × R z y = Gathers-from xs ys h.1 y c in (m.0, Contains-tail x m.0 xs m.1, m.2)

  -- where one thing at most belongs to each
  pub Gathers-to : ((x : X) (y z : Y) → R x y → R x z → y ≡ z) → (xs : List X) (ys : List Y) → Gathers R xs ys → (x : X) (y : Y) → Contains xs x → R x y → Contains ys y
  Gathers-to one [] ys h x y c r = absurd (nothing_in x c)
  Gathers-to one (w ∷ xs) ys (inl h) x y c r =
      subst (λ (t : List Y). Contains t y) (sym h.3) (elim (Contains-cons w x xs c) [
        | inl e ↦ subst (λ (t : Y). Contains (h.0 ∷ h.1) t) (one w h.0 y h.2 (subst (λ (t : X). R t y) e r)) (Contains-head h.0 h.1)
        | inr k ↦ Contains-tail h.0 y h.1 (Gathers-to one xs h.1 h.4 x y k r)
      ])
  Gathers-to one (w ∷ xs) ys (inr h) x y c r =
      elim (Contains-cons w x xs c) [
        | inl e ↦ absurd (h.0 y (subst (λ (t : X). R t y) e r))
        | inr k ↦ Gathers-to one xs ys h.1 x y k r
      ]

  -- where different things have different things of their own
  pub Gathers-distinct : {K : Type 0} (key : Y → K) → ((x z : X) (y w : Y) → R x y → R z w → key y ≡ key w → x ≡ z) → (xs : List X) (ys : List Y) → Gathers R xs ys → IsDistinct xs → IsDistinct (map key ys)
  Gathers-distinct {K} key own [] ys h d = subst (λ (t : List Y). IsDistinct (map key t)) (sym h) tt
  Gathers-distinct {K} key own (x ∷ xs) ys (inl h) d =
      subst (λ (t : List Y). IsDistinct (map key t)) (sym h.3) (
        (λ c.
            let m = Contains-map key h.1 (key h.0) c in
            let n = Gathers-from xs h.1 h.4 m.0 m.1 in
            d.0 (subst (λ (t : X). Contains xs t) (sym (own x n.0 h.0 m.0 h.2 n.2 m.2)) n.1)),
        Gathers-distinct key own xs h.1 h.4 d.1,
      )
  Gathers-distinct {K} key own (x ∷ xs) ys (inr h) d = Gathers-distinct key own xs ys h.1 d.1

  pub GathersOn-none : (a : List Y) → GathersOn R [] a a
  GathersOn-none a = ([], sym (append-nil a), refl)

  pub GathersOn-append : (xs ws : List X) (a b d : List Y) → GathersOn R xs a b → GathersOn R ws b d → GathersOn R (xs ++ ws) a d
  GathersOn-append xs ws a b d h k =
      (h.0 ++ k.0, k.1 ∙ ap (λ (t : List Y). t ++ k.0) h.1 ∙ append_assoc a h.0 k.0, Gathers-append xs ws h.0 k.0 h.2 k.2)

  pub GathersOn-one : (x : X) (y : Y) (a : List Y) → R x y → GathersOn R (x ∷ []) a (a ++ y ∷ [])
  GathersOn-one x y a r = (y ∷ [], refl, inl (y, [], r, refl, refl))

  pub GathersOn-skip : (x : X) (a : List Y) → ((y : Y) → R x y → ⊥) → GathersOn R (x ∷ []) a a
  GathersOn-skip x a n = ([], sym (append-nil a), inr (n, refl))

-- ---- paths that begin with steps of one list

pub Nested-push : (n : ℕ) (xs : List Going) (x : Going) → x.depth ≡ n → AreNested n xs → AreNested n (xs ++ x ∷ [])
Nested-push n [] x same h = (omega arith, tt, tt)
Nested-push n (y ∷ xs) x same h =
    (h.0, each_append (λ (z : Going). y.depth ≤ z.depth) xs (x ∷ []) h.1 (omega (arith, h.0), tt), Nested-push n xs x same h.2)

pub Nested-pop : (n : ℕ) (xs : List Going) (x : Going) → AreNested n (xs ++ x ∷ []) → AreNested x.depth xs × (x.depth ≤ n)
Nested-pop n [] x h = (tt, h.0)
Nested-pop n (y ∷ xs) x h =
    let k : AreNested x.depth xs × (x.depth ≤ n) = Nested-pop n xs x h.2 in
    let each = each_at (λ (z : Going). y.depth ≤ z.depth) (xs ++ x ∷ []) h.1 in
    ((each x (Contains-push xs x), each_from (λ (z : Going). y.depth ≤ z.depth) xs (λ z c. each z (Contains-append_left xs (x ∷ []) z c)), k.0), k.1)

pub Nested-more : (m n : ℕ) (xs : List Going) → m ≤ n → AreNested m xs → AreNested n xs
Nested-more m n [] l h = tt
Nested-more m n (x ∷ xs) l h = (omega (arith, h.0), h.1, Nested-more m n xs l h.2)

take_take : (n m : ℕ) (ps qs : List Step) → n ≤ m → m ≤ length ps → take n (take m ps ++ qs) ≡ take n ps
take_take zero m ps qs l k = refl
take_take (suc n) zero ps qs l k = absurd (omega arith)
take_take (suc n) (suc m) [] qs l k = absurd (omega arith)
take_take (suc n) (suc m) (p ∷ ps) qs l k = ap (λ (t : List Step). p ∷ t) (take_take n m ps qs (omega arith) (omega arith))

module _ (ps : List Step) (x : Going) (within : x.depth ≤ length ps) where
  -- a path that parts before the last one stays the same where the walk goes there
  path_kept : (y : Going) → y.depth ≤ x.depth → path_at (path_at ps x) y ≡ path_at ps y
  path_kept y l = ap (λ (t : List Step). t ++ if_any y.last) (take_take y.depth x.depth ps (if_any x.last) l within)

  pub paths_kept : (xs : List Going) → AreNested x.depth xs → paths_of (path_at ps x) xs ≡ paths_of ps xs
  paths_kept [] h = refl
  paths_kept (y ∷ xs) h =
      ap (λ (t : List Step). t ∷ paths_of (path_at ps x) xs) (path_kept y h.0) ∙ ap (λ (t : List (List Step)). path_at ps y ∷ t) (paths_kept xs h.2)

  pub rests_kept : (e : ExprOf) (xs : List Going) → AreNested x.depth xs → AllByRecursion (HasRest e ps) xs → AllByRecursion (HasRest e (path_at ps x)) xs
  rests_kept e [] h r = tt
  rests_kept e (y ∷ xs) h r = (subst (λ (t : List Step). IsRest e t (expr_of y.rest)) (sym (path_kept y h.0)) r.0, rests_kept e xs h.2 r.1)

  -- a walk that goes there has gone at least so far
  pub gone : x.depth ≤ length (path_at ps x)
  gone = omega (arith, length-append (take x.depth ps) (if_any x.last), length-take x.depth ps)

module _ {D : Type 0} {g : GraphOf D} {e : ExprOf} {wants : D → Bool} {start : Scope} {at : List Step} where
  pub Visits-none : (a : Seen D) → Visits g e wants start at [] a a
  Visits-none a = record {
    going = GathersOn-none (IsGoing e) (paths_of at a.going.items);
    rests = λ h. h;
    nested = λ h. h;
    found = GathersOn-none (IsFound g e wants start) a.found.items;
  }

  pub Visits-same : {xs : List (List Step)} {a b : Seen D} (ys : List (List Step)) → ys ≡ xs → Visits g e wants start at xs a b → Visits g e wants start at ys a b
  Visits-same {xs} {a} {b} ys same h = subst (λ (t : List (List Step)). Visits g e wants start at t a b) (sym same) h

  pub Visits-append : {xs ys : List (List Step)} {a b c : Seen D} → Visits g e wants start at xs a b → Visits g e wants start at ys b c → Visits g e wants start at (xs ++ ys) a c
  Visits-append {xs} {ys} {a} {b} {c} h k = record {
    going = GathersOn-append (IsGoing e) xs ys (paths_of at a.going.items) (paths_of at b.going.items) (paths_of at c.going.items) h.going k.going;
    rests = λ r. k.rests (h.rests r);
    nested = λ r. k.nested (h.nested r);
    found = GathersOn-append (IsFound g e wants start) xs ys a.found.items b.found.items c.found.items h.found k.found;
  }

  -- what was done, and then a part that found no room
  pub Visits-stop : {xs ys : List (List Step)} {a b c : Seen D} {room : ℕ} (whole rest : List (List Step)) → whole ≡ xs ++ (ys ++ rest) → Visits g e wants start at xs a b → (front : List (List Step)) (back : List (List Step)) → ys ≡ front ++ back → Visits g e wants start at front b c → room < length c.going.items → VisitsWithin g e wants start at whole room a c false
  Visits-stop {xs} {ys} whole rest same h front back part k over =
      (xs ++ front, back ++ rest, same ∙ ap (λ (t : List (List Step)). xs ++ (t ++ rest)) part ∙ ap (λ (t : List (List Step)). xs ++ t) (append_assoc front back rest) ∙ sym (append_assoc xs front (back ++ rest)), Visits-append h k, over)

  -- what was done, and then a part behind which there is no room
  pub Visits-full : {xs ys : List (List Step)} {a b c : Seen D} {room : ℕ} (whole rest : List (List Step)) → whole ≡ xs ++ (ys ++ rest) → Visits g e wants start at xs a b → Visits g e wants start at ys b c → room < length c.going.items → VisitsWithin g e wants start at whole room a c false
  Visits-full {xs} {ys} whole rest same h k over = (xs ++ ys, rest, same ∙ sym (append_assoc xs ys rest), Visits-append h k, over)

  -- a path that goes on is added, and one that does not is left out
  pub going_more : (a b c : Seen D) (x : Going) → x.depth ≡ length at → IsRest e (at ++ if_any x.last) (expr_of x.rest) → IsContinuable e (word_of (at ++ if_any x.last)) → c.going.items ≡ b.going.items ++ x ∷ [] → b.going.items ≡ a.going.items → c.found.items ≡ b.found.items → GathersOn (IsFound g e wants start) ((at ++ if_any x.last) ∷ []) a.found.items b.found.items → Visits g e wants start at ((at ++ if_any x.last) ∷ []) a c
  going_more a b c x depth rest k more same kept found =
      let all : c.going.items ≡ a.going.items ++ x ∷ [] = more ∙ ap (λ (t : List Going). t ++ x ∷ []) same in
      let here : path_at at x ≡ at ++ if_any x.last = ap (λ (n : ℕ). take n at ++ if_any x.last) depth ∙ ap (λ (t : List Step). t ++ if_any x.last) (take_all (length at) at (omega arith)) in
      let paths : paths_of at c.going.items ≡ paths_of at a.going.items ++ (at ++ if_any x.last) ∷ [] =
      ap (paths_of at) all ∙ map-append (path_at at) a.going.items (x ∷ []) ∙ ap (λ (t : List Step). paths_of at a.going.items ++ t ∷ []) here in
      record {
        going = subst (GathersOn (IsGoing e) ((at ++ if_any x.last) ∷ []) (paths_of at a.going.items)) (sym paths) (GathersOn-one (IsGoing e) (at ++ if_any x.last) (at ++ if_any x.last) (paths_of at a.going.items) (refl, k));
        rests = λ r. subst (AllByRecursion (HasRest e at)) (sym all) (each_append (HasRest e at) a.going.items (x ∷ []) r (subst (λ (t : List Step). IsRest e t (expr_of x.rest)) (sym here) rest, tt));
        nested = λ r. subst (AreNested (length at)) (sym all) (Nested-push (length at) a.going.items x depth r);
        found = subst (GathersOn (IsFound g e wants start) ((at ++ if_any x.last) ∷ []) a.found.items) (sym kept) found;
      }

  pub going_less : (a b : Seen D) (ps : List Step) → (IsContinuable e (word_of ps) → ⊥) → b.going.items ≡ a.going.items → GathersOn (IsFound g e wants start) (ps ∷ []) a.found.items b.found.items → Visits g e wants start at (ps ∷ []) a b
  going_less a b ps n same found = record {
    going = subst (GathersOn (IsGoing e) (ps ∷ []) (paths_of at a.going.items)) (ap (paths_of at) (sym same)) (GathersOn-skip (IsGoing e) ps (paths_of at a.going.items) (λ q r. n r.1));
    rests = λ r. subst (AllByRecursion (HasRest e at)) (sym same) r;
    nested = λ r. subst (AreNested (length at)) (sym same) r;
    found = found;
  }

-- what goes on behind steps, by the expression of the words behind them
pub goes_behind : (e rest : ExprOf) (w : Word) → ((v : Word) → (In rest v) ↔ (In e (w ++ v))) → ((v : Word) × (v ≢ []) × In rest v) → IsContinuable e w
goes_behind e rest w same h = (h.0, h.1, (same h.0).0 h.2)

pub behind_goes : (e rest : ExprOf) (w : Word) → ((v : Word) → (In rest v) ↔ (In e (w ++ v))) → IsContinuable e w → (v : Word) × (v ≢ []) × In rest v
behind_goes e rest w same h = (h.0, h.1, (same h.0).1 h.2)

-- the rest of a path with one more step
pub rest_more : (e rest after : ExprOf) (ps : List Step) (z : Step) → IsRest e ps rest → ((w : Word) → (In after w) ↔ (In rest (z.label ∷ w))) → IsRest e (ps ++ z ∷ []) after
rest_more e rest after ps z is behind w =
    let word : word_of (ps ++ z ∷ []) ++ w ≡ word_of ps ++ (z.label ∷ w) = ap (λ (t : Word). t ++ w) (word_of-append ps (z ∷ [])) ∙ append_assoc (word_of ps) (z.label ∷ []) w in (
      (λ h. subst (In e) (sym word) ((is (z.label ∷ w)).0 ((behind w).0 h))),
      (λ h. (behind w).1 ((is (z.label ∷ w)).1 (subst (In e) word h))),
    )

-- no more belongs to a list than it is long
pub length-Gathers : {X Y : Type 0} (R : X → Y → Type 0) (xs : List X) (ys : List Y) → Gathers R xs ys → length ys ≤ length xs
length-Gathers R [] ys h = omega (arith, ap length h)
length-Gathers R (x ∷ xs) ys (inl h) = omega (arith, ap length h.3, length-Gathers R xs h.1 h.4)
length-Gathers R (x ∷ xs) ys (inr h) = omega (arith, length-Gathers R xs ys h.1)

pub length-GathersOn : {X Y : Type 0} (R : X → Y → Type 0) (xs : List X) (new : List Y) → GathersOn R xs [] new → length new ≤ length xs
length-GathersOn R xs new h = omega (arith, ap length h.1, length-Gathers R xs h.0 h.2)

pub nil_of : {X : Type 0} (xs : List X) → length xs ≡ 0 → xs ≡ []
nil_of [] h = refl
nil_of (x ∷ xs) h = absurd (omega arith)
