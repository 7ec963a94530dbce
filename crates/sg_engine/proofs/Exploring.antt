-- One item explored: the search still stands.
use Rattle.std.proofs.Common.{◌≡◌, ℕ, List, [], ◌∷◌, ◌++◌, ◌⊎◌, ◌↔◌, IsTrue, true, map, inl, inr, refl, sym, ap, ◌∙◌, subst, append_assoc, length-append, arith}
use Rattle.std.proofs.lemmas.List.{append-nil}
use Rattle.std.specs.List.{Contains, filter}
use Rattle.std.proofs.lemmas.List.Elements.{Contains-append_left, Contains-append_right, Contains-append_cases}
use Rattle.sg_base.specs.declared.scope.Scope.{Scope}
use Rattle.sg_base.specs.declared.step.Step.{Step}
use Rattle.sg_base.specs.Graph.{IsGraph, HasDatum, row_of}
use Rattle.sg_base.specs.List.{IsDistinct, IsCount}
use Rattle.sg_base.specs.Path.{end_of, word_of, reached_by}
use Rattle.sg_base.specs.State.{State, IsOpen, IsUnset, IsClosedPath}
use Rattle.sg_base.proofs.Edges.{row_from, row_to, Distinct-row}
use Rattle.sg_base.proofs.Finite.{nothing_in, single, Contains-head, Contains-cons, Contains-tail, Distinct-append, Distinct-left, map-Contains, Contains-map, Distinct-map, filter-Contains, Contains-filter, Distinct-filter, IsCount-add, IsCount-none}
use Rattle.sg_expr.specs.Tree.{ExprOf}
use Rattle.sg_expr.specs.Word.{In, IsContinuable}
use Rattle.sg_query.specs.declared.found.Found.{Found}
use Rattle.sg_query.specs.Answer.{Reaches}
use Rattle.sg_query.specs.Query.{Asked}
use Rattle.sg_query.specs.State.{Item, next, whole}
use Rattle.sg_query.specs.Steps.{is_fresh}
use Rattle.sg_query.proofs.Paths.{snoc_not_nil, snoc_same, path_push, fresh_from, fresh_to}
use Rattle.sg_query.proofs.Alike.{Closed-append}
use Rattle.sg_engine.specs.Front.{Front, path_of, IsOffered, step_to, AreTargets, IsExplored, GoesOnAmong, StandsAfter}
use Rattle.sg_engine.specs.Growth.{Gains, with_left, one_explored, with_found, no_front, into_targets}
use Rattle.sg_engine.proofs.Keeping.{Keeps-from, Keeps-to, Keeps-distinct, Keeps-append}

-- ---- lists with one element cut out

module _ {X : Type 0} where
  pub cut_has : (b r : List X) (x : X) → Contains (b ++ x ∷ r) x
  cut_has b r x = Contains-append_right b (x ∷ r) x (Contains-head x r)

  pub cut_in : (b r : List X) (x y : X) → Contains (b ++ r) y → Contains (b ++ x ∷ r) y
  cut_in b r x y c = elim (Contains-append_cases b r y c) [ inl k ↦ Contains-append_left b (x ∷ r) y k | inr k ↦ Contains-append_right b (x ∷ r) y (Contains-tail x y r k) ]

  pub cut_cases : (b r : List X) (x y : X) → Contains (b ++ x ∷ r) y → (y ≡ x) ⊎ Contains (b ++ r) y
  cut_cases b r x y c =
      elim (Contains-append_cases b (x ∷ r) y c) [
        | inl k ↦ inr (Contains-append_left b r y k)
        | inr k ↦ elim (Contains-cons x y r k) [ inl e ↦ inl e | inr m ↦ inr (Contains-append_right b r y m) ]
      ]

  pub Distinct-cut : (b r : List X) (x : X) → IsDistinct (b ++ x ∷ r) → IsDistinct (b ++ r)
  Distinct-cut [] r x d = d.1
  Distinct-cut (y ∷ b) r x d = ((λ c. d.0 (cut_in b r x y c)), Distinct-cut b r x d.1)

  pub Distinct-out : (b r : List X) (x : X) → IsDistinct (b ++ x ∷ r) → Contains (b ++ r) x → ⊥
  Distinct-out [] r x d c = d.0 c
  Distinct-out (y ∷ b) r x d c =
      elim (Contains-cons y x (b ++ r) c) [
        | inl e ↦ d.0 (subst (λ (t : X). Contains (b ++ x ∷ r) t) e (cut_has b r x))
        | inr k ↦ Distinct-out b r x d.1 k
      ]

  pub Distinct-right : (xs ys : List X) → IsDistinct (xs ++ ys) → IsDistinct ys
  Distinct-right [] ys d = d
  Distinct-right (x ∷ xs) ys d = Distinct-right xs ys d.1

  pub Distinct-apart : (xs ys : List X) → IsDistinct (xs ++ ys) → (z : X) → Contains xs z → Contains ys z → ⊥
  Distinct-apart [] ys d z c k = nothing_in z c
  Distinct-apart (x ∷ xs) ys d z c k =
      elim (Contains-cons x z xs c) [
        | inl e ↦ d.0 (Contains-append_right xs ys x (subst (λ (t : X). Contains ys t) e k))
        | inr m ↦ Distinct-apart xs ys d.1 z m k
      ]

-- ---- gains

module _ {D : Type 0} (e : ExprOf) where
  pub gains_none : (f : Front D) → Gains e f f []
  gains_none f =
      record {
        paths = sym (append-nil f.paths);
        items = ([], sym (append-nil f.left), (λ d. tt), λ x. ((λ c. absurd (nothing_in x c)), (λ k. absurd (nothing_in (path_of x) k.0))));
        goers = ([], omega arith, refl);
        found = refl;
        explored = refl;
      }

  pub gains_both : (f g h : Front D) (m n : List (List Step)) → Gains e f g m → Gains e g h n → Gains e f h (m ++ n)
  gains_both f g h m n a b =
      record {
        paths = b.paths ∙ (ap (λ (t : List (List Step)). t ++ n) a.paths ∙ append_assoc f.paths m n);
        items = (
          a.items.0 ++ b.items.0,
          b.items.1 ∙ (ap (λ (t : List Item). t ++ b.items.0) a.items.1 ∙ append_assoc f.left a.items.0 b.items.0),
          (λ d. Distinct-append a.items.0 b.items.0 (a.items.2 (Distinct-left m n d)) (b.items.2 (Distinct-right m n d))
              (λ z k l. Distinct-apart m n d (path_of z) ((a.items.3 z).0 k).0 ((b.items.3 z).0 l).0)),
          λ x. (
            (λ c. elim (Contains-append_cases a.items.0 b.items.0 x c) [
              | inl k ↦ let o = (a.items.3 x).0 k in (Contains-append_left m n (path_of x) o.0, o.1)
              | inr k ↦ let o = (b.items.3 x).0 k in (Contains-append_right m n (path_of x) o.0, o.1)
            ]),
            (λ o. elim (Contains-append_cases m n (path_of x) o.0) [
              | inl k ↦ Contains-append_left a.items.0 b.items.0 x ((a.items.3 x).1 (k, o.1))
              | inr k ↦ Contains-append_right a.items.0 b.items.0 x ((b.items.3 x).1 (k, o.1))
            ]),
          ),
        );
        goers = (
          a.goers.0 ++ b.goers.0,
          omega (arith, length-append a.goers.0 b.goers.0, a.goers.1, b.goers.1),
          Keeps-append (λ (ps : List Step). IsContinuable e (word_of ps)) m n a.goers.0 b.goers.0 a.goers.2 b.goers.2,
        );
        found = b.found ∙ a.found;
        explored = b.explored ∙ a.explored;
      }

-- ---- one item explored

explored_more : {D : Type 0} (h : State D) (q : Asked D) (paths paths' : List (List Step)) (found found' : List (Found D)) → ((ps : List Step) → Contains paths ps → Contains paths' ps) → ((f : Found D) → Contains found f → Contains found' f) → (x : Item) → IsExplored h q paths found x → IsExplored h q paths' found' x
explored_more h q paths paths' found found' a b (next ps l) e = (
  e.0,
  λ t k n. elim (e.1 t k n) [ inl c ↦ inl (a (ps ++ step_to l t ∷ []) c) | inr m ↦ inr m ],
)
explored_more h q paths paths' found found' a b (whole ps) e = (e.0, λ f s p k w. b f (e.1 f s p k w))

-- the targets of a row are enough to look at
pub row_targets : {D : Type 0} (h : State D) (q : Asked D) (ps : List Step) (l : ℕ) → IsGraph h.graph → AreTargets h q ps l (row_of h.graph (end_of q.start ps) l)
row_targets h q ps l ok = record {
  from = λ t c. row_from h.graph (end_of q.start ps) l t c;
  once = Distinct-row h.graph ok (end_of q.start ps) l;
  all = λ t e. inl (row_to h.graph (end_of q.start ps) l t e);
}

-- the path with one more step to targets
module _ (start : Scope) (ps : List Step) (l : ℕ) (ts : List Scope) where
  into_to : (t : Scope) → Contains ts t → (Contains (start ∷ reached_by ps) t → ⊥) → Contains (into_targets start ps l ts) (ps ++ step_to l t ∷ [])
  into_to t c n = map-Contains (λ (t : Scope). ps ++ step_to l t ∷ []) (filter (is_fresh start ps) ts) t (filter-Contains (is_fresh start ps) ts t c (fresh_to start ps t n))

  pub into_from : (qs : List Step) → Contains (into_targets start ps l ts) qs → (t : Scope) × Contains ts t × (is_fresh start ps t ≡ true) × (qs ≡ ps ++ step_to l t ∷ [])
  into_from qs c =
      let k = Contains-map (λ (t : Scope). ps ++ step_to l t ∷ []) (filter (is_fresh start ps) ts) qs c in
      let m = Contains-filter (is_fresh start ps) ts k.0 k.1 in
      (k.0, m.0, m.1, k.2)

  into_distinct : IsDistinct ts → IsDistinct (into_targets start ps l ts)
  into_distinct d =
      Distinct-map (λ (t : Scope). ps ++ step_to l t ∷ []) (filter (is_fresh start ps) ts) (Distinct-filter (is_fresh start ps) ts d)
      (λ a b k m same. ap (λ (x : Step). x.to) (snoc_same ps ps (step_to l a) (step_to l b) same).1)

module _ {D : Type 0} (h : State D) (q : Asked D) (f : Front D) (done : List Item) (s : StandsAfter h q f done) (b r : List Item) where
  module _ (ps : List Step) (l : ℕ) (at : f.left ≡ b ++ next ps l ∷ r) (shut : IsOpen h (end_of q.start ps) l → ⊥) (ts : List Scope) (targets : AreTargets h q ps l ts) (now : Front D) (gains : Gains q.expr (one_explored (with_left f (b ++ r))) now (into_targets q.start ps l ts)) where
    abbrev more : List (List Step)
    more = into_targets q.start ps l ts

    here : Contains f.left (next ps l)
    here = subst (λ (t : List Item). Contains t (next ps l)) (sym at) (cut_has b r (next ps l))

    was_left : (x : Item) → Contains (b ++ r) x → Contains f.left x
    was_left x c = subst (λ (t : List Item). Contains t x) (sym at) (cut_in b r (next ps l) x c)

    left_distinct : IsDistinct (b ++ next ps l ∷ r)
    left_distinct = subst (λ (t : List Item). IsDistinct t) at s.left_once

    parent : Contains f.paths ps
    parent = ((s.offered (next ps l)).0 (inr here)).0

    new_path : (qs : List Step) → Contains f.paths qs → Contains more qs → ⊥
    new_path qs c k =
        let i = into_from q.start ps l ts qs k in
        s.apart (next ps l) (s.entered ps (step_to l i.0) (subst (λ (t : List Step). Contains f.paths t) i.3 c)) here

    closed_new : (qs : List Step) → Contains more qs → IsClosedPath h q.start qs
    closed_new qs k =
        let i = into_from q.start ps l ts qs k in
        let c : IsClosedPath h q.start ps = s.closed ps parent in
        subst (IsClosedPath h q.start) (sym i.3)
        (path_push h.graph q.start ps (step_to l i.0) c.0 (targets.from i.0 i.1) (fresh_from q.start ps i.0 i.2), Closed-append h q.start ps (step_to l i.0 ∷ []) c.1 (shut, tt))

    entered_new : (qs : List Step) (x : Step) → Contains more (qs ++ x ∷ []) → Contains (next ps l ∷ done) (next qs x.label)
    entered_new qs x k =
        let i = into_from q.start ps l ts (qs ++ x ∷ []) k in
        let e : (qs ≡ ps) × (x ≡ step_to l i.0) = snoc_same qs ps x (step_to l i.0) i.3 in
        let same : next qs x.label ≡ next ps l = ap (λ (t : List Step). next t x.label) e.0 ∙ ap (λ (y : Step). next ps y.label) e.1 in
        subst (λ (t : Item). Contains (next ps l ∷ done) t) (sym same) (Contains-head (next ps l) done)

    both : (qs : List Step) → Contains now.paths qs → Contains f.paths qs ⊎ Contains more qs
    both qs c = Contains-append_cases f.paths more qs (subst (λ (t : List (List Step)). Contains t qs) gains.paths c)

    old_path : (qs : List Step) → Contains f.paths qs → Contains now.paths qs
    old_path qs c = subst (λ (t : List (List Step)). Contains t qs) (sym gains.paths) (Contains-append_left f.paths more qs c)

    more_path : (qs : List Step) → Contains more qs → Contains now.paths qs
    more_path qs c = subst (λ (t : List (List Step)). Contains t qs) (sym gains.paths) (Contains-append_right f.paths more qs c)

    abbrev news : List Item
    news = gains.items.0

    left_cases : (x : Item) → Contains now.left x → Contains (b ++ r) x ⊎ Contains news x
    left_cases x c = Contains-append_cases (b ++ r) news x (subst (λ (t : List Item). Contains t x) gains.items.1 c)

    in_left_old : (x : Item) → Contains (b ++ r) x → Contains now.left x
    in_left_old x c = subst (λ (t : List Item). Contains t x) (sym gains.items.1) (Contains-append_left (b ++ r) news x c)

    in_left_new : (x : Item) → Contains news x → Contains now.left x
    in_left_new x c = subst (λ (t : List Item). Contains t x) (sym gains.items.1) (Contains-append_right (b ++ r) news x c)

    pub stands_next : StandsAfter h q now (next ps l ∷ done)
    stands_next =
        record {
          root = old_path [] s.root;
          closed = λ qs c. elim (both qs c) [ inl k ↦ s.closed qs k | inr k ↦ closed_new qs k ];
          once = subst (λ (t : List (List Step)). IsDistinct t) (sym gains.paths) (Distinct-append f.paths more s.once (into_distinct q.start ps l ts targets.once) new_path);
          entered = λ qs x c. elim (both (qs ++ x ∷ []) c) [
            | inl k ↦ Contains-tail (next ps l) (next qs x.label) done (s.entered qs x k)
            | inr k ↦ entered_new qs x k
          ];
          offered = λ x. (
            (λ c. elim c [
              | inl d ↦ elim (Contains-cons (next ps l) x done d) [
                | inl e ↦ let o = (s.offered (next ps l)).0 (inr here) in subst (λ (t : Item). Contains now.paths (path_of t) × IsOffered q.expr t) (sym e) (old_path ps o.0, o.1)
                | inr k ↦ let o = (s.offered x).0 (inl k) in (old_path (path_of x) o.0, o.1)
              ]
              | inr d ↦ elim (left_cases x d) [
                | inl k ↦ let o = (s.offered x).0 (inr (was_left x k)) in (old_path (path_of x) o.0, o.1)
                | inr k ↦ let o = (gains.items.3 x).0 k in (more_path (path_of x) o.0, o.1)
              ]
            ]),
            (λ o. elim (both (path_of x) o.0) [
              | inl k ↦ elim ((s.offered x).1 (k, o.1)) [
                | inl d ↦ inl (Contains-tail (next ps l) x done d)
                | inr d ↦ elim (cut_cases b r (next ps l) x (subst (λ (t : List Item). Contains t x) at d)) [
                  | inl e ↦ inl (subst (λ (t : Item). Contains (next ps l ∷ done) t) (sym e) (Contains-head (next ps l) done))
                  | inr m ↦ inr (in_left_old x m)
                ]
              ]
              | inr k ↦ inr (in_left_new x ((gains.items.3 x).1 (k, o.1)))
            ]),
          );
          done_once = ((λ c. s.apart (next ps l) c here), s.done_once);
          left_once = subst (λ (t : List Item). IsDistinct t) (sym gains.items.1)
              (Distinct-append (b ++ r) news (Distinct-cut b r (next ps l) left_distinct) (gains.items.2 (into_distinct q.start ps l ts targets.once))
              (λ x k m. new_path (path_of x) ((s.offered x).0 (inr (was_left x k))).0 ((gains.items.3 x).0 m).0));
          apart = λ x d c. elim (Contains-cons (next ps l) x done d) [
            | inl e ↦ elim (left_cases x c) [
              | inl k ↦ Distinct-out b r (next ps l) left_distinct (subst (λ (t : Item). Contains (b ++ r) t) e k)
              | inr k ↦ new_path ps parent (subst (λ (t : Item). Contains more (path_of t)) e ((gains.items.3 x).0 k).0)
            ]
            | inr m ↦ elim (left_cases x c) [
              | inl k ↦ s.apart x m (was_left x k)
              | inr k ↦ new_path (path_of x) ((s.offered x).0 (inl m)).0 ((gains.items.3 x).0 k).0
            ]
          ];
          explored = λ x d. elim (Contains-cons (next ps l) x done d) [
            | inl e ↦ subst (λ (t : Item). IsExplored h q now.paths now.found t) (sym e) (shut, λ t k n. elim (targets.all t k) [ inl c ↦ inl (more_path (ps ++ step_to l t ∷ []) (into_to q.start ps l ts t c n)) | inr m ↦ inr m ])
            | inr m ↦ explored_more h q f.paths now.paths f.found now.found old_path (λ y c. subst (λ (t : List (Found D)). Contains t y) (sym gains.found) c) x (s.explored x m)
          ];
          found_once = subst (λ (t : List (Found D)). IsDistinct (map (λ y. y.path) t)) (sym gains.found) s.found_once;
          found = λ y c. s.found y (subst (λ (t : List (Found D)). Contains t y) gains.found c);
          read = λ y c. Contains-tail (next ps l) (whole y.path.steps) done (s.read y (subst (λ (t : List (Found D)). Contains t y) gains.found c));
          count = omega (arith, s.count, gains.explored);
          going = subst (λ (n : ℕ). IsCount n (GoesOnAmong q.expr now.paths)) (sym gains.goers.1)
              (IsCount-add f.going (GoesOnAmong q.expr f.paths) (GoesOnAmong q.expr more) (GoesOnAmong q.expr now.paths) gains.goers.0 s.going
              (Keeps-distinct (λ (ps : List Step). IsContinuable q.expr (word_of ps)) more gains.goers.0 gains.goers.2 (into_distinct q.start ps l ts targets.once))
              (λ qs. (
                (λ c. Keeps-from (λ (ps : List Step). IsContinuable q.expr (word_of ps)) more gains.goers.0 gains.goers.2 qs c),
                (λ g. Keeps-to (λ (ps : List Step). IsContinuable q.expr (word_of ps)) more gains.goers.0 gains.goers.2 qs g.0 g.1),
              ))
              (λ qs x y. new_path qs x.0 y.0)
              (λ qs. (
                (λ g. elim (both qs g.0) [ inl k ↦ inl (k, g.1) | inr k ↦ inr (k, g.1) ]),
                (λ c. elim c [ inl k ↦ (old_path qs k.0, k.1) | inr k ↦ (more_path qs k.0, k.1) ]),
              )));
        }

  module _ (ps : List Step) (at : f.left ≡ b ++ whole ps ∷ r) (shut : IsUnset h (end_of q.start ps) → ⊥) (found' : List (Found D)) (reads : (y : Found D) → (Contains found' y) ↔ (Contains f.found y ⊎ ((y.path.start ≡ q.start) × (y.path.steps ≡ ps) × HasDatum h.graph (end_of q.start ps) y.datum × IsTrue (q.wants y.datum))))
      (once : IsDistinct (map (λ y. y.path) f.found) → ((y : Found D) → Contains f.found y → y.path.steps ≡ ps → ⊥) → IsDistinct (map (λ y. y.path) found')) where
    here' : Contains f.left (whole ps)
    here' = subst (λ (t : List Item). Contains t (whole ps)) (sym at) (cut_has b r (whole ps))

    was_left' : (x : Item) → Contains (b ++ r) x → Contains f.left x
    was_left' x c = subst (λ (t : List Item). Contains t x) (sym at) (cut_in b r (whole ps) x c)

    left_distinct' : IsDistinct (b ++ whole ps ∷ r)
    left_distinct' = subst (λ (t : List Item). IsDistinct t) at s.left_once

    offer : Contains f.paths ps × In q.expr (word_of ps)
    offer = (s.offered (whole ps)).0 (inr here')

    not_read : (y : Found D) → Contains f.found y → y.path.steps ≡ ps → ⊥
    not_read y c same = s.apart (whole ps) (subst (λ (t : List Step). Contains done (whole t)) same (s.read y c)) here'

    reaches : (y : Found D) → y.path.steps ≡ ps → HasDatum h.graph (end_of q.start ps) y.datum → IsTrue (q.wants y.datum) → Reaches h.graph q y.path.steps y.datum
    reaches y e d w = subst (λ (t : List Step). Reaches h.graph q t y.datum) (sym e) (record { path = (s.closed ps offer.0).0; word = offer.1; datum = d; wanted = w })

    pub stands_whole : StandsAfter h q (one_explored (with_found (with_left f (b ++ r)) found')) (whole ps ∷ done)
    stands_whole =
        record {
          root = s.root;
          closed = s.closed;
          once = s.once;
          entered = λ qs x c. Contains-tail (whole ps) (next qs x.label) done (s.entered qs x c);
          offered = λ x. (
            (λ c. elim c [
              | inl d ↦ elim (Contains-cons (whole ps) x done d) [
                | inl e ↦ subst (λ (t : Item). Contains f.paths (path_of t) × IsOffered q.expr t) (sym e) offer
                | inr k ↦ (s.offered x).0 (inl k)
              ]
              | inr d ↦ (s.offered x).0 (inr (was_left' x d))
            ]),
            (λ o. elim ((s.offered x).1 o) [
              | inl d ↦ inl (Contains-tail (whole ps) x done d)
              | inr d ↦ elim (cut_cases b r (whole ps) x (subst (λ (t : List Item). Contains t x) at d)) [
                | inl e ↦ inl (subst (λ (t : Item). Contains (whole ps ∷ done) t) (sym e) (Contains-head (whole ps) done))
                | inr m ↦ inr m
              ]
            ]),
          );
          done_once = ((λ c. s.apart (whole ps) c here'), s.done_once);
          left_once = Distinct-cut b r (whole ps) left_distinct';
          apart = λ x d c. elim (Contains-cons (whole ps) x done d) [
            | inl e ↦ Distinct-out b r (whole ps) left_distinct' (subst (λ (t : Item). Contains (b ++ r) t) e c)
            | inr m ↦ s.apart x m (was_left' x c)
          ];
          explored = λ x d. elim (Contains-cons (whole ps) x done d) [
            | inl e ↦ subst (λ (t : Item). IsExplored h q f.paths found' t) (sym e) (shut, λ y a p k w. (reads y).1 (inr (a, p, k, w)))
            | inr m ↦ explored_more h q f.paths f.paths f.found found' (λ ps c. c) (λ y c. (reads y).1 (inl c)) x (s.explored x m)
          ];
          found_once = once s.found_once not_read;
          found = λ y c. elim ((reads y).0 c) [ inl k ↦ s.found y k | inr k ↦ (k.0, reaches y k.1 k.2 k.3) ];
          read = λ y c. elim ((reads y).0 c) [
            | inl k ↦ Contains-tail (whole ps) (whole y.path.steps) done (s.read y k)
            | inr k ↦ subst (λ (t : List Step). Contains (whole ps ∷ done) (whole t)) (sym k.1) (Contains-head (whole ps) done)
          ];
          count = omega (arith, s.count);
          going = s.going;
        }

-- ---- the start

pub stands_first : {D : Type 0} (h : State D) (q : Asked D) (now : Front D) → Gains q.expr no_front now ([] ∷ []) → StandsAfter h q now []
stands_first {D} h q now gains =
    let is_root : (qs : List Step) → Contains now.paths qs → qs ≡ [] = λ qs c. single [] qs (subst (λ (t : List (List Step)). Contains t qs) gains.paths c) in
    let root : Contains now.paths [] = subst (λ (t : List (List Step)). Contains t []) (sym gains.paths) (Contains-head [] []) in
    let one : IsDistinct {X = List Step} ([] ∷ []) = ((λ c. nothing_in [] c), tt) in
    record {
      root = root;
      closed = λ qs c. subst (IsClosedPath h q.start) (sym (is_root qs c)) ((tt, ((λ k. nothing_in q.start k), tt)), tt);
      once = subst (λ (t : List (List Step)). IsDistinct t) (sym gains.paths) one;
      entered = λ qs x c. absurd (snoc_not_nil qs x (sym (is_root (qs ++ x ∷ []) c)));
      offered = λ x. (
        (λ c. elim c [
          | inl d ↦ absurd (nothing_in x d)
          | inr d ↦ let o = (gains.items.3 x).0 (subst (λ (t : List Item). Contains t x) gains.items.1 d) in (subst (λ (t : List (List Step)). Contains t (path_of x)) (sym gains.paths) o.0, o.1)
        ]),
        (λ o. inr (subst (λ (t : List Item). Contains t x) (sym gains.items.1) ((gains.items.3 x).1 (subst (λ (t : List (List Step)). Contains t (path_of x)) gains.paths o.0, o.1)))),
      );
      done_once = tt;
      left_once = subst (λ (t : List Item). IsDistinct t) (sym gains.items.1) (gains.items.2 one);
      apart = λ x d c. nothing_in x d;
      explored = λ x d. absurd (nothing_in x d);
      found_once = subst (λ (t : List (Found D)). IsDistinct (map (λ y. y.path) t)) (sym gains.found) tt;
      found = λ y c. absurd (nothing_in y (subst (λ (t : List (Found D)). Contains t y) gains.found c));
      read = λ y c. absurd (nothing_in y (subst (λ (t : List (Found D)). Contains t y) gains.found c));
      count = sym gains.explored;
      going = subst (λ (n : ℕ). IsCount n (GoesOnAmong q.expr now.paths)) (sym gains.goers.1)
          (IsCount-add 0 (λ qs. ⊥) (GoesOnAmong q.expr ([] ∷ [])) (GoesOnAmong q.expr now.paths) gains.goers.0 (IsCount-none (λ qs. ⊥) (λ x p. p))
          (Keeps-distinct (λ (ps : List Step). IsContinuable q.expr (word_of ps)) ([] ∷ []) gains.goers.0 gains.goers.2 one)
          (λ qs. (
            (λ c. Keeps-from (λ (ps : List Step). IsContinuable q.expr (word_of ps)) ([] ∷ []) gains.goers.0 gains.goers.2 qs c),
            (λ g. Keeps-to (λ (ps : List Step). IsContinuable q.expr (word_of ps)) ([] ∷ []) gains.goers.0 gains.goers.2 qs g.0 g.1),
          ))
          (λ qs x y. x)
          (λ qs. (
            (λ g. inr (subst (λ (t : List (List Step)). Contains t qs) gains.paths g.0, g.1)),
            (λ c. elim c [ inl k ↦ absurd k | inr k ↦ (subst (λ (t : List (List Step)). Contains t qs) (sym gains.paths) k.0, k.1) ]),
          )));
    }
