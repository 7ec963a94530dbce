-- A query that is settled in one state, and another state that looks like it to the query.
use Rattle.std.proofs.Common.{◌≡◌, ℕ, List, [], ◌∷◌, ◌++◌, ◌↔◌, inl, inr, refl, sym, ap, ◌∙◌, subst, append_assoc}
use Rattle.std.proofs.lemmas.List.{append-nil}
use Rattle.sg_base.specs.declared.scope.Scope.{Scope}
use Rattle.sg_base.specs.declared.step.Step.{Step}
use Rattle.sg_base.specs.Graph.{GraphOf, IsGraph, HasScope, HasEdge, IsWalk, IsPath}
use Rattle.sg_base.specs.Label.{Word}
use Rattle.sg_base.specs.List.{IsDistinct, MoreThan}
use Rattle.sg_base.specs.Path.{end_of, word_of, reached_by}
use Rattle.sg_base.specs.State.{State, IsOpen, IsUnset, Extends, Follows, PassesClosed, IsClosedPath}
use Rattle.sg_base.proofs.Finite.{nothing_in, Distinct-left, MoreThan-map}
use Rattle.sg_expr.specs.Tree.{ExprOf}
use Rattle.sg_expr.specs.Word.{In, IsViable, IsContinuable}
use Rattle.sg_query.specs.declared.answer.Answer.{Answer}
use Rattle.sg_query.specs.declared.answer.Answer.TheVariants.{Paths, TooMany}
use Rattle.sg_query.specs.Answer.{most_paths, Reaches, IsVisible, GoesOn, IsAnswer}
use Rattle.sg_query.specs.Growth.{LooksAlike}
use Rattle.sg_query.specs.Query.{Asked}
use Rattle.sg_query.specs.State.{NothingBlocks, GoesOnClosed, IsSettled, Item, next, whole, IsItem}
use Rattle.sg_query.proofs.Paths.{word_of-append, end_of-append, front_distinct, end_in, Walk-append}

-- ---- words

viable_front : (e : ExprOf) (ps qs : List Step) (l : ℕ) → IsViable e (word_of ps ++ (l ∷ word_of qs)) → IsViable e (word_of ps ++ l ∷ [])
viable_front e ps qs l v =
    (word_of qs ++ v.0, subst (In e) (append_assoc (word_of ps) (l ∷ word_of qs) v.0 ∙ sym (append_assoc (word_of ps) (l ∷ []) (word_of qs ++ v.0))) v.1)

viable_on : (e : ExprOf) (front rest : List Step) (p : Step) → IsViable e (word_of front ++ word_of (p ∷ rest)) → IsViable e (word_of (front ++ p ∷ []) ++ word_of rest)
viable_on e front rest p v =
    subst (IsViable e) (sym (ap (λ (t : Word). t ++ word_of rest) (word_of-append front (p ∷ [])) ∙ append_assoc (word_of front) (p.label ∷ []) (word_of rest))) v

pub viable_from_in : (e : ExprOf) (w : Word) → In e w → IsViable e w
viable_from_in e w i = ([], subst (In e) (sym (append-nil w)) i)

pub viable_before : (e : ExprOf) (w : Word) (l : ℕ) → IsViable e (w ++ l ∷ []) → IsViable e w
viable_before e w l v = (l ∷ v.0, subst (In e) (append_assoc w (l ∷ []) v.0) v.1)

viable_whole : (e : ExprOf) (w : Word) → IsContinuable e w → IsViable e w
viable_whole e w c = (c.0, c.2)

-- ---- closed paths

-- an edge of the state in a row that is not open
abbrev IsClosedEdge : {D : Type 0} → State D → Scope → ℕ → Scope → Type 0
IsClosedEdge h s l t = HasEdge h.graph s l t × (IsOpen h s l → ⊥)

-- the state in which nothing of the graph is open
abbrev pub done_with : {D : Type 0} → GraphOf D → State D
done_with g = record { graph = g; open_rows = []; unset = [] }

module _ {D : Type 0} where
  pub Closed-append : (h : State D) (s : Scope) (ps qs : List Step) → PassesClosed h s ps → PassesClosed h (end_of s ps) qs → PassesClosed h s (ps ++ qs)
  Closed-append h s [] qs a b = b
  Closed-append h s (p ∷ ps) qs a b = (a.0, Closed-append h p.to ps qs a.1 b)

  no_steps : (h : State D) (s : Scope) (ps : List Step) → IsDistinct (s ∷ reached_by ps) → IsClosedPath h s []
  no_steps h s ps d = ((tt, Distinct-left (s ∷ []) (reached_by ps) d), tt)

  one_step_on : (h : State D) (s : Scope) (front rest : List Step) (p : Step) → IsClosedPath h s front → IsClosedEdge h (end_of s front) p.label p.to → IsDistinct (s ∷ reached_by ((front ++ p ∷ []) ++ rest)) → IsClosedPath h s (front ++ p ∷ [])
  one_step_on h s front rest p c e d =
      ((Walk-append h.graph s front (p ∷ []) (c.0).0 (e.0, tt), front_distinct s (front ++ p ∷ []) rest d), Closed-append h s front (p ∷ []) c.1 (e.1, tt))

  none_open : (g : GraphOf D) (s : Scope) (ps : List Step) → PassesClosed (done_with g) s ps
  none_open g s [] = tt
  none_open g s (p ∷ ps) = ((λ o. nothing_in (s, p.label) o), none_open g p.to ps)

-- where each edge that the query follows from closed paths of both states is carried over, a closed path that it follows is
module _ {D : Type 0} (h h' : State D) (q : Asked D) (over : (ps : List Step) (l : ℕ) (t : Scope) → IsClosedPath h q.start ps → IsClosedPath h' q.start ps → IsViable q.expr (word_of ps ++ l ∷ []) → IsClosedEdge h (end_of q.start ps) l t → IsClosedEdge h' (end_of q.start ps) l t) where
  carries_on : (front rest : List Step) → IsClosedPath h q.start front → IsClosedPath h' q.start front → IsWalk h.graph (end_of q.start front) rest → PassesClosed h (end_of q.start front) rest → IsDistinct (q.start ∷ reached_by (front ++ rest)) → IsViable q.expr (word_of front ++ word_of rest) → IsClosedPath h' q.start (front ++ rest)
  carries_on front [] c c' w s d v = rw (append-nil front) c'
  carries_on front (p ∷ rest) c c' w s d v =
      let same : (front ++ p ∷ []) ++ rest ≡ front ++ p ∷ rest = append_assoc front (p ∷ []) rest in
      let distinct : IsDistinct (q.start ∷ reached_by ((front ++ p ∷ []) ++ rest)) = subst (λ (t : List Step). IsDistinct (q.start ∷ reached_by t)) (sym same) d in
      let edge : IsClosedEdge h (end_of q.start front) p.label p.to = (w.0, s.0) in
      let there : IsClosedEdge h' (end_of q.start front) p.label p.to = over front p.label p.to c c' (viable_front q.expr front rest p.label v) edge in
      let end_is : p.to ≡ end_of q.start (front ++ p ∷ []) = sym (end_of-append q.start front (p ∷ [])) in
      subst (IsClosedPath h' q.start) same
      (carries_on (front ++ p ∷ []) rest (one_step_on h q.start front rest p c edge distinct) (one_step_on h' q.start front rest p c' there distinct)
      (subst (λ (t : Scope). IsWalk h.graph t rest) end_is w.1) (subst (λ (t : Scope). PassesClosed h t rest) end_is s.1) distinct (viable_on q.expr front rest p v))

  pub carries : (ps : List Step) → IsClosedPath h q.start ps → IsViable q.expr (word_of ps) → IsClosedPath h' q.start ps
  carries ps c v = carries_on [] ps (no_steps h q.start ps (c.0).1) (no_steps h' q.start ps (c.0).1) (c.0).0 c.1 (c.0).1 v

-- ---- a state that looks like the first

module _ {D : Type 0} (h h' : State D) (q : Asked D) (alike : LooksAlike h h' q) where
  -- a closed path of the first state is one of the second
  pub closed_over : (ps : List Step) → IsClosedPath h q.start ps → IsViable q.expr (word_of ps) → IsClosedPath h' q.start ps
  closed_over = carries h h' q (λ ps l t c c' v e. ((alike.edges ps l t c v e.1).0 e.0, λ o. e.1 (alike.rows ps l c v o)))

  -- what a search looks at in the first state, it looks at in the second
  pub item_over : (i : Item) → IsItem h q i → IsItem h' q i
  item_over (next ps l) k = (closed_over ps k.0 (viable_before q.expr (word_of ps) l k.1), k.1, λ o. k.2 (alike.rows ps l k.0 k.1 o))
  item_over (whole ps) k = (closed_over ps k.0 (viable_from_in q.expr (word_of ps) k.1), k.1, λ u. k.2 (alike.unset ps k.0 k.1 u))

  many_over : MoreThan most_paths (GoesOnClosed h q) → MoreThan most_paths (GoesOnClosed h' q)
  many_over = MoreThan-map most_paths (GoesOnClosed h q) (GoesOnClosed h' q) (λ ps k. (closed_over ps k.0 (viable_whole q.expr (word_of ps) k.1), k.1))

  module _ (free : NothingBlocks h q) where
    -- where nothing blocks the query, a path of the second graph is a closed path of the first state
    closed_back : (ps : List Step) → IsPath h'.graph q.start ps → IsViable q.expr (word_of ps) → IsClosedPath h q.start ps
    closed_back ps path v =
        carries (done_with h'.graph) h q
        (λ front l t c' c w e. let shut : IsOpen h (end_of q.start front) l → ⊥ = λ o. free.0 (end_of q.start front) l (front, c, refl, w, o) in
        ((alike.edges front l t c w shut).1 e.0, shut))
        ps (path, none_open h'.graph q.start ps) v

    -- and the first state looks like the second
    alike_back : LooksAlike h' h q
    alike_back = record {
      edges = λ ps l t c' v o'.
          let c : IsClosedPath h q.start ps = closed_back ps c'.0 (viable_before q.expr (word_of ps) l v) in
          let same = alike.edges ps l t c v (λ o. free.0 (end_of q.start ps) l (ps, c, refl, v, o)) in
          (same.1, same.0);
      rows = λ ps l c' v o.
          absurd (free.0 (end_of q.start ps) l (ps, closed_back ps c'.0 (viable_before q.expr (word_of ps) l v), refl, v, o));
      given = λ ps d c' i u'.
          let c : IsClosedPath h q.start ps = closed_back ps c'.0 (viable_from_in q.expr (word_of ps) i) in
          let same = alike.given ps d c i (λ u. free.1 (end_of q.start ps) (ps, c, refl, i, u)) in
          (same.1, same.0);
      unset = λ ps c' i u. absurd (free.1 (end_of q.start ps) (ps, closed_back ps c'.0 (viable_from_in q.expr (word_of ps) i), refl, i, u));
    }

    free_over : NothingBlocks h' q
    free_over = (
      (λ s l b.
          let c : IsClosedPath h q.start b.0 = closed_back b.0 (b.1).0 (viable_before q.expr (word_of b.0) l b.3) in
          free.0 s l (b.0, c, b.2, b.3, subst (λ (t : Scope). IsOpen h t l) b.2 (alike.rows b.0 l c b.3 (subst (λ (t : Scope). IsOpen h' t l) (sym b.2) b.4)))),
      (λ s b.
          let c : IsClosedPath h q.start b.0 = closed_back b.0 (b.1).0 (viable_from_in q.expr (word_of b.0) b.3) in
          free.1 s (b.0, c, b.2, b.3, subst (λ (t : Scope). IsUnset h t) b.2 (alike.unset b.0 c b.3 (subst (λ (t : Scope). IsUnset h' t) (sym b.2) b.4)))),
    )

  pub settled_over : IsSettled h q → IsSettled h' q
  settled_over s = elim s [ inl free ↦ inl (free_over free) | inr many ↦ inr (many_over many) ]

-- ---- what a query finds where nothing blocks it

-- a state looks like itself
itself : {D : Type 0} (h : State D) (q : Asked D) → LooksAlike h h q
itself h q = record {
  edges = λ ps l t c v o. ((λ e. e), (λ e. e));
  rows = λ ps l c v o. o;
  given = λ ps d c i u. ((λ e. e), (λ e. e));
  unset = λ ps c i u. u;
}

module _ {D : Type 0} (h h' : State D) (q : Asked D) (free : NothingBlocks h q) (alike : LooksAlike h h' q) where
  -- a path of the first graph that the query follows is a closed path of the state
  own : (ps : List Step) → IsPath h.graph q.start ps → IsViable q.expr (word_of ps) → IsClosedPath h q.start ps
  own = closed_back h h q (itself h q) free

  reaches_over : (ps : List Step) (d : D) → Reaches h.graph q ps d → Reaches h'.graph q ps d
  reaches_over ps d r =
      let v : IsViable q.expr (word_of ps) = viable_from_in q.expr (word_of ps) r.word in
      let c : IsClosedPath h q.start ps = own ps r.path v in
      record {
        path = (closed_over h h' q alike ps c v).0;
        word = r.word;
        datum = (alike.given ps d c r.word (λ u. free.1 (end_of q.start ps) (ps, c, refl, r.word, u))).0 r.datum;
        wanted = r.wanted;
      }

  goes_over : (ps : List Step) → GoesOn h.graph q ps → GoesOn h'.graph q ps
  goes_over ps k =
      let v : IsViable q.expr (word_of ps) = viable_whole q.expr (word_of ps) k.1 in
      ((closed_over h h' q alike ps (own ps k.0 v) v).0, k.1)

module _ {D : Type 0} (h h' : State D) (q : Asked D) (free : NothingBlocks h q) (alike : LooksAlike h h' q) where
  visible_over : (ps : List Step) (d : D) → IsVisible h.graph q ps d → IsVisible h'.graph q ps d
  visible_over ps d v = record {
    reached = reaches_over h h' q free alike ps d v.reached;
    unshadowed = λ qs e r s b. v.unshadowed qs e (reaches_over h' h q (free_over h h' q alike free) (alike_back h h' q alike free) qs e r) s b;
  }

module _ {D : Type 0} (h h' : State D) (q : Asked D) (free : NothingBlocks h q) (alike : LooksAlike h h' q) where
  abbrev back_free : NothingBlocks h' q
  back_free = free_over h h' q alike free

  abbrev back : LooksAlike h' h q
  back = alike_back h h' q alike free

  free_answer : (a : Answer D) → IsAnswer h.graph q a → IsAnswer h'.graph q a
  free_answer TooMany k = MoreThan-map most_paths (GoesOn h.graph q) (GoesOn h'.graph q) (goes_over h h' q free alike) k
  free_answer (Paths fs) k = (
    (λ m. k.0 (MoreThan-map most_paths (GoesOn h'.graph q) (GoesOn h.graph q) (goes_over h' h q back_free back) m)),
    record {
      rising = (k.1).rising;
      visible = λ f. (
        (λ c. let i = ((k.1).visible f).0 c in (i.0, visible_over h h' q free alike f.path.steps f.datum i.1)),
        (λ i. ((k.1).visible f).1 (i.0, visible_over h' h q back_free back f.path.steps f.datum i.1)),
      );
    },
  )

module _ {D : Type 0} (h h' : State D) (q : Asked D) (alike : LooksAlike h h' q) where
  -- where more paths go on than are looked at, both graphs answer so
  too_many : (h : State D) → MoreThan most_paths (GoesOnClosed h q) → MoreThan most_paths (GoesOn h.graph q)
  too_many h = MoreThan-map most_paths (GoesOnClosed h q) (GoesOn h.graph q) (λ ps k. ((k.0).0, k.1))

  many_answer : MoreThan most_paths (GoesOnClosed h q) → (a : Answer D) → (IsAnswer h'.graph q a) ↔ (IsAnswer h.graph q a)
  many_answer many TooMany = ((λ k. too_many h many), (λ k. too_many h' (many_over h h' q alike many)))
  many_answer many (Paths fs) = ((λ k. absurd (k.0 (too_many h' (many_over h h' q alike many)))), (λ k. absurd (k.0 (too_many h many))))

  pub answer_over : IsSettled h q → (a : Answer D) → (IsAnswer h'.graph q a) ↔ (IsAnswer h.graph q a)
  answer_over s a = elim s [
    | inl free ↦ (free_answer h' h q (free_over h h' q alike free) (alike_back h h' q alike free) a, free_answer h h' q free alike a)
    | inr many ↦ many_answer many a
  ]

-- ---- states that grow

module _ {D : Type 0} (h h' : State D) (q : Asked D) (ok : IsGraph h.graph) (start : HasScope h.graph q.start) where
  pub inside : (ps : List Step) → IsClosedPath h q.start ps → HasScope h.graph (end_of q.start ps)
  inside ps c = end_in h.graph ok q.start ps start (c.0).0

  -- a later state looks like the earlier one to each query that starts there
  pub follows_alike : Follows h h' → LooksAlike h h' q
  follows_alike later = record {
    edges = λ ps l t c v shut. (
      later.extends.edges (end_of q.start ps) l t,
      (λ e. elim (later.extends.further_edges (end_of q.start ps) l t e) [
        | inl old ↦ old
        | inr other ↦ elim other [ inl o ↦ absurd (shut o) | inr m ↦ absurd (m (inside ps c)) ]
      ]),
    );
    rows = λ ps l c v o. elim (later.rows (end_of q.start ps) l o) [ inl old ↦ old | inr m ↦ absurd (m (inside ps c)) ];
    given = λ ps d c i there. (
      later.extends.given (end_of q.start ps) d,
      (λ e. elim (later.extends.further_given (end_of q.start ps) d e) [
        | inl old ↦ old
        | inr other ↦ elim other [ inl o ↦ absurd (there o) | inr m ↦ absurd (m (inside ps c)) ]
      ]),
    );
    unset = λ ps c i u. elim (later.data_at (end_of q.start ps) u) [ inl old ↦ old | inr m ↦ absurd (m (inside ps c)) ];
  }

-- a graph that a state grows into is a later state in which nothing is open
pub done_follows : {D : Type 0} (h : State D) (g : GraphOf D) → Extends h g → Follows h (done_with g)
done_follows h g grown = record { extends = grown; rows = λ s l o. absurd (nothing_in (s, l) o); data_at = λ s u. absurd (nothing_in s u) }
