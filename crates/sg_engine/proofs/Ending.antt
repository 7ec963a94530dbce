-- What a search knows where each item left is blocked, and where none is left.
use Rattle.std.proofs.Common.{◌≡◌, ℕ, ◌<◌, ◌≤◌, List, [], ◌∷◌, ◌++◌, ◌↔◌, inl, inr, refl, sym, ap, ◌∙◌, subst, append_assoc, arith}
use Rattle.std.proofs.lemmas.List.{append-nil}
use Rattle.std.specs.List.{Contains}
use Rattle.sg_base.specs.declared.scope.Scope.{Scope}
use Rattle.sg_base.specs.declared.step.Step.{Step}
use Rattle.sg_base.specs.Graph.{IsGraph, HasScope, IsWalk, IsPath}
use Rattle.sg_base.specs.Label.{Word}
use Rattle.sg_base.specs.List.{IsDistinct, MoreThan}
use Rattle.sg_base.specs.Path.{end_of, word_of, reached_by}
use Rattle.sg_base.specs.State.{State, IsOpen, IsUnset, Extends, PassesClosed, IsClosedPath}
use Rattle.sg_base.proofs.Edges.{one_datum}
use Rattle.sg_base.proofs.Finite.{nothing_in, Distinct-last, MoreThan-map, MoreThan-count, no_more, each_from}
use Rattle.sg_expr.specs.Tree.{ExprOf}
use Rattle.sg_expr.specs.Word.{In, IsViable, IsContinuable}
use Rattle.sg_query.specs.declared.found.Found.{Found}
use Rattle.sg_query.specs.Answer.{most_paths}
use Rattle.sg_query.specs.Query.{Asked}
use Rattle.sg_query.specs.State.{Item, next, whole, IsItem, RowBlocks, DatumBlocks, NothingBlocks, GoesOnClosed, IsSettled}
use Rattle.sg_query.specs.Walk.{IsArrived, GoesOnFrom}
use Rattle.sg_query.proofs.Paths.{word_of-append, end_of-append, reached_by-append, front_distinct}
use Rattle.sg_query.proofs.Alike.{viable_from_in}
use Rattle.sg_engine.proofs.Closed.{viable_front, to_closed}
use Rattle.sg_engine.specs.Front.{Front, path_of, IsMet, IsOffered, IsBlocked, GoesOnAmong, StandsAfter, AllBlocked}

pub goes_viable : (e : ExprOf) (w : Word) → IsContinuable e w → IsViable e w
goes_viable e w c = (c.0, c.2)

pub itself : {D : Type 0} (h : State D) → Extends h h.graph
itself h = record { scopes = λ s c. c; edges = λ s l t c. c; given = λ s d c. c; further_edges = λ s l t c. inl c; further_given = λ s d c. inl c }

module _ {D : Type 0} (h : State D) (q : Asked D) (f : Front D) (done : List Item) (s : StandsAfter h q f done) where
  in_left : (x : Item) → Contains f.left x → Contains f.paths (path_of x) × IsOffered q.expr x
  in_left x c = (s.offered x).0 (inr c)

  -- what was explored is an item, and so is what is left and not blocked
  pub item_done : (x : Item) → Contains done x → IsItem h q x
  item_done (next ps l) c =
      let o = (s.offered (next ps l)).0 (inl c) in (s.closed ps o.0, o.1, (s.explored (next ps l) c).0)
  item_done (whole ps) c =
      let o = (s.offered (whole ps)).0 (inl c) in (s.closed ps o.0, o.1, (s.explored (whole ps) c).0)

  pub item_left : (x : Item) → Contains f.left x → (IsBlocked h q.start x → ⊥) → IsItem h q x
  item_left (next ps l) c n = let o = in_left (next ps l) c in (s.closed ps o.0, o.1, n)
  item_left (whole ps) c n = let o = in_left (whole ps) c in (s.closed ps o.0, o.1, n)

  -- one that is left and not blocked is an item beyond all that were explored
  pub more_items : (x : Item) → Contains f.left x → (IsBlocked h q.start x → ⊥) → MoreThan f.explored (IsItem h q)
  more_items x c n =
      (x ∷ done, omega (arith, s.count), ((λ d. s.apart x d c), s.done_once), (item_left x c n, each_from (IsItem h q) done (λ y d. item_done y d)))

  pub many_closed : most_paths < f.going → MoreThan most_paths (GoesOnClosed h q)
  many_closed l =
      MoreThan-map most_paths (GoesOnAmong q.expr f.paths) (GoesOnClosed h q) (λ ps g. (s.closed ps g.0, g.1)) (MoreThan-count most_paths f.going (GoesOnAmong q.expr f.paths) s.going l)

  pub many_go : most_paths < f.going → IsSettled h q
  many_go l = inr (many_closed l)

  module _ (stuck : AllBlocked h q f) where
    shut_done : (ps : List Step) (l : ℕ) → Contains f.paths ps → IsViable q.expr (word_of ps ++ l ∷ []) → (IsOpen h (end_of q.start ps) l → ⊥) → Contains done (next ps l)
    shut_done ps l c v shut =
        elim ((s.offered (next ps l)).1 (c, v)) [ inl d ↦ d | inr left ↦ absurd (shut (stuck (next ps l) left)) ]

    -- a path behind which a word goes on was found where it was met
    goes_met : (ps : List Step) → IsContinuable q.expr (word_of ps) → IsMet h q f.paths ps → Contains f.paths ps
    goes_met ps g m = elim m [ inl c ↦ c | inr k ↦ absurd (k.0 g) ]

    all_from : (front rest : List Step) → IsMet h q f.paths front → IsWalk h.graph (end_of q.start front) rest → PassesClosed h (end_of q.start front) rest → IsDistinct (q.start ∷ reached_by (front ++ rest)) → IsViable q.expr (word_of front ++ word_of rest) → IsMet h q f.paths (front ++ rest)
    all_from front [] m w p d v = rw (append-nil front) m
    all_from front (x ∷ rest) m w p d v =
        let c : Contains f.paths front = goes_met front (x.label ∷ (word_of rest ++ v.0), (λ e. cc e), subst (In q.expr) (append_assoc (word_of front) (x.label ∷ word_of rest) v.0) v.1) m in
        let at : IsViable q.expr (word_of front ++ x.label ∷ []) = viable_front q.expr front rest x.label v in
        let same : (front ++ x ∷ []) ++ rest ≡ front ++ x ∷ rest = append_assoc front (x ∷ []) rest in
        let distinct : IsDistinct (q.start ∷ reached_by ((front ++ x ∷ []) ++ rest)) = subst (λ (t : List Step). IsDistinct (q.start ∷ reached_by t)) (sym same) d in
        let fresh : Contains (q.start ∷ reached_by front) x.to → ⊥ =
        Distinct-last (q.start ∷ reached_by front) x.to (subst (λ (t : List Scope). IsDistinct (q.start ∷ t)) (reached_by-append front (x ∷ [])) (front_distinct q.start (front ++ x ∷ []) rest distinct)) in
        let further : IsMet h q f.paths (front ++ x ∷ []) = (s.explored (next front x.label) (shut_done front x.label c at p.0)).1 x.to w.0 fresh in
        let end_is : x.to ≡ end_of q.start (front ++ x ∷ []) = sym (end_of-append q.start front (x ∷ [])) in
        let viable : IsViable q.expr (word_of (front ++ x ∷ []) ++ word_of rest) =
        subst (IsViable q.expr) (sym (ap (λ (t : Word). t ++ word_of rest) (word_of-append front (x ∷ [])) ∙ append_assoc (word_of front) (x.label ∷ []) (word_of rest))) v in
        subst (λ (t : List Step). IsMet h q f.paths t) same
        (all_from (front ++ x ∷ []) rest further (subst (λ (t : Scope). IsWalk h.graph t rest) end_is w.1) (subst (λ (t : Scope). PassesClosed h t rest) end_is p.1) distinct viable)

    -- each closed path that the query follows was met
    pub all_met : (ps : List Step) → IsClosedPath h q.start ps → IsViable q.expr (word_of ps) → IsMet h q f.paths ps
    all_met ps c v = all_from [] ps (inl s.root) (c.0).0 c.1 (c.0).1 v

    -- and found where a word goes on behind it
    pub all_paths : (ps : List Step) → IsClosedPath h q.start ps → IsContinuable q.expr (word_of ps) → Contains f.paths ps
    all_paths ps c g = goes_met ps g (all_met ps c (goes_viable q.expr (word_of ps) g))

    -- the rows that block the query are those of the items left, and so are the data
    pub row_needs : (t : Scope) (l : ℕ) → (RowBlocks h q t l) ↔ ((ps : List Step) × Contains f.left (next ps l) × (end_of q.start ps ≡ t))
    row_needs t l = (
      (λ b. (
        b.0,
        elim ((s.offered (next b.0 l)).1 (all_paths b.0 b.1 (l ∷ (b.3).0, (λ e. cc e), subst (In q.expr) (append_assoc (word_of b.0) (l ∷ []) (b.3).0) (b.3).1), b.3)) [
          | inl d ↦ absurd ((s.explored (next b.0 l) d).0 (subst (λ (u : Scope). IsOpen h u l) (sym b.2) b.4))
          | inr left ↦ left
        ],
        b.2,
      )),
      (λ k. (k.0, s.closed k.0 (in_left (next k.0 l) k.1).0, k.2, (in_left (next k.0 l) k.1).1, subst (λ (u : Scope). IsOpen h u l) k.2 (stuck (next k.0 l) k.1))),
    )

    pub datum_needs : (t : Scope) → (DatumBlocks h q t) ↔ ((ps : List Step) × Contains f.left (whole ps) × (end_of q.start ps ≡ t))
    datum_needs t = (
      (λ b. (
        b.0,
        elim (all_met b.0 b.1 (viable_from_in q.expr (word_of b.0) b.3)) [
          | inl c ↦ elim ((s.offered (whole b.0)).1 (c, b.3)) [
            | inl d ↦ absurd ((s.explored (whole b.0) d).0 (subst (IsUnset h) (sym b.2) b.4))
            | inr left ↦ left
          ]
          | inr k ↦ absurd ((k.1).0 (subst (IsUnset h) (sym b.2) b.4))
        ],
        b.2,
      )),
      (λ k. (k.0, s.closed k.0 (in_left (whole k.0) k.1).0, k.2, (in_left (whole k.0) k.1).1, subst (IsUnset h) k.2 (stuck (whole k.0) k.1))),
    )

    few_closed : f.going ≤ most_paths → MoreThan most_paths (GoesOnClosed h q) → ⊥
    few_closed few m =
        no_more most_paths f.going (GoesOnAmong q.expr f.paths) s.going few
        (MoreThan-map most_paths (GoesOnClosed h q) (GoesOnAmong q.expr f.paths) (λ ps c. (all_paths ps c.0 c.1, c.1)) m)

    blocks_some : NothingBlocks h q → (x : Item) → Contains f.left x → ⊥
    blocks_some free (next ps l) c = free.0 (end_of q.start ps) l ((row_needs (end_of q.start ps) l).1 (ps, c, refl))
    blocks_some free (whole ps) c = free.1 (end_of q.start ps) ((datum_needs (end_of q.start ps)).1 (ps, c, refl))

    pub not_settled : f.going ≤ most_paths → (x : Item) → Contains f.left x → IsSettled h q → ⊥
    not_settled few x c t = elim t [ inl free ↦ blocks_some free x c | inr m ↦ few_closed few m ]

  module _ (none : f.left ≡ []) where
    nothing_left : (x : Item) → Contains f.left x → ⊥
    nothing_left x c = nothing_in x (subst (λ (t : List Item). Contains t x) none c)

    no_stuck : AllBlocked h q f
    no_stuck x c = absurd (nothing_left x c)

    pub nothing_blocks : NothingBlocks h q
    nothing_blocks = (
      (λ t l b. let k = ((row_needs no_stuck t l).0 b) in nothing_left (next k.0 l) k.1),
      (λ t b. let k = ((datum_needs no_stuck t).0 b) in nothing_left (whole k.0) k.1),
    )

    module _ (ok : IsGraph h.graph) (start_in : HasScope h.graph q.start) where
      own_closed : (ps : List Step) → IsPath h.graph q.start ps → IsViable q.expr (word_of ps) → IsClosedPath h q.start ps
      own_closed ps p v = to_closed h h.graph q ok start_in nothing_blocks (itself h) ps p v

      -- not too many paths go on, and the paths that arrive are those found
      pub few_go : f.going ≤ most_paths → MoreThan most_paths (GoesOnFrom h.graph q.expr q.start) → ⊥
      few_go few m =
          few_closed no_stuck few (MoreThan-map most_paths (GoesOnFrom h.graph q.expr q.start) (GoesOnClosed h q) (λ ps g. (own_closed ps g.0 (goes_viable q.expr (word_of ps) g.1), g.1)) m)

      pub found_all : (y : Found D) → (Contains f.found y) ↔ ((y.path.start ≡ q.start) × IsArrived h.graph q.expr q.wants q.start y.path.steps y.datum)
      found_all y = (
        (λ c. let k = s.found y c in (k.0, ((k.1).path, ((k.1).word, (k.1).datum, (k.1).wanted)))),
        (λ a.
            let v : IsViable q.expr (word_of y.path.steps) = viable_from_in q.expr (word_of y.path.steps) ((a.1).1).0 in
            elim (all_met no_stuck y.path.steps (own_closed y.path.steps (a.1).0 v) v) [
              | inl c ↦ elim ((s.offered (whole y.path.steps)).1 (c, ((a.1).1).0)) [
                | inl d ↦ (s.explored (whole y.path.steps) d).1 y a.0 refl (((a.1).1).1) (((a.1).1).2)
                | inr left ↦ absurd (nothing_left (whole y.path.steps) left)
              ]
              | inr k ↦
                  let here : (k.1).1.0 ≡ y.datum = one_datum h.graph.given ok.data_rise (end_of q.start y.path.steps) (k.1).1.0 y.datum (k.1).1.1 (((a.1).1).1) in
                  absurd (cc (ap q.wants here, (k.1).1.2, ((a.1).1).2))
            ]),
      )
