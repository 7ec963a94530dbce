-- What the answers of an advance say of the query in the state.
use Rattle.std.proofs.Common.{◌≡◌, ◌≢◌, ℕ, ◌<◌, ◌≤◌, List, [], ◌∷◌, ◌⊎◌, ◌↔◌, inl, inr, refl, sym, ap, ◌∙◌, subst, arith}
use Rattle.std.specs.List.{Contains}
use Rattle.sg_base.specs.declared.scope.Scope.{Scope}
use Rattle.sg_base.specs.Graph.{IsGraph, HasScope}
use Rattle.sg_base.specs.Path.{end_of}
use Rattle.sg_base.specs.State.{State}
use Rattle.sg_base.proofs.Finite.{Contains-head, Contains-map, map-Contains, MoreThan-map}
use Rattle.sg_query.specs.declared.answer.Answer.{Answer}
use Rattle.sg_query.specs.declared.answer.Answer.TheVariants.{Paths, TooMany}
use Rattle.sg_query.specs.Answer.{most_paths, GoesOn, IsAnswer}
use Rattle.sg_query.specs.Query.{Asked}
use Rattle.sg_query.specs.State.{Item, next, whole, GoesOnClosed, IsSettled}
use Rattle.sg_query.specs.Walk.{AreArrived}
use Rattle.sg_query.proofs.Answering.{visible_paths}
use Rattle.sg_state.specs.declared.need.Need.{Need}
use Rattle.sg_state.specs.declared.need.Need.TheVariants.{Row, Datum}
use Rattle.sg_engine.specs.declared.tree.Tree.{Tree}
use Rattle.sg_engine.specs.declared.work.Work.{Work}
use Rattle.sg_engine.specs.Front.{Front, Stands, AllBlocked}
use Rattle.sg_engine.specs.Need.{NeedBlocks, need_of}
use Rattle.sg_engine.specs.Search.{AnswersBy}
use Rattle.sg_engine.specs.Tree.{paths_of, item_of, left_of, front_of}
use Rattle.sg_engine.proofs.Ending.{nothing_blocks, many_go, many_closed, few_go, found_all, row_needs, datum_needs, not_settled}

module _ {D : Type 0} (h : State D) (q : Asked D) (f : Front D) (s : Stands h q f) where
  pub ready_settled : (f.left ≡ []) ⊎ (most_paths < f.going) → IsSettled h q
  ready_settled r = elim r [ inl none ↦ inl (nothing_blocks h q f s.0 s.1 none) | inr many ↦ many_go h q f s.0 s.1 many ]

  pub ready_answer : IsGraph h.graph → HasScope h.graph q.start → (f.left ≡ []) ⊎ (most_paths < f.going) → (a : Answer D) → AnswersBy q.same q.order f a → IsAnswer h.graph q a
  ready_answer ok start_in r TooMany p =
      MoreThan-map most_paths (GoesOnClosed h q) (GoesOn h.graph q) (λ ps k. ((k.0).0, k.1)) (many_closed h q f s.0 s.1 p)
  ready_answer ok start_in r (Paths fs) p =
      let none : f.left ≡ [] = elim r [ inl e ↦ e | inr l ↦ absurd (omega (arith, l, p.0)) ] in
      let arrived : AreArrived h.graph q.expr q.wants q.start f.found = record { once = (s.1).found_once; arrived = found_all h q f s.0 s.1 none ok start_in } in
      (few_go h q f s.0 s.1 none ok start_in p.0, record { rising = p.1; visible = visible_paths h.graph q f.found fs arrived p.2 })

  a_first : (xs : List Item) → xs ≢ [] → (x : Item) × Contains xs x
  a_first [] n = absurd (n refl)
  a_first (x ∷ xs) n = (x, Contains-head x xs)

  module _ (stuck : AllBlocked h q f) where
    pub blocked_unsettled : f.left ≢ [] → f.going ≤ most_paths → IsSettled h q → ⊥
    blocked_unsettled some few t = let k = a_first f.left some in not_settled h q f s.0 s.1 stuck few k.0 k.1 t

    from_row : (t : Scope) (l : ℕ) (x : Item) → Contains f.left x → Row t l ≡ need_of q.start x → NeedBlocks h q (Row t l)
    from_row t l (next ps m) c e =
        let there : t ≡ end_of q.start ps = cc e in
        let same : l ≡ m = cc e in
        (row_needs h q f s.0 s.1 stuck t l).1 (ps, subst (λ (k : ℕ). Contains f.left (next ps k)) (sym same) c, sym there)
    from_row t l (whole ps) c e = absurd (cc e)

    from_datum : (t : Scope) (x : Item) → Contains f.left x → Datum t ≡ need_of q.start x → NeedBlocks h q (Datum t)
    from_datum t (next ps m) c e = absurd (cc e)
    from_datum t (whole ps) c e =
        let there : t ≡ end_of q.start ps = cc e in
        (datum_needs h q f s.0 s.1 stuck t).1 (ps, c, sym there)

    need_item : (n : Need) → (NeedBlocks h q n) ↔ ((x : Item) × Contains f.left x × (n ≡ need_of q.start x))
    need_item (Row t l) = (
      (λ b. let k = (row_needs h q f s.0 s.1 stuck t l).0 b in (next k.0 l, k.1, ap (λ (u : Scope). Row u l) (sym k.2))),
      (λ k. from_row t l k.0 k.1 k.2),
    )
    need_item (Datum t) = (
      (λ b. let k = (datum_needs h q f s.0 s.1 stuck t).0 b in (whole k.0, k.1, ap (λ (u : Scope). Datum u) (sym k.2))),
      (λ k. from_datum t k.0 k.1 k.2),
    )

-- the needs of the work that was put aside are what blocks the query
pub needs_block : {D : Type 0} (h : State D) (q : Asked D) (t : Tree D) (s : Stands h q (front_of t)) (stuck : AllBlocked h q (front_of t)) (left : left_of t ≡ t.blocked.items) (needs : List Need) → ((n : Need) → (Contains needs n) ↔ ((w : Work) × Contains t.blocked.items w × (n ≡ need_of q.start (item_of (paths_of t.nodes.items) w)))) → (n : Need) → (Contains needs n) ↔ (NeedBlocks h q n)
needs_block {D} h q t s stuck left needs exact n =
    let paths = paths_of t.nodes.items in (
      (λ c.
          let k = (exact n).0 c in
          (need_item h q (front_of t) s stuck n).1 (item_of paths k.0, map-Contains (item_of paths) (left_of t) k.0 (subst (λ (r : List Work). Contains r k.0) (sym left) k.1), k.2)),
      (λ b.
          let k = (need_item h q (front_of t) s stuck n).0 b in
          let m = Contains-map (item_of paths) (left_of t) k.0 k.1 in
          (exact n).1 (m.0, subst (λ (r : List Work). Contains r m.0) left m.1, k.2 ∙ ap (need_of q.start) m.2)),
    )
