-- Where rows with one label alone are open and no unset datum is reached, some row blocks a query that is not settled.
use Rattle.std.proofs.Common.{◌≡◌, ℕ, List, [], ◌∷◌, ◌++◌, ◌⊎◌, ◌↔◌, map, Bool, true, false, inl, inr, refl, sym, ap, ◌∙◌, subst, append_assoc}
use Rattle.std.proofs.lemmas.List.{append-nil}
use Rattle.std.specs.List.{Contains, concat, filter}
use Rattle.sg_base.specs.declared.scope.Scope.{Scope}
use Rattle.sg_base.specs.declared.step.Step.{Step}
use Rattle.sg_base.specs.Graph.{Edge, GraphOf, IsGraph, HasScope, HasDatum, IsWalk, IsPath, edge_cmp}
use Rattle.sg_base.specs.Label.{Word}
use Rattle.sg_base.specs.List.{IsRising}
use Rattle.sg_base.specs.Path.{end_of, word_of}
use Rattle.sg_base.specs.Scope.{scope_cmp}
use Rattle.sg_base.specs.State.{State, IsOpen, PassesClosed, IsClosedPath}
use Rattle.sg_base.proofs.Finite.{MoreThan-map, Contains-filter, Contains-map, filter-Contains, map-Contains}
use Rattle.sg_base.proofs.Rising.{Rising-filter}
use Rattle.sg_expr.specs.Tree.{ExprOf, no_word, empty_word, one_label, in_turn, either_of, repeated}
use Rattle.sg_expr.specs.Word.{EachWord, Splits, In, IsViable, IsContinuable}
use Rattle.sg_query.specs.declared.answer.Answer.{Answer}
use Rattle.sg_query.specs.declared.answer.Answer.TheVariants.{Paths, TooMany}
use Rattle.sg_query.specs.declared.found.Found.{Found}
use Rattle.sg_query.specs.Answer.{IsAnswer, GoesOn, most_paths}
use Rattle.sg_query.specs.Query.{Asked}
use Rattle.sg_query.specs.State.{IsSettled, RowBlocks, DatumBlocks, GoesOnClosed}
use Rattle.sg_query.proofs.Deciding.{Decided, both, either, moved, same_number, some_of}
use Rattle.sg_query.proofs.Existing.{answers_exist}
use Rattle.sg_state.specs.declared.need.Need.TheVariants.{Row}
use Rattle.sg_unit.proofs.Waiters.{open_or}

-- ---- the words before a label

-- whether an expression has a word
some_word : (e : ExprOf) → Decided ((w : Word) × In e w)
some_word no_word = inr (λ h. h.1)
some_word empty_word = inl ([], refl)
some_word (one_label l) = inl (l ∷ [], refl)
some_word (in_turn a b) = moved (λ h. ((h.0).0 ++ (h.1).0, ((h.0).0, (h.1).0, refl, (h.0).1, (h.1).1))) (λ h. (((h.1).0, (h.1).3), ((h.1).1, (h.1).4))) (both (some_word a) (some_word b))
some_word (either_of a b) = moved (λ h. elim h [ inl k ↦ (k.0, inl k.1) | inr k ↦ (k.0, inr k.1) ]) (λ h. elim h.1 [ inl k ↦ inl (h.0, k) | inr k ↦ inr (h.0, k) ]) (either (some_word a) (some_word b))
some_word (repeated a) = inl ([], ([], refl, tt))

-- a word that goes on with a label, in two parts: the label stands in the second, or in the first
cut : (l : ℕ) (w v x y : Word) → w ++ l ∷ v ≡ x ++ y → ((m : Word) × (w ≡ x ++ m) × (y ≡ m ++ l ∷ v)) ⊎ ((m : Word) × (x ≡ w ++ l ∷ m) × (v ≡ m ++ y))
cut l w v [] y e = inl (w, refl, sym e)
cut l [] v (z ∷ x) y e =
    let first : l ≡ z = cc in
    let rest : v ≡ x ++ y = cc in
    inr (x, ap (λ (n : ℕ). n ∷ x) (sym first), rest)
cut l (k ∷ w) v (z ∷ x) y e =
    let first : k ≡ z = cc in
    let rest : w ++ l ∷ v ≡ x ++ y = cc in
    elim (cut l w v x y rest) [
      | inl h ↦ inl (h.0, ap (λ (n : ℕ). n ∷ w) first ∙ ap (λ (t : Word). z ∷ t) h.1, h.2)
      | inr h ↦ inr (h.0, ap (λ (t : Word). z ∷ t) h.1 ∙ ap (λ (n : ℕ). n ∷ (w ++ l ∷ h.0)) (sym first), h.2)
    ]

module _ (l : ℕ) where
  -- some word of the expression begins with this one and the label
  abbrev GoesInto : ExprOf → Word → Type 0
  GoesInto e w = (v : Word) × In e (w ++ l ∷ v)

  -- an expression whose words are those before the label in this one
  abbrev Before : ExprOf → Type 0
  Before e = (r : ExprOf) × ((w : Word) → (In r w) ↔ (GoesInto e w))

  one_forth : (m : ℕ) → l ≡ m → (w : Word) → w ≡ [] → GoesInto (one_label m) w
  one_forth m e w none = ([], ap (λ (t : Word). t ++ l ∷ []) none ∙ ap (λ (n : ℕ). n ∷ []) e)

  one_back : (m : ℕ) (w v : Word) → w ++ l ∷ v ≡ m ∷ [] → (l ≡ m) × (w ≡ [])
  one_back m [] v e = (cc, refl)
  one_back m (k ∷ []) v e = absurd (cc)
  one_back m (k ∷ n ∷ w) v e = absurd (cc)

  no_back : (w v : Word) → w ++ l ∷ v ≡ [] → ⊥
  no_back [] v e = cc
  no_back (k ∷ w) v e = cc

  first_forth : (a b : ExprOf) → ((w : Word) × In b w) → (w : Word) → GoesInto a w → GoesInto (in_turn a b) w
  first_forth a b s w h = (h.0 ++ s.0, (w ++ l ∷ h.0, s.0, sym (append_assoc w (l ∷ h.0) s.0), h.1, s.1))

  second_forth : (a b r : ExprOf) → ((w : Word) → In r w → GoesInto b w) → (w : Word) → In (in_turn a r) w → GoesInto (in_turn a b) w
  second_forth a b r f w (x, y, split, i, j) =
      let h = f y j in
      (h.0, (x, y ++ l ∷ h.0, ap (λ (t : Word). t ++ l ∷ h.0) split ∙ append_assoc x y (l ∷ h.0), i, h.1))

  turn_back : (a b : ExprOf) (w : Word) → GoesInto (in_turn a b) w → (GoesInto a w × ((v : Word) × In b v)) ⊎ Splits (In a) (GoesInto b) w
  turn_back a b w (v, (x, y, split, i, j)) =
      elim (cut l w v x y split) [
        | inl h ↦ inr (x, h.0, h.1, i, (v, subst (λ (t : Word). In b t) h.2 j))
        | inr h ↦ inl ((h.0, subst (λ (t : Word). In a t) h.1 i), (y, j))
      ]

  chain_forth : (a r : ExprOf) → ((w : Word) → In r w → GoesInto a w) → (w : Word) → In (in_turn (repeated a) r) w → GoesInto (repeated a) w
  chain_forth a r f w (x, y, split, (ws, whole, each), j) =
      let h = f y j in
      let split' : w ++ l ∷ h.0 ≡ concat (ws ++ (y ++ l ∷ h.0) ∷ []) = ap (λ (t : Word). t ++ l ∷ h.0) split ∙ (append_assoc x y (l ∷ h.0) ∙ (ap (λ (t : Word). t ++ (y ++ l ∷ h.0)) whole ∙ sym (concat_push ws (y ++ l ∷ h.0)))) in
      (h.0, (ws ++ (y ++ l ∷ h.0) ∷ [], split', each_push ws (y ++ l ∷ h.0) each h.1))
    where
      concat_push : (ws : List Word) (x : Word) → concat (ws ++ x ∷ []) ≡ concat ws ++ x
      concat_push [] x = append-nil x
      concat_push (y ∷ ws) x = ap (λ (t : Word). y ++ t) (concat_push ws x) ∙ sym (append_assoc y (concat ws) x)

      each_push : (ws : List Word) (x : Word) → EachWord (In a) ws → In a x → EachWord (In a) (ws ++ x ∷ [])
      each_push [] x h i = (i, tt)
      each_push (y ∷ ws) x h i = (h.0, each_push ws x h.1 i)

  chain_back : (a : ExprOf) (ws : List Word) (w v : Word) → w ++ l ∷ v ≡ concat ws → EachWord (In a) ws → Splits (In (repeated a)) (GoesInto a) w
  chain_back a [] w v e h = absurd (no_back w v e)
  chain_back a (x ∷ ws) w v e h =
      elim (cut l w v x (concat ws) e) [
        | inl k ↦
            let b = chain_back a ws k.0 v (sym k.2) h.1 in (
              x ++ b.0,
              b.1,
              k.1 ∙ (ap (λ (t : Word). x ++ t) b.2 ∙ sym (append_assoc x b.0 b.1)),
              (x ∷ (b.3).0, ap (λ (t : Word). x ++ t) (b.3).1, (h.0, (b.3).2)),
              b.4,
            )
        | inr k ↦ ([], w, refl, ([], refl, tt), (k.0, subst (λ (t : Word). In a t) k.1 h.0))
      ]

  turn_at : (a b : ExprOf) → Before a → Before b → Decided ((w : Word) × In b w) → Before (in_turn a b)
  turn_at a b ra rb (inl s) = (
    either_of ra.0 (in_turn a rb.0),
    λ w. (
      (λ i. elim i [ inl k ↦ first_forth a b s w ((ra.1 w).0 k) | inr k ↦ second_forth a b rb.0 (λ x. (rb.1 x).0) w k ]),
      (λ h. elim (turn_back a b w h) [ inl k ↦ inl ((ra.1 w).1 k.0) | inr k ↦ inr (k.0, k.1, k.2, k.3, (rb.1 k.1).1 k.4) ]),
    ),
  )
  turn_at a b ra rb (inr n) = (
    in_turn a rb.0,
    λ w. (
      (λ i. second_forth a b rb.0 (λ x. (rb.1 x).0) w i),
      (λ h. elim (turn_back a b w h) [ inl k ↦ absurd (n k.1) | inr k ↦ (k.0, k.1, k.2, k.3, (rb.1 k.1).1 k.4) ]),
    ),
  )

  before : (e : ExprOf) → Before e
  before no_word = (no_word, λ w. ((λ h. absurd h), (λ h. h.1)))
  before empty_word = (no_word, λ w. ((λ h. absurd h), (λ h. absurd (no_back w h.0 h.1))))
  before (one_label m) =
      elim (same_number l m) [
        | inl e ↦ (empty_word, λ w. ((λ h. one_forth m e w h), (λ h. (one_back m w h.0 h.1).1)))
        | inr n ↦ (no_word, λ w. ((λ h. absurd h), (λ h. absurd (n (one_back m w h.0 h.1).0))))
      ]
  before (in_turn a b) = turn_at a b (before a) (before b) (some_word b)
  before (either_of a b) =
      let ra = before a in
      let rb = before b in (
        either_of ra.0 rb.0,
        λ w. (
          (λ i. elim i [ inl k ↦ (let h = (ra.1 w).0 k in (h.0, inl h.1)) | inr k ↦ (let h = (rb.1 w).0 k in (h.0, inr h.1)) ]),
          (λ h. elim h.1 [ inl k ↦ inl ((ra.1 w).1 (h.0, k)) | inr k ↦ inr ((rb.1 w).1 (h.0, k)) ]),
        ),
      )
  before (repeated a) =
      let ra = before a in (
        in_turn (repeated a) ra.0,
        λ w. (
          (λ i. chain_forth a ra.0 (λ x. (ra.1 x).0) w i),
          (λ h. let k = chain_back a (h.1).0 w h.0 (h.1).1 (h.1).2 in (k.0, k.1, k.2, k.3, (ra.1 k.1).1 k.4)),
        ),
      )

  into_viable : (e : ExprOf) (w : Word) → GoesInto e w → IsViable e (w ++ l ∷ [])
  into_viable e w h = (h.0, subst (λ (t : Word). In e t) (sym (append_assoc w (l ∷ []) h.0)) h.1)

  viable_into : (e : ExprOf) (w : Word) → IsViable e (w ++ l ∷ []) → GoesInto e w
  viable_into e w h = (h.0, subst (λ (t : Word). In e t) (append_assoc w (l ∷ []) h.0) h.1)

  -- before the label a word goes on
  goes_on : (e : ExprOf) (w v : Word) → GoesInto e (w ++ v) → IsContinuable e w
  goes_on e w v h = (v ++ l ∷ h.0, (λ none. no_back v h.0 none), subst (λ (t : Word). In e t) (append_assoc w v (l ∷ h.0)) h.1)

-- ---- the graph without open rows

module _ {D : Type 0} (h : State D) (ok : IsGraph h.graph) where
  abbrev is_out : {P : Type 0} → Decided P → Bool
  is_out (inl p) = false
  is_out (inr n) = true

  shut_at : {P : Type 0} (d : Decided P) → is_out d ≡ true → P → ⊥
  shut_at (inl p) e = absurd (let z : false ≡ true = e in cc)
  shut_at (inr n) e = n

  at_shut : {P : Type 0} (d : Decided P) → (P → ⊥) → is_out d ≡ true
  at_shut (inl p) n = absurd (n p)
  at_shut (inr n) m = refl

  row_of : (e : Edge) → Decided (IsOpen h e.from e.label)
  row_of e = open_or h (Row e.from e.label)

  -- whether an edge stands in no open row
  is_shut : Edge → Bool
  is_shut e = is_out (row_of e)

  -- the edges that stand in no open row, with a datum at each scope
  shut_graph : GraphOf Bool
  shut_graph = record { scopes = h.graph.scopes; edges = filter is_shut h.graph.edges; given = map (λ s. (s, true)) h.graph.scopes }

  keys_same : (ss : List Scope) → map (λ (p : Scope × Bool). p.0) (map (λ s. (s, true)) ss) ≡ ss
  keys_same [] = refl
  keys_same (s ∷ ss) = ap (λ (t : List Scope). s ∷ t) (keys_same ss)

  shut_is_graph : IsGraph shut_graph
  unfolding shut_graph
  shut_is_graph = record {
    scopes_rise = ok.scopes_rise;
    edges_rise = Rising-filter edge_cmp is_shut h.graph.edges ok.edges_rise;
    data_rise = subst (λ (ss : List Scope). IsRising scope_cmp ss) (sym (keys_same h.graph.scopes)) ok.scopes_rise;
    labelled = λ s l t c. ok.labelled s l t (Contains-filter is_shut h.graph.edges (record { from = s; label = l; to = t }) c).0;
    source = λ s l t c. ok.source s l t (Contains-filter is_shut h.graph.edges (record { from = s; label = l; to = t }) c).0;
    target = λ s l t c. ok.target s l t (Contains-filter is_shut h.graph.edges (record { from = s; label = l; to = t }) c).0;
    placed = λ s d c. let k = Contains-map (λ (s : Scope). let p : Scope × Bool = (s, true) in p) h.graph.scopes (s, d) c in subst (λ (t : Scope). HasScope h.graph t) (sym (ap (λ (p : Scope × Bool). p.0) k.2)) k.1;
  }

  walk_from : (s : Scope) (ps : List Step) → IsWalk shut_graph s ps → IsWalk h.graph s ps × PassesClosed h s ps
  unfolding shut_graph is_shut row_of
  walk_from s [] w = (tt, tt)
  walk_from s (x ∷ ps) w =
      let e : Edge = record { from = s; label = x.label; to = x.to } in
      let k = Contains-filter is_shut h.graph.edges e w.0 in
      let more = walk_from x.to ps w.1 in
      ((k.0, more.0), (shut_at (row_of e) k.1, more.1))

  walk_to : (s : Scope) (ps : List Step) → IsWalk h.graph s ps → PassesClosed h s ps → IsWalk shut_graph s ps
  unfolding shut_graph is_shut row_of
  walk_to s [] w c = tt
  walk_to s (x ∷ ps) w c =
      let e : Edge = record { from = s; label = x.label; to = x.to } in
      (filter-Contains is_shut h.graph.edges e w.0 (at_shut (row_of e) c.0), walk_to x.to ps w.1 c.1)

  path_from : (s : Scope) (ps : List Step) → IsPath shut_graph s ps → IsClosedPath h s ps
  path_from s ps p = let k = walk_from s ps p.0 in ((k.0, p.1), k.1)

  path_to : (s : Scope) (ps : List Step) → IsClosedPath h s ps → IsPath shut_graph s ps
  path_to s ps p = (walk_to s ps (p.0).0 p.1, (p.0).1)

  has_datum : (s : Scope) → HasScope h.graph s → HasDatum shut_graph s true
  unfolding shut_graph
  has_datum s c = map-Contains (λ (s : Scope). let p : Scope × Bool = (s, true) in p) h.graph.scopes s c

  -- ---- what blocks a query

  module _ (q : Asked D) (l : ℕ) where
    -- the query that finds the ends of all words before the label
    ends_query : Asked Bool
    ends_query = record { start = q.start; expr = (before l q.expr).0; order = λ a b. false; wants = λ d. true; same = λ a b. false }

    still_goes : (ps : List Step) → GoesOn shut_graph ends_query ps → GoesOnClosed h q ps
    unfolding ends_query
    still_goes ps (p, (v, some, i)) = (path_from q.start ps p, goes_on l q.expr (word_of ps) v (((before l q.expr).1 (word_of ps ++ v)).0 i))

    module _ (only : (s : Scope) (k : ℕ) → IsOpen h s k → k ≡ l) (there : (s : Scope) (k : ℕ) → IsOpen h s k → HasScope h.graph s) (no_datum : (s : Scope) → DatumBlocks h q s → ⊥) (open_still : IsSettled h q → ⊥) where
      -- the end of a found path has an open row
      abbrev IsBlocked : Found Bool → Type 0
      IsBlocked f = IsOpen h (end_of q.start f.path.steps) l

      from_answer : (a : Answer Bool) → IsAnswer shut_graph ends_query a → (s : Scope) × RowBlocks h q s l
      unfolding ends_query
      from_answer TooMany m = absurd (open_still (inr (MoreThan-map most_paths (GoesOn shut_graph ends_query) (GoesOnClosed h q) still_goes m)))
      from_answer (Paths fs) k =
          elim (some_of IsBlocked (λ f. open_or h (Row (end_of q.start f.path.steps) l)) fs) [
            | inl f ↦
                let r = ((((k.1).visible f.0).0 f.1).1).reached in
                let ps : List Step = (f.0).path.steps in
                (end_of q.start ps, (ps, path_from q.start ps r.path, refl, into_viable l q.expr (word_of ps) (((before l q.expr).1 (word_of ps)).0 r.word), f.2))
            | inr none ↦ absurd (open_still (inl ((λ s k' b. none (blocked s k' b)), no_datum)))
          ]
        where
          blocked : (s : Scope) (k' : ℕ) → RowBlocks h q s k' → (f : Found Bool) × Contains fs f × IsBlocked f
          blocked s k' (ps, closed, at, viable, is_open) =
              let label : k' ≡ l = only s k' is_open in
              let end : IsOpen h (end_of q.start ps) l = subst (λ (t : Scope). IsOpen h t l) (sym at) (subst (λ (n : ℕ). IsOpen h s n) label is_open) in
              let into = viable_into l q.expr (word_of ps) (subst (λ (n : ℕ). IsViable q.expr (word_of ps ++ n ∷ [])) label viable) in
              let f : Found Bool = record { path = record { start = q.start; steps = ps }; datum = true } in (
                f,
                ((k.1).visible f).1 (
                  refl,
                  record {
                    reached = record { path = path_to q.start ps closed; word = ((before l q.expr).1 (word_of ps)).1 into; datum = has_datum (end_of q.start ps) (there (end_of q.start ps) l end); wanted = refl };
                    unshadowed = λ qs e r same. absurd (let z : false ≡ true = same in cc);
                  },
                ),
                end,
              )

      pub some_row : (s : Scope) × RowBlocks h q s l
      some_row = let a = answers_exist Bool shut_graph ends_query shut_is_graph in from_answer a.0 a.1
