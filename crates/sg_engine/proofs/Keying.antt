-- What a search passes over by keys.
use Rattle.std.proofs.Common.{◌≡◌, ◌≢◌, ℕ, List, [], ◌∷◌, ◌++◌, ◌⊎◌, ◌↔◌, Bool, IsTrue, true, false, eqb, Some, Result, Ok, Err, OnOk, inl, inr, sym, ◌∙◌, subst, append_assoc, slice_index_or, arith}
use Rattle.std.proofs.lemmas.Bool.{cases_Bool}
use Rattle.std.proofs.lemmas.Bool.Decides.{nat_tests}
use Rattle.std.specs.List.{Contains}
use Rattle.std.proofs.lemmas.List.Elements.{Contains-append_left, Contains-append_right, Contains-append_cases}
use Rattle.sg_base.specs.declared.scope.Scope.{Scope}
use Rattle.sg_base.specs.declared.step.Step.{Step}
use Rattle.sg_base.specs.Graph.{GraphOf, IsGraph, HasEdge, HasDatum, IsWalk, row_of}
use Rattle.sg_base.specs.List.{IsRising, MoreThan}
use Rattle.sg_base.specs.Path.{end_of, word_of}
use Rattle.sg_base.specs.Scope.{scope_cmp, scope_total}
use Rattle.sg_base.specs.State.{State, IsOpen, IsUnset, PassesClosed, IsClosedPath}
use Rattle.sg_base.proofs.Finite.{Distinct-append, each_from}
use Rattle.sg_base.proofs.Rising.{Distinct-rising}
use Rattle.sg_base.specs.Label.{Word}
use Rattle.sg_expr.specs.Positions.{Accepts}
use Rattle.sg_expr.specs.Tree.{ExprOf}
use Rattle.sg_expr.specs.Word.{In, IsContinuable}
use Rattle.sg_query.specs.Query.{Asked}
use Rattle.sg_query.specs.State.{Item, next, whole, IsItem}
use Rattle.sg_query.proofs.Paths.{word_of-append, end_of-append, snoc_same, end_in}
use Rattle.sg_state.specs.Held.{HeldOf, IsHeld, IsRest, IsKeyed, state_of}
use Rattle.sg_state.specs.Rest.{AreRowsInParts}
use Rattle.sg_state.proofs.Extending.{unset_from}
use Rattle.sg_state.proofs.Resting.{rows_split}
use Rattle.sg_engine.specs.Front.{Front, path_of, step_to, IsBlocked, IsBarren, StandsAfter}
use Rattle.sg_engine.specs.Growth.{into_targets}
use Rattle.sg_engine.specs.Nodes.{NodeOf, NodesOf, IsRestAfter}
use Rattle.sg_engine.specs.Tree.{IsNodeOf}
use Rattle.sg_engine.specs.Keyed.{Wanting, IsPassedOver, IsKeyedItem, PassesOver, AreKeyedTargets, PassesOverLater}
use Rattle.sg_engine.proofs.Ending.{item_done, item_left}
use Rattle.sg_engine.proofs.Exploring.{into_from, row_targets}

-- ---- the last step of a path

walk_last : {D : Type 0} (g : GraphOf D) (s : Scope) (ps : List Step) (x : Step) → IsWalk g s (ps ++ x ∷ []) → IsWalk g s ps × HasEdge g (end_of s ps) x.label x.to
walk_last g s [] x w = (tt, w.0)
walk_last g s (p ∷ ps) x w = let k = walk_last g p.to ps x w.1 in ((w.0, k.0), k.1)

passes_last : {D : Type 0} (h : State D) (s : Scope) (ps : List Step) (x : Step) → PassesClosed h s (ps ++ x ∷ []) → IsOpen h (end_of s ps) x.label → ⊥
passes_last h s [] x c = c.0
passes_last h s (p ∷ ps) x c = passes_last h p.to ps x c.1

-- ---- later graphs

pub passes_over_later : (D : Type 0) → PassesOverLater D
passes_over_later D h h' k q paths ok start_in keeps closed none ps c over =
    let front = over.1 in
    let x = over.2 in
    let path : IsClosedPath (state_of h) q.start (front ++ x ∷ []) = subst (IsClosedPath (state_of h) q.start) over.3 (closed ps c) in
    let walk = walk_last h.graph q.start front x (path.0).0 in
    let here = keeps.closed_keyed (end_of q.start front) x.label over.6 x.to (end_in h.graph ok q.start front start_in walk.0) (passes_last (state_of h) q.start front x path.1) over.7 in
    none ps c (over.0, front, x, over.3, over.4, over.5, over.6, here, over.8)

-- ---- targets by key

equal_or_not : (a b : ℕ) → (a ≡ b) ⊎ (a ≢ b)
equal_or_not a b = elim (cases_Bool (eqb a b)) [ inl e ↦ inl (grind (arith, nat_tests)) | inr e ↦ inr (λ s. grind (arith, nat_tests)) ]

module _ {D : Type 0} (h : HeldOf D) (held : IsHeld h) (k : Wanting D) (q : Asked D) (same : q.wants ≡ k.wants) (ps : List Step) (l key : ℕ) (wanted : k.wanted ≡ Some key)
    (law : (d : D) → IsTrue (k.wants d) → k.key d ≡ key) (dead : IsContinuable q.expr (word_of ps ++ l ∷ []) → ⊥)
    (under rest : List Scope) (under_is : (t : Scope) → (Contains under t) ↔ (IsKeyed k.key h (end_of q.start ps) l key t)) (under_rises : IsRising scope_cmp under)
    (rest_is : (t : Scope) → (Contains rest t) ↔ (IsRest h (end_of q.start ps) l t)) (rest_rises : IsRising scope_cmp rest) where
  split : AreRowsInParts k.key h
  split = rows_split D k.key h held

  word_is : (t : Scope) → word_of (ps ++ step_to l t ∷ []) ≡ word_of ps ++ l ∷ []
  word_is t = word_of-append ps (step_to l t ∷ [])

  end_is : (t : Scope) → end_of q.start (ps ++ step_to l t ∷ []) ≡ t
  end_is t = end_of-append q.start ps (step_to l t ∷ [])

  not_wanted : (d : D) (j : ℕ) → k.key d ≡ j → j ≢ key → q.wants d ≡ false
  not_wanted d j e n = elim (cases_Bool (q.wants d)) [
    | inl w ↦ absurd (n (sym e ∙ law d (subst (λ (f : D → Bool). f d ≡ true) same w)))
    | inr f ↦ f
  ]

  barren : (t : Scope) (j : ℕ) → IsKeyed k.key h (end_of q.start ps) l j t → j ≢ key → IsBarren (state_of h) q (ps ++ step_to l t ∷ [])
  barren t j keyed n = (
    (λ c. dead (subst (IsContinuable q.expr) (word_is t) c)),
    subst (λ (s : Scope). (IsUnset (state_of h) s → ⊥) × ((d : D) × HasDatum h.graph s d × (q.wants d ≡ false))) (sym (end_is t)) (
      (λ o. let u = unset_from h t o in held.unset u.0 t keyed.2 u.1 keyed.3),
      (keyed.2, keyed.3, not_wanted keyed.2 j keyed.4 n),
    ),
  )

  pub keyed_targets : AreKeyedTargets h k q ps l (under ++ rest)
  keyed_targets = record {
    enough = record {
      from = λ t c. elim (Contains-append_cases under rest t c) [
        | inl u ↦ ((under_is t).0 u).0
        | inr r ↦ held.rest_edges (end_of q.start ps) l t ((rest_is t).0 r)
      ];
      once = Distinct-append under rest (Distinct-rising scope_cmp scope_total under under_rises) (Distinct-rising scope_cmp scope_total rest rest_rises)
          (λ t u r. split.apart (end_of q.start ps) l key t ((rest_is t).0 r) ((under_is t).0 u));
      all = λ t e. elim ((split.all (end_of q.start ps) l t).0 e) [
        | inl r ↦ inl (Contains-append_right under rest t ((rest_is t).1 r))
        | inr y ↦ elim (equal_or_not y.0 key) [
          | inl e ↦ inl (Contains-append_left under rest t ((under_is t).1 (subst (λ (j : ℕ). IsKeyed k.key h (end_of q.start ps) l j t) e y.1)))
          | inr n ↦ inr (barren t y.0 y.1 n)
        ]
      ];
    };
    kept = λ t c over.
        let e = snoc_same ps over.1 (step_to l t) over.2 over.3 in
        let there : IsKeyed k.key h (end_of q.start ps) l over.6 t =
        subst (λ (x : Step). IsKeyed k.key h (end_of q.start ps) x.label over.6 x.to) (sym e.1) (subst (λ (f : List Step). IsKeyed k.key h (end_of q.start f) over.2.label over.6 over.2.to) (sym e.0) over.7) in
        let key_is : over.4 ≡ key = cc (over.5, wanted) in
        elim (Contains-append_cases under rest t c) [
          | inl u ↦ over.8 (split.one_key (end_of q.start ps) l over.6 key t there ((under_is t).0 u) ∙ sym key_is)
          | inr r ↦ split.apart (end_of q.start ps) l over.6 t ((rest_is t).0 r) there
        ];
  }

-- the targets of a row, where the query wants no key or a word goes on behind them
pub whole_row : {D : Type 0} (h : HeldOf D) → IsGraph h.graph → (k : Wanting D) (q : Asked D) (ps : List Step) (l : ℕ) → ((w : ℕ) → k.wanted ≡ Some w → ⊥) ⊎ IsContinuable q.expr (word_of ps ++ l ∷ []) → AreKeyedTargets h k q ps l (row_of h.graph (end_of q.start ps) l)
whole_row h ok k q ps l why = record {
  enough = row_targets (state_of h) q ps l ok;
  kept = λ t c over. elim why [
    | inl none ↦ none over.4 over.5
    | inr goes ↦ over.0 (subst (IsContinuable q.expr) (sym (word_of-append ps (step_to l t ∷ []))) goes)
  ];
}

-- ---- paths and items

pub passes_more : {D : Type 0} (h : HeldOf D) (k : Wanting D) (q : Asked D) (old now : List (List Step)) (start : Scope) (ps : List Step) (l : ℕ) (ts : List Scope) → now ≡ old ++ into_targets start ps l ts → ((t : Scope) → Contains ts t → IsPassedOver h k q (ps ++ step_to l t ∷ []) → ⊥) → PassesOver h k q old → PassesOver h k q now
passes_more h k q old now start ps l ts is kept none p c over =
    elim (Contains-append_cases old (into_targets start ps l ts) p (subst (λ (r : List (List Step)). Contains r p) is c)) [
      | inl o ↦ none p o over
      | inr m ↦ let i = into_from start ps l ts p m in kept i.0 i.1 (subst (IsPassedOver h k q) i.3 over)
    ]

keyed_item : {D : Type 0} (h : HeldOf D) (k : Wanting D) (q : Asked D) (paths : List (List Step)) → PassesOver h k q paths → (x : Item) → Contains paths (path_of x) → IsItem (state_of h) q x → IsKeyedItem h k q x
keyed_item h k q paths none (next ps l) c i = i
keyed_item h k q paths none (whole ps) c i = (i, none ps c)

-- one that is left and not blocked is a keyed item beyond all that were explored
pub more_keyed : {D : Type 0} (h : HeldOf D) (k : Wanting D) (q : Asked D) (f : Front D) (done : List Item) (s : StandsAfter (state_of h) q f done) → PassesOver h k q f.paths → (x : Item) → Contains f.left x → (IsBlocked (state_of h) q.start x → ⊥) → MoreThan f.explored (IsKeyedItem h k q)
more_keyed h k q f done s none x c n = (
  x ∷ done,
  omega (arith, s.count),
  ((λ d. s.apart x d c), s.done_once),
  (
    keyed_item h k q f.paths none x ((s.offered x).0 (inr c)).0 (item_left (state_of h) q f done s x c n),
    each_from (IsKeyedItem h k q) done (λ y d. keyed_item h k q f.paths none y ((s.offered y).0 (inl d)).0 (item_done (state_of h) q f done s y d)),
  ),
)

-- the set of the words behind a label has a longer word exactly where a word goes on behind it
pub ends_behind : (e : ExprOf) (ns : NodesOf) (start : Scope) (place l set : ℕ) (n : NodeOf) (ps : List Step) → n ≡ slice_index_or ns.items place n → IsNodeOf start e n ps → IsRestAfter ns place l set → ((w : Word) × (w ≢ []) × Accepts ns.words set w → ⊥) → IsContinuable e (word_of ps ++ l ∷ []) → ⊥
ends_behind e ns start place l set n ps at node after none goes =
    none (goes.0, goes.1, (after n at goes.0).1 ((node.rest (l ∷ goes.0)).1 (subst (In e) (append_assoc (word_of ps) (l ∷ []) goes.0) goes.2)))

pub goes_behind : (e : ExprOf) (ns : NodesOf) (start : Scope) (place l set : ℕ) (n : NodeOf) (ps : List Step) → n ≡ slice_index_or ns.items place n → IsNodeOf start e n ps → IsRestAfter ns place l set → (w : Word) × (w ≢ []) × Accepts ns.words set w → IsContinuable e (word_of ps ++ l ∷ [])
goes_behind e ns start place l set n ps at node after some =
    (some.0, some.1, subst (In e) (sym (append_assoc (word_of ps) (l ∷ []) some.0)) ((node.rest (l ∷ some.0)).0 ((after n at some.0).0 some.2)))

-- ---- results

pub on_ok : {X E : Type 0} (A B : Type 0) (r : Result X E) → OnOk r A → (A → B) → OnOk r B
on_ok A B (Ok x) a f = f a
on_ok A B (Err e) a f = tt
