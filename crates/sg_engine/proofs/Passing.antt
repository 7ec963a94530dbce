-- Scopes that paths go on from.
use Rattle.std.proofs.Common.{◌≡◌, ℕ, zero, suc, ◌<◌, ◌≤◌, ◌⊎◌, List, [], ◌∷◌, ◌++◌, Bool, true, false, cond, not, map, take, length, length-append, slice_index_or, Result, Ok, Err, OnOk, inl, inr, refl, sym, ap, ◌∙◌, subst, arith}
use Rattle.std.proofs.lemmas.Bool.{cases_lt}
use Rattle.std.proofs.lemmas.List.{get_or_append_left, get_or-take, length-take}
use Rattle.std.proofs.Math.Seq.{get_or-append_seam}
use Rattle.std.specs.List.{AllByRecursion}
use Rattle.std.specs.Prelude.{IsTrue}
use Rattle.sg_base.specs.declared.scope.Scope.{Scope}
use Rattle.sg_base.specs.PathTree.{path_at}
use Rattle.sg_base.specs.Scope.{is_scope}
use Rattle.sg_base.proofs.Finite.{each_at}
use Rattle.sg_base.proofs.Scopes.{same_scope}
use Rattle.sg_expr.specs.Positions.{PositionsOf}
use Rattle.sg_expr.specs.Tree.{ExprOf}
use Rattle.sg_query.specs.declared.found_at.FoundAt.{FoundAt}
use Rattle.sg_query.specs.Steps.{is_fresh}
use Rattle.sg_engine.specs.declared.work.Work.{Work}
use Rattle.sg_engine.specs.declared.nodes.Node.{Node}
use Rattle.sg_engine.specs.Nodes.{NodeOf, node_by, AreFew, few_nodes, IsPassed, StayPassed, EndsPass, GoOnFromBefore, ParentsPass, ArePassed, HasPassed, EndElsewhere}
use Rattle.sg_engine.specs.Tree.{paths_of, IsTreeOn}
use Rattle.sg_engine.proofs.Growing.{fresh_up, fresh_root}
use Rattle.sg_engine.proofs.Resting.{one_at, there_is, many}

-- ---- one more scope

pub still_passed : (here was now : Bool) → now ≡ cond here true was → IsTrue was → IsTrue now
still_passed true was now e w = e
still_passed false was now e w = e ∙ w

pub now_passed : (x : Scope) (was now : Bool) → now ≡ cond (is_scope x x) true was → IsTrue now
now_passed x was now e = e ∙ ap (λ (b : Bool). cond b true was) (same_scope x x refl)

-- ---- nodes that come and go

pub one_passed : (passed : List Scope) (last : Scope) (n : NodeOf) → ArePassed passed last (n ∷ [])
one_passed passed last n = ((λ i m z h e. absurd (omega (arith, z, h))), inl (omega (arith)))

pub passed_more : (passed more : List Scope) (items : List NodeOf) → StayPassed passed more → ParentsPass passed items → ParentsPass more items
passed_more passed more items up all i n z h e = let old = all i n z h e in (old.0, λ m k. up m.step.to (old.1 m k))

pub passed_push : (passed : List Scope) (items : List NodeOf) (x over : NodeOf) → x.parent < length items → over ≡ slice_index_or items x.parent over → IsPassed passed over.step.to → ParentsPass passed items → ParentsPass passed (items ++ x ∷ [])
passed_push passed items x over below at pass all i n z h e =
    elim (cases_lt i (length items)) [
      | inl low ↦
          let old = all i n z low (e ∙ get_or_append_left items (x ∷ []) n i low) in
          (old.0, λ m k. old.1 m (k ∙ get_or_append_left items (x ∷ []) m n.parent (omega (arith, old.0, low))))
      | inr far ↦
          let here : i ≡ length items = omega (arith, length-append items (x ∷ []), h, far) in
          let same : n ≡ x = e ∙ (ap (λ (j : ℕ). slice_index_or (items ++ x ∷ []) j n) here ∙ get_or-append_seam items x [] n) in
          let up : n.parent ≡ x.parent = ap (λ (y : NodeOf). y.parent) same in (
            omega (arith, up, below, here),
            λ m k.
                let its : m ≡ over = one_at items x.parent m over below (k ∙ (get_or_append_left items (x ∷ []) m n.parent (omega (arith, up, below)) ∙ ap (λ (j : ℕ). slice_index_or items j m) up)) at in
                subst (λ (y : NodeOf). IsPassed passed y.step.to) (sym its) pass,
          )
    ]

pub passed_take : (passed : List Scope) (items : List NodeOf) (k : ℕ) → ParentsPass passed items → ParentsPass passed (take k items)
passed_take passed items k all i n z h e =
    let size = length-take k items in
    let near : i < k = omega (arith, size, h) in
    let old = all i n z (omega (arith, size, h)) (e ∙ get_or-take k items i n near) in
    (old.0, λ m j. old.1 m (j ∙ get_or-take k items n.parent m (omega (arith, old.0, near))))

before_push : (items : List NodeOf) (x : NodeOf) → x.parent < length items → GoOnFromBefore items → GoOnFromBefore (items ++ x ∷ [])
before_push items x below all i n z h e =
    elim (cases_lt i (length items)) [
      | inl low ↦ all i n z low (e ∙ get_or_append_left items (x ∷ []) n i low)
      | inr far ↦
          let here : i ≡ length items = omega (arith, length-append items (x ∷ []), h, far) in
          let same : n ≡ x = e ∙ (ap (λ (j : ℕ). slice_index_or (items ++ x ∷ []) j n) here ∙ get_or-append_seam items x [] n) in
          omega (arith, ap (λ (y : NodeOf). y.parent) same, below, here)
    ]

before_take : (items : List NodeOf) (k : ℕ) → GoOnFromBefore items → GoOnFromBefore (take k items)
before_take items k all i n z h e =
    let size = length-take k items in
    all i n z (omega (arith, size, h)) (e ∙ get_or-take k items i n (omega (arith, size, h)))

-- where all ends are passed
ends_pass : (passed : List Scope) (items : List NodeOf) → AllByRecursion (λ n. IsPassed passed n.step.to) items → GoOnFromBefore items → ParentsPass passed items
ends_pass passed items ends before i n z h e =
    let up = before i n z h e in
    (up, λ m k. each_at (λ (y : NodeOf). IsPassed passed y.step.to) items ends m (n.parent, omega (arith, up, h), sym k))

-- ---- few nodes and many

pub ends_of : (words : PositionsOf) (passed : List Scope) (ns : List Node) → EndsPass passed ns → AllByRecursion (λ n. IsPassed passed n.step.to) (map (node_by words) ns)
ends_of words passed [] all = tt
ends_of words passed (n ∷ ns) all = (all.0, ends_of words passed ns all.1)

pub ends_more : (passed more : List Scope) (ns : List Node) → StayPassed passed more → EndsPass passed ns → EndsPass more ns
ends_more passed more [] up all = tt
ends_more passed more (n ∷ ns) up all = (up n.step.to all.0, ends_more passed more ns up all.1)

pub ends_push : (passed : List Scope) (ns : List Node) (m : Node) → EndsPass passed ns → IsPassed passed m.step.to → EndsPass passed (ns ++ m ∷ [])
ends_push passed [] m all at = (at, tt)
ends_push passed (n ∷ ns) m all at = (all.0, ends_push passed ns m all.1 at)

-- a call that passed all ends
pub all_passed : {T E : Type 0} (r : Result T E) (passed : List Scope) (last from : Scope) (words : PositionsOf) (ns : List Node) → OnOk r (IsPassed passed last) → OnOk r (IsPassed passed from) → OnOk r (EndsPass passed ns) → OnOk r (HasPassed passed last from (map (node_by words) ns))
all_passed (Ok v) passed last from words ns a b all = inr (a, b, λ e. ends_of words passed ns all)
all_passed (Err x) passed last from words ns a b all = tt

-- more is passed, and as many nodes are there
pub still_few : (passed more : List Scope) (last last' : Scope) (items : List NodeOf) → StayPassed passed more → AreFew items ⊎ IsPassed more last' → ArePassed passed last items → ArePassed more last' items
still_few passed more last last' items up (inl few) all = (all.0, inl few)
still_few passed more last last' items up (inr at) all = (
  all.0,
  elim all.1 [
    | inl few ↦ inl few
    | inr old ↦ inr (passed_more passed more items up old.0, at)
  ],
)

pub few_or_push : (passed more : List Scope) (last last' : Scope) (items : List NodeOf) (x over : NodeOf) → x.parent < length items → over ≡ slice_index_or items x.parent over → StayPassed passed more → HasPassed more last' over.step.to items → ArePassed passed last items → ArePassed more last' (items ++ x ∷ [])
few_or_push passed more last last' items x over below at up (inl room) all = (before_push items x below all.0, inl (omega (arith, length-append items (x ∷ []), room)))
few_or_push passed more last last' items x over below at up (inr (l, from, ends)) all =
    let parents : (AreFew items ⊎ (ParentsPass passed items × IsPassed passed last)) → (length items < few_nodes) ⊎ ParentsPass more items = λ k. elim k [
      | inl few ↦ elim (cases_lt (length items) few_nodes) [
        | inl room ↦ inl room
        | inr full ↦ inr (ends_pass more items (ends (omega (arith, few, full))) all.0)
      ]
      | inr old ↦ inr (passed_more passed more items up old.0)
    ] in (
      before_push items x below all.0,
      elim (parents all.1) [
        | inl room ↦ inl (omega (arith, length-append items (x ∷ []), room))
        | inr old ↦ inr (passed_push more items x over below at from old, l)
      ],
    )

pub few_or_take : (passed : List Scope) (last : Scope) (items : List NodeOf) (k : ℕ) → ArePassed passed last items → ArePassed passed last (take k items)
few_or_take passed last items k all = (
  before_take items k all.0,
  elim all.1 [
    | inl few ↦ inl (omega (arith, length-take k items, few))
    | inr old ↦ inr (passed_take passed items k old.0, old.1)
  ],
)

-- where there are more than a few
pub not_few : (passed : List Scope) (last : Scope) (items : List NodeOf) → few_nodes < length items → ArePassed passed last items → ParentsPass passed items
not_few passed last items many all = elim all.1 [
  | inl few ↦ absurd (omega (arith, many, few))
  | inr old ↦ old.0
]

-- ---- paths that pass by a scope nowhere

module _ {D : Type 0} (e : ExprOf) (start : Scope) (nodes : List NodeOf) (left : List Work) (found : List (FoundAt D)) (explored going : ℕ) (tree : IsTreeOn e start nodes left found explored going) (t : Scope) where
  fresh_above : (place : ℕ) → EndElsewhere nodes place t → (many k : ℕ) (n : NodeOf) → k ≤ many → k < length nodes → n ≡ slice_index_or nodes k n → is_scope n.step.to t ≡ false → is_fresh start (path_at (paths_of nodes) k) t ≡ not (is_scope t start)
  fresh_above place none many zero n few h at here = fresh_root start (path_at (paths_of nodes) 0) t tree.first
  fresh_above place none zero (suc k) n few h at here = absurd (omega (arith, few))
  fresh_above place none (suc many) (suc k) n few h at here =
      let g = tree.grown (suc k) n (omega arith) h at in
      let there : n.parent < length nodes = omega (arith, g.0, h) in
      let up = there_is nodes n.parent there in
      fresh_up start (path_at (paths_of nodes) n.parent) (path_at (paths_of nodes) (suc k)) n.step t g.1 here
      ∙ fresh_above place none many n.parent up.0 (omega (arith, g.0, few)) there up.1 (none.1 (suc k) n up.0 (omega arith) h at up.1)

  pub fresh_elsewhere : (place : ℕ) → place < length nodes → EndElsewhere nodes place t → is_fresh start (path_at (paths_of nodes) place) t ≡ not (is_scope t start)
  fresh_elsewhere place h none = let here = there_is nodes place h in fresh_above place none place place here.0 (omega arith) h here.1 (none.0 here.0 here.1)
