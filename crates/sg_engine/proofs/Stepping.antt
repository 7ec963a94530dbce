-- One item explored, as the tree holds it.
use Rattle.std.proofs.Common.{◌≡◌, ℕ, ◌<◌, ◌+◌, List, [], ◌∷◌, ◌++◌, ◌⊎◌, ◌↔◌, IsTrue, map, length, length-append, inl, inr, sym, ap, ◌∙◌, subst, arith}
use Rattle.std.specs.List.{Contains, AllByRecursion}
use Rattle.std.proofs.lemmas.List.Elements.{Contains-append_left, Contains-append_cases, Contains-push}
use Rattle.sg_base.specs.declared.scope.Scope.{Scope}
use Rattle.sg_base.specs.Graph.{HasDatum}
use Rattle.sg_base.specs.List.{IsDistinct}
use Rattle.sg_base.specs.Path.{PathOf, end_of}
use Rattle.sg_base.specs.PathTree.{path_at}
use Rattle.sg_base.specs.State.{State}
use Rattle.sg_base.proofs.Finite.{single, Contains-map, Distinct-push}
use Rattle.sg_base.proofs.Scopes.{path_by}
use Rattle.sg_expr.specs.Tree.{ExprOf}
use Rattle.sg_query.specs.declared.found.Found.{Found}
use Rattle.sg_query.specs.declared.found_at.FoundAt.{FoundAt}
use Rattle.sg_query.specs.Query.{Asked}
use Rattle.sg_query.specs.State.{Item, next, whole}
use Rattle.sg_query.proofs.Walking.{found_by}
use Rattle.sg_engine.specs.Nodes.{NodeOf as Node}
use Rattle.sg_engine.specs.declared.work.Work.{Work}
use Rattle.sg_engine.specs.declared.work.Work.TheVariants.{Next, Whole}
use Rattle.sg_engine.specs.Front.{Front, AreTargets, Stands}
use Rattle.sg_engine.specs.Growth.{Gains, with_left, one_explored, into_targets}
use Rattle.sg_engine.specs.Tree.{paths_of, item_of, place_of, found_of, front_on, IsTreeOn, BlocksWork}
use Rattle.sg_engine.proofs.Exploring.{stands_next, stands_whole}
use Rattle.sg_engine.proofs.Growing.{map-append}
use Rattle.sg_engine.proofs.Offering.{map-push}

-- ---- what holds of each

pub each_cut : {X : Type 0} (P : X → Type 0) (b r : List X) (x : X) → AllByRecursion P (b ++ x ∷ r) → AllByRecursion P (b ++ r)
each_cut P [] r x a = a.1
each_cut P (y ∷ b) r x a = (a.0, each_cut P b r x a.1)

pub each_push : {X : Type 0} (P : X → Type 0) (xs : List X) (x : X) → AllByRecursion P xs → P x → AllByRecursion P (xs ++ x ∷ [])
each_push P [] x a p = (p, tt)
each_push P (y ∷ xs) x a p = (a.0, each_push P xs x a.1 p)

-- the tree after an item that was taken is explored, with what was found then
pub tree_took : {D : Type 0} (e : ExprOf) (start : Scope) (nodes : List Node) (b r : List Work) (w : Work) (found found' : List (FoundAt D)) (explored going : ℕ) → AllByRecursion (λ f. f.place < length nodes) found' → IsTreeOn e start nodes (b ++ w ∷ r) found explored going → IsTreeOn e start nodes (b ++ r) found' (explored + 1) going
tree_took e start nodes b r w found found' explored going placed tree = record {
  root = tree.root;
  node = tree.node;
  first = tree.first;
  grown = tree.grown;
  left_in = each_cut (λ w. place_of w < length nodes) b r w tree.left_in;
  found_in = placed;
  few = tree.few;
  counted = omega (arith, tree.counted, length-append b (w ∷ r), length-append b r);
}

-- ---- one item

module _ {D : Type 0} (h : State D) (q : Asked D) (nodes : List Node) (blocked work : List Work) (found : List (FoundAt D)) (explored going : ℕ) where
  next_here : (k l : ℕ) (ts : List Scope) → AreTargets h q (path_at (paths_of nodes) k) l ts → (now : Front D) → Stands h q (front_on q.start nodes (blocked ++ Next k l ∷ work) found explored going) → (BlocksWork h q.start nodes (Next k l) → ⊥) → Gains q.expr (front_on q.start nodes (blocked ++ work) found (explored + 1) going) now (into_targets q.start (path_at (paths_of nodes) k) l ts) → Stands h q now
  next_here k l ts targets now s free gains =
      let at = map-append (item_of (paths_of nodes)) blocked (Next k l ∷ work) in
      let f : Front D = front_on q.start nodes (blocked ++ Next k l ∷ work) found explored going in
      let cut : Gains q.expr (one_explored (with_left f (map (item_of (paths_of nodes)) blocked ++ map (item_of (paths_of nodes)) work))) now (into_targets q.start (path_at (paths_of nodes) k) l ts) =
      subst (λ (t : List Item). Gains q.expr (one_explored (with_left f t)) now (into_targets q.start (path_at (paths_of nodes) k) l ts)) (map-append (item_of (paths_of nodes)) blocked work) gains in (
        next (path_at (paths_of nodes) k) l ∷ s.0,
        stands_next h q f s.0 s.1 (map (item_of (paths_of nodes)) blocked) (map (item_of (paths_of nodes)) work) (path_at (paths_of nodes) k) l at free ts targets now cut,
      )

  pub step_next : (start : Scope) → q.start ≡ start → (k l : ℕ) (ts : List Scope) → AreTargets h q (path_at (paths_of nodes) k) l ts → (now : Front D) → Stands h q (front_on start nodes (blocked ++ Next k l ∷ work) found explored going) → (BlocksWork h start nodes (Next k l) → ⊥) → Gains q.expr (front_on start nodes (blocked ++ work) found (explored + 1) going) now (into_targets start (path_at (paths_of nodes) k) l ts) → Stands h q now
  step_next start e k l ts targets now =
      subst (λ (t : Scope). Stands h q (front_on t nodes (blocked ++ Next k l ∷ work) found explored going) → (BlocksWork h t nodes (Next k l) → ⊥) → Gains q.expr (front_on t nodes (blocked ++ work) found (explored + 1) going) now (into_targets t (path_at (paths_of nodes) k) l ts) → Stands h q now) e (next_here k l ts targets now)

  abbrev pub Reads : Scope → ℕ → List (FoundAt D) → Type 0
  Reads start k found' =
      ((y : Found D) → (Contains (map (found_of start (paths_of nodes)) found') y) ↔ (Contains (map (found_of start (paths_of nodes)) found) y ⊎ ((y.path.start ≡ start) × (y.path.steps ≡ path_at (paths_of nodes) k) × HasDatum h.graph (end_of start (path_at (paths_of nodes) k)) y.datum × IsTrue (q.wants y.datum))))
      × (IsDistinct (map (λ y. y.path) (map (found_of start (paths_of nodes)) found)) → ((y : Found D) → Contains (map (found_of start (paths_of nodes)) found) y → y.path.steps ≡ path_at (paths_of nodes) k → ⊥) → IsDistinct (map (λ y. y.path) (map (found_of start (paths_of nodes)) found')))

  whole_here : (k : ℕ) (found' : List (FoundAt D)) → Reads q.start k found' → Stands h q (front_on q.start nodes (blocked ++ Whole k ∷ work) found explored going) → (BlocksWork h q.start nodes (Whole k) → ⊥) → Stands h q (front_on q.start nodes (blocked ++ work) found' (explored + 1) going)
  whole_here k found' reads s free =
      let at = map-append (item_of (paths_of nodes)) blocked (Whole k ∷ work) in
      let f : Front D = front_on q.start nodes (blocked ++ Whole k ∷ work) found explored going in
      let after = stands_whole h q f s.0 s.1 (map (item_of (paths_of nodes)) blocked) (map (item_of (paths_of nodes)) work) (path_at (paths_of nodes) k) at free (map (found_of q.start (paths_of nodes)) found') reads.0 reads.1 in
      subst (λ (t : List Item). Stands h q (record { paths = paths_of nodes; left = t; found = map (found_of q.start (paths_of nodes)) found'; explored = explored + 1; going = going })) (sym (map-append (item_of (paths_of nodes)) blocked work)) (whole (path_at (paths_of nodes) k) ∷ s.0, after)

  pub step_whole : (start : Scope) → q.start ≡ start → (k : ℕ) (found' : List (FoundAt D)) → Reads start k found' → Stands h q (front_on start nodes (blocked ++ Whole k ∷ work) found explored going) → (BlocksWork h start nodes (Whole k) → ⊥) → Stands h q (front_on start nodes (blocked ++ work) found' (explored + 1) going)
  step_whole start e k found' =
      subst (λ (t : Scope). Reads t k found' → Stands h q (front_on t nodes (blocked ++ Whole k ∷ work) found explored going) → (BlocksWork h t nodes (Whole k) → ⊥) → Stands h q (front_on t nodes (blocked ++ work) found' (explored + 1) going)) e (whole_here k found')

  pub reads_none : (start : Scope) (k : ℕ) → ((d : D) → HasDatum h.graph (end_of start (path_at (paths_of nodes) k)) d → IsTrue (q.wants d) → ⊥) → Reads start k found
  reads_none start k none = ((λ y. ((λ c. inl c), (λ c. elim c [ inl m ↦ m | inr m ↦ absurd (none y.datum m.2 m.3) ]))), (λ d n. d))

  pub reads_one : (start : Scope) (k : ℕ) (x : FoundAt D) → x.place ≡ k → ((d : D) → (HasDatum h.graph (end_of start (path_at (paths_of nodes) k)) d) ↔ (d ≡ x.datum)) → IsTrue (q.wants x.datum) → Reads start k (found ++ x ∷ [])
  reads_one start k x at only wanted =
      let here : Found D = found_of start (paths_of nodes) x in
      let same : map (found_of start (paths_of nodes)) (found ++ x ∷ []) ≡ map (found_of start (paths_of nodes)) found ++ here ∷ [] = map-push (found_of start (paths_of nodes)) found x in
      let steps : path_at (paths_of nodes) x.place ≡ path_at (paths_of nodes) k = ap (λ (j : ℕ). path_at (paths_of nodes) j) at in (
        (λ y. (
          (λ c. elim (Contains-append_cases (map (found_of start (paths_of nodes)) found) (here ∷ []) y (subst (λ (t : List (Found D)). Contains t y) same c)) [
            | inl m ↦ inl m
            | inr m ↦
                let e : y ≡ here = single here y m in
                let d : y.datum ≡ x.datum = ap (λ (f : Found D). f.datum) e in
                inr (ap (λ (f : Found D). f.path.start) e, ap (λ (f : Found D). f.path.steps) e ∙ steps, (only y.datum).1 d, subst (λ (v : D). IsTrue (q.wants v)) (sym d) wanted)
          ]),
          (λ c. subst (λ (t : List (Found D)). Contains t y) (sym same) (elim c [
            | inl m ↦ Contains-append_left (map (found_of start (paths_of nodes)) found) (here ∷ []) y m
            | inr m ↦
                let e : y ≡ here = found_by y here (path_by y.path here.path m.0 (m.1 ∙ sym steps)) ((only y.datum).0 m.2) in
                subst (λ (f : Found D). Contains (map (found_of start (paths_of nodes)) found ++ here ∷ []) f) (sym e) (Contains-push (map (found_of start (paths_of nodes)) found) here)
          ])),
        )),
        (λ d n.
            let paths : map (λ y. y.path) (map (found_of start (paths_of nodes)) (found ++ x ∷ [])) ≡ map (λ y. y.path) (map (found_of start (paths_of nodes)) found) ++ here.path ∷ [] =
            ap (map (λ (y : Found D). y.path)) same ∙ map-push (λ (y : Found D). y.path) (map (found_of start (paths_of nodes)) found) here in
            subst (λ (t : List PathOf). IsDistinct t) (sym paths)
            (Distinct-push (map (λ y. y.path) (map (found_of start (paths_of nodes)) found)) here.path d
            (λ c. let m = Contains-map (λ (y : Found D). y.path) (map (found_of start (paths_of nodes)) found) here.path c in
            n m.0 m.1 (ap (λ (p : PathOf). p.steps) (sym m.2) ∙ steps)))),
      )
