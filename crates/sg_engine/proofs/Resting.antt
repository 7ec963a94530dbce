-- Nodes that hold sets of positions.
use Rattle.std.proofs.Common.{◌≡◌, ℕ, zero, suc, ◌<◌, List, [], ◌∷◌, ◌++◌, ◌↔◌, map, take, length, slice_index_or, refl, sym, ap, ◌∙◌, subst, arith}
use Rattle.std.proofs.lemmas.List.{get_or_append_left}
use Rattle.sg_base.specs.Label.{Word}
use Rattle.sg_expr.specs.Positions.{PositionsOf, Accepts}
use Rattle.sg_engine.specs.declared.nodes.Node.{Node}
use Rattle.sg_engine.specs.Nodes.{NodeOf, NodesOf, node_by, InRest, IsRestAfter}
use Rattle.sg_engine.specs.Tree.{IsFrontOf}

-- ---- nodes by place

pub node_at : (ws : PositionsOf) (ns : List Node) (k : ℕ) (m : Node) → k < length ns → m ≡ slice_index_or ns k m → node_by ws m ≡ slice_index_or (map (node_by ws) ns) k (node_by ws m)
node_at ws [] k m h e = absurd (omega (arith, h))
node_at ws (n ∷ ns) zero m h e = ap (node_by ws) e
node_at ws (n ∷ ns) (suc k) m h e = node_at ws ns k m (omega (arith, h)) e

pub one_at : {X : Type 0} (xs : List X) (k : ℕ) (x y : X) → k < length xs → x ≡ slice_index_or xs k x → y ≡ slice_index_or xs k y → x ≡ y
one_at [] k x y h a b = absurd (omega (arith, h))
one_at (z ∷ xs) zero x y h a b = a ∙ sym b
one_at (z ∷ xs) (suc k) x y h a b = one_at xs k x y (omega (arith, h)) a b

pub many : (ws : PositionsOf) (ns : List Node) → length (map (node_by ws) ns) ≡ length ns
many ws [] = refl
many ws (n ∷ ns) = ap (λ (k : ℕ). suc k) (many ws ns)

pub there_is : {X : Type 0} (xs : List X) (k : ℕ) → k < length xs → (x : X) × (x ≡ slice_index_or xs k x)
there_is [] k h = absurd (omega (arith, h))
there_is (x ∷ xs) zero h = (x, refl)
there_is (x ∷ xs) (suc k) h = there_is xs k (omega (arith, h))

-- ---- nodes that come and go

pub map_push : (ws : PositionsOf) (ns : List Node) (m : Node) → map (node_by ws) (ns ++ m ∷ []) ≡ map (node_by ws) ns ++ node_by ws m ∷ []
map_push ws [] m = refl
map_push ws (n ∷ ns) m = ap (λ (t : List NodeOf). node_by ws n ∷ t) (map_push ws ns m)

pub map_take : (ws : PositionsOf) (k : ℕ) (ns : List Node) → map (node_by ws) (take k ns) ≡ take k (map (node_by ws) ns)
map_take ws zero ns = refl
map_take ws (suc k) [] = refl
map_take ws (suc k) (n ∷ ns) = ap (λ (t : List NodeOf). node_by ws n ∷ t) (map_take ws k ns)

-- ---- the words behind a node over a label

-- in more nodes
pub after_kept : (ns ms : NodesOf) (place l set : ℕ) → IsFrontOf ns.items ms.items → ms.words ≡ ns.words → place < length ns.items → IsRestAfter ns place l set → IsRestAfter ms place l set
after_kept ns ms place l set more same there after n e w =
    let here : n ≡ slice_index_or ns.items place n = e ∙ (ap (λ (t : List NodeOf). slice_index_or t place n) more.1 ∙ get_or_append_left ns.items more.0 n place there) in
    subst (λ (ws : PositionsOf). (Accepts ws set w) ↔ (InRest n.rest (l ∷ w))) (sym same) (after n here w)

-- the set that a step leads to
pub step_after : (ws : PositionsOf) (ns : List Node) (place : ℕ) (m : Node) → place < length ns → m ≡ slice_index_or ns place m → (l set : ℕ) → ((w : Word) → (Accepts ws set w) ↔ (Accepts ws m.set (l ∷ w))) → IsRestAfter (record { words = ws; items = map (node_by ws) ns }) place l set
step_after ws ns place m there at l set step n e w =
    let its : n ≡ node_by ws m = one_at (map (node_by ws) ns) place n (node_by ws m) (omega (arith, many ws ns, there)) e (node_at ws ns place m there at) in
    subst (λ (x : NodeOf). (Accepts ws set w) ↔ (InRest x.rest (l ∷ w))) (sym its) (step w)
