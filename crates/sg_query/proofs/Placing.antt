-- The positions of the kinds of a table, at the kinds' places.
use Rattle.std.proofs.Common.{◌≡◌, ℕ, ◌+◌, ◌<◌, List, [], ◌∷◌, ◌++◌, refl, sym, ap, ◌∙◌, subst, length, get_or, map, inl, inr, arith}
use Rattle.std.specs.List.{AllByRecursion}
use Rattle.std.proofs.lemmas.Bool.{cases_eq}
use Rattle.std.proofs.lemmas.List.{get_or_append_left, get_or_push, get_or-map, length-map}
use Rattle.sg_base.proofs.Finite.{each_at}
use Rattle.sg_expr.specs.Positions.{PositionsOf}
use Rattle.sg_expr.specs.Tree.{no_word}
use Rattle.sg_query.specs.declared.kind.Kind.{Kind}
use Rattle.sg_query.specs.Kinds.{IsPositionsOf, ArePositions}
use Rattle.sg_query.specs.Query.{KindOf, value_of_kind, kind_of}

pub all_at : {X : Type 0} (P : X → Type 0) (xs : List X) (i : ℕ) (x : X) → AllByRecursion P xs → i < length xs → x ≡ get_or xs i x → P x
all_at P xs i x h l e = each_at P xs h x (i, l, sym e)

-- the kind at a place of a table's value
pub kind_read : (items : List Kind) (kinds : List KindOf) (i : ℕ) (k : Kind) → map value_of_kind items ≡ kinds → i < length kinds → k ≡ get_or items i k → value_of_kind k ≡ kind_of kinds i
kind_read items kinds i k same l at =
    let size : length kinds ≡ length items = ap length (sym same) ∙ length-map items value_of_kind in
    let none : KindOf = record { expr = no_word; order = [] } in
    let read : get_or (map value_of_kind items) i none ≡ value_of_kind (get_or items i k) = get_or-map value_of_kind items i k none (omega arith) in
    ap value_of_kind at ∙ sym read ∙ ap (λ (t : List KindOf). kind_of t i) same

-- the first kinds have their positions
abbrev pub FirstPlaced : List Kind → List PositionsOf → ℕ → Type 0
FirstPlaced kinds positions n = (i : ℕ) (p : PositionsOf) → i < n → IsPositionsOf (kind_of (map value_of_kind kinds) i) (get_or positions i p)

pub placed_more : (kinds : List Kind) (positions : List PositionsOf) (n : ℕ) (k : Kind) (p : PositionsOf) → length positions ≡ n → n < length kinds → k ≡ get_or kinds n k → IsPositionsOf (value_of_kind k) p → FirstPlaced kinds positions n → FirstPlaced kinds (positions ++ p ∷ []) (n + 1)
placed_more kinds positions n k p size l at is first i q h =
    let sizes : length (map value_of_kind kinds) ≡ length kinds = length-map kinds value_of_kind in
    elim (cases_eq i n) [
      | inl e ↦
          let here : value_of_kind k ≡ kind_of (map value_of_kind kinds) i =
          kind_read kinds (map value_of_kind kinds) n k refl (omega arith) at ∙ ap (λ (j : ℕ). kind_of (map value_of_kind kinds) j) (sym e) in
          let new : get_or (positions ++ p ∷ []) i q ≡ p = get_or_push positions p q i (size ∙ sym e) in
          subst (λ (x : KindOf). IsPositionsOf x (get_or (positions ++ p ∷ []) i q)) here (subst (λ (x : PositionsOf). IsPositionsOf (value_of_kind k) x) (sym new) is)
      | inr apart ↦
          let near : i < length positions = omega arith in
          let old : get_or (positions ++ p ∷ []) i q ≡ get_or positions i q = get_or_append_left positions (p ∷ []) q i near in
          subst (λ (x : PositionsOf). IsPositionsOf (kind_of (map value_of_kind kinds) i) x) (sym old) (first i q (omega arith))
    ]

pub placed_all : (kinds : List Kind) (positions : List PositionsOf) (n : ℕ) → length positions ≡ n → n ≡ length kinds → FirstPlaced kinds positions n → ArePositions (map value_of_kind kinds) positions
placed_all kinds positions n size whole first =
    let sizes : length (map value_of_kind kinds) ≡ length kinds = length-map kinds value_of_kind in
    record { size = omega arith; each = λ i p h. first i p (omega arith) }

-- what is read at a place of the positions of a table's value
pub positions_read : (items : List Kind) (kinds : List KindOf) (positions : List PositionsOf) (i : ℕ) (p : PositionsOf) → map value_of_kind items ≡ kinds → ArePositions (map value_of_kind items) positions → i < length kinds → p ≡ get_or positions i p → IsPositionsOf (kind_of kinds i) p
positions_read items kinds positions i p same are l at =
    let each = subst (λ (t : List KindOf). ArePositions t positions) same are in
    subst (λ (x : PositionsOf). IsPositionsOf (kind_of kinds i) x) (sym at) (each.each i p l)

-- ---- positions that are shared

pub map_push : {X Y : Type 0} (f : X → Y) (xs : List X) (x : X) → map f (xs ++ x ∷ []) ≡ map f xs ++ f x ∷ []
map_push f [] x = refl
map_push {Y = Y} f (z ∷ xs) x = ap (λ (t : List Y). f z ∷ t) (map_push f xs x)

pub mapped_at : {X Y : Type 0} (f : X → Y) (xs : List X) (i : ℕ) (x : X) → i < length xs → x ≡ get_or xs i x → f x ≡ get_or (map f xs) i (f x)
mapped_at f xs i x l e = ap f e ∙ sym (get_or-map f xs i x (f x) l)

-- what is read at a place of shared positions
pub shared_read : {X : Type 0} (f : X → PositionsOf) (items : List Kind) (kinds : List KindOf) (shared : List X) (i : ℕ) (x : X) → map value_of_kind items ≡ kinds → ArePositions (map value_of_kind items) (map f shared) → i < length kinds → x ≡ get_or shared i x → IsPositionsOf (kind_of kinds i) (f x)
shared_read f items kinds shared i x same are l at =
    let size : length kinds ≡ length (map f shared) = sym (ap length same) ∙ sym are.size in
    positions_read items kinds (map f shared) i (f x) same are l (mapped_at f shared i x (omega (arith, size, length-map shared f, l)) at)

pub shared_more : {X : Type 0} (f : X → PositionsOf) (kinds : List Kind) (shared : List X) (n : ℕ) (k : Kind) (x : X) → length shared ≡ n → n < length kinds → k ≡ get_or kinds n k → IsPositionsOf (value_of_kind k) (f x) → FirstPlaced kinds (map f shared) n → FirstPlaced kinds (map f (shared ++ x ∷ [])) (n + 1)
shared_more f kinds shared n k x size l at is first = rw map_push (placed_more kinds (map f shared) n k (f x) (length-map shared f ∙ size) l at is first)
