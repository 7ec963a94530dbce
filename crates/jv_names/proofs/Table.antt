-- A table whose kinds are those of a list, one by one.
use Rattle.std.proofs.Common.{◌≡◌, ℕ, zero, suc, ◌<◌, List, [], ◌∷◌, Result, Ok, Err, IfOk, length, map, slice_index_or, ◌++◌, ◌≤◌, refl, sym, ap, ◌∙◌, subst, arith}
use Rattle.std.specs.List.{AllByRecursion}
use Rattle.std.specs.declared.alloc.AllocError.{AllocError}
use Rattle.std.proofs.lemmas.List.{length-map}
use Rattle.sg_query.specs.declared.kind.Kind.{Kind}
use Rattle.sg_query.specs.Query.{KindOf, value_of_kind}
use Rattle.sg_expr.specs.Tree.{ExprOf, expr_of, no_word}
use Rattle.sg_expr.specs.Word.{ones_of}
use Rattle.jv_names.specs.Kinds.{JavaKind, IsKind, AllAre, AreKinds, kinds}

as_many : (js : List JavaKind) (ks : List KindOf) → AllAre js ks → length ks ≡ length js
as_many [] [] h = refl
as_many [] (k ∷ ks) h = absurd h
as_many (j ∷ js) [] h = absurd h
as_many (j ∷ js) (k ∷ ks) h = let e : length ks ≡ length js = as_many js ks h.1 in omega (arith, e)

each_is : (js : List JavaKind) (ks : List KindOf) (j : JavaKind) (k : KindOf) → AllAre js ks → (n : ℕ) → n < length js → IsKind (slice_index_or js n j) (slice_index_or ks n k)
each_is [] ks none nothing h n b = absurd (omega (arith, b))
each_is (j ∷ js) [] none nothing h n b = absurd h
each_is (j ∷ js) (k ∷ ks) none nothing h zero b = h.0
each_is (j ∷ js) (k ∷ ks) none nothing h (suc n) b = each_is js ks none nothing h.1 n (omega (arith, b))

are_kinds : (ks : List KindOf) → AllAre kinds ks → AreKinds ks
are_kinds ks h =
    let each : (n : ℕ) → n < length kinds → IsKind (slice_index_or kinds n (record { words = no_word; labels = [] })) (slice_index_or ks n (record { expr = no_word; order = [] })) = each_is kinds ks (record { words = no_word; labels = [] }) (record { expr = no_word; order = [] }) h in
    record { count = as_many kinds ks h; words = λ k b. (each k b).words; order = λ k a b below. (each k below).order a b }

-- the table of kinds that are those of Java
pub table_is : (items : List Kind) (r : Result (List KindOf) AllocError) → AllAre kinds (map value_of_kind items) → IfOk r (λ t. t ≡ map value_of_kind items) → IfOk r AreKinds
table_is items (Ok t) h e = subst AreKinds (sym e) (are_kinds (map value_of_kind items) h)
table_is items (Err e) h k = tt

-- ---- kinds that are added one by one

-- with one kind more behind them
one_more : (js : List JavaKind) (j : JavaKind) (ks : List Kind) (k : Kind) → AllAre js (map value_of_kind ks) → IsKind j (value_of_kind k) → AllAre (js ++ j ∷ []) (map value_of_kind (ks ++ k ∷ []))
one_more [] j [] k h i = (i, tt)
one_more [] j (l ∷ ks) k h i = absurd h
one_more (m ∷ js) j [] k h i = absurd h
one_more (m ∷ js) j (l ∷ ks) k h i = (h.0, one_more js j ks k h.1 i)

pub added : (js : List JavaKind) (j : JavaKind) (old new : List Kind) (k : Kind) → AllAre js (map value_of_kind old) → IsKind j (value_of_kind k) → new ≡ old ++ k ∷ [] → AllAre (js ++ j ∷ []) (map value_of_kind new)
added js j old new k h i e = subst (λ (ks : List Kind). AllAre (js ++ j ∷ []) (map value_of_kind ks)) (sym e) (one_more js j old k h i)

-- ---- how large they are

small_as : (n m : ℕ) → n ≡ m → m ≤ 63 → n ≤ 63
small_as n m e h = omega (arith, e, h)

-- in each kind of Java at most six labels stand
labels_few : AllByRecursion (λ (j : JavaKind). ones_of j.words ≤ 63) kinds
labels_few =
    (small_as _ 1 refl (omega arith), (small_as _ 1 refl (omega arith), (small_as _ 2 refl (omega arith), (small_as _ 6 refl (omega arith), (small_as _ 2 refl (omega arith), (small_as _ 2 refl (omega arith), (small_as _ 3 refl (omega arith), (small_as _ 1 refl (omega arith), (small_as _ 1 refl (omega arith), (small_as _ 1 refl (omega arith), tt))))))))))

small_by : (js : List JavaKind) (ks : List Kind) → AllByRecursion (λ (j : JavaKind). ones_of j.words ≤ 63) js → AllAre js (map value_of_kind ks) → AllByRecursion (λ (k : Kind). ones_of (expr_of k.expr) ≤ 63) ks
small_by [] [] few h = tt
small_by [] (k ∷ ks) few h = absurd h
small_by (j ∷ js) [] few h = absurd h
small_by (j ∷ js) (k ∷ ks) few h = (subst (λ (e : ExprOf). ones_of e ≤ 63) (sym h.0.words) few.0, small_by js ks few.1 h.1)

-- few enough, and each small enough, for a table
pub few_kinds : (ks : List Kind) → AllAre kinds (map value_of_kind ks) → length ks ≤ 255
few_kinds ks h =
    let ten : length kinds ≡ 10 = refl in
    omega (arith, ten, as_many kinds (map value_of_kind ks) h, length-map ks value_of_kind)

pub small_kinds : (ks : List Kind) → AllAre kinds (map value_of_kind ks) → AllByRecursion (λ (k : Kind). ones_of (expr_of k.expr) ≤ 63) ks
small_kinds ks h = small_by kinds ks labels_few h
