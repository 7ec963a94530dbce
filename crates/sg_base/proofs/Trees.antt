-- Trees of paths: what one more node adds, and how the orders of paths follow their common front.
use Rattle.std.proofs.Common.{◌≡◌, ℕ, zero, suc, ◌+◌, ◌-◌, ◌<◌, ◌≤◌, List, [], ◌∷◌, ◌++◌, ◌⊎◌, inl, inr, refl, sym, ap, ◌∙◌, subst, length, length-append, slice_index_or, arith}
use Rattle.std.specs.Cmp.{nat_cmp_total, nat_cmp_is}
use Rattle.std.specs.Cmp.Lexicographic.{slice_cmp}
use Rattle.std.specs.Ordering.{ordering_then, ordering_reverse, nat_cmp}
use Rattle.std.specs.declared.cmp.Ordering.{Ordering}
use Rattle.std.specs.declared.cmp.Ordering.TheVariants.{Less, Equal, Greater}
use Rattle.sg_base.specs.declared.path_node.PathNode.{PathNode}
use Rattle.sg_base.specs.declared.scope.Scope.{Scope}
use Rattle.sg_base.specs.declared.step.Step.{Step}
use Rattle.sg_base.specs.Path.{end_of, step_cmp, step_total}
use Rattle.sg_base.specs.PathTree.{path_at, paths_from, paths_of, IsLaid, AreLaid}

-- ---- places

pub path_at-left : (ps qs : List (List Step)) (k : ℕ) → k < length ps → path_at (ps ++ qs) k ≡ path_at ps k
path_at-left [] qs k l = absurd (omega arith)
path_at-left (p ∷ ps) qs zero l = refl
path_at-left (p ∷ ps) qs (suc k) l = path_at-left ps qs k (omega arith)

pub path_at-end : (ps : List (List Step)) (p : List Step) → path_at (ps ++ p ∷ []) (length ps) ≡ p
path_at-end [] p = refl
path_at-end (q ∷ ps) p = path_at-end ps p

paths_from-push : (acc : List (List Step)) (ns : List PathNode) (n : PathNode) → paths_from acc (ns ++ n ∷ []) ≡ paths_from acc ns ++ (path_at (paths_from acc ns) n.parent ++ n.step ∷ []) ∷ []
paths_from-push acc [] n = refl
paths_from-push acc (m ∷ ns) n = paths_from-push (acc ++ (path_at acc m.parent ++ m.step ∷ []) ∷ []) ns n

paths_from-length : (acc : List (List Step)) (ns : List PathNode) → length (paths_from acc ns) ≡ length acc + length ns
paths_from-length acc [] = omega arith
paths_from-length acc (m ∷ ns) =
    let more : List (List Step) = acc ++ (path_at acc m.parent ++ m.step ∷ []) ∷ [] in
    omega (arith, paths_from-length more ns, length-append acc ((path_at acc m.parent ++ m.step ∷ []) ∷ []))

paths_from-first : (acc : List (List Step)) (ns : List PathNode) (k : ℕ) → k < length acc → path_at (paths_from acc ns) k ≡ path_at acc k
paths_from-first acc [] k l = refl
paths_from-first acc (m ∷ ns) k l =
    let p : List Step = path_at acc m.parent ++ m.step ∷ [] in
    paths_from-first (acc ++ p ∷ []) ns k (omega (arith, l, length-append acc (p ∷ []))) ∙ path_at-left acc (p ∷ []) k l

pub paths_of-push : (ns : List PathNode) (n : PathNode) → paths_of (ns ++ n ∷ []) ≡ paths_of ns ++ (path_at (paths_of ns) n.parent ++ n.step ∷ []) ∷ []
paths_of-push ns n = paths_from-push ([] ∷ []) ns n

pub paths_of-length : (ns : List PathNode) → length (paths_of ns) ≡ suc (length ns)
paths_of-length ns = omega (arith, paths_from-length ([] ∷ []) ns)

pub root_path : (ns : List PathNode) → path_at (paths_of ns) 0 ≡ []
root_path ns = paths_from-first ([] ∷ []) ns 0 (omega arith)

-- ---- nodes

pub node_laid : (ns : List PathNode) (n : PathNode) (k : ℕ) → AreLaid ns → (k ≡ 0 → ⊥) → k < length (paths_of ns) → n ≡ slice_index_or ns (k - 1) n → IsLaid (paths_of ns) n k
node_laid ns n zero laid z l h = absurd (z refl)
node_laid ns n (suc i) laid z l h =
    let back : suc i - 1 ≡ i = omega arith in
    laid i n (omega (arith, l, paths_of-length ns)) (h ∙ ap (λ (j : ℕ). slice_index_or ns j n) back)

pub below : (ns : List PathNode) (k : ℕ) → (k ≡ 0 → ⊥) → k < length (paths_of ns) → k - 1 < length ns
below ns k z l = omega (arith, z, l, paths_of-length ns)

index_left : (ns : List PathNode) (n x : PathNode) (i : ℕ) → i < length ns → x ≡ slice_index_or (ns ++ n ∷ []) i x → x ≡ slice_index_or ns i x
index_left [] n x i l h = absurd (omega arith)
index_left (m ∷ ns) n x zero l h = h
index_left (m ∷ ns) n x (suc i) l h = index_left ns n x i (omega arith) h

index_end : (ns : List PathNode) (n x : PathNode) → x ≡ slice_index_or (ns ++ n ∷ []) (length ns) x → x ≡ n
index_end [] n x h = h
index_end (m ∷ ns) n x h = index_end ns n x h

-- a node is laid as well where there are more paths
still_laid : (ps qs : List (List Step)) (n : PathNode) (k : ℕ) → k < length ps → IsLaid ps n k → IsLaid (ps ++ qs) n k
still_laid ps qs n k l a = record {
  before = a.before;
  path = path_at-left ps qs k l ∙ (a.path ∙ ap (λ (t : List Step). t ++ n.step ∷ []) (sym (path_at-left ps qs n.parent (omega (arith, l, a.before)))));
  len = a.len ∙ ap length (sym (path_at-left ps qs k l));
  few = a.few;
}

-- no path has more steps than there are paths in front of it
pub few_steps : (ns : List PathNode) (k : ℕ) → AreLaid ns → k < length (paths_of ns) → length (path_at (paths_of ns) k) ≤ k
few_steps ns zero laid l = omega (arith, ap length (root_path ns))
few_steps [] (suc i) laid l = absurd (omega arith)
few_steps (m ∷ ns) (suc i) laid l =
    let n = node_there (m ∷ ns) i (omega (arith, l, paths_of-length (m ∷ ns))) in
    let a = laid i n.0 (omega (arith, l, paths_of-length (m ∷ ns))) n.1 in
    omega (arith, a.len, a.few)
  where
    node_there : (xs : List PathNode) (j : ℕ) → j < length xs → (x : PathNode) × (x ≡ slice_index_or xs j x)
    node_there [] j h = absurd (omega arith)
    node_there (x ∷ xs) zero h = (x, refl)
    node_there (x ∷ xs) (suc j) h = node_there xs j (omega arith)

pub laid_push : (ns : List PathNode) (n : PathNode) → AreLaid ns → n.parent < length (paths_of ns) → n.len ≡ length (path_at (paths_of ns) n.parent) + 1 → AreLaid (ns ++ n ∷ [])
laid_push ns n laid there len i x l h =
    subst (λ (ps : List (List Step)). IsLaid ps x (suc i)) (sym (paths_of-push ns n)) (elim (split i (length ns) (omega (arith, l, length-append ns (n ∷ [])))) [
      | inl low ↦ still_laid ps (p ∷ []) x (suc i) (omega (arith, low, paths_of-length ns)) (laid i x low (index_left ns n x i low h))
      | inr top ↦
          let is : x ≡ n = index_end ns n x (subst (λ (j : ℕ). x ≡ slice_index_or (ns ++ n ∷ []) j x) top h) in
          let at : length ps ≡ suc i = omega (arith, top, paths_of-length ns) in
          subst (λ (y : PathNode). IsLaid (ps ++ p ∷ []) y (suc i)) (sym is) (subst (λ (j : ℕ). IsLaid (ps ++ p ∷ []) n j) at new_laid)
    ])
  where
    ps : List (List Step)
    ps = paths_of ns

    p : List Step
    p = path_at ps n.parent ++ n.step ∷ []

    split : (j m : ℕ) → j < suc m → (j < m) ⊎ (j ≡ m)
    split zero zero h = inr refl
    split zero (suc m) h = inl (omega arith)
    split (suc j) zero h = absurd (omega arith)
    split (suc j) (suc m) h = elim (split j m (omega arith)) [ inl a ↦ inl (omega (arith, a)) | inr e ↦ inr (ap suc e) ]

    as_long : n.len ≡ length p
    as_long = omega (arith, len, length-append (path_at ps n.parent) (n.step ∷ []))

    new_laid : IsLaid (ps ++ p ∷ []) n (length ps)
    new_laid = record {
      before = there;
      path = path_at-end ps p ∙ ap (λ (t : List Step). t ++ n.step ∷ []) (sym (path_at-left ps (p ∷ []) n.parent there));
      len = as_long ∙ ap length (sym (path_at-end ps p));
      few = omega (arith, len, few_steps ns n.parent laid there, there);
    }

pub end_pushed : (s : Scope) (ps qs : List Step) (x : Step) → qs ≡ ps ++ x ∷ [] → end_of s qs ≡ x.to
end_pushed s ps qs x e = ap (end_of s) e ∙ along s ps
  where
    along : (t : Scope) (rs : List Step) → end_of t (rs ++ x ∷ []) ≡ x.to
    along t [] = refl
    along t (r ∷ rs) = along r.to rs

pub end_none : (s : Scope) (qs : List Step) → qs ≡ [] → end_of s qs ≡ s
end_none s qs e = ap (end_of s) e

-- ---- the order of paths by their common front

then_then : (a b c : Ordering) → ordering_then a (ordering_then b c) ≡ ordering_then (ordering_then a b) c
then_then Less b c = refl
then_then Equal b c = refl
then_then Greater b c = refl

then_equal : (a : Ordering) → ordering_then a Equal ≡ a
then_equal Less = refl
then_equal Equal = refl
then_equal Greater = refl

pub cmp_fronts : (ps qs xs ys : List Step) → length ps ≡ length qs → slice_cmp step_cmp (ps ++ xs) (qs ++ ys) ≡ ordering_then (slice_cmp step_cmp ps qs) (slice_cmp step_cmp xs ys)
cmp_fronts [] [] xs ys l = refl
cmp_fronts [] (q ∷ qs) xs ys l = absurd (omega (arith, l))
cmp_fronts (p ∷ ps) [] xs ys l = absurd (omega (arith, l))
cmp_fronts (p ∷ ps) (q ∷ qs) xs ys l =
    ap (ordering_then (step_cmp p q)) (cmp_fronts ps qs xs ys (omega (arith, l))) ∙ then_then (step_cmp p q) (slice_cmp step_cmp ps qs) (slice_cmp step_cmp xs ys)

own_reverse : (o : Ordering) → o ≡ ordering_reverse o → o ≡ Equal
own_reverse Less e = absurd (cc)
own_reverse Equal e = refl
own_reverse Greater e = absurd (cc)

pub cmp_same : (ps : List Step) → slice_cmp step_cmp ps ps ≡ Equal
cmp_same [] = refl
cmp_same (p ∷ ps) = ap (λ (o : Ordering). ordering_then o (slice_cmp step_cmp ps ps)) (own_reverse (step_cmp p p) (step_total.antisymm p p)) ∙ cmp_same ps

-- one step less of each
pub cmp_up : (o : Ordering) (ps qs us vs : List Step) (x y : Step) (rest : Ordering) → length ps ≡ length qs → ps ≡ us ++ x ∷ [] → qs ≡ vs ++ y ∷ [] → o ≡ ordering_then (slice_cmp step_cmp ps qs) rest → (length us ≡ length vs) → o ≡ ordering_then (slice_cmp step_cmp us vs) (ordering_then (step_cmp x y) rest)
cmp_up o ps qs us vs x y rest l e f h k =
    h
    ∙ (ap (λ (c : Ordering). ordering_then c rest) (ap (λ (t : List Step). slice_cmp step_cmp t qs) e ∙ (ap (λ (t : List Step). slice_cmp step_cmp (us ++ x ∷ []) t) f ∙ (cmp_fronts us vs (x ∷ []) (y ∷ []) k ∙ ap (ordering_then (slice_cmp step_cmp us vs)) (then_equal (step_cmp x y)))))
    ∙ sym (then_then (slice_cmp step_cmp us vs) (step_cmp x y) rest))

pub up_long : (ps qs us vs : List Step) (x y : Step) → length ps ≡ length qs → ps ≡ us ++ x ∷ [] → qs ≡ vs ++ y ∷ [] → length us ≡ length vs
up_long ps qs us vs x y l e f = omega (arith, l, ap length e, ap length f, length-append us (x ∷ []), length-append vs (y ∷ []))

-- paths that were cut to one length: the lengths decide between the rests
no_rest : (ps us xs : List Step) → ps ≡ us ++ xs → length ps ≤ length us → xs ≡ []
no_rest ps us [] e l = refl
no_rest ps us (x ∷ xs) e l = absurd (omega (arith, ap length e, length-append us (x ∷ xs), l))

cmp_rests : (xs ys : List Step) (m n k : ℕ) → m ≡ k + length xs → n ≡ k + length ys → (xs ≡ []) ⊎ (ys ≡ []) → slice_cmp step_cmp xs ys ≡ nat_cmp m n
cmp_rests [] [] m n k a b h = sym (ap (nat_cmp m) (omega (arith, a, b)) ∙ cmp_nat_same m)
  where
    cmp_nat_same : (j : ℕ) → nat_cmp j j ≡ Equal
    cmp_nat_same j = own_reverse (nat_cmp j j) (nat_cmp_total.antisymm j j)
cmp_rests [] (y ∷ ys) m n k a b h = nat_cmp_is m n Less (omega (arith, a, b))
cmp_rests (x ∷ xs) [] m n k a b h = nat_cmp_is m n Greater (omega (arith, a, b))
cmp_rests (x ∷ xs) (y ∷ ys) m n k a b (inl e) = absurd (cc e)
cmp_rests (x ∷ xs) (y ∷ ys) m n k a b (inr e) = absurd (cc e)

pub cmp_nil : (ps qs : List Step) → ps ≡ [] → length ps ≡ length qs → slice_cmp step_cmp ps qs ≡ Equal
cmp_nil ps [] e l = ap (λ (t : List Step). slice_cmp step_cmp t []) e
cmp_nil ps (q ∷ qs) e l = absurd (omega (arith, ap length e, l))

pub cmp_cut : (ps qs us vs xs ys : List Step) → length us ≡ length vs → ps ≡ us ++ xs → qs ≡ vs ++ ys → (length ps ≤ length us) ⊎ (length qs ≤ length us) → slice_cmp step_cmp ps qs ≡ ordering_then (slice_cmp step_cmp us vs) (nat_cmp (length ps) (length qs))
cmp_cut ps qs us vs xs ys l e f h =
    ap (λ (t : List Step). slice_cmp step_cmp t qs) e
    ∙ (ap (λ (t : List Step). slice_cmp step_cmp (us ++ xs) t) f
    ∙ (cmp_fronts us vs xs ys l
    ∙ ap (ordering_then (slice_cmp step_cmp us vs)) (cmp_rests xs ys (length ps) (length qs) (length us) (omega (arith, ap length e, length-append us xs)) (omega (arith, ap length f, length-append vs ys, l)) (elim h [
      | inl a ↦ inl (no_rest ps us xs e a)
      | inr b ↦ inr (no_rest qs vs ys f (omega (arith, b, l)))
    ]))))
