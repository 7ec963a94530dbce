-- Paths with one more step.
use Rattle.std.proofs.Common.{◌≡◌, ℕ, zero, suc, ◌<◌, ◌+◌, List, [], ◌∷◌, ◌++◌, Bool, true, false, cond, inl, inr, refl, sym, ap, ◌∙◌, subst, append_assoc, length, take, drop, get_or, arith, add-one, drop-cons}
use Rattle.std.proofs.lemmas.Bool.{cases_Bool, cases_lt}
use Rattle.std.proofs.lemmas.Grind.{flat_map-append}
use Rattle.std.proofs.lemmas.List.{append-nil, take_more, take-append-drop}
use Rattle.std.proofs.lemmas.List.Elements.{Contains-append_left, Contains-append_cases, Contains-push}
use Rattle.std.specs.List.{Contains, flat_map}
use Rattle.sg_base.specs.declared.scope.Scope.{Scope}
use Rattle.sg_base.specs.declared.step.Step.{Step}
use Rattle.sg_base.specs.Graph.{GraphOf, HasEdge, IsGraph, row_of}
use Rattle.sg_base.specs.List.{IsDistinct}
use Rattle.sg_base.specs.Path.{end_of}
use Rattle.sg_base.proofs.Edges.{row_from, row_to, Distinct-row}
use Rattle.sg_base.proofs.Finite.{nothing_in, single, Contains-head, Distinct-append, Contains-flat_map, flat_map-Contains, Distinct-flat_map}
use Rattle.sg_query.specs.Steps.{is_fresh}
use Rattle.sg_query.specs.Walk.{labels_below, into_scope, into_row, one_more}
use Rattle.sg_query.proofs.Paths.{snoc_same}

-- ---- parts of a joined list

module _ {X Y : Type 0} (f : X → List Y) where
  pub flat_more : (xs : List X) (i : ℕ) (d : X) → i < length xs → flat_map f (take (i + 1) xs) ≡ flat_map f (take i xs) ++ f (get_or xs i d)
  flat_more xs i d l =
      ap (flat_map f) (take_more xs i d l) ∙ flat_map-append f (take i xs) (get_or xs i d ∷ []) ∙ ap (λ (t : List Y). flat_map f (take i xs) ++ t) (append-nil (f (get_or xs i d)))

  pub flat_rest : (xs : List X) (i : ℕ) (d : X) → i < length xs → flat_map f xs ≡ flat_map f (take i xs) ++ (f (get_or xs i d) ++ flat_map f (drop (i + 1) xs))
  flat_rest xs i d l =
      let behind : drop i xs ≡ get_or xs i d ∷ drop (i + 1) xs = rw (add-one) (drop-cons xs i d l) in
      ap (flat_map f) (sym (take-append-drop i xs)) ∙ flat_map-append f (take i xs) (drop i xs) ∙ ap (λ (t : List X). flat_map f (take i xs) ++ flat_map f t) behind

-- ---- labels

pub labels_split : (n m : ℕ) → n < m → (rest : List ℕ) × (labels_below m ≡ labels_below n ++ (n ∷ rest))
labels_split n zero l = absurd (omega arith)
labels_split n (suc m) l =
    elim (cases_lt n m) [
      | inl k ↦
          let h : (rest : List ℕ) × (labels_below m ≡ labels_below n ++ (n ∷ rest)) = labels_split n m k in
          (h.0 ++ m ∷ [], ap (λ (t : List ℕ). t ++ m ∷ []) h.1 ∙ append_assoc (labels_below n) (n ∷ h.0) (m ∷ []))
      | inr far ↦ let same : m ≡ n = omega arith in ([], subst (λ (k : ℕ). labels_below m ++ m ∷ [] ≡ labels_below k ++ k ∷ []) same refl)
    ]

pub labels_more : (n : ℕ) → labels_below (n + 1) ≡ labels_below n ++ n ∷ []
labels_more n = rw (add-one) refl

labels_from : (n l : ℕ) → Contains (labels_below n) l → l < n
labels_from zero l c = absurd (nothing_in l c)
labels_from (suc n) l c =
    elim (Contains-append_cases (labels_below n) (n ∷ []) l c) [
      | inl k ↦ let h : l < n = labels_from n l k in omega arith
      | inr k ↦ let h : l ≡ n = single n l k in omega arith
    ]

pub labels_to : (n l : ℕ) → l < n → Contains (labels_below n) l
labels_to zero l h = absurd (omega arith)
labels_to (suc n) l h =
    elim (cases_lt l n) [
      | inl k ↦ Contains-append_left (labels_below n) (n ∷ []) l (labels_to n l k)
      | inr k ↦ let same : n ≡ l = omega arith in subst (λ (m : ℕ). Contains (labels_below n ++ n ∷ []) m) same (Contains-push (labels_below n) n)
    ]

pub labels_distinct : (n : ℕ) → IsDistinct (labels_below n)
labels_distinct zero = tt
labels_distinct (suc n) =
    Distinct-append (labels_below n) (n ∷ []) (labels_distinct n) ((λ c. nothing_in n c), tt)
    (λ z k m. let a : z < n = labels_from n z k in let b : z ≡ n = single n z m in absurd (omega arith))

-- the row of a path's end, as it was read
pub row_is : {D : Type 0} (g : GraphOf D) (start : Scope) (ps : List Step) (l : ℕ) (end : Scope) (row : List Scope) → end ≡ end_of start ps → row ≡ row_of g end l → into_row g start ps l ≡ flat_map (into_scope start ps l) row
row_is g start ps l end row e r = ap (λ (s : Scope). flat_map (into_scope start ps l) (row_of g s l)) (sym e) ∙ ap (flat_map (into_scope start ps l)) (sym r)

module _ {D : Type 0} (g : GraphOf D) (start : Scope) (ps : List Step) (n : ℕ) where
  pub row_more : flat_map (into_row g start ps) (labels_below (n + 1)) ≡ flat_map (into_row g start ps) (labels_below n) ++ into_row g start ps n
  row_more =
      ap (flat_map (into_row g start ps)) (labels_more n) ∙ flat_map-append (into_row g start ps) (labels_below n) (n ∷ []) ∙ ap (λ (t : List (List Step)). flat_map (into_row g start ps) (labels_below n) ++ t) (append-nil (into_row g start ps n))

  pub row_rest : n < 16 → (rest : List (List Step)) × (one_more g start ps ≡ flat_map (into_row g start ps) (labels_below n) ++ (into_row g start ps n ++ rest))
  row_rest l =
      let h = labels_split n 16 l in
      (flat_map (into_row g start ps) h.0, ap (flat_map (into_row g start ps)) h.1 ∙ flat_map-append (into_row g start ps) (labels_below n) (n ∷ h.0))

-- ---- one more step

module _ (start : Scope) (ps : List Step) (l : ℕ) (t : Scope) where
  pub scope_fresh : is_fresh start ps t ≡ true → into_scope start ps l t ≡ (ps ++ (record { label = l; to = t }) ∷ []) ∷ []
  scope_fresh h = ap (λ (b : Bool). cond b ((ps ++ (record { label = l; to = t }) ∷ []) ∷ []) []) h

  pub scope_stale : is_fresh start ps t ≡ false → into_scope start ps l t ≡ []
  scope_stale h = ap (λ (b : Bool). cond b ((ps ++ (record { label = l; to = t }) ∷ []) ∷ []) []) h

  scope_from : (qs : List Step) → Contains (into_scope start ps l t) qs → (is_fresh start ps t ≡ true) × (qs ≡ ps ++ (record { label = l; to = t }) ∷ [])
  scope_from qs c =
      elim (cases_Bool (is_fresh start ps t)) [
        | inl h ↦ (h, single (ps ++ (record { label = l; to = t }) ∷ []) qs (subst (λ (x : List (List Step)). Contains x qs) (scope_fresh h) c))
        | inr h ↦ absurd (nothing_in qs (subst (λ (x : List (List Step)). Contains x qs) (scope_stale h) c))
      ]

  scope_to : is_fresh start ps t ≡ true → Contains (into_scope start ps l t) (ps ++ (record { label = l; to = t }) ∷ [])
  scope_to h =
      subst (λ (x : List (List Step)). Contains x (ps ++ (record { label = l; to = t }) ∷ [])) (sym (scope_fresh h)) (Contains-head (ps ++ (record { label = l; to = t }) ∷ []) [])

  scope_distinct : IsDistinct (into_scope start ps l t)
  scope_distinct =
      elim (cases_Bool (is_fresh start ps t)) [
        | inl h ↦ subst (λ (x : List (List Step)). IsDistinct x) (sym (scope_fresh h)) ((λ c. nothing_in (ps ++ (record { label = l; to = t }) ∷ []) c), tt)
        | inr h ↦ subst (λ (x : List (List Step)). IsDistinct x) (sym (scope_stale h)) tt
      ]

module _ {D : Type 0} (g : GraphOf D) (ok : IsGraph g) (start : Scope) where
  -- the path with one more step
  abbrev pub Grows : List Step → List Step → Type 0
  Grows p qs = (x : Step) × HasEdge g (end_of start p) x.label x.to × (is_fresh start p x.to ≡ true) × (qs ≡ p ++ x ∷ [])

  into_from : (p : List Step) (l : ℕ) (qs : List Step) → Contains (into_row g start p l) qs → (t : Scope) × HasEdge g (end_of start p) l t × (is_fresh start p t ≡ true) × (qs ≡ p ++ (record { label = l; to = t }) ∷ [])
  into_from p l qs c =
      let h = Contains-flat_map (into_scope start p l) (row_of g (end_of start p) l) qs c in
      let k = scope_from start p l h.0 qs h.2 in
      (h.0, row_from g (end_of start p) l h.0 h.1, k.0, k.1)

  pub one_from : (p qs : List Step) → Contains (one_more g start p) qs → Grows p qs
  one_from p qs c =
      let h = Contains-flat_map (into_row g start p) (labels_below 16) qs c in
      let k = into_from p h.0 qs h.2 in
      (record { label = h.0; to = k.0 }, k.1, k.2, k.3)

  pub one_to : (p qs : List Step) → Grows p qs → Contains (one_more g start p) qs
  one_to p qs k =
      let x = k.0 in
      subst (λ (t : List Step). Contains (one_more g start p) t) (sym k.3)
      (flat_map-Contains (into_row g start p) (labels_below 16) x.label (p ++ x ∷ []) (labels_to 16 x.label (ok.labelled (end_of start p) x.label x.to k.1))
      (flat_map-Contains (into_scope start p x.label) (row_of g (end_of start p) x.label) x.to (p ++ x ∷ []) (row_to g (end_of start p) x.label x.to k.1) (scope_to start p x.label x.to k.2)))

  into_distinct : (p : List Step) (l : ℕ) → IsDistinct (into_row g start p l)
  into_distinct p l =
      Distinct-flat_map (into_scope start p l) (row_of g (end_of start p) l) (Distinct-row g ok (end_of start p) l) (λ t k. scope_distinct start p l t)
      (λ a b qs k m. let x = scope_from start p l a qs k in let y = scope_from start p l b qs m in
      ap (λ (s : Step). s.to) (snoc_same p p (record { label = l; to = a }) (record { label = l; to = b }) (sym x.1 ∙ y.1)).1)

  pub one_distinct : (p : List Step) → IsDistinct (one_more g start p)
  one_distinct p =
      Distinct-flat_map (into_row g start p) (labels_below 16) (labels_distinct 16) (λ l k. into_distinct p l)
      (λ a b qs k m. let x = into_from p a qs k in let y = into_from p b qs m in
      ap (λ (s : Step). s.label) (snoc_same p p (record { label = a; to = x.0 }) (record { label = b; to = y.0 }) (sym x.3 ∙ y.3)).1)
