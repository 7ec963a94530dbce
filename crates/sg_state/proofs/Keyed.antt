-- Entries in the order of their keys: what a look-up finds, what a write at a key and a new entry do, and what holds of the value at a key.
use Rattle.std.proofs.Common.{◌≡◌, List, [], ◌∷◌, ◌⊎◌, ◌↔◌, Bool, true, false, cond, inl, inr, sym, ap, ◌∙◌, subst, map, Some, None}
use Rattle.std.proofs.lemmas.Bool.{cases_Bool}
use Rattle.std.proofs.lemmas.Cmp.{tied_itself}
use Rattle.std.specs.BTreeMap.{is_at, insert_entry}
use Rattle.std.specs.Cmp.{IsTotalOrder}
use Rattle.std.specs.List.{Contains, AllByRecursion}
use Rattle.std.specs.Map.{lookup, set_value}
use Rattle.std.specs.Ordering.{is_eq, match_ordering}
use Rattle.std.specs.declared.cmp.Ordering.{Ordering}
use Rattle.std.specs.declared.cmp.Ordering.TheVariants.{Equal}
use Rattle.sg_base.specs.List.{IsDistinct, IsRising}
use Rattle.sg_base.proofs.Finite.{nothing_in, single, Contains-head, Contains-cons, Contains-tail, map-Contains}
use Rattle.sg_base.proofs.Rising.{Distinct-rising}
use Rattle.sg_base.proofs.Rows.{equal_of, not_equal}

-- some value at the key is of this kind
abbrev pub At : {K V : Type 0} → List (K × V) → K → (V → Type 0) → Type 0
At {K} {V} es k A = (v : V) × Contains es (k, v) × A v

-- ---- entries whose keys a test tells apart

module _ {K : Type 0} (same : K → K → Bool) (alike : (a b : K) → same a b ≡ true → a ≡ b) (itself : (a : K) → same a a ≡ true) where
  pub is_key : (k j : K) → (j ≡ k) ⊎ (j ≡ k → ⊥)
  is_key k j =
      elim (cases_Bool (same k j)) [
        | inl e ↦ inl (sym (alike k j e))
        | inr e ↦ inr (λ s.
            let yes : same k k ≡ true = itself k in
            let no : same k k ≡ false = subst (λ (x : K). same k x ≡ false) s e in
            cc)
      ]

  not_key : (k j : K) → (j ≡ k → ⊥) → same k j ≡ false
  not_key k j n = elim (cases_Bool (same k j)) [ inl e ↦ absurd (n (sym (alike k j e))) | inr e ↦ e ]

module _ {K V : Type 0} (same : K → K → Bool) (alike : (a b : K) → same a b ≡ true → a ≡ b) (itself : (a : K) → same a a ≡ true) where
  hit : (k : K) (p : K × V) (ps : List (K × V)) → p.0 ≡ k → lookup (same k) (p ∷ ps) ≡ Some p.1
  hit k p ps s =
      let yes : same k p.0 ≡ true = subst (λ (x : K). same k x ≡ true) (sym s) (itself k) in
      ap (λ (b : Bool). cond b (Some p.1) (lookup (same k) ps)) yes

  miss : (k : K) (p : K × V) (ps : List (K × V)) → (p.0 ≡ k → ⊥) → lookup (same k) (p ∷ ps) ≡ lookup (same k) ps
  miss k p ps n = ap (λ (b : Bool). cond b (Some p.1) (lookup (same k) ps)) (not_key same alike itself k p.0 n)

  -- what a look-up finds is there
  pub found_there : (es : List (K × V)) (k : K) (v : V) → lookup (same k) es ≡ Some v → Contains es (k, v)
  found_there [] k v h = absurd (cc)
  found_there (p ∷ ps) k v h =
      elim (is_key same alike itself k p.0) [
        | inl s ↦
            let first : Some p.1 ≡ Some v = sym (hit k p ps s) ∙ h in
            let value : p.1 ≡ v = cc in
            subst (λ (x : K). Contains (p ∷ ps) (x, v)) s (subst (λ (x : V). Contains (p ∷ ps) (p.0, x)) value (Contains-head p ps))
        | inr n ↦ Contains-tail p (k, v) ps (found_there ps k v (sym (miss k p ps n) ∙ h))
      ]

  -- what is there is found
  pub there_found : (es : List (K × V)) → IsDistinct (map (λ p. p.0) es) → (k : K) (v : V) → Contains es (k, v) → lookup (same k) es ≡ Some v
  there_found [] once k v c = absurd (nothing_in (k, v) c)
  there_found (p ∷ ps) once k v c =
      elim (Contains-cons p (k, v) ps c) [
        | inl e ↦ hit k p ps (ap (λ (q : K × V). q.0) (sym e)) ∙ ap Some (ap (λ (q : K × V). q.1) (sym e))
        | inr m ↦ miss k p ps (λ s. once.0 (subst (λ (x : K). Contains (map (λ (q : K × V). q.0) ps) x) (sym s) (map-Contains (λ (q : K × V). q.0) ps (k, v) m))) ∙ there_found ps once.1 k v m
      ]

  pub one_there : (es : List (K × V)) → IsDistinct (map (λ p. p.0) es) → (k : K) (v w : V) → Contains es (k, v) → Contains es (k, w) → v ≡ w
  one_there es once k v w a b =
      let both : Some v ≡ Some w = sym (there_found es once k v a) ∙ there_found es once k w b in
      cc

  pub not_there : (es : List (K × V)) (k : K) (v : V) → lookup (same k) es ≡ None → Contains es (k, v) → ⊥
  not_there [] k v h c = nothing_in (k, v) c
  not_there (p ∷ ps) k v h c =
      elim (is_key same alike itself k p.0) [
        | inl s ↦ let first : Some p.1 ≡ None = sym (hit k p ps s) ∙ h in cc
        | inr n ↦ elim (Contains-cons p (k, v) ps c) [
          | inl e ↦ n (ap (λ (q : K × V). q.0) (sym e))
          | inr m ↦ not_there ps k v (sym (miss k p ps n) ∙ h) m
        ]
      ]

  -- ---- a write at a key

  set_hit : (k : K) (p : K × V) (ps : List (K × V)) (w : V) → p.0 ≡ k → set_value (same k) (p ∷ ps) w ≡ (p.0, w) ∷ ps
  set_hit k p ps w s =
      let yes : same k p.0 ≡ true = subst (λ (x : K). same k x ≡ true) (sym s) (itself k) in
      ap (λ (b : Bool). cond b ((p.0, w) ∷ ps) (p ∷ set_value (same k) ps w)) yes

  set_miss : (k : K) (p : K × V) (ps : List (K × V)) (w : V) → (p.0 ≡ k → ⊥) → set_value (same k) (p ∷ ps) w ≡ p ∷ set_value (same k) ps w
  set_miss k p ps w n = ap (λ (b : Bool). cond b ((p.0, w) ∷ ps) (p ∷ set_value (same k) ps w)) (not_key same alike itself k p.0 n)

  pub written_from : (es : List (K × V)) → IsDistinct (map (λ p. p.0) es) → (k : K) (w : V) (j : K) (x : V) → Contains (set_value (same k) es w) (j, x) → ((j ≡ k → ⊥) × Contains es (j, x)) ⊎ ((j ≡ k) × (x ≡ w))
  written_from [] once k w j x c = absurd (nothing_in (j, x) c)
  written_from (p ∷ ps) once k w j x c =
      elim (is_key same alike itself k p.0) [
        | inl s ↦ elim (Contains-cons (p.0, w) (j, x) ps (subst (λ (l : List (K × V)). Contains l (j, x)) (set_hit k p ps w s) c)) [
          | inl e ↦ inr (ap (λ (q : K × V). q.0) e ∙ s, ap (λ (q : K × V). q.1) e)
          | inr m ↦ inl ((λ t. once.0 (subst (λ (y : K). Contains (map (λ (q : K × V). q.0) ps) y) (t ∙ sym s) (map-Contains (λ (q : K × V). q.0) ps (j, x) m))), Contains-tail p (j, x) ps m)
        ]
        | inr n ↦ elim (Contains-cons p (j, x) (set_value (same k) ps w) (subst (λ (l : List (K × V)). Contains l (j, x)) (set_miss k p ps w n) c)) [
          | inl e ↦ inl ((λ t. n (sym (ap (λ (q : K × V). q.0) e) ∙ t)), subst (λ (q : K × V). Contains (p ∷ ps) q) (sym e) (Contains-head p ps))
          | inr m ↦ elim (written_from ps once.1 k w j x m) [ inl h ↦ inl (h.0, Contains-tail p (j, x) ps h.1) | inr h ↦ inr h ]
        ]
      ]

  pub written_other : (es : List (K × V)) (k : K) (w : V) (j : K) (x : V) → (j ≡ k → ⊥) → Contains es (j, x) → Contains (set_value (same k) es w) (j, x)
  written_other [] k w j x n c = absurd (nothing_in (j, x) c)
  written_other (p ∷ ps) k w j x n c =
      elim (is_key same alike itself k p.0) [
        | inl s ↦ subst (λ (l : List (K × V)). Contains l (j, x)) (sym (set_hit k p ps w s)) (elim (Contains-cons p (j, x) ps c) [
          | inl e ↦ absurd (n (ap (λ (q : K × V). q.0) e ∙ s))
          | inr m ↦ Contains-tail (p.0, w) (j, x) ps m
        ])
        | inr a ↦ subst (λ (l : List (K × V)). Contains l (j, x)) (sym (set_miss k p ps w a)) (elim (Contains-cons p (j, x) ps c) [
          | inl e ↦ subst (λ (q : K × V). Contains (p ∷ set_value (same k) ps w) q) (sym e) (Contains-head p (set_value (same k) ps w))
          | inr m ↦ Contains-tail p (j, x) (set_value (same k) ps w) (written_other ps k w j x n m)
        ])
      ]

  pub written_here : (es : List (K × V)) (k : K) (v w : V) → Contains es (k, v) → Contains (set_value (same k) es w) (k, w)
  written_here [] k v w c = absurd (nothing_in (k, v) c)
  written_here (p ∷ ps) k v w c =
      elim (is_key same alike itself k p.0) [
        | inl s ↦ subst (λ (l : List (K × V)). Contains l (k, w)) (sym (set_hit k p ps w s)) (subst (λ (x : K). Contains ((p.0, w) ∷ ps) (x, w)) s (Contains-head (p.0, w) ps))
        | inr n ↦ subst (λ (l : List (K × V)). Contains l (k, w)) (sym (set_miss k p ps w n)) (elim (Contains-cons p (k, v) ps c) [
          | inl e ↦ absurd (n (ap (λ (q : K × V). q.0) (sym e)))
          | inr m ↦ Contains-tail p (k, w) (set_value (same k) ps w) (written_here ps k v w m)
        ])
      ]

  -- ---- what holds of the value at a key

  module _ (es : List (K × V)) (once : IsDistinct (map (λ p. p.0) es)) (k : K) (old w : V) (there : Contains es (k, old)) where
    pub held_from : (A : V → Type 0) (j : K) → At (set_value (same k) es w) j A → ((j ≡ k → ⊥) × At es j A) ⊎ ((j ≡ k) × A w)
    held_from A j h =
        elim (written_from es once k w j h.0 h.1) [
          | inl o ↦ inl (o.0, (h.0, o.1, h.2))
          | inr e ↦ inr (e.0, subst A e.1 h.2)
        ]

    pub held_other : (A : V → Type 0) (j : K) → (j ≡ k → ⊥) → At es j A → At (set_value (same k) es w) j A
    held_other A j n h = (h.0, written_other es k w j h.0 n h.1, h.2)

    pub held_here : (A : V → Type 0) → A w → At (set_value (same k) es w) k A
    held_here A h = (w, written_here es k old w there, h)

    pub held_before : (A : V → Type 0) → At es k A → A old
    held_before A h = subst A (one_there es once k h.0 old h.1 there) h.2

    -- what the new value has, with the old one having B, tells what the entries have
    pub held_changes : (A : V → Type 0) (B : K → Type 0) → ((A w) ↔ (B k × A old)) → ((j : K) → (j ≡ k → ⊥) → B j) → (j : K) → (At (set_value (same k) es w) j A) ↔ (B j × At es j A)
    held_changes A B here other j = (
      (λ h. elim (held_from A j h) [
        | inl o ↦ (other j o.0, o.1)
        | inr e ↦ let b = here.0 e.1 in (subst B (sym e.0) b.0, subst (λ (x : K). At es x A) (sym e.0) (let a : At es k A = (old, there, b.1) in a))
      ]),
      (λ h. elim (is_key same alike itself k j) [
        | inl e ↦ subst (λ (x : K). At (set_value (same k) es w) x A) (sym e) (held_here A (here.1 (subst B e h.0, held_before A (subst (λ (x : K). At es x A) e h.1))))
        | inr n ↦ held_other A j n h.1
      ]),
    )

    pub held_adds : (A : V → Type 0) (B : Type 0) → ((A w) ↔ (A old ⊎ B)) → (j : K) → (At (set_value (same k) es w) j A) ↔ (At es j A ⊎ ((j ≡ k) × B))
    held_adds A B here j = (
      (λ h. elim (held_from A j h) [
        | inl o ↦ inl o.1
        | inr e ↦ elim (here.0 e.1) [
          | inl a ↦ inl (subst (λ (x : K). At es x A) (sym e.0) (let b : At es k A = (old, there, a) in b))
          | inr b ↦ inr (e.0, b)
        ]
      ]),
      (λ h. elim h [
        | inl a ↦ elim (is_key same alike itself k j) [
          | inl e ↦ subst (λ (x : K). At (set_value (same k) es w) x A) (sym e) (held_here A (here.1 (inl (held_before A (subst (λ (x : K). At es x A) e a)))))
          | inr n ↦ held_other A j n a
        ]
        | inr b ↦ subst (λ (x : K). At (set_value (same k) es w) x A) (sym b.0) (held_here A (here.1 (inr b.1)))
      ]),
    )

    pub held_keeps : (A : V → Type 0) → ((A w) ↔ (A old)) → (j : K) → (At (set_value (same k) es w) j A) ↔ (At es j A)
    held_keeps A here j = (
      (λ h. elim (held_from A j h) [
        | inl o ↦ o.1
        | inr e ↦ subst (λ (x : K). At es x A) (sym e.0) (let b : At es k A = (old, there, here.0 e.1) in b)
      ]),
      (λ a. elim (is_key same alike itself k j) [
        | inl e ↦ subst (λ (x : K). At (set_value (same k) es w) x A) (sym e) (held_here A (here.1 (held_before A (subst (λ (x : K). At es x A) e a))))
        | inr n ↦ held_other A j n a
      ]),
    )

-- ---- entries in the order of their keys

-- whether the order ties two keys
abbrev tied : {K : Type 0} → (K → K → Ordering) → K → K → Bool
tied cmp k = is_at (cmp k)

tied_alike : {K : Type 0} (cmp : K → K → Ordering) → ((a b : K) → cmp a b ≡ Equal → a ≡ b) → (a b : K) → tied cmp a b ≡ true → a ≡ b
tied_alike cmp equal a b e = equal a b (equal_of (cmp a b) e)

tied_self : {K : Type 0} (cmp : K → K → Ordering) → IsTotalOrder cmp → (a : K) → tied cmp a a ≡ true
tied_self cmp total a = ap is_eq (tied_itself total a)

module _ {K : Type 0} (cmp : K → K → Ordering) (total : IsTotalOrder cmp) (equal : (a b : K) → cmp a b ≡ Equal → a ≡ b) where
  pub same_key : (k j : K) → (j ≡ k) ⊎ (j ≡ k → ⊥)
  same_key k j = is_key (tied cmp) (tied_alike cmp equal) (tied_self cmp total) k j

  not_at : (k j : K) → (j ≡ k → ⊥) → is_at (cmp k) j ≡ false
  not_at k j n = not_key (tied cmp) (tied_alike cmp equal) (tied_self cmp total) k j n

module _ {K V : Type 0} (cmp : K → K → Ordering) (total : IsTotalOrder cmp) (equal : (a b : K) → cmp a b ≡ Equal → a ≡ b) where
  -- what a look-up finds is there
  pub found-Contains : (es : List (K × V)) (k : K) (v : V) → lookup (is_at (cmp k)) es ≡ Some v → Contains es (k, v)
  found-Contains es k v h = found_there (tied cmp) (tied_alike cmp equal) (tied_self cmp total) es k v h

  -- what is there is found
  pub Contains-found : (es : List (K × V)) → IsRising cmp (map (λ p. p.0) es) → (k : K) (v : V) → Contains es (k, v) → lookup (is_at (cmp k)) es ≡ Some v
  Contains-found es up k v c = there_found (tied cmp) (tied_alike cmp equal) (tied_self cmp total) es (Distinct-rising cmp total (map (λ p. p.0) es) up) k v c

  pub one_value : (es : List (K × V)) → IsRising cmp (map (λ p. p.0) es) → (k : K) (v w : V) → Contains es (k, v) → Contains es (k, w) → v ≡ w
  one_value es up k v w a b = one_there (tied cmp) (tied_alike cmp equal) (tied_self cmp total) es (Distinct-rising cmp total (map (λ p. p.0) es) up) k v w a b

  pub none_there : (es : List (K × V)) (k : K) (v : V) → lookup (is_at (cmp k)) es ≡ None → Contains es (k, v) → ⊥
  none_there es k v h c = not_there (tied cmp) (tied_alike cmp equal) (tied_self cmp total) es k v h c

  -- ---- a write at a key

  pub distinct_set : (es : List (K × V)) → IsDistinct (map (λ p. p.0) es) → (k : K) (w : V) (j : K) (x : V) → Contains (set_value (is_at (cmp k)) es w) (j, x) → ((j ≡ k → ⊥) × Contains es (j, x)) ⊎ ((j ≡ k) × (x ≡ w))
  distinct_set es once k w j x c = written_from (tied cmp) (tied_alike cmp equal) (tied_self cmp total) es once k w j x c

  pub set_from : (es : List (K × V)) → IsRising cmp (map (λ p. p.0) es) → (k : K) (w : V) (j : K) (x : V) → Contains (set_value (is_at (cmp k)) es w) (j, x) → ((j ≡ k → ⊥) × Contains es (j, x)) ⊎ ((j ≡ k) × (x ≡ w))
  set_from es up = distinct_set es (Distinct-rising cmp total (map (λ p. p.0) es) up)

  pub set_other : (es : List (K × V)) (k : K) (w : V) (j : K) (x : V) → (j ≡ k → ⊥) → Contains es (j, x) → Contains (set_value (is_at (cmp k)) es w) (j, x)
  set_other es k w j x n c = written_other (tied cmp) (tied_alike cmp equal) (tied_self cmp total) es k w j x n c

  pub set_here : (es : List (K × V)) (k : K) (v w : V) → Contains es (k, v) → Contains (set_value (is_at (cmp k)) es w) (k, w)
  set_here es k v w c = written_here (tied cmp) (tied_alike cmp equal) (tied_self cmp total) es k v w c

  -- a new entry
  pub insert_adds : (es : List (K × V)) (k : K) (w : V) → ((v : V) → Contains es (k, v) → ⊥) → (q : K × V) → (Contains (insert_entry cmp es k w) q) ↔ (Contains es q ⊎ (q ≡ (k, w)))
  insert_adds [] k w none q = (
    (λ c. inr (single (k, w) q c)),
    (λ h. elim h [
      | inl c ↦ absurd (nothing_in q c)
      | inr e ↦ subst (λ (x : K × V). Contains ((k, w) ∷ []) x) (sym e) (Contains-head (k, w) [])
    ]),
  )
  insert_adds (p ∷ ps) k w none q =
      elim (not_equal (cmp k p.0) (not_at cmp total equal k p.0 (λ s. none p.1 (subst (λ (x : K). Contains (p ∷ ps) (x, p.1)) s (Contains-head p ps))))) [
        | inl less ↦
            subst (λ (o : Ordering). (Contains (match_ordering o ((k, w) ∷ p ∷ ps) ((p.0, w) ∷ ps) (p ∷ insert_entry cmp ps k w)) q) ↔ (Contains (p ∷ ps) q ⊎ (q ≡ (k, w)))) (sym less) (
              (λ c. elim (Contains-cons (k, w) q (p ∷ ps) c) [ inl e ↦ inr e | inr m ↦ inl m ]),
              (λ h. elim h [
                | inl m ↦ Contains-tail (k, w) q (p ∷ ps) m
                | inr e ↦ subst (λ (x : K × V). Contains ((k, w) ∷ p ∷ ps) x) (sym e) (Contains-head (k, w) (p ∷ ps))
              ]),
            )
        | inr greater ↦
            let rest = insert_adds ps k w (λ v c. none v (Contains-tail p (k, v) ps c)) q in
            subst (λ (o : Ordering). (Contains (match_ordering o ((k, w) ∷ p ∷ ps) ((p.0, w) ∷ ps) (p ∷ insert_entry cmp ps k w)) q) ↔ (Contains (p ∷ ps) q ⊎ (q ≡ (k, w)))) (sym greater) (
              (λ c. elim (Contains-cons p q (insert_entry cmp ps k w) c) [
                | inl e ↦ inl (subst (λ (x : K × V). Contains (p ∷ ps) x) (sym e) (Contains-head p ps))
                | inr m ↦ elim (rest.0 m) [ inl i ↦ inl (Contains-tail p q ps i) | inr e ↦ inr e ]
              ]),
              (λ h. elim h [
                | inl m ↦ elim (Contains-cons p q ps m) [
                  | inl e ↦ subst (λ (x : K × V). Contains (p ∷ insert_entry cmp ps k w) x) (sym e) (Contains-head p (insert_entry cmp ps k w))
                  | inr i ↦ Contains-tail p q (insert_entry cmp ps k w) (rest.1 (inl i))
                ]
                | inr e ↦ Contains-tail p q (insert_entry cmp ps k w) (rest.1 (inr e))
              ]),
            )
      ]

  -- ---- the value at a key

  module _ (es : List (K × V)) (up : IsRising cmp (map (λ p. p.0) es)) (k : K) (old w : V) (there : Contains es (k, old)) where
    once : IsDistinct (map (λ p. p.0) es)
    once = Distinct-rising cmp total (map (λ p. p.0) es) up

    pub at_set_from : (A : V → Type 0) (j : K) → At (set_value (is_at (cmp k)) es w) j A → ((j ≡ k → ⊥) × At es j A) ⊎ ((j ≡ k) × A w)
    at_set_from A j h = held_from (tied cmp) (tied_alike cmp equal) (tied_self cmp total) es once k old w there A j h

    pub at_here : (A : V → Type 0) → At es k A → A old
    at_here A h = held_before (tied cmp) (tied_alike cmp equal) (tied_self cmp total) es once k old w there A h

    -- what the new value has, with the old one having B, tells what the entries have
    pub at_changes : (A : V → Type 0) (B : K → Type 0) → ((A w) ↔ (B k × A old)) → ((j : K) → (j ≡ k → ⊥) → B j) → (j : K) → (At (set_value (is_at (cmp k)) es w) j A) ↔ (B j × At es j A)
    at_changes A B here other j = held_changes (tied cmp) (tied_alike cmp equal) (tied_self cmp total) es once k old w there A B here other j

    pub at_adds : (A : V → Type 0) (B : Type 0) → ((A w) ↔ (A old ⊎ B)) → (j : K) → (At (set_value (is_at (cmp k)) es w) j A) ↔ (At es j A ⊎ ((j ≡ k) × B))
    at_adds A B here j = held_adds (tied cmp) (tied_alike cmp equal) (tied_self cmp total) es once k old w there A B here j

    pub at_keeps : (A : V → Type 0) → ((A w) ↔ (A old)) → (j : K) → (At (set_value (is_at (cmp k)) es w) j A) ↔ (At es j A)
    at_keeps A here j = held_keeps (tied cmp) (tied_alike cmp equal) (tied_self cmp total) es once k old w there A here j

  pub at_inserts : (es : List (K × V)) (k : K) (w : V) → ((v : V) → Contains es (k, v) → ⊥) → (A : V → Type 0) (j : K) → (At (insert_entry cmp es k w) j A) ↔ (At es j A ⊎ ((j ≡ k) × A w))
  at_inserts es k w none A j = (
    (λ h. elim ((insert_adds es k w none (j, h.0)).0 h.1) [
      | inl c ↦ inl (h.0, c, h.2)
      | inr e ↦ inr (ap (λ (q : K × V). q.0) e, subst A (ap (λ (q : K × V). q.1) e) h.2)
    ]),
    (λ s. elim s [
      | inl h ↦ (h.0, (insert_adds es k w none (j, h.0)).1 (inl h.1), h.2)
      | inr e ↦ (w, (insert_adds es k w none (j, w)).1 (inr (ap (λ (x : K). let q : K × V = (x, w) in q) e.0)), e.1)
    ]),
  )

-- ---- what holds of each entry

pub each_set : {K V : Type 0} (test : K → Bool) (P : K × V → Type 0) (es : List (K × V)) (w : V) → ((k : K) (v : V) → P (k, v) → P (k, w)) → AllByRecursion P es → AllByRecursion P (set_value test es w)
each_set test P [] w f h = tt
each_set {K} {V} test P (e ∷ es) w f h =
    elim (cases_Bool (test e.0)) [
      | inl t ↦ subst (λ (b : Bool). AllByRecursion P (cond b ((e.0, w) ∷ es) (e ∷ set_value test es w))) (sym t) (f e.0 e.1 h.0, h.1)
      | inr t ↦ subst (λ (b : Bool). AllByRecursion P (cond b ((e.0, w) ∷ es) (e ∷ set_value test es w))) (sym t) (h.0, each_set test P es w f h.1)
    ]
