-- The data of scopes as entries in the order of their scopes: what a look-up finds, and what a new entry does.
use Rattle.std.proofs.Common.{◌≡◌, List, [], ◌∷◌, ◌⊎◌, ◌↔◌, Bool, true, false, cond, inl, inr, sym, ap, ◌∙◌, subst, Option, Some, None, Bor}
use Rattle.std.proofs.lemmas.Bool.{cases_Bool}
use Rattle.std.specs.BTreeMap.{is_at, insert_entry}
use Rattle.std.specs.List.{Contains}
use Rattle.std.specs.Map.{lookup}
use Rattle.std.specs.Option.{option_copied, IfSome, IfNone}
use Rattle.std.specs.Ordering.{is_eq, match_ordering}
use Rattle.std.specs.declared.cmp.Ordering.{Ordering}
use Rattle.sg_base.specs.declared.scope.Scope.{Scope}
use Rattle.sg_base.specs.Scope.{scope_cmp}
use Rattle.sg_base.proofs.Finite.{nothing_in, single, Contains-head, Contains-cons, Contains-tail}
use Rattle.sg_base.proofs.Rows.{equal_of, not_equal}
use Rattle.sg_base.proofs.Scopes.{equal_scope, scope_itself}

at_scope : (s k : Scope) → is_at (scope_cmp s) k ≡ true → s ≡ k
at_scope s k h = equal_scope s k (equal_of (scope_cmp s k) h)

module _ {D : Type 0} (s : Scope) where
  pub lookup-Contains : (given : List (Scope × D)) (d : D) → lookup (is_at (scope_cmp s)) given ≡ Some d → Contains given (s, d)
  lookup-Contains [] d h = absurd (cc)
  lookup-Contains (p ∷ ps) d h =
      elim (cases_Bool (is_at (scope_cmp s) p.0)) [
        | inl e ↦
            let first : Some p.1 ≡ Some d = sym (ap (λ (b : Bool). cond b (Some p.1) (lookup (is_at (scope_cmp s)) ps)) e) ∙ h in
            let value : p.1 ≡ d = cc in
            let scope : s ≡ p.0 = at_scope s p.0 e in
            subst (λ (x : Scope). Contains (p ∷ ps) (x, d)) (sym scope) (subst (λ (x : D). Contains (p ∷ ps) (p.0, x)) value (Contains-head p ps))
        | inr e ↦
            Contains-tail p (s, d) ps (lookup-Contains ps d (sym (ap (λ (b : Bool). cond b (Some p.1) (lookup (is_at (scope_cmp s)) ps)) e) ∙ h))
      ]

  pub lookup-none : (given : List (Scope × D)) → lookup (is_at (scope_cmp s)) given ≡ None → (d : D) → Contains given (s, d) → ⊥
  lookup-none [] h d c = nothing_in (s, d) c
  lookup-none (p ∷ ps) h d c =
      elim (cases_Bool (is_at (scope_cmp s) p.0)) [
        | inl e ↦
            let first : Some p.1 ≡ None = sym (ap (λ (b : Bool). cond b (Some p.1) (lookup (is_at (scope_cmp s)) ps)) e) ∙ h in
            cc
        | inr e ↦ elim (Contains-cons p (s, d) ps c) [
          | inl k ↦
              let here : is_at (scope_cmp s) s ≡ true = ap is_eq (scope_itself s) in
              let same : s ≡ p.0 = ap (λ (q : Scope × D). q.0) k in
              let there : is_at (scope_cmp s) p.0 ≡ true = subst (λ (x : Scope). is_at (scope_cmp s) x ≡ true) same here in
              cc
          | inr k ↦ lookup-none ps (sym (ap (λ (b : Bool). cond b (Some p.1) (lookup (is_at (scope_cmp s)) ps)) e) ∙ h) d k
        ]
      ]

  absent_from : (given : List (Scope × D)) → ((d : D) → Contains given (s, d) → ⊥) → (p : Scope × D) → Contains given p → is_at (scope_cmp s) p.0 ≡ false
  absent_from given none p c =
      elim (cases_Bool (is_at (scope_cmp s) p.0)) [
        | inl e ↦ absurd (none p.1 (subst (λ (x : Scope). Contains given (x, p.1)) (sym (at_scope s p.0 e)) c))
        | inr e ↦ e
      ]

  -- a datum for a scope that has none
  pub Contains-insert_entry : (given : List (Scope × D)) (d : D) → ((e : D) → Contains given (s, e) → ⊥) → (q : Scope × D) → (Contains (insert_entry scope_cmp given s d) q) ↔ (Contains given q ⊎ (q ≡ (s, d)))
  Contains-insert_entry [] d none q = (
    (λ c. inr (single (s, d) q c)),
    (λ h. elim h [
      | inl c ↦ absurd (nothing_in q c)
      | inr e ↦ subst (λ (x : Scope × D). Contains ((s, d) ∷ []) x) (sym e) (Contains-head (s, d) [])
    ]),
  )
  Contains-insert_entry (p ∷ ps) d none q =
      elim (not_equal (scope_cmp s p.0) (absent_from (p ∷ ps) none p (Contains-head p ps))) [
        | inl less ↦
            subst (λ (o : Ordering). (Contains (match_ordering o ((s, d) ∷ p ∷ ps) ((p.0, d) ∷ ps) (p ∷ insert_entry scope_cmp ps s d)) q) ↔ (Contains (p ∷ ps) q ⊎ (q ≡ (s, d)))) (sym less) (
              (λ c. elim (Contains-cons (s, d) q (p ∷ ps) c) [ inl e ↦ inr e | inr k ↦ inl k ]),
              (λ h. elim h [
                | inl k ↦ Contains-tail (s, d) q (p ∷ ps) k
                | inr e ↦ subst (λ (x : Scope × D). Contains ((s, d) ∷ p ∷ ps) x) (sym e) (Contains-head (s, d) (p ∷ ps))
              ]),
            )
        | inr greater ↦
            let rest = Contains-insert_entry ps d (λ e c. none e (Contains-tail p (s, e) ps c)) q in
            subst (λ (o : Ordering). (Contains (match_ordering o ((s, d) ∷ p ∷ ps) ((p.0, d) ∷ ps) (p ∷ insert_entry scope_cmp ps s d)) q) ↔ (Contains (p ∷ ps) q ⊎ (q ≡ (s, d)))) (sym greater) (
              (λ c. elim (Contains-cons p q (insert_entry scope_cmp ps s d) c) [
                | inl e ↦ inl (subst (λ (x : Scope × D). Contains (p ∷ ps) x) (sym e) (Contains-head p ps))
                | inr k ↦ elim (rest.0 k) [ inl m ↦ inl (Contains-tail p q ps m) | inr e ↦ inr e ]
              ]),
              (λ h. elim h [
                | inl k ↦ elim (Contains-cons p q ps k) [
                  | inl e ↦ subst (λ (x : Scope × D). Contains (p ∷ insert_entry scope_cmp ps s d) x) (sym e) (Contains-head p (insert_entry scope_cmp ps s d))
                  | inr m ↦ Contains-tail p q (insert_entry scope_cmp ps s d) (rest.1 (inl m))
                ]
                | inr e ↦ Contains-tail p q (insert_entry scope_cmp ps s d) (rest.1 (inr e))
              ]),
            )
      ]

-- what a look-up by reference gives
module _ {D : Type 0} (s : Scope) (given : List (Scope × D)) where
  pub datum_some : (o : Option (Bor D)) → option_copied o ≡ lookup (is_at (scope_cmp s)) given → IfSome o (λ d. Contains given (s, d.now))
  datum_some None h = tt
  datum_some (Some d) h = lookup-Contains s given d.now (sym h)

  pub datum_none : (o : Option (Bor D)) → option_copied o ≡ lookup (is_at (scope_cmp s)) given → IfNone o ((d : D) → Contains given (s, d) → ⊥)
  datum_none None h = lookup-none s given (sym h)
  datum_none (Some d) h = tt

-- a pair that is one of the old ones or this one, by its parts
pub pair_adds : {D : Type 0} (old new : List (Scope × D)) (s : Scope) (d : D) → ((q : Scope × D) → (Contains new q) ↔ (Contains old q ⊎ (q ≡ (s, d)))) → (t : Scope) (e : D) → (Contains new (t, e)) ↔ (Contains old (t, e) ⊎ ((t ≡ s) × (e ≡ d)))
pair_adds {D} old new s d adds t e = (
  (λ c. elim ((adds (t, e)).0 c) [ inl k ↦ inl k | inr k ↦ inr (ap (λ (q : Scope × D). q.0) k, ap (λ (q : Scope × D). q.1) k) ]),
  (λ h. (adds (t, e)).1 (elim h [
    | inl k ↦ inl k
    | inr k ↦ inr (ap (λ (x : Scope). let q : Scope × D = (x, e) in q) k.0 ∙ ap (λ (x : D). let q : Scope × D = (s, x) in q) k.1)
  ])),
)
