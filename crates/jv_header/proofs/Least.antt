-- The least scope of a list, as a loop over the list finds it.
use Rattle.std.proofs.Common.{◌≡◌, ℕ, ◌+◌, ◌<◌, true, false, List, get_or, length, inl, inr, refl, sym, ◌∙◌, subst, ap, arith}
use Rattle.std.specs.List.{Contains}
use Rattle.std.specs.Ordering.{is_lt, ordering_reverse}
use Rattle.std.specs.declared.cmp.Ordering.{Ordering}
use Rattle.std.specs.declared.cmp.Ordering.TheVariants.{Less, Equal, Greater}
use Rattle.std.proofs.lemmas.Bool.{cases_eq}
use Rattle.std.proofs.lemmas.List.{get_or_default}
use Rattle.sg_base.specs.declared.scope.Scope.{Scope}
use Rattle.sg_base.specs.Scope.{scope_cmp, scope_total}

-- none of the first scopes comes before this one
abbrev pub NoneBefore : List Scope → ℕ → Scope → Type 0
NoneBefore scopes i s = (k : ℕ) (d : Scope) → k < i → scope_cmp (get_or scopes k d) s ≡ Less → ⊥

is_less : (o : Ordering) → is_lt o ≡ true → o ≡ Less
is_less Less e = refl
is_less Equal e = let z : false ≡ true = e in cc
is_less Greater e = let z : false ≡ true = e in cc

not_less : (o : Ordering) → is_lt o ≡ false → o ≡ Less → ⊥
not_less o e h = let z : true ≡ false = sym (ap is_lt h) ∙ e in cc

-- nothing comes before itself
never_less : (s : Scope) → scope_cmp s s ≡ Less → ⊥
never_less s h = let z : Less ≡ Greater = sym h ∙ (scope_total.antisymm s s ∙ ap ordering_reverse h) in cc

module _ (scopes : List Scope) (i : ℕ) (least : Scope) (h : i < length scopes) (so_far : NoneBefore scopes i least) (none : Scope) where
  pub least_moves : (s : Scope) → s ≡ get_or scopes i none → is_lt (scope_cmp (get_or scopes i none) least) ≡ true → Contains scopes s × NoneBefore scopes (i + 1) s
  least_moves s here e = (
    (i, h, sym (here ∙ get_or_default scopes i none s h)),
    λ k d below less. elim (cases_eq k i) [
      | inl same ↦ never_less s (subst (λ (t : Scope). scope_cmp t s ≡ Less) (ap (λ (m : ℕ). get_or scopes m d) same ∙ (get_or_default scopes i d none h ∙ sym here)) less)
      | inr apart ↦ so_far k d (omega (arith, below, apart)) (scope_total.trans (get_or scopes k d) s least less (is_less (scope_cmp s least) (ap (λ (t : Scope). is_lt (scope_cmp t least)) here ∙ e)))
    ],
  )

  pub least_stays : is_lt (scope_cmp (get_or scopes i none) least) ≡ false → NoneBefore scopes (i + 1) least
  least_stays e k d below less =
      elim (cases_eq k i) [
        | inl same ↦ not_less (scope_cmp (get_or scopes i none) least) e (subst (λ (t : Scope). scope_cmp t least ≡ Less) (ap (λ (m : ℕ). get_or scopes m d) same ∙ get_or_default scopes i d none h) less)
        | inr apart ↦ so_far k d (omega (arith, below, apart)) less
      ]
