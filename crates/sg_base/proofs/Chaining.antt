-- Extending one state after another.
use Rattle.std.proofs.Common.{inl, inr}
use Rattle.sg_base.specs.State.{ExtendsChains, FollowsChains}

-- a new thing of a later state is one of the earlier state, or stands where that lets it
pub chain : (D : Type 0) → ExtendsChains D
chain D a b g f x = record {
  scopes = λ s h. x.scopes s (f.extends.scopes s h);
  edges = λ s l t h. x.edges s l t (f.extends.edges s l t h);
  given = λ s d h. x.given s d (f.extends.given s d h);
  further_edges = λ s l t h. elim (x.further_edges s l t h) [
    | inl e ↦ f.extends.further_edges s l t e
    | inr o ↦ inr (elim o [ inl p ↦ f.rows s l p | inr m ↦ inr (λ k. m (f.extends.scopes s k)) ])
  ];
  further_given = λ s d h. elim (x.further_given s d h) [
    | inl e ↦ f.extends.further_given s d e
    | inr o ↦ inr (elim o [ inl p ↦ f.data_at s p | inr m ↦ inr (λ k. m (f.extends.scopes s k)) ])
  ];
}

pub follow : (D : Type 0) → FollowsChains D
follow D a b c f h = record {
  extends = chain D a b c.graph f h.extends;
  rows = λ s l p. elim (h.rows s l p) [ inl o ↦ f.rows s l o | inr m ↦ inr (λ k. m (f.extends.scopes s k)) ];
  data_at = λ s p. elim (h.data_at s p) [ inl o ↦ f.data_at s o | inr m ↦ inr (λ k. m (f.extends.scopes s k)) ];
}
