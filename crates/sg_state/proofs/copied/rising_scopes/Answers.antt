use Rattle.std.proofs.Common.{List, ◌↔◌, subst}
use Rattle.std.proofs.lemmas.List.Sorted.{Contains-permutation, IsPermutation-sym}
use Rattle.std.specs.List.{Contains}
use Rattle.sg_base.specs.declared.scope.Scope.{Scope}
use Rattle.sg_state.proofs.copied.rising_scopes.Goals as goal

pub returns : goal.returns
returns g c = λ s.
    let old = c.in_ok-scopes.scopes.items in
    let new = c.sort_unstable.new.self.items in
    let moved = c.sort_unstable.ensures.permutation in
    subst (λ (ks : List Scope). (Contains new s) ↔ (Contains ks s)) c.in_ok-scopes.ensures ((λ h. Contains-permutation new old s (IsPermutation-sym old new moved) h), (λ h. Contains-permutation old new s moved h))
