-- Where a path ends.
use Rattle.std.proofs.Common.{◌≡◌, ℕ, zero, suc, List, [], ◌∷◌, length, get_or, arith, ap, sym}
use Rattle.sg_base.specs.declared.scope.Scope.{Scope}
use Rattle.sg_base.specs.declared.step.Step.{Step}
use Rattle.sg_base.specs.Path.{end_of}

-- the target of the last step is where the steps end
pub end_at : (s : Scope) (ps : List Step) (k : ℕ) (x : Step) → length ps ≡ suc k → x ≡ get_or ps k x → end_of s ps ≡ x.to
end_at s [] k x l h = absurd (omega arith)
end_at s (p ∷ []) zero x l h = ap (λ (y : Step). y.to) (sym h)
end_at s (p ∷ []) (suc k) x l h = absurd (omega arith)
end_at s (p ∷ q ∷ r) zero x l h = absurd (omega arith)
end_at s (p ∷ q ∷ r) (suc k) x l h = end_at p.to (q ∷ r) k x (omega arith) h
