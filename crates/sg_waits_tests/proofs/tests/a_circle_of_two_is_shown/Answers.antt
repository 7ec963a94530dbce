use Rattle.std.proofs.Common.{ℕ, zero, suc, List, [], ◌∷◌, refl, sym, subst, arith}
use Rattle.std.specs.List.{Contains}
use Rattle.sg_base.proofs.Finite.{nothing_in, single}
use Rattle.sg_state.specs.declared.need.Need.{Need}
use Rattle.sg_waits.specs.declared.status.Status.TheVariants.{Waits}
use Rattle.sg_waits.specs.Shown.{NamesHolders}
use Rattle.sg_waits.specs.Waits.{WaitsOf}
use Rattle.sg_waits_tests.proofs.tests.a_circle_of_two_is_shown.Goals as goal

abbrev held : Need → Need → List (Need × ℕ)
held a b = (a, 7) ∷ (b, 0) ∷ (a, 1) ∷ []

circle : (a b : Need) → NamesHolders (Waits (a ∷ []) ∷ Waits (b ∷ []) ∷ []) (held a b)
circle a b zero n l = (7, subst (λ (x : Need). Contains {X = Need × ℕ} (held a b) (x, 7)) (sym (single a n l.0)) (zero, omega arith, refl))
circle a b (suc zero) n l = (0, subst (λ (x : Need). Contains {X = Need × ℕ} (held a b) (x, 0)) (sym (single b n l.0)) (suc zero, omega arith, refl))
circle a b (suc (suc u)) n l = absurd (nothing_in n l.0)

pub shown-requires : goal.shown-requires
shown-requires g c = record { named = subst (λ (ws : WaitsOf). NamesHolders ws (held c.row-first.result c.row-second.result)) (sym c.in_ok-waits.ensures) (circle c.row-first.result c.row-second.result) }
