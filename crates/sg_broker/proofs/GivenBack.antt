-- The lock's seat after a turn.
use Rattle.std.proofs.Common.{◌≡◌, ◌<◌, List, [], ◌∷◌, ◌++◌, true, false, refl, sym, ap, ◌∙◌, length, length-append, append-nil, arith}
use Rattle.sg_unit.specs.declared.entry.Entry.{Entry}
use Rattle.sg_core.specs.Core.{CoreOf}
use Rattle.sg_turn.specs.TurnSeat.{Known}
use Rattle.sg_broker.specs.Broker.{given_back}

pub nothing_more : {X : Type 0} (log seen more : List X) → log ≡ seen ++ more → length log ≡ length seen → more ≡ []
nothing_more log seen [] is same = refl
nothing_more log seen (x ∷ more) is same = absurd (let a = ap length is in let b = length-append seen (x ∷ more) in omega (arith, a, b, same))

pub some_more : {X : Type 0} (log seen more : List X) → log ≡ seen ++ more → (length log ≡ length seen → ⊥) → 0 < length more
some_more log seen [] is other = absurd (other (ap length (is ∙ append-nil seen)))
some_more log seen (x ∷ more) is other = omega arith

module _ {I R D P : Type 0} (t w : Known (Entry I R D P) (CoreOf I R D P)) where
  pub gave_nothing : (more : List (Entry I R D P)) → more ≡ [] → w ≡ record t { inside = false; spent = true } → w ≡ given_back t more
  gave_nothing more none is =
      is ∙ (λ i. record t { seen = sym (append-nil t.seen) i; mine = sym (append-nil t.mine) i; inside = false; spent = true }) ∙ ap (λ (es : List (Entry I R D P)). given_back t es) (sym none)

  pub gave_more : (log more : List (Entry I R D P)) → 0 < length more → t.spent ≡ false → log ≡ t.seen ++ more → w ≡ record t { seen = log; mine = t.mine ++ more; inside = false } → w ≡ given_back t more
  gave_more log [] some unspent is given = absurd (omega (arith, some))
  gave_more log (e ∷ more) some unspent is given =
      given ∙ (λ i. record t { seen = is i; mine = t.mine ++ e ∷ more; inside = false; spent = unspent i })
