-- The members that are brought, one after another.
use Rattle.std.proofs.Common.{◌≡◌, ℕ, ◌+◌, ◌<◌, Bool, true, false, cond, List, ◌∷◌, drop, fold, get_or, length, refl, sym, ap, ◌∙◌}
use Rattle.std.specs.Prelude.{not}
use Rattle.std.specs.List.{filter}
use Rattle.std.proofs.lemmas.List.{at_drop_more}
use Rattle.sg_base.specs.declared.scope.Scope.{Scope}
use Rattle.sg_base.specs.Scope.{scope_cmp}
use Rattle.sg_state.specs.Held.{put}

-- a member that is put by a test, and the rest behind it
pub by_test : (b : Bool) (old : List Scope) (m : Scope) (rest : List Scope) → fold (put scope_cmp) (cond (not b) old (put scope_cmp old m)) rest ≡ fold (put scope_cmp) old (cond b (m ∷ rest) rest)
by_test true old m rest = refl
by_test false old m rest = refl

-- one member more
pub brought_more : (p : Scope → Bool) (old new ms : List Scope) (i : ℕ) (d : Scope) (whole : List Scope) → i < length ms → new ≡ cond (not (p (get_or ms i d))) old (put scope_cmp old (get_or ms i d))
    → fold (put scope_cmp) old (filter p (drop i ms)) ≡ whole → fold (put scope_cmp) new (filter p (drop (i + 1) ms)) ≡ whole
brought_more p old new ms i d whole below e h =
    let rest = filter p (drop (i + 1) ms) in
    ap (λ (s : List Scope). fold (put scope_cmp) s rest) e ∙ (by_test (p (get_or ms i d)) old (get_or ms i d) rest
    ∙ (ap (λ (s : List Scope). fold (put scope_cmp) old s) (sym (at_drop_more (filter p) ms i d below)) ∙ h))
