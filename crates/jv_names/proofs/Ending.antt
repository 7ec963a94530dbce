-- The ends of paths, as a loop over the paths reads them.
use Rattle.std.proofs.Common.{◌≡◌, ◌⊎◌, ◌↔◌, Bool, true, false, ◌&&◌, ◌||◌, cond, List, [], ◌∷◌, Option, Some, None, map, refl, ap}
use Rattle.std.specs.List.{Contains, filter, list_any}
use Rattle.sg_base.specs.declared.scope.Scope.{Scope}
use Rattle.sg_base.specs.List.{IsRising}
use Rattle.sg_base.specs.Scope.{scope_cmp, scope_total}
use Rattle.sg_base.proofs.Scopes.{equal_scope}
use Rattle.sg_query.specs.declared.found.Found.{Found}
use Rattle.sg_state.specs.Held.{put}
use Rattle.sg_state.proofs.RisingLists.{is_put}
use Rattle.jv_instance.specs.declared.datum.JavaDatum.{JavaDatum}
use Rattle.jv_layout.specs.Folder.{LayoutOf}
use Rattle.jv_names.specs.declared.counts.Counts.{Counts}
use Rattle.jv_names.specs.declared.meaning.Meaning.{Meaning}
use Rattle.jv_names.specs.Ends.{meaning_of, path_end, is_counted, counted_ends}

-- the meaning by ends, after a first one
abbrev pub meaning_from : Option Scope → List Scope → Meaning
meaning_from None es = meaning_of es
meaning_from (Some e) es = meaning_of (e ∷ es)

-- a test of paths that count looks at their ends
any_step : (g : Scope → Bool) (b : Bool) (f : Found JavaDatum) (fs : List (Found JavaDatum)) (r : Bool) → r ≡ list_any g (map (λ f. path_end f.path) fs) → ((b && g (path_end f.path)) || r) ≡ list_any g (map (λ f. path_end f.path) (cond b (f ∷ fs) fs))
any_step g true f fs r e = ap (λ (q : Bool). g (path_end f.path) || q) e
any_step g false f fs r e = e

pub any_end : (l : LayoutOf) (c : Counts) (g : Scope → Bool) (fs : List (Found JavaDatum)) → list_any (λ f. is_counted l c f && g (path_end f.path)) fs ≡ list_any g (counted_ends l c fs)
any_end l c g [] = refl
any_end l c g (f ∷ fs) = any_step g (is_counted l c f) f (filter (is_counted l c) fs) (list_any (λ f. is_counted l c f && g (path_end f.path)) fs) (any_end l c g fs)

-- a set with one more scope
pub scope_put : (xs ys : List Scope) (s : Scope) → IsRising scope_cmp xs → IsRising scope_cmp ys → ((t : Scope) → (Contains ys t) ↔ (Contains xs t ⊎ (t ≡ s))) → ys ≡ put scope_cmp xs s
scope_put xs ys s up r same = is_put scope_cmp scope_total xs ys s (λ y k. equal_scope s y) up r same
