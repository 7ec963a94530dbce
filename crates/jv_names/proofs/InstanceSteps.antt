-- Bodies outward end at a static type.
use Rattle.std.proofs.Common.{◌≡◌, Bool, true, cond, List, [], ◌∷◌, ◌++◌, refl, sym, ap, ◌∙◌}
use Rattle.std.proofs.lemmas.List.{append-nil}
use Rattle.sg_base.specs.declared.scope.Scope.{Scope}
use Rattle.jv_layout.specs.Folder.{LayoutOf}
use Rattle.jv_layout.specs.Readers.{is_static_of}
use Rattle.jv_names.specs.Instances.{instances_from}

-- a static type ends the bodies
none_beyond : (l : LayoutOf) (t : Scope) (bs : List Scope) → is_static_of l t ≡ true → instances_from l t bs ≡ []
none_beyond l t [] e = refl
none_beyond l t (b ∷ bs) e = ap (λ (k : Bool). cond k [] (b ∷ instances_from l b bs)) e

pub instances_end : (l : LayoutOf) (found all : List Scope) (t : Scope) (bs : List Scope) → is_static_of l t ≡ true → found ++ instances_from l t bs ≡ all → found ≡ all
instances_end l found all t bs e h = sym (append-nil found) ∙ (ap (λ (xs : List Scope). found ++ xs) (sym (none_beyond l t bs e)) ∙ h)
