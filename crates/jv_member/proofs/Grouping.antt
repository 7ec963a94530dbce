-- Methods that are put to those of their name.
use Rattle.std.proofs.Common.{◌≡◌, Bool, true, false, cond, List, [], ◌∷◌, ◌++◌, Option, Some, None, refl, ap, ◌∙◌, sym}
use Rattle.std.specs.Map.{lookup, set_value}
use Rattle.indexmap.specs.IndexMap.{insert_entry}
use Rattle.sg_base.specs.declared.scope.Scope.{Scope}
use Rattle.jv_layout.specs.Folder.{LayoutOf}
use Rattle.jv_tree.specs.declared.names.NameId.{NameId}
use Rattle.jv_member.specs.Overriding.{Groups, same_name, method_name, or_nothing, with_method}

module _ {K X : Type 0} (eq : K → K → Bool) (k : K) (w : X) where
  set_on : (b : Bool) (e : K × X) (es fs gs : List (K × X)) → (b ≡ false → fs ≡ gs) → cond b ((e.0, w) ∷ es) (e ∷ fs) ≡ cond b ((e.0, w) ∷ es) (e ∷ gs)
  set_on true e es fs gs h = refl
  set_on false e es fs gs h = ap (λ (xs : List (K × X)). e ∷ xs) (h refl)

  found_later : (b : Bool) (x v : X) (o : Option X) → b ≡ false → cond b (Some x) o ≡ Some v → o ≡ Some v
  found_later true x v o e h = absurd (cc)
  found_later false x v o e h = h

  -- a value that is written at a key which is there is inserted
  pub set_is_insert : (es : List (K × X)) (v : X) → lookup (eq k) es ≡ Some v → set_value (eq k) es w ≡ insert_entry eq es k w
  set_is_insert [] v h = absurd (let n : None ≡ Some v = h in cc)
  set_is_insert (e ∷ es) v h = set_on (eq k e.0) e es (set_value (eq k) es w) (insert_entry eq es k w) (λ b. set_is_insert es v (found_later (eq k e.0) e.1 v (lookup (eq k) es) b h))

-- a method that is put to others of its name
pub grown : (l : LayoutOf) (gs : Groups) (m : Scope) (n : NameId) (old w : List Scope) → n ≡ method_name l m → Some old ≡ lookup (same_name n) gs → w ≡ old ++ m ∷ [] → set_value (same_name n) gs w ≡ with_method l gs m
grown l gs m n old w name there more =
    set_is_insert same_name n w gs old (sym there)
    ∙ (ap (λ (x : List Scope). insert_entry same_name gs n x) (more ∙ ap (λ (o : Option (List Scope)). or_nothing o ++ m ∷ []) there)
    ∙ ap (λ (k : NameId). insert_entry same_name gs k (or_nothing (lookup (same_name k) gs) ++ m ∷ [])) name)
