-- A name and its last identifier.
use Rattle.std.proofs.Common.{◌≡◌, List, [], ◌∷◌, ◌++◌, refl, ap}
use Rattle.jv_tree.specs.declared.name.Ident.{Ident}
use Rattle.jv_names.specs.Written.{last_name, without_last}

pub last_of : (ids : List Ident) (i : Ident) → last_name (ids ++ i ∷ []) ≡ i.id
last_of [] i = refl
last_of (a ∷ []) i = refl
last_of (a ∷ b ∷ ids) i = last_of (b ∷ ids) i

pub without_of : (ids : List Ident) (i : Ident) → without_last (ids ++ i ∷ []) ≡ ids
without_of [] i = refl
without_of (a ∷ []) i = refl
without_of (a ∷ b ∷ ids) i = ap (λ (rest : List Ident). a ∷ rest) (without_of (b ∷ ids) i)
