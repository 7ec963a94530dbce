-- Names as they are written, from the first identifier on.
use Rattle.std.proofs.Common.{◌≡◌, ℕ, List, ◌∷◌, ◌++◌, sym, ap, ◌∙◌}
use Rattle.jv_layout.specs.Folder.{text_of, numbers_of}
use Rattle.jv_layout.specs.Titles.{following}
use Rattle.jv_layout.proofs.Naming.{dotted_first}
use Rattle.jv_tree.specs.declared.name.Ident.{Ident}
use Rattle.jv_names.specs.Written.{written}

-- the first identifier, and those that follow
pub written_round : (names : List (List ℕ)) (ids : List Ident) (i : Ident) (rest : List Ident) (t0 t1 y : List ℕ) → ids ≡ i ∷ rest → t0 ≡ y → y ≡ text_of names i.id.0 → t1 ≡ t0 ++ following names (numbers_of rest) → t1 ≡ written names ids
written_round names ids i rest t0 t1 y e a b c =
    c ∙ (ap (λ (z : List ℕ). z ++ following names (numbers_of rest)) (a ∙ b) ∙ (dotted_first names i.id.0 (numbers_of rest) ∙ ap (λ (is : List Ident). written names is) (sym e)))
