-- The grammar of names and types. `DerivesX t xs ys` says that X derives the terminals of xs up to ys, with the tree t; ys are those
-- that stand behind it.
use Rattle.std.specs.Prelude.{ℕ, zero, suc, Bool, false, nat_eq, List, [], ◌∷◌}
use Rattle.jv_tree.specs.declared.name.Ident.{Ident as Identifier}
use Rattle.jv_tree.specs.TypeTree.{BaseTree, boolean, char, int, long, void, named, TypeTree}
use Rattle.jv_grammar.specs.declared.terminal.Terminal.{Terminal}
use Rattle.jv_grammar.specs.declared.terminal.Terminal.TheVariants.{Ident, Keyword, Punct}
use Rattle.jv_grammar.specs.Marks.{bracket_open, bracket_close, comma, dot, word_boolean, word_char, word_int, word_long, word_void}

-- the terminal is the mark n
abbrev pub is_mark : ℕ → Terminal → Bool
is_mark n (Punct p o) = nat_eq o n
is_mark n x = false

-- the terminal is the keyword n
abbrev pub is_word : ℕ → Terminal → Bool
is_word n (Keyword p k) = nat_eq k n
is_word n x = false

-- the first terminal is the mark n, the keyword n
abbrev pub starts : ℕ → List Terminal → Bool
starts n [] = false
starts n (x ∷ xs) = is_mark n x

-- the first terminal is the keyword n
abbrev pub starts_word : ℕ → List Terminal → Bool
starts_word n [] = false
starts_word n (x ∷ xs) = is_word n x

-- name = Id {"." Id}
pub data DerivesName : List Identifier → List Terminal → List Terminal → Type 0 where
  name_one : {i : Identifier} {ys : List Terminal} → DerivesName (i ∷ []) (Ident i ∷ ys) ys
  name_more : {i : Identifier} {ids : List Identifier} {p : ℕ} {xs ys : List Terminal}
      → DerivesName ids xs ys → DerivesName (i ∷ ids) (Ident i ∷ Punct p dot ∷ xs) ys

-- names = name {"," name}
pub data DerivesNames : List (List Identifier) → List Terminal → List Terminal → Type 0 where
  names_one : {ids : List Identifier} {xs ys : List Terminal} → DerivesName ids xs ys → DerivesNames (ids ∷ []) xs ys
  names_more : {ids : List Identifier} {ns : List (List Identifier)} {p : ℕ} {xs zs ys : List Terminal}
      → DerivesName ids xs (Punct p comma ∷ zs) → DerivesNames ns zs ys → DerivesNames (ids ∷ ns) xs ys

-- prim = "boolean" | "char" | "int" | "long"; the number is where it starts
pub data DerivesPrim : ℕ → BaseTree → List Terminal → List Terminal → Type 0 where
  prim_boolean : {p : ℕ} {ys : List Terminal} → DerivesPrim p boolean (Keyword p word_boolean ∷ ys) ys
  prim_char : {p : ℕ} {ys : List Terminal} → DerivesPrim p char (Keyword p word_char ∷ ys) ys
  prim_int : {p : ℕ} {ys : List Terminal} → DerivesPrim p int (Keyword p word_int ∷ ys) ys
  prim_long : {p : ℕ} {ys : List Terminal} → DerivesPrim p long (Keyword p word_long ∷ ys) ys

-- prim | name; the number is where it starts
pub data DerivesBase : ℕ → BaseTree → List Terminal → List Terminal → Type 0 where
  base_prim : {p : ℕ} {b : BaseTree} {xs ys : List Terminal} → DerivesPrim p b xs ys → DerivesBase p b xs ys
  base_name : {i : Identifier} {ids : List Identifier} {xs ys : List Terminal}
      → DerivesName (i ∷ ids) xs ys → DerivesBase i.at (named (i ∷ ids)) xs ys

-- {"[" "]"}; the number is how many pairs there are
pub data DerivesPairs : ℕ → List Terminal → List Terminal → Type 0 where
  pairs_none : {ys : List Terminal} → DerivesPairs zero ys ys
  pairs_more : {n p q : ℕ} {xs ys : List Terminal}
      → DerivesPairs n xs ys → DerivesPairs (suc n) (Punct p bracket_open ∷ Punct q bracket_close ∷ xs) ys

-- ty = (prim | name) {"[" "]"}
pub data DerivesTy : TypeTree → List Terminal → List Terminal → Type 0 where
  ty : {p n : ℕ} {b : BaseTree} {xs zs ys : List Terminal}
      → DerivesBase p b xs zs → DerivesPairs n zs ys → DerivesTy (record { at = p; base = b; dims = n }) xs ys

-- rty = name {"[" "]"} | prim "[" "]" {"[" "]"}
pub data DerivesReference : TypeTree → List Terminal → List Terminal → Type 0 where
  reference_name : {i : Identifier} {ids : List Identifier} {n : ℕ} {xs zs ys : List Terminal}
      → DerivesName (i ∷ ids) xs zs → DerivesPairs n zs ys
      → DerivesReference (record { at = i.at; base = named (i ∷ ids); dims = n }) xs ys
  reference_prim : {p n : ℕ} {b : BaseTree} {xs zs ys : List Terminal}
      → DerivesPrim p b xs zs → DerivesPairs (suc n) zs ys
      → DerivesReference (record { at = p; base = b; dims = suc n }) xs ys

-- ty | "void"
pub data DerivesResult : TypeTree → List Terminal → List Terminal → Type 0 where
  result_ty : {t : TypeTree} {xs ys : List Terminal} → DerivesTy t xs ys → DerivesResult t xs ys
  result_void : {p : ℕ} {ys : List Terminal} → DerivesResult (record { at = p; base = void; dims = 0 }) (Keyword p word_void ∷ ys) ys
