-- What begins a name or a type. `BeginsX xs` says that the terminals of xs, all of them, begin X. In each family the first case is the
-- empty list and `whole` the last place, where X is all there; between them stands one case for each other place of the production: the
-- parts in front of it derive, with the terminals behind them, and the part at it is begun. A place at a mark, a keyword or an
-- identifier that is not there yet is that of the part in front of it; a part of one terminal is begun where it is there.
use Rattle.std.specs.Prelude.{ℕ, List, [], ◌∷◌}
use Rattle.jv_tree.specs.declared.name.Ident.{Ident as Identifier}
use Rattle.jv_tree.specs.TypeTree.{BaseTree, TypeTree}
use Rattle.jv_grammar.specs.declared.terminal.Terminal.{Terminal}
use Rattle.jv_grammar.specs.declared.terminal.Terminal.TheVariants.{Ident, Punct}
use Rattle.jv_grammar.specs.Marks.{bracket_open, bracket_close, comma, dot}
use Rattle.jv_grammar.specs.TypeGrammar.{DerivesName, DerivesNames, DerivesPrim, DerivesBase, DerivesTy, DerivesReference, DerivesResult}

-- name = Id {"." Id}
pub data BeginsName : List Terminal → Type 0 where
  begun_name_none : BeginsName []
  begun_name_more : {i : Identifier} {p : ℕ} {xs : List Terminal} → BeginsName xs → BeginsName (Ident i ∷ Punct p dot ∷ xs)
  begun_name_whole : {ids : List Identifier} {xs : List Terminal} → DerivesName ids xs [] → BeginsName xs

-- names = name {"," name}
pub data BeginsNames : List Terminal → Type 0 where
  begun_names_none : BeginsNames []
  begun_names_one : {xs : List Terminal} → BeginsName xs → BeginsNames xs
  begun_names_more : {ids : List Identifier} {p : ℕ} {xs zs : List Terminal}
      → DerivesName ids xs (Punct p comma ∷ zs) → BeginsNames zs → BeginsNames xs
  begun_names_whole : {ns : List (List Identifier)} {xs : List Terminal} → DerivesNames ns xs [] → BeginsNames xs

-- prim | name
pub data BeginsBase : List Terminal → Type 0 where
  begun_base_none : BeginsBase []
  begun_base_name : {xs : List Terminal} → BeginsName xs → BeginsBase xs
  begun_base_whole : {p : ℕ} {b : BaseTree} {xs : List Terminal} → DerivesBase p b xs [] → BeginsBase xs

-- {"[" "]"}
pub data BeginsPairs : List Terminal → Type 0 where
  begun_pairs_none : BeginsPairs []
  begun_pairs_open : {p : ℕ} → BeginsPairs (Punct p bracket_open ∷ [])
  begun_pairs_more : {p q : ℕ} {xs : List Terminal} → BeginsPairs xs → BeginsPairs (Punct p bracket_open ∷ Punct q bracket_close ∷ xs)

-- ty = (prim | name) {"[" "]"}
pub data BeginsTy : List Terminal → Type 0 where
  begun_ty_none : BeginsTy []
  begun_ty_base : {xs : List Terminal} → BeginsBase xs → BeginsTy xs
  begun_ty_pairs : {p : ℕ} {b : BaseTree} {xs zs : List Terminal} → DerivesBase p b xs zs → BeginsPairs zs → BeginsTy xs
  begun_ty_whole : {r : TypeTree} {xs : List Terminal} → DerivesTy r xs [] → BeginsTy xs

-- rty = name {"[" "]"} | prim "[" "]" {"[" "]"}
pub data BeginsReference : List Terminal → Type 0 where
  begun_reference_none : BeginsReference []
  begun_reference_name : {xs : List Terminal} → BeginsName xs → BeginsReference xs
  begun_reference_name_pairs : {ids : List Identifier} {xs zs : List Terminal} → DerivesName ids xs zs → BeginsPairs zs → BeginsReference xs
  begun_reference_prim_pairs : {p : ℕ} {b : BaseTree} {xs zs : List Terminal} → DerivesPrim p b xs zs → BeginsPairs zs → BeginsReference xs
  begun_reference_whole : {r : TypeTree} {xs : List Terminal} → DerivesReference r xs [] → BeginsReference xs

-- ty | "void"
pub data BeginsResult : List Terminal → Type 0 where
  begun_result_none : BeginsResult []
  begun_result_ty : {xs : List Terminal} → BeginsTy xs → BeginsResult xs
  begun_result_whole : {r : TypeTree} {xs : List Terminal} → DerivesResult r xs [] → BeginsResult xs
