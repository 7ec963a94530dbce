-- Sets of types whose headers stand on one another in ranks.
use Rattle.std.specs.Prelude.{ℕ, List, Bool, ◌&&◌, nat_lt, IsTrue}
use Rattle.std.specs.List.{Contains}
use Rattle.sg_base.specs.declared.scope.Scope.{Scope}
use Rattle.sg_strata.specs.Program.{Program, state_with, IsHeaderRow}

-- the types of the set that have a lower rank than this one
abbrev pub lower : (Scope → Bool) → (Scope → ℕ) → Scope → Scope → Bool
lower in_set rank c d = in_set d && nat_lt (rank d) (rank c)

-- the types of the set have ranks such that each header is settled by the supertypes of lower ranks, and gives its own
pub record IsStratified {Q D : Type 0} (p : Program Q D) (in_set : Scope → Bool) (row : Scope → List Scope) : Type 0 where
  pub rank : Scope → ℕ
  pub stands : (c : Scope) → Contains p.types c → IsTrue (in_set c) → IsHeaderRow p (state_with p (lower in_set rank c) row) c (row c)

-- no stratified set has a type outside this one
pub record IsGreatest {Q D : Type 0} (p : Program Q D) (in_set : Scope → Bool) (row : Scope → List Scope) : Type 0 where
  pub stratified : IsStratified p in_set row
  pub greatest : (other : Scope → Bool) (others : Scope → List Scope) → IsStratified p other others → (c : Scope) → Contains p.types c → IsTrue (other c) → IsTrue (in_set c)
