-- What followers may give next.
use Rattle.std.specs.Prelude.{◌≡◌, ℕ, List, ◌∷◌, ◌++◌, Bool, Option}
use Rattle.std.specs.List.{Contains}
use Rattle.sg_base.specs.declared.scope.Scope.{Scope}
use Rattle.sg_base.specs.Graph.{Edge}
use Rattle.sg_query.specs.declared.answer.Answer.{Answer}
use Rattle.sg_query.specs.declared.query.Query.{Query}
use Rattle.sg_reading.specs.Reading.{Reading, AllAsked, AllEnds}
use Rattle.sg_state.specs.declared.need.Need.TheVariants.{Row}
use Rattle.sg_state.specs.Held.{HoldsRow, HoldsDatum}
use Rattle.sg_unit.specs.declared.op.Op.{Op}
use Rattle.sg_unit.specs.Run.{Setting, asked_by}
use Rattle.sg_unit.specs.Trace.{Past}
use Rattle.sg_script.specs.declared.write.Write.{Write}
use Rattle.sg_script.specs.declared.write.Write.TheVariants.{SetDatum as Sets}
use Rattle.sg_script.specs.Following.{FollowsPlan}
use Rattle.sg_script.specs.Script.{Stage, Plan, row_stage, edges_stage}
use Rattle.sg_strata.specs.Program.{Program}
use Rattle.sg_headers.specs.Imports.{MayReadImports}
use Rattle.sg_unit.specs.Orderly.{IsOrderly}
use Rattle.sg_headers.specs.Orderly.{MayReadHeader, AsksNoSignature, MayAskSignatures}

-- where the first stage writes a header's row, a unit that follows the plan is orderly as the header's reader
abbrev pub FollowersReadHeaders : Type 0 → Type 0 → Type 0 → Type 0 → Type 0
FollowersReadHeaders I R D P =
    (plan : Plan R D P) (c : Scope) (super : ℕ) (header : Reading (Query P) (Answer D) (List Scope)) (later : List (Stage D P)) (reply : Query P → Option (Answer D)) (asked : Option (Query P)) (pending : List (Write D)) (n : ℕ) (ended : Bool) (past : Past I R D P) (last : Option (Op I R D P))
    → FollowsPlan plan reply asked pending n ended past last → plan.stages ≡ row_stage c super header ∷ later → IsOrderly (MayReadHeader (λ q. q) header c super) past last

-- where the first stage writes all rows that the unit holds, by a rule of imports, and no later stage writes a row, a unit that follows the plan
-- is orderly as the reader of imports
abbrev pub FollowersReadImports : Type 0 → Type 0 → Type 0 → Type 0 → Type 0
FollowersReadImports I R D P =
    (z : Setting D P) (plan : Plan R D P) (rows : List (Scope × ℕ)) (rule : Reading (Query P) (Answer D) (List Edge)) (later : List (Stage D P)) (reply : Query P → Option (Answer D)) (asked : Option (Query P)) (pending : List (Write D)) (n : ℕ) (ended : Bool) (past : Past I R D P) (last : Option (Op I R D P))
    → FollowsPlan plan reply asked pending n ended past last → plan.stages ≡ edges_stage rows rule ∷ later → ((s : Scope) (l : ℕ) → HoldsRow z.opening plan.unit s l → Contains rows (s, l))
    → ((t : Stage D P) (s : Scope) (l : ℕ) → Contains later t → Contains t.places (Row s l) → ⊥)
    → IsOrderly (MayReadImports z plan.unit (λ q. q) rule) past last

-- the stage sets the datum of the scope, whatever the answers
abbrev pub SetsDatum : {D P : Type 0} → Stage D P → Scope → Type 0
SetsDatum {D} t s = AllEnds (λ ws. (d : D) × Contains ws (Sets s d)) t.rule

-- where first stages set all data that the unit holds and ask no signature, a signature is asked when all these data are set
abbrev pub FollowersAskSignaturesLast : Type 0 → Type 0 → Type 0 → Type 0 → Type 0 → Type 0
FollowersAskSignaturesLast I R Q D P =
    (p : Program Q D) (z : Setting D P) (plan : Plan R D P) (first later : List (Stage D P)) (reply : Query P → Option (Answer D)) (asked : Option (Query P)) (pending : List (Write D)) (n : ℕ) (ended : Bool) (past : Past I R D P) (last : Option (Op I R D P))
    → FollowsPlan plan reply asked pending n ended past last → plan.stages ≡ first ++ later → ((t : Stage D P) → Contains first t → AllAsked (λ q. AsksNoSignature p (asked_by z q)) t.rule)
    → ((s : Scope) → HoldsDatum z.opening plan.unit s → (t : Stage D P) × Contains first t × SetsDatum t s)
    → IsOrderly (MayAskSignatures p z plan.unit) past last
