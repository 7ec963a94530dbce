-- Two small programs of one type, and a run of each: in one the header asks along the type's own row, and in the other it asks nothing.
use Rattle.std.specs.Prelude.{List, [], ◌∷◌, Bool, false}
use Rattle.sg_base.specs.declared.scope.Scope.{Scope}
use Rattle.sg_query.specs.declared.answer.Answer.{Answer}
use Rattle.sg_query.specs.declared.query.Query.{Query}
use Rattle.sg_reading.specs.Reading.{Reading, done, ask}
use Rattle.sg_unit.specs.declared.entry.Entry.{Entry}
use Rattle.sg_unit.specs.declared.op.Op.TheVariants.{AddEdge, CloseRow, End}
use Rattle.sg_unit.specs.declared.reply.Reply.TheVariants.{Done}
use Rattle.sg_unit.specs.Example.{corner, corner_query, lonely, lonely_setting}
use Rattle.sg_unit.specs.Run.{asked_by}
use Rattle.sg_strata.specs.Program.{Program}
use Rattle.sg_headers.specs.Setting.{Roles}

-- the only scope is a type with this header
abbrev pub one_type : {D P : Type 0} → (P → D → Bool) → (D → D → Bool) → Reading (Query P) (Answer D) (List Scope) → Program (Query P) D
one_type wants same header = record {
  skeleton = (lonely).graph;
  types = corner ∷ [];
  header = λ c. header;
  signatures = [];
  super_label = 0;
  signature_label = 1;
  asked = λ q. asked_by (lonely_setting wants same) q;
}

-- unit 0 reads the header, and there are no imports
abbrev pub one_reader : {P : Type 0} → Roles (Query P) P
one_reader = record { query = λ q. q; reader = λ c. 0; imports = λ u. false }

-- a header that asks along the row of its own type
abbrev pub circular : {D P : Type 0} → P → Reading (Query P) (Answer D) (List Scope)
circular x = ask (corner_query x) (λ a. done [])

-- a header that gives the type itself
abbrev pub plain : {D P : Type 0} → Reading (Query P) (Answer D) (List Scope)
plain = done (corner ∷ [])

-- the reader of the plain header adds its edge, closes the row, and ends
abbrev pub plain_log : {I R D P : Type 0} → R → List (Entry I R D P)
plain_log x =
    (record { unit = 0; op = AddEdge corner 0 corner; reply = Done [] }) ∷ (record { unit = 0; op = CloseRow corner 0; reply = Done [] }) ∷ (record { unit = 0; op = End x; reply = Done [] }) ∷ []
