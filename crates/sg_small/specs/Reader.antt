-- Readers of the headers of small programs: scripts of one stage, each with the replies that have come.
use Rattle.std.specs.Prelude.{◌≡◌, ℕ, List, [], ◌∷◌, ◌++◌, cond, is_some, Option, Some, None}
use Rattle.std.specs.List.{Contains}
use Rattle.sg_base.specs.declared.scope.Scope.{Scope}
use Rattle.sg_query.specs.declared.answer.Answer.{Answer}
use Rattle.sg_query.specs.Query.{KindOf}
use Rattle.sg_query.specs.declared.query.Query.{Query}
use Rattle.sg_reading.specs.Reading.{done}
use Rattle.sg_state.specs.Opening.{nobody}
use Rattle.sg_script.specs.Script.{Plan, row_stage}
use Rattle.sg_headers.specs.Small.{three, three_types, row_query, looking}

-- a reader: its number, which is its type's, the kinds of its queries, the types whose supertypes its header looks at, the supertypes that it gives,
-- and the replies so far
pub record ReaderOf : Type 0 where
  pub number : ℕ
  pub kinds : List KindOf
  pub looks : List Scope
  pub gives : List Scope
  pub replies : List (Query ℕ × Answer ℕ)

-- the reader to which this reply came last
abbrev pub reader_told : ReaderOf → Query ℕ → Answer ℕ → ReaderOf
reader_told r q a = record { number = r.number; kinds = r.kinds; looks = r.looks; gives = r.gives; replies = r.replies ++ (q, a) ∷ [] }

-- the type with this number
abbrev pub type_of : ℕ → Scope
type_of n = record { unit = nobody; serial = n }

-- it writes the row of its header's supertypes, and comes to 7
abbrev pub reader_plan : ReaderOf → Plan ℕ ℕ ℕ
reader_plan r = record {
  unit = r.number;
  opening = three;
  kinds = r.kinds;
  preds = 5 ∷ [];
  stages = row_stage (type_of r.number) 0 (looking 5 r.looks r.gives) ∷ [];
  ending = done 7;
}

-- the query of the first of these types that has no reply
abbrev pub first_missing : (Query ℕ → Option (Answer ℕ)) → List Scope → Option (Query ℕ)
first_missing reply [] = None
first_missing reply (s ∷ ss) = cond (is_some (reply (row_query 5 s))) (first_missing reply ss) (Some (row_query 5 s))

-- all these are the three types
abbrev pub AreTypes : List Scope → Type 0
AreTypes ss = (s : Scope) → Contains ss s → Contains three_types s

-- one of three readers of a table with a kind, to which no reply has come
pub record IsNewReader (n : ℕ) (ks : List KindOf) (r : ReaderOf) : Type 0 where
  pub number : r.number ≡ n
  pub kinds : r.kinds ≡ ks
  pub looks : AreTypes r.looks
  pub gives : AreTypes r.gives
  pub replies : r.replies ≡ []
