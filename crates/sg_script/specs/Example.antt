-- A small script, which shows that the definitions are met: a row whose targets an answer gives, a datum, and a number at last.
use Rattle.std.specs.Prelude.{◌≡◌, ℕ, List, [], ◌∷◌, Bool, ◌&&◌, ◌==◌, IsTrue, Option, Some}
use Rattle.sg_base.specs.declared.scope.Scope.{Scope}
use Rattle.sg_base.specs.Scope.{is_scope}
use Rattle.sg_query.specs.declared.answer.Answer.{Answer}
use Rattle.sg_query.specs.declared.answer.Answer.TheVariants.{Paths, TooMany}
use Rattle.sg_query.specs.declared.query.Query.{Query}
use Rattle.sg_reading.specs.Reading.{Reading, done, ask}
use Rattle.sg_reading.specs.Replies.{reply_of}
use Rattle.sg_script.specs.Script.{Plan, row_stage, datum_stage}
use Rattle.sg_state.specs.Opening.{nobody}
use Rattle.sg_unit.specs.Example.{one_step}

-- the scope whose row and datum the unit holds
abbrev pub here : Scope
here = record { unit = nobody; serial = 0 }

-- the other scope
abbrev pub there : Scope
there = record { unit = nobody; serial = 1 }

-- the query that is asked
abbrev pub first_query : Query ℕ
first_query = record { start = there; kind = 0; pred = 5 }

-- whether two queries are the same
abbrev pub is_query : Query ℕ → Query ℕ → Bool
is_query p q = is_scope p.start q.start && ((p.kind == q.kind) && (p.pred == q.pred))

-- the targets of the row by an answer
abbrev pub targets : Answer ℕ → List Scope
targets (Paths fs) = there ∷ []
targets TooMany = []

-- the rule of the row
abbrev pub row_rule : Reading (Query ℕ) (Answer ℕ) (List Scope)
row_rule = ask first_query (λ a. done (targets a))

-- the rule of the datum
abbrev pub datum_rule : Reading (Query ℕ) (Answer ℕ) ℕ
datum_rule = done 9

-- the rule of the number that the unit comes to
abbrev pub number_rule : Reading (Query ℕ) (Answer ℕ) ℕ
number_rule = ask first_query (λ a. done 7)

-- the plan of the only unit, which holds the first scope's row with label 1 and its datum
abbrev pub small_plan : Plan ℕ ℕ ℕ
small_plan = record {
  unit = 0;
  opening = record {
    graph = record { scopes = here ∷ there ∷ []; edges = []; given = [] };
    row_holds = (record { scope = here; label = 1; unit = 0 }) ∷ [];
    datum_holds = (record { scope = here; unit = 0 }) ∷ [];
    made = 0 ∷ [];
    rest = [];
  };
  kinds = one_step;
  preds = 5 ∷ [];
  stages = row_stage here 1 row_rule ∷ datum_stage here datum_rule ∷ [];
  ending = number_rule;
}

-- the replies
abbrev pub reply_to : List (Query ℕ × Answer ℕ) → Query ℕ → Option (Answer ℕ)
reply_to replies q = reply_of is_query replies q

-- where this is kept, the query has a reply
abbrev pub HasFound : List (Query ℕ × Answer ℕ) → Bool → Type 0
HasFound replies found = IsTrue found → (a : Answer ℕ) × (reply_to replies first_query ≡ Some a)
