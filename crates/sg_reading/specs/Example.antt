-- A name in nested blocks, as rules.
use Rattle.std.specs.Prelude.{ℕ, List, Option, Some, None, Bool, ◌==◌, ◌&&◌, if◌then◌else◌}
use Rattle.sg_reading.specs.declared.example.Answer.{Answer}
use Rattle.sg_reading.specs.declared.example.Answer.TheVariants.{Declared, Undeclared}
use Rattle.sg_reading.specs.declared.example.Query.{Query}
use Rattle.sg_reading.specs.Replies.{reply_of}
use Rattle.sg_reading.specs.Stop.{Replied}
use Rattle.sg_reading.specs.Reading.{Reading, Gives, AnswersAlike, done, ask, and_then, each, first_found, on_found}

-- whether two queries are the same
abbrev pub is_query : Query → Query → Bool
is_query p q = (p.block == q.block) && (p.name == q.name)

-- the reply to a query
abbrev pub reply_to : List (Query × Answer) → Query → Option Answer
reply_to replies q = reply_of is_query replies q

-- the place that is declared, where it fits the blocks
abbrev pub place_of : Answer → Option ℕ
place_of (Declared place fits) = if fits then Some place else None
place_of Undeclared = None

-- the place that a block declares under a name
unfoldable pub declared_in : ℕ → ℕ → Reading Query Answer (Option ℕ)
declared_in name block = ask (record { block = block; name = name }) (λ a. done (place_of a))

-- the place that the first of the blocks declares under a name which declares one
unfoldable pub nearest : List ℕ → ℕ → Reading Query Answer (Option ℕ)
nearest blocks name = first_found (declared_in name) blocks

-- the member of the block that a name means
abbrev pub member : List ℕ → ℕ → ℕ → Reading Query Answer (Option ℕ)
member blocks name of = and_then (nearest blocks name) (λ found. on_found found (declared_in of))

-- the place that each of the blocks declares under a name
abbrev pub places : List ℕ → ℕ → Reading Query Answer (List (Option ℕ))
places blocks name = each (declared_in name) blocks

-- where the queries that the member's rule asks over some replies are answered alike over others, it has there the same value, after the same queries
abbrev pub MemberReadsOnlyItsQueries : Type 0
MemberReadsOnlyItsQueries =
    (here there : List (Query × Answer)) (blocks : List ℕ) (name of : ℕ) (place : Option ℕ) (qs : List Query)
    → Gives (Replied (reply_to here)) (member blocks name of) place qs → AnswersAlike (Replied (reply_to here)) (Replied (reply_to there)) qs
    → Gives (Replied (reply_to there)) (member blocks name of) place qs
