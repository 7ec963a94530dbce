-- Laws of all rules: a rule looks at nothing but the answers to its own queries, and comes to one end.
use Rattle.std.specs.Prelude.{◌≡◌, List, [], ◌∷◌, ◌++◌, Option, None, Bool, ◌⊎◌, ◌↔◌, Decides}
use Rattle.std.specs.List.{Contains}
use Rattle.sg_reading.specs.declared.known.Known.{Known}
use Rattle.sg_reading.specs.Progress.{HasResidual}
use Rattle.sg_reading.specs.Reading.{Reading, Gives, Asks, Needs, IsFunctional, AnswersAlike, AskedAlike, and_then}
use Rattle.sg_reading.specs.Replies.{reply_of, AddsReply}
use Rattle.sg_reading.specs.Stop.{Replied, IsKnown}

-- where the queries that the rule asks here are answered alike there, it has there the same value, after the same queries
abbrev pub ReadsOnlyItsQueries : {Q A : Type 0} → Type 0 → (Q → A → Type 0) → (Q → A → Type 0) → Type 0
ReadsOnlyItsQueries {Q} {A} U R S = (r : Reading Q A U) (v : U) (qs : List Q) → Gives R r v qs → AnswersAlike R S qs → Gives S r v qs

-- where the queries that the rule comes to here are answered alike there, it comes there to the same query without an answer
abbrev pub NeedsOnlyItsQueries : {Q A : Type 0} → Type 0 → (Q → A → Type 0) → (Q → A → Type 0) → Type 0
NeedsOnlyItsQueries {Q} {A} U R S = (r : Reading Q A U) (p : Q) → Needs R r p → AskedAlike R S r → Needs S r p

-- where a query has one answer at most, a rule has one value at most, after one list of queries
abbrev pub ValuesAreOne : {Q A : Type 0} → Type 0 → (Q → A → Type 0) → Type 0
ValuesAreOne {Q} {A} U R = IsFunctional R → (r : Reading Q A U) (v w : U) (qs ps : List Q) → Gives R r v qs → Gives R r w ps → (v ≡ w) × (qs ≡ ps)

-- where a query has one answer at most, a rule comes to one query without an answer at most
abbrev pub NeedsAreOne : {Q A : Type 0} → Type 0 → (Q → A → Type 0) → Type 0
NeedsAreOne {Q} {A} U R = IsFunctional R → (r : Reading Q A U) (p q : Q) → Needs R r p → Needs R r q → p ≡ q

-- where a query has one answer at most, a rule that has a value comes to no query without an answer
abbrev pub ValuesNeedNothing : {Q A : Type 0} → Type 0 → (Q → A → Type 0) → Type 0
ValuesNeedNothing {Q} {A} U R = IsFunctional R → (r : Reading Q A U) (v : U) (qs : List Q) (p : Q) → Gives R r v qs → Needs R r p → ⊥

-- where a query has one answer at most, the queries that a value came after are those that the rule comes to
abbrev pub QueriesAreListed : {Q A : Type 0} → Type 0 → (Q → A → Type 0) → Type 0
QueriesAreListed {Q} {A} U R = IsFunctional R → (r : Reading Q A U) (v : U) (qs : List Q) → Gives R r v qs → (q : Q) → (Contains qs q) ↔ (Asks R r q)

-- over replies a rule has a value exactly where each query that it comes to has a reply
abbrev pub ValuesWhereReplied : Type 0 → Type 0 → Type 0 → Type 0
ValuesWhereReplied Q A U =
    (reply : Q → Option A) (r : Reading Q A U)
    → ((v : U) × (qs : List Q) × Gives (Replied reply) r v qs) ↔ ((q : Q) → Asks (Replied reply) r q → (a : A) × Replied reply q a)

-- over replies a rule is known
abbrev pub RulesAreKnown : Type 0 → Type 0 → Type 0 → Type 0
RulesAreKnown Q A U = (reply : Q → Option A) (r : Reading Q A U) → (k : Known U Q) × IsKnown reply r k

-- over replies a rule is known in one way
abbrev pub KnownInOneWay : Type 0 → Type 0 → Type 0 → Type 0
KnownInOneWay Q A U = (reply : Q → Option A) (r : Reading Q A U) (j k : Known U Q) → IsKnown reply r j → IsKnown reply r k → j ≡ k

-- one rule after another gives what the second gives on the first one's value, after the queries of both
abbrev pub GivesInTurn : {Q A : Type 0} → Type 0 → Type 0 → (Q → A → Type 0) → Type 0
GivesInTurn {Q} {A} U W R =
    (r : Reading Q A U) (f : U → Reading Q A W) (w : W) (qs : List Q)
    → (Gives R (and_then r f) w qs) ↔ ((v : U) × (first : List Q) × (second : List Q) × Gives R r v first × Gives R (f v) w second × (qs ≡ first ++ second))

-- one rule after another comes to the queries of the first, and to those of the second on its value
abbrev pub AsksInTurn : {Q A : Type 0} → Type 0 → Type 0 → (Q → A → Type 0) → Type 0
AsksInTurn {Q} {A} U W R =
    (r : Reading Q A U) (f : U → Reading Q A W) (p : Q)
    → (Asks R (and_then r f) p) ↔ (Asks R r p ⊎ ((v : U) × (qs : List Q) × Gives R r v qs × Asks R (f v) p))

-- where a reply is added, what is left of a rule stays what is left of it
abbrev pub ResidualsStay : Type 0 → Type 0 → Type 0 → Type 0
ResidualsStay Q A U = (old new : Q → Option A) (q : Q) (a : A) (r s : Reading Q A U) → AddsReply old new q a → HasResidual old r s → HasResidual new r s

-- what is left of a rule comes to what the rule comes to
abbrev pub ResidualsAreKnown : Type 0 → Type 0 → Type 0 → Type 0
ResidualsAreKnown Q A U = (reply : Q → Option A) (r s : Reading Q A U) (k : Known U Q) → HasResidual reply r s → IsKnown reply s k → IsKnown reply r k

-- where a test decides which queries are equal, a reply that is put last, to a query without one, is added, and no other reply changes
abbrev pub LastRepliesAreAdded : {Q : Type 0} → Type 0 → (Q → Q → Bool) → Type 0
LastRepliesAreAdded {Q} A same =
    ((p q : Q) → Decides (same p q) (p ≡ q)) → (replies : List (Q × A)) (q : Q) (a : A)
    → reply_of same replies q ≡ None → AddsReply (reply_of same replies) (reply_of same (replies ++ (q, a) ∷ [])) q a
