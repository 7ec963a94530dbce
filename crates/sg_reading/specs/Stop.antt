-- What a rule comes to over the replies that have come so far.
use Rattle.std.specs.Prelude.{◌≡◌, List, Option, Some, Result, Ok, Err, alloc_error}
use Rattle.std.specs.declared.alloc.AllocError.{AllocError}
use Rattle.sg_reading.specs.declared.known.Known.{Known}
use Rattle.sg_reading.specs.declared.known.Known.TheVariants.{Is, Need}
use Rattle.sg_reading.specs.declared.stop.Stop.{Stop}
use Rattle.sg_reading.specs.declared.stop.Stop.TheVariants.{NoReply, OutOfMemory}
use Rattle.sg_reading.specs.Reading.{Reading, Gives, Needs}

-- the query has this reply
abbrev pub Replied : {Q A : Type 0} → (Q → Option A) → Q → A → Type 0
Replied reply q a = reply q ≡ Some a

-- the rule's value where all that it asks has a reply, and else the first query that has none
abbrev pub IsKnown : {Q A U : Type 0} → (Q → Option A) → Reading Q A U → Known U Q → Type 0
IsKnown {Q} reply r (Is v) = (qs : List Q) × Gives (Replied reply) r v qs
IsKnown reply r (Need q) = Needs (Replied reply) r q

-- what a call that reads the rule gives: as above, unless memory runs out
unfoldable pub Reads : {Q A U : Type 0} → (Q → Option A) → Reading Q A U → Result U (Stop Q) → Type 0
Reads reply r (Ok v) = IsKnown reply r (Is v)
Reads reply r (Err (NoReply q)) = IsKnown reply r (Need q)
Reads reply r (Err OutOfMemory) = Unit {0}

-- a missing reply as a value, and want of memory alone as an error
abbrev pub known_of : {Q U : Type 0} → Result U (Stop Q) → Result (Known U Q) AllocError
known_of (Ok v) = Ok (Is v)
known_of (Err (NoReply q)) = Ok (Need q)
known_of (Err OutOfMemory) = Err alloc_error
