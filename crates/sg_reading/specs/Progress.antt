-- How far a rule has come over the replies so far.
use Rattle.std.specs.Prelude.{◌≡◌, Option, Some}
use Rattle.sg_reading.specs.Reading.{Reading, ask}

-- the second rule is what is left of the first, its residual, once the queries that this asks first have these replies
pub data HasResidual {Q A U : Type 0} (reply : Q → Option A) : Reading Q A U → Reading Q A U → Type 0 where
  here : {r : Reading Q A U} → HasResidual reply r r
  on : {q : Q} {a : A} {next : A → Reading Q A U} {s : Reading Q A U} → reply q ≡ Some a → HasResidual reply (next a) s → HasResidual reply (ask q next) s
