-- What the data of an instance keep to.
use Rattle.std.specs.Prelude.{Bool, IsTrue}

-- an equivalence of data
pub record IsSameness {D : Type 0} (same : D → D → Bool) : Type 0 where
  pub reflexive : (a : D) → IsTrue (same a a)
  pub symmetric : (a b : D) → IsTrue (same a b) → IsTrue (same b a)
  pub transitive : (a b c : D) → IsTrue (same a b) → IsTrue (same b c) → IsTrue (same a c)
