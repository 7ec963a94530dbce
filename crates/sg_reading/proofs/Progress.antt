-- How far a rule has come: further replies leave it there, and what is left comes to what the whole comes to.
use Rattle.std.proofs.Common.{◌≡◌, List, [], Option, Some, Result, Ok, Err, inl, refl, subst}
use Rattle.sg_reading.specs.declared.known.Known.{Known}
use Rattle.sg_reading.specs.declared.known.Known.TheVariants.{Is, Need}
use Rattle.sg_reading.specs.declared.stop.Stop.{Stop}
use Rattle.sg_reading.specs.declared.stop.Stop.TheVariants.{NoReply}
use Rattle.sg_reading.specs.Progress.{HasResidual, here, on}
use Rattle.sg_reading.specs.Reading.{Reading, done, ask, Gives, and_then}
use Rattle.sg_reading.specs.Replies.{AddsReply}
use Rattle.sg_reading.specs.Stop.{Replied, Reads, IsKnown}
use Rattle.sg_reading.proofs.Steps.{ask_ok}

module _ {Q A U : Type 0} where
  pub residual_here : (reply : Q → Option A) (r s : Reading Q A U) → r ≡ s → HasResidual reply r s
  residual_here reply r s e = subst (λ (z : Reading Q A U). HasResidual reply r z) e here

  pub residual_on : (reply : Q → Option A) (r s t : Reading Q A U) → HasResidual reply r s → HasResidual reply s t → HasResidual reply r t
  residual_on reply r s t here k = k
  residual_on reply r s t (on {a = a} {next = next} e h) k = on e (residual_on reply (next a) s t h k)

  -- where each reply there stays
  pub residual_stays : (reply more : Q → Option A) (r s : Reading Q A U) → ((q : Q) (a : A) → reply q ≡ Some a → more q ≡ Some a) → HasResidual reply r s → HasResidual more r s
  residual_stays reply more r s stays here = here
  residual_stays reply more r s stays (on {q = q} {a = a} {next = next} e h) = on (stays q a e) (residual_stays reply more (next a) s stays h)

  pub residual_added : (old new : Q → Option A) (q : Q) (a : A) (r s : Reading Q A U) → AddsReply old new q a → HasResidual old r s → HasResidual new r s
  residual_added old new q a r s adds h = residual_stays old new r s (λ p b e. (adds p b).1 (inl e)) h

  -- what is left comes to what the whole comes to
  pub residual_reads : (reply : Q → Option A) (r s : Reading Q A U) (x : Result U (Stop Q)) → HasResidual reply r s → Reads reply s x → Reads reply r x
  residual_reads reply r s x here k = k
  residual_reads reply r s x (on {q = q} {a = a} {next = next} e h) k = ask_ok reply q next a x e (residual_reads reply (next a) s x h k)

  pub residual_known : (reply : Q → Option A) (r s : Reading Q A U) (k : Known U Q) → HasResidual reply r s → IsKnown reply s k → IsKnown reply r k
  unfolding Reads
  residual_known reply r s (Is v) h k = residual_reads reply r s (Ok v) h k
  residual_known reply r s (Need q) h k = residual_reads reply r s (Err (NoReply q)) h k

  -- nothing is left of a rule but the value that it gives
  pub given_residual : (reply : Q → Option A) (r : Reading Q A U) (v : U) (qs : List Q) → Gives (Replied reply) r v qs → HasResidual reply r (done v)
  given_residual reply (done u) v qs g = residual_here reply (done u) (done v) (λ i. done (g.0 i))
  given_residual reply (ask q next) v qs g = on g.1 (given_residual reply (next g.0) v g.2 g.4)

  pub read_residual : (reply : Q → Option A) (r : Reading Q A U) (v : U) → Reads reply r (Ok v) → HasResidual reply r (done v)
  unfolding Reads
  read_residual reply r v h = given_residual reply r v h.0 h.1

  pub residual_gives : (reply : Q → Option A) (r : Reading Q A U) (v : U) → HasResidual reply r (done v) → (qs : List Q) × Gives (Replied reply) r v qs
  unfolding Reads
  residual_gives reply r v h = residual_reads reply r (done v) (Ok v) h ([], (refl, refl))

module _ {Q A U W : Type 0} (reply : Q → Option A) where
  -- one rule after another, while the first goes on
  pub residual_then : (r s : Reading Q A U) (f : U → Reading Q A W) → HasResidual reply r s → HasResidual reply (and_then r f) (and_then s f)
  residual_then r s f here = here
  residual_then r s f (on {a = a} {next = next} e h) = on e (residual_then (next a) s f h)

  -- and behind it
  pub residual_behind : (r : Reading Q A U) (f : U → Reading Q A W) (v : U) (t : Reading Q A W) → Reads reply r (Ok v) → HasResidual reply (f v) t → HasResidual reply (and_then r f) t
  residual_behind r f v t g k = residual_on reply (and_then r f) (f v) t (residual_then r (done v) f (read_residual reply r v g)) k
