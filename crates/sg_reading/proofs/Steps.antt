-- The steps by which a function that reads a rule with `?` proves itself.
use Rattle.std.proofs.Common.{◌≡◌, [], ◌∷◌, ◌++◌, Option, Some, None, Result, Ok, Err, IfOk, inl, inr, refl, sym, ◌∙◌, subst}
use Rattle.std.specs.Result.{IsErrAnd}
use Rattle.std.specs.declared.alloc.AllocError.{AllocError}
use Rattle.sg_reading.specs.declared.known.Known.{Known}
use Rattle.sg_reading.specs.declared.stop.Stop.{Stop}
use Rattle.sg_reading.specs.declared.stop.Stop.TheVariants.{NoReply, OutOfMemory}
use Rattle.sg_reading.specs.Reading.{Reading, done, ask, and_then}
use Rattle.sg_reading.specs.Stop.{Replied, IsKnown, Reads, known_of}
use Rattle.sg_reading.proofs.Sequences.{and_then-gives, and_then-asks_first, and_then-asks_second}

module _ {Q A T : Type 0} where
  pub done_reads : (reply : Q → Option A) (v w : T) → v ≡ w → Reads reply (done v) (Ok w)
  unfolding Reads
  done_reads reply v w e = ([], (e, refl))

  -- a query with a reply
  pub ask_ok : (reply : Q → Option A) (q : Q) (next : A → Reading Q A T) (a : A) (x : Result T (Stop Q)) → reply q ≡ Some a → Reads reply (next a) x → Reads reply (ask q next) x
  unfolding Reads
  ask_ok reply q next a (Ok v) e h = (q ∷ h.0, (a, e, h.0, refl, h.1))
  ask_ok reply q next a (Err (NoReply p)) e h = (inr (a, e, h.0), h.1)
  ask_ok reply q next a (Err OutOfMemory) e h = tt

  -- a query without one
  pub ask_err : (reply : Q → Option A) (q : Q) (next : A → Reading Q A T) → reply q ≡ None → Reads {U = T} reply (ask q next) (Err (NoReply q))
  unfolding Reads
  ask_err reply q next e = (inl refl, λ a k. let z : None ≡ Some a = sym e ∙ k in cc)

  pub memory_reads : (reply : Q → Option A) (r : Reading Q A T) → Reads {U = T} reply r (Err OutOfMemory)
  unfolding Reads
  memory_reads reply r = tt

  -- the exit of a `?`
  pub stops : (reply : Q → Option A) (r : Reading Q A T) (e : Stop Q) (x : Result T (Stop Q)) → IsErrAnd x (λ y. y ≡ e) → Reads {U = T} reply r (Err e) → Reads reply r x
  stops reply r e (Ok v) k h = absurd k
  stops reply r e (Err y) k h = subst (λ (z : Stop Q). Reads {U = T} reply r (Err z)) (sym k) h

  -- the exit of a `?` for want of memory
  pub memory_stops : (reply : Q → Option A) (r : Reading Q A T) (e : Stop Q) (x : Result T (Stop Q)) → IsErrAnd x (λ y. y ≡ e) → e ≡ OutOfMemory → Reads reply r x
  memory_stops reply r e x k h = stops reply r e x k (subst (λ (z : Stop Q). Reads {U = T} reply r (Err z)) (sym h) (memory_reads reply r))

  -- what the public call gives
  pub known_reads : (reply : Q → Option A) (r : Reading Q A T) (x : Result T (Stop Q)) (k : Result (Known T Q) AllocError) → k ≡ known_of x → Reads reply r x → IfOk k (IsKnown reply r)
  unfolding Reads
  known_reads reply r (Ok v) k e h = subst (λ (z : Result (Known T Q) AllocError). IfOk z (IsKnown reply r)) (sym e) h
  known_reads reply r (Err (NoReply q)) k e h = subst (λ (z : Result (Known T Q) AllocError). IfOk z (IsKnown reply r)) (sym e) h
  known_reads reply r (Err OutOfMemory) k e h = subst (λ (z : Result (Known T Q) AllocError). IfOk z (IsKnown reply r)) (sym e) tt

module _ {Q A T S : Type 0} where
  pub then_ok : (reply : Q → Option A) (r : Reading Q A T) (f : T → Reading Q A S) (v : T) (x : Result S (Stop Q)) → Reads reply r (Ok v) → Reads reply (f v) x → Reads reply (and_then r f) x
  unfolding Reads
  then_ok reply r f v (Ok w) g h = (g.0 ++ h.0, and_then-gives (Replied reply) r f v w g.0 h.0 g.1 h.1)
  then_ok reply r f v (Err (NoReply q)) g h = (and_then-asks_second (Replied reply) r f v g.0 q g.1 h.0, h.1)
  then_ok reply r f v (Err OutOfMemory) g h = tt

  -- the same, where the first rule's value is known by an equation
  pub then_at : (reply : Q → Option A) (r : Reading Q A T) (f : T → Reading Q A S) (v w : T) (x : Result S (Stop Q)) → Reads reply r (Ok v) → v ≡ w → Reads reply (f w) x → Reads reply (and_then r f) x
  then_at reply r f v w x g e h = then_ok reply r f v x g (subst (λ (u : T). Reads reply (f u) x) (sym e) h)

  pub then_err : (reply : Q → Option A) (r : Reading Q A T) (f : T → Reading Q A S) (e : Stop Q) → Reads {U = T} reply r (Err e) → Reads {U = S} reply (and_then r f) (Err e)
  unfolding Reads
  then_err reply r f (NoReply q) h = (and_then-asks_first (Replied reply) r f q h.0, h.1)
  then_err reply r f OutOfMemory h = tt

pub ruleset reading_steps = (then_ok, then_err, then_at, ask_ok, ask_err, done_reads, memory_reads, stops, memory_stops, known_reads)
