-- What calls give that need memory, or a reply.
use Rattle.std.specs.Prelude.{◌≡◌, None, Result, MatchResult}
use Rattle.sg_query.specs.declared.query.Query.{Query}
use Rattle.sg_reading.specs.declared.stop.Stop.{Stop}
use Rattle.sg_reading.specs.declared.stop.Stop.TheVariants.{NoReply, OutOfMemory}
use Rattle.jv_instance.specs.declared.pred.JavaPred.{JavaPred}
use Rattle.jv_header.specs.Progress.{Replies}

-- the call gives this value, or stops for want of memory
abbrev pub GivesOrLacksMemory : {U : Type 0} → Result U (Stop (Query JavaPred)) → U → Type 0
GivesOrLacksMemory x v = MatchResult x (λ w. w ≡ v) (λ stop. stop ≡ OutOfMemory)

-- a call stops at this query, which has no reply
abbrev pub LacksReply : Replies → Query JavaPred → Stop (Query JavaPred) → Type 0
LacksReply reply q stop = (stop ≡ NoReply q) × (reply q ≡ None)
