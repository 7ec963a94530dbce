use Rattle.std.proofs.Common.{◌≡◌, Some, None, MatchResult, subst}
use Rattle.sg_query.specs.declared.query.Query.{Query}
use Rattle.sg_reading.specs.declared.stop.Stop.TheVariants.{NoReply}
use Rattle.jv_instance.specs.declared.pred.JavaPred.{JavaPred}
use Rattle.jv_names.specs.Replies.{reply_to}
use Rattle.jv_names.proofs.Asking.{asked}
use Rattle.jv_unit.proofs.check_rules.ask_methods.Goals as goal

pub returns : goal.returns
returns c =
    subst (λ (q : Query JavaPred). MatchResult c.ask.result (λ a. reply_to c.args.o.now q ≡ Some a.now) (λ s. (s ≡ NoReply q) × (reply_to c.args.o.now q ≡ None))) c.for_any.ensures
    (asked c.args.o.now c.for_any.result c.ask.result c.ask.ensures)
