use Rattle.jv_lex.proofs.Sources.{follows_unbroken}
use Rattle.jv_lex.proofs.laws.tokens_exclude_faults.Goals as goal

pub returns : goal.returns
returns c = λ bytes ts l at a b. follows_unbroken a.tokens b.first
