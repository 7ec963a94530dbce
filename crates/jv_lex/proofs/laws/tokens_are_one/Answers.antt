use Rattle.jv_lex.proofs.Sources.{follows_once}
use Rattle.jv_lex.proofs.laws.tokens_are_one.Goals as goal

pub returns : goal.returns
returns c = λ bytes ts us a b. follows_once a.tokens b.tokens
