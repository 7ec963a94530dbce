use Rattle.jv_lex.proofs.Sources.{breaks_once}
use Rattle.jv_lex.proofs.laws.faults_are_one.Goals as goal

pub returns : goal.returns
returns c = λ bytes l m at bt a b. let s = breaks_once a.first b.first in (s.literals, s.places)
