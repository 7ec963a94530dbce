use Rattle.jv_grammar.proofs.Refused.{refused_there, one_refused_place}
use Rattle.jv_grammar.proofs.laws.refused_files_are_refused_there.Goals as goal

pub returns : goal.returns
returns c = record { there = refused_there; one = one_refused_place }
