use Rattle.sg_query.specs.declared.query.Query.{Query}
use Rattle.sg_strata.proofs.Greatest.{greatest_is_one}
use Rattle.sg_strata.proofs.Ranks.{graphs_are_unique}
use Rattle.jv_instance.specs.declared.datum.JavaDatum.{JavaDatum}
use Rattle.jv_instance.specs.declared.pred.JavaPred.{JavaPred}
use Rattle.jv_header.specs.Law.{program_of}
use Rattle.jv_header.proofs.Programs.{are_programs}
use Rattle.jv_header.proofs.laws.stratified_graphs_are_unique.Goals as goal

pub returns-clause-graph : goal.returns-clause-graph
returns-clause-graph c = λ l names extends implements g over in_set row row'. graphs_are_unique (Query JavaPred) JavaDatum (program_of l names extends implements g) in_set row row' (are_programs l names extends implements g over)

pub returns-clause-greatest : goal.returns-clause-greatest
returns-clause-greatest c = λ l names extends implements g over in_set in_set' row row'. greatest_is_one (Query JavaPred) JavaDatum (program_of l names extends implements g) in_set in_set' row row' (are_programs l names extends implements g over)
