use Rattle.std.proofs.Common.{Bor}
use Rattle.jv_instance.specs.declared.datum.JavaDatum.{JavaDatum}
use Rattle.sc_listing.proofs.Rows.{datum_is}
use Rattle.sc_listing.proofs.edges.datum_of.Goals as goal

pub returns : goal.returns
returns c = datum_is (λ (b : Bor JavaDatum). b.now) c.args.graph.now c.args.s c.datum.result c.datum.ensures.sound c.datum.ensures.found c.datum.ensures.none
