use Rattle.sg_headers.proofs.Followers.{followers_read_imports as lemma}
use Rattle.sg_headers.proofs.laws.followers_read_imports.Goals as goal

pub returns : goal.returns
returns g c = lemma g.row.I.Denot g.row.R.Denot g.row.I-Datum.Denot g.row.I-Pred.Denot
