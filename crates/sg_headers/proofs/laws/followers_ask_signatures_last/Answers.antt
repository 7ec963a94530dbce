use Rattle.sg_headers.proofs.Followers.{followers_ask_signatures_last as lemma}
use Rattle.sg_headers.proofs.laws.followers_ask_signatures_last.Goals as goal

pub returns : goal.returns
returns g c = lemma g.row.I.Denot g.row.R.Denot g.row.Q.Denot g.row.I-Datum.Denot g.row.I-Pred.Denot
