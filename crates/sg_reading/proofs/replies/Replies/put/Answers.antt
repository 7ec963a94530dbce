use Rattle.std.proofs.Common.{List, [], ◌∷◌, ◌++◌, ap, ◌∙◌}
use Rattle.indexmap.proofs.CallerLemmas.{insert_entry-new}
use Rattle.sg_reading.specs.Replies.{reply_of}
use Rattle.sg_reading.proofs.replies.Replies.put.Goals as goal

pub returns-clause-last : goal.returns-clause-last
returns-clause-last g c = λ none.
    c.in_ok-insert.ensures.entries
    ∙ insert_entry-new g.Q.PartialEq.eq c.self.inside.replies c.args.query c.args.answer (ap (λ (l : List (g.row.Q.Denot × g.row.A.Denot)). reply_of g.Q.PartialEq.eq l c.args.query) c.self.view_is ∙ none)
    ∙ ap (λ (l : List (g.row.Q.Denot × g.row.A.Denot)). l ++ (c.args.query, c.args.answer) ∷ []) c.self.view_is
