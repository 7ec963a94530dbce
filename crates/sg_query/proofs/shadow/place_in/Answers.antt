use Rattle.std.proofs.Common.{◌≤◌, ◌∙◌, length, sym, arith}
use Rattle.sg_query.proofs.Trees.{path_at-none}
use Rattle.sg_query.proofs.shadow.place_in.Goals as goal

pub returns-else-place-len-clause-same : goal.returns-else-place-len-clause-same
returns-else-place-len-clause-same c =
    c.first.ensures.none ∙ sym (path_at-none c.args.paths.now.paths c.args.place (λ l. absurd (omega arith)))
