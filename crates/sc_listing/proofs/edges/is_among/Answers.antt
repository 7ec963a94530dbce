use Rattle.std.proofs.Common.{is_ok}
use Rattle.sg_base.specs.Scope.{scope_cmp, scope_total}
use Rattle.sg_base.proofs.Scopes.{equal_scope}
use Rattle.sg_base.proofs.Searching.{found}
use Rattle.sc_listing.proofs.Rows.{among_is}
use Rattle.sc_listing.proofs.edges.is_among.Goals as goal

pub returns : goal.returns
returns c =
    rw c.is_ok.ensures.value (among_is c.args.row.now c.args.s (is_ok c.binary_search.result)
    (found scope_cmp scope_total equal_scope c.args.row.now c.requires c.args.s c.binary_search.result c.binary_search.ensures.bound c.binary_search.ensures.position))
