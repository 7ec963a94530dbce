use Rattle.jv_layout.specs.Scopes.{file_scope}
use Rattle.sc_listing.proofs.Looping.{scope_more}
use Rattle.sc_listing.proofs.titles.listed_files.Goals as goal

pub loop-k-preserved : goal.loop-k-preserved
loop-k-preserved c =
    scope_more (file_scope c.args.w.now.layout.now) 2 c.loop-k.k c.loop-k.files.items c.push.new.self.items c.file_scope.result c.in_ok-push.ensures.items c.file_scope.ensures c.loop-k.invariant
