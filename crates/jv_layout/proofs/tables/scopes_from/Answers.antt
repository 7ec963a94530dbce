use Rattle.std.proofs.Common.{◌+◌, [], arith}
use Rattle.jv_layout.specs.Scopes.{scope_at}
use Rattle.jv_layout.proofs.Looping.{pushed_plain}
use Rattle.jv_layout.proofs.tables.scopes_from.Goals as goal

pub loop-k-preserved : goal.loop-k-preserved
loop-k-preserved c = pushed_plain (λ k. scope_at (c.args.first + k)) c.loop-k.scopes.items c.push.new.self.items [] c.loop-k.k _ c.in_ok-push.ensures.items (grind arith) c.loop-k.invariant
