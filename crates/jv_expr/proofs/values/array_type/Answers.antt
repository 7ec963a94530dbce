use Rattle.std.proofs.Common.{arith}
use Rattle.jv_expr.proofs.Counting.{dims_within, dims_beyond}
use Rattle.jv_expr.proofs.values.array_type.Goals as goal

pub returns-then-n-ty : goal.returns-then-n-ty
returns-then-n-ty c = dims_within c.args.ty c.args.sizes.now.items c.count-n.result c.count-n.ensures c.count-n.result c.count-n.ensures (omega (arith, c.if-n-ty.true))

pub returns-else-n-ty : goal.returns-else-n-ty
returns-else-n-ty c = dims_beyond c.args.ty c.args.sizes.now.items c.count-n.result c.count-n.ensures (λ h. omega (arith, h, c.if-n-ty.false))
