use Rattle.std.proofs.Common.{arith}
use Rattle.sg_state.proofs.FewParts.{none_behind}
use Rattle.sg_state.proofs.scope_parts.ScopeParts.find_behind.Goals as goal

pub returns-then-len-le-FEW : goal.returns-then-len-le-FEW
returns-then-len-le-FEW c = none_behind c.args.self.now c.requires.parts c.args.part (omega (arith, c.if-len-le-FEW.true, c.len.ensures, c.args.self.now.all.ok.0))
