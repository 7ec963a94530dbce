use Rattle.std.proofs.Common.{subst}
use Rattle.sg_reading.specs.Stop.{Replied}
use Rattle.jv_tree.specs.declared.name.Name.{Name}
use Rattle.jv_tree.specs.TypeTree.{ids_of}
use Rattle.jv_names.specs.Replies.{reply_to}
use Rattle.jv_header.specs.Circular.{IsOpenOrRead}
use Rattle.jv_header.proofs.Waiting.{read_on}
use Rattle.jv_header.proofs.circular.first_open.Goals as goal

pub loop-i-preserved : goal.loop-i-preserved
loop-i-preserved c =
    let R = Replied (reply_to c.args.o.now) in
    let l = c.args.l.now in
    read_on R l c.args.ty c.args.clause.now c.loop-i.i c.index-clause-i.result c.in_ok-open.open c.if-open.false c.loop-i-test.true c.loop-i.invariant
    (subst (λ (n : Name). IsOpenOrRead R l c.args.ty (ids_of n) c.in_ok-open.open) c.index-clause-i.is c.in_ok-open.ensures)
