use Rattle.std.proofs.Common.{◌≡◌, ◌-◌, length, arith, sym}
use Rattle.sg_base.specs.Path.{end_of}
use Rattle.sg_base.proofs.Ends.{end_at}
use Rattle.sg_query.proofs.steps.Steps.end.Goals as goal

pub returns-in-len1-up : goal.returns-in-len1-up
returns-in-len1-up c =
    let there : c.last-item.result.to ≡ end_of c.args.start c.as_slice.result.now =
    sym (end_at c.args.start c.as_slice.result.now (length c.as_slice.result.now - 1) c.last-item.result (omega arith) c.last-item.is) in
    rw (← c.self.view_is) (rw c.as_slice.ensures.value at there)
