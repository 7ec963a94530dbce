use Rattle.std.proofs.Common.{◌≤◌, ◌<◌, length, ap, arith}
use Rattle.sc_runs.proofs.SmallSources.{small_added}
use Rattle.sc_runs.proofs.order_tests.add_source.Goals as goal

pub returns : goal.returns
returns c =
    small_added c.args.sources.now.items c.push.new.self.items _ c.in_ok-push.ensures.items (omega (arith, c.if-len-ge-MOST.false, c.len.ensures))
    (omega (arith, c.if-source-gt-MOST.false, ap length c.in_ok-bytes.ensures.items, c.as_bytes.ensures.len)) c.requires
