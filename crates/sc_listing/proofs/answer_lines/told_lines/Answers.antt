use Rattle.std.proofs.Common.{Bor}
use Rattle.sc_listing.specs.Answers.{JavaEntry}
use Rattle.sc_listing.specs.Listed.{listed_of}
use Rattle.sc_listing.proofs.Hearing.{hears_more}
use Rattle.sc_listing.proofs.answer_lines.told_lines.Goals as goal

pub loop-entry-preserved : goal.loop-entry-preserved
loop-entry-preserved c =
    hears_more (λ (e : Bor JavaEntry). e.now) (listed_of c.args.w.now) c.loop-entry.heard c.in_ok-heard.heard c.args.mine.now c.loop-entry.entry-index c.entry-item.result c.loop-entry-test.true c.entry-item.is c.in_ok-heard.ensures c.loop-entry.invariant

pub loop-entry-init : goal.loop-entry-init
loop-entry-init c = c.nothing-heard.ensures (listed_of c.args.w.now)
