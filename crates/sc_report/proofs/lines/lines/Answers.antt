use Rattle.std.proofs.Common.{◌∙◌}
use Rattle.sc_io.specs.SourceFile.{sources_of}
use Rattle.sc_report.proofs.Files.{line_placed, lines_more}
use Rattle.sc_report.proofs.lines.lines.Goals as goal

pub loop-d-init : goal.loop-d-init
loop-d-init c = (c.start-walk.ensures (sources_of c.args.files.now), c.new-text.ensures.items)

pub loop-d-preserved : goal.loop-d-preserved
loop-d-preserved c = (
  c.moved_to-walk.ensures.walk,
  c.in_ok-push_line.ensures
      ∙ lines_more (sources_of c.args.files.now) c.args.diags.now c.loop-d.d-index c.d-item.result c.loop-d-test.true c.d-item.is c.loop-d.text.items _ c.loop-d.invariant.1
      (line_placed (sources_of c.args.files.now) c.requires.each c.d-item.result c.moved_to-walk.result c.path_of.result.now c.path_of.ensures c.moved_to-walk.ensures.file c.moved_to-walk.ensures.at c.moved_to-walk.ensures.walk),
)
