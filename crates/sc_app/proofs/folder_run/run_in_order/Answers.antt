use Rattle.std.specs.Arc.{arc_value}
use Rattle.jv_unit.specs.Kept.{folder_of}
use Rattle.sc_app.proofs.FolderRun.{begun_runs, begun_served}
use Rattle.sc_app.proofs.folder_run.run_in_order.Goals as goal

pub run_serial-requires-clause-new : goal.run_serial-requires-clause-new
run_serial-requires-clause-new c = c.in_ok-begun.ensures.new

pub returns-clause-run : goal.returns-clause-run
returns-clause-run c = begun_runs (folder_of (arc_value c.args.folder.now)) c.in_ok-begun.begun.units.items c.in_ok-begun.begun.core c.run_serial.result c.in_ok-begun.ensures c.run_serial.ensures.ran

pub returns-clause-served : goal.returns-clause-served
returns-clause-served c =
    begun_served (folder_of (arc_value c.args.folder.now)) c.in_ok-begun.begun.units.items c.in_ok-begun.begun.core c.run_serial.result c.args.order.now c.in_ok-begun.ensures c.run_serial.ensures.ran c.run_serial.ensures.served
