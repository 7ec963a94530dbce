use denote.Exit.{no}
use denote.Param.Send.{param_send, arg_send}
use Rattle.std.specs.Arc.{arc_value}
use Rattle.jv_unit.specs.Kept.{folder_of}
use Rattle.sc_app.proofs.Sending.{script_send}
use Rattle.sc_app.proofs.FolderRun.{begun_runs}
use Rattle.sc_app.proofs.folder_run.run_folder.Goals as goal

pub run_followers-requires-send-S : goal.run_followers-requires-send-S
run_followers-requires-send-S g c κs within = param_send _ _ (arg_send _ no _ script_send)

pub run_followers-requires-clause-new : goal.run_followers-requires-clause-new
run_followers-requires-clause-new g c κs within = c.in_ok-begun.ensures.new

pub returns : goal.returns
returns g c = begun_runs (folder_of (arc_value c.args.folder.now)) c.in_ok-begun.begun.units.items c.in_ok-begun.begun.core c.run_followers.result c.in_ok-begun.ensures c.run_followers.ensures.ran
