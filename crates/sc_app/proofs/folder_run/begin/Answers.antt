use Rattle.std.proofs.Common.{ap, ◌∙◌}
use Rattle.std.specs.Arc.{arc_value}
use Rattle.sg_state.specs.Opening.{opening_of, opened_of}
use Rattle.jv_layout.specs.Skeleton.{skeleton_of}
use Rattle.jv_unit.specs.Kept.{folder_of}
use Rattle.sc_app.proofs.FolderRun.{begun, opening_of_folder}
use Rattle.sc_app.proofs.folder_run.begin.Goals as goal

pub open-requires : goal.open-requires
open-requires c = record { sound = opening_of_folder (arc_value c.args.folder.now) (opening_of c.in_ok-opening.opening) c.requires.whole (c.in_ok-opening.ensures ∙ ap skeleton_of (c.layout.ensures ∙ ap (λ w. w.layout) c.deref.ensures)) }

pub returns : goal.returns
returns c =
    begun (folder_of (arc_value c.args.folder.now)) c.in_ok-units.units.items c.in_ok-units.ensures.units c.in_ok-core.core (opened_of (opening_of c.in_ok-opening.opening)) c.args.kinds c.in_ok-core.ensures.opened
    (ap opened_of (c.in_ok-opening.ensures ∙ ap skeleton_of (c.layout.ensures ∙ ap (λ w. w.layout) c.deref.ensures))) c.requires.kinds
