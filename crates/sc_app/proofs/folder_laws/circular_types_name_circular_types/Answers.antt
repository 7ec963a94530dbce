use Rattle.sc_app.proofs.NamedTypes.{circular_types_name_circular_types}
use Rattle.sc_app.proofs.folder_laws.circular_types_name_circular_types.Goals as goal

pub returns : goal.returns
returns c = circular_types_name_circular_types c.folder_runs_leave_greatest.ensures.greatest
