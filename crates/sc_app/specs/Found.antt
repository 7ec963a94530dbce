-- What is found of a folder, by how the run of its checkers is over.
use Rattle.std.specs.Prelude.{List, ◌↔◌}
use Rattle.std.specs.List.{Contains}
use Rattle.sg_base.specs.Graph.{GraphOf}
use Rattle.sg_core.specs.declared.phase.Phase.TheVariants.{Ended, Stuck}
use Rattle.sg_core.specs.Core.{IsPhase, run}
use Rattle.jv_diag.specs.Plain.{DiagOf}
use Rattle.jv_instance.specs.declared.datum.JavaDatum.{JavaDatum}
use Rattle.jv_instance.specs.Data.{is_wanted}
use Rattle.jv_unit.specs.Folder.{FolderOf}
use Rattle.sc_app.specs.FolderGraph.{IsWhole}
use Rattle.sc_app.specs.FolderReport.{Rules}
use Rattle.sc_app.specs.FolderRun.{JavaCore, ruled, same_datum}
use Rattle.sc_app.specs.NamedTypes.{NamesCircular}

-- diagnostics are those of the rules in some whole graph
abbrev pub AreRuled : FolderOf → List DiagOf → Type 0
AreRuled w ds = (g : GraphOf JavaDatum) × IsWhole (ruled w) g × ((d : DiagOf) → (Contains ds d) ↔ (Rules (ruled w) g d))

-- each is a line on a header that waits, and the type that it names second has such a line itself; and there is one
abbrev pub AreCircular : FolderOf → List DiagOf → Type 0
AreCircular w ds = ((d : DiagOf) × Contains ds d) × ((d : DiagOf) → Contains ds d → NamesCircular w ds d)

-- where the run of a folder's checkers has ended, the rules give what was found, and where it is stuck, it is said of headers that wait
pub record IsFoundBy (w : FolderOf) (c : JavaCore) (ds : List DiagOf) : Type 0 where
  pub ended : IsPhase (run is_wanted same_datum c) Ended → AreRuled w ds
  pub stuck : IsPhase (run is_wanted same_datum c) Stuck → AreCircular w ds
