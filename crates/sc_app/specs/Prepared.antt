-- What the sources of a folder come to before their checkers run.
use Rattle.std.specs.Prelude.{◌≡◌, List}
use Rattle.std.specs.Arc.{arc_value}
use Rattle.jv_unit.specs.Kept.{folder_of}
use Rattle.sc_io.specs.SourceTree.{FileOf}
use Rattle.sc_sources.specs.Read.{IsReadOf}
use Rattle.sc_sources.specs.declared.sources.Sources.{Sources}
use Rattle.sc_sources.specs.declared.sources.Sources.TheVariants.{Faults as FaultsOf}
use Rattle.sc_app.specs.Outcome.{IsReady}
use Rattle.sc_app.specs.declared.prepared.Prepared.{Prepared}
use Rattle.sc_app.specs.declared.prepared.Prepared.TheVariants.{Faults, Ready}

-- the faults of the files; or the folder of their trees, with its own kinds
abbrev pub IsPreparedOf : List FileOf → Prepared → Type 0
IsPreparedOf fs (Faults ds) = IsReadOf fs (FaultsOf ds)
IsPreparedOf fs (Ready w kinds types) = IsReady fs (arc_value w) types × (kinds ≡ (folder_of (arc_value w)).kinds)
