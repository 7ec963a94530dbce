-- How far the row of a type was read for its dependence on itself.
use Rattle.std.specs.Prelude.{List, drop, false, Option}
use Rattle.std.specs.List.{list_any}
use Rattle.std.specs.Option.{unwrap_or}
use Rattle.sg_base.specs.declared.scope.Scope.{Scope}
use Rattle.sg_base.specs.Scope.{is_scope}
use Rattle.sg_reading.specs.Progress.{HasResidual}
use Rattle.jv_layout.specs.Folder.{LayoutOf}
use Rattle.jv_header.specs.declared.begun_dependence.BegunDependence.{BegunDependence}
use Rattle.jv_header.specs.declared.dependence_progress.DependenceProgress.{DependenceProgress}
use Rattle.jv_header.specs.Depends.{dependence, dependence_from}
use Rattle.jv_header.specs.Progress.{Replies}

-- how far a row was read: that far, or else behind none of its types
abbrev pub begun_of : Scope → List Scope → Option BegunDependence → BegunDependence
begun_of c row o = unwrap_or o (record { count = 0; found = record { on_itself = list_any (is_scope c) row; too_many = false } })

-- over these replies the first types of the row tell this: the rule of the dependence goes on as what is left behind them
abbrev pub IsRowSoFar : Replies → LayoutOf → Scope → List Scope → BegunDependence → Type 0
IsRowSoFar reply l c row b = HasResidual reply (dependence l c row) (dependence_from l c b.found (drop b.count row))

-- and so where nothing was read
abbrev pub IsDependenceSoFar : Replies → LayoutOf → Scope → List Scope → DependenceProgress → Type 0
IsDependenceSoFar reply l c row p = IsRowSoFar reply l c row (begun_of c row p.begun)
