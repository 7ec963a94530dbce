-- How far the imports of a file were read.
use Rattle.std.specs.Prelude.{ℕ, List, ◌++◌, drop, length, Result}
use Rattle.sg_query.specs.declared.query.Query.{Query}
use Rattle.sg_reading.specs.declared.stop.Stop.{Stop}
use Rattle.sg_reading.specs.Progress.{HasResidual}
use Rattle.sg_reading.specs.Reading.{done, and_then, each}
use Rattle.sg_reading.specs.Stop.{Reads}
use Rattle.jv_instance.specs.declared.pred.JavaPred.{JavaPred}
use Rattle.jv_layout.specs.Folder.{LayoutOf}
use Rattle.jv_tree.specs.DeclTree.{ImportTree}
use Rattle.jv_names.specs.declared.reference.Reference.{Reference}
use Rattle.jv_names.specs.Replies.{Rule}
use Rattle.jv_header.specs.declared.imports_progress.ImportsProgress.{ImportsProgress}
use Rattle.jv_header.specs.Imports.{import_reference}
use Rattle.jv_header.specs.Progress.{Replies, with_found}

-- what is left of the imports of a file behind the first of them, which mean these
abbrev pub imports_left : LayoutOf → ℕ → List ImportTree → List Reference → Rule (List Reference)
imports_left l file is found = and_then (each (import_reference l file) (drop (length found) is)) (λ more. done (found ++ more))

-- over these replies the first imports of a file mean what was read: the rule of all goes on as what is left behind them
abbrev pub AreImportsSoFar : Replies → LayoutOf → ℕ → List ImportTree → ImportsProgress → Type 0
AreImportsSoFar reply l file is p = HasResidual reply (each (import_reference l file) is) (imports_left l file is p.found)

-- what a call gives that reads what the imports of a file mean, and keeps that in its progress
abbrev pub ReadsMeanings : Replies → LayoutOf → ℕ → List ImportTree → Result (Unit {0}) (Stop (Query JavaPred)) → ImportsProgress → Type 0
ReadsMeanings reply l file is x p = Reads reply (each (import_reference l file) is) (with_found x p.found)
