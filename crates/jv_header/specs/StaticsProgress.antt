-- How far the single static imports of a file were read.
use Rattle.std.specs.Prelude.{ℕ, List, drop}
use Rattle.sg_reading.specs.Progress.{HasResidual}
use Rattle.jv_layout.specs.Folder.{LayoutOf}
use Rattle.jv_tree.specs.DeclTree.{ImportTree}
use Rattle.jv_header.specs.declared.statics_progress.StaticsProgress.{StaticsProgress}
use Rattle.jv_header.specs.Progress.{Replies}
use Rattle.jv_header.specs.StaticImports.{statics_from, statics_rule}

-- over these replies the rule of a file's static imports goes on as that of those behind the first of its imports, behind the diagnostics so far
abbrev pub AreStaticsSoFar : Replies → LayoutOf → List (List ℕ) → ℕ → List ImportTree → StaticsProgress → Type 0
AreStaticsSoFar reply l names file is p = HasResidual reply (statics_rule l names file is) (statics_from l names file p.diags (drop p.count is))
