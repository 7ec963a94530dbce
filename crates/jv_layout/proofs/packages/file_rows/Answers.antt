use Rattle.std.proofs.Common.{ℕ, List, map, ap, ◌∙◌, arith}
use Rattle.jv_tree.specs.DeclTree.{tree_of}
use Rattle.jv_layout.specs.Folder.{file_row, place_among}
use Rattle.jv_layout.specs.Paths.{path_at, no_unit}
use Rattle.jv_layout.proofs.Stepping.{rows_more}
use Rattle.jv_layout.proofs.packages.file_rows.Goals as goal

pub loop-file-preserved : goal.loop-file-preserved
loop-file-preserved c =
    let us = map tree_of c.args.files.now in
    let names = c.args.names.now in
    let ps = map (path_at us) c.args.paths.now in
    let is = c.number.ensures ∙ ap (λ (z : List ℕ). place_among names ps z) c.own-own.ensures in
    rows_more tree_of (file_row names ps) c.loop-file.rows.items c.push.new.self.items c.args.files.now c.loop-file.file no_unit c.number.result (omega arith) c.in_ok-push.ensures.items is c.loop-file.invariant
