use Rattle.jv_unit.specs.Kept.{folder_of}
use Rattle.sc_app.specs.CircularLines.{AreLinesBelow}
use Rattle.sc_app.proofs.circular.circular_lines.Given as goal

-- the lines of the types so far
abbrev pub invariant-loop-t : goal.invariant-loop-t
invariant-loop-t l = AreLinesBelow (folder_of l.folder) l.core l.t l.lines
