use Rattle.jv_diag.specs.Plain.{diag_of}
use Rattle.jv_layout.specs.Scopes.{type_scope}
use Rattle.jv_unit.specs.Kept.{folder_of}
use Rattle.sc_app.proofs.CircularLines.{on_ok, one_line, row_is_closed, row_is_open, same_lines}
use Rattle.sc_app.proofs.circular.add_line.Goals as goal

pub returns-then-is_closed : goal.returns-then-is_closed
returns-then-is_closed c =
    same_lines (folder_of c.args.folder.now) c.args.core.now c.args.t c.args.lines.now
    (row_is_closed c.args.core.now c.ty.result (type_scope c.args.folder.now.layout c.args.t) c.new.result c.is_closed.result c.ty.ensures c.new.ensures c.is_closed.ensures c.if-is_closed.true)

pub line_of_type-requires-clause-waits : goal.line_of_type-requires-clause-waits
line_of_type-requires-clause-waits c =
    row_is_open c.args.core.now c.ty.result (type_scope c.args.folder.now.layout c.args.t) c.new.result c.is_closed.result c.ty.ensures c.new.ensures c.is_closed.ensures c.if-is_closed.false

pub returns : goal.returns
returns c =
    on_ok _ _ c.push.result
    (λ longer. one_line (folder_of c.args.folder.now) c.args.core.now c.args.t c.args.lines.now (diag_of c.in_ok-line_of_type.field-0) c.push.new.self
    (row_is_open c.args.core.now c.ty.result (type_scope c.args.folder.now.layout c.args.t) c.new.result c.is_closed.result c.ty.ensures c.new.ensures c.is_closed.ensures c.if-is_closed.false)
    c.in_ok-line_of_type.ensures longer)
    c.push.ensures.ok
