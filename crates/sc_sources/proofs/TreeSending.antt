-- The trees of files may be sent to other threads and shared with them.
use denote.Param.Send.{IsSend, IsSync, sendable}
use Rattle.std.proofs.Crossing as heap
use Rattle.jv_tree.proofs.expression.ExprKind.TheLaws.TheKnot as exprs
use Rattle.jv_tree.proofs.statement.StmtKind.TheLaws.TheKnot as stmts
use Rattle.jv_tree.proofs.declaration.Member.TheLaws.TheKnot as decls
use Rattle.jv_tree.specs.contracts.expression.Expr as expr
use Rattle.jv_tree.specs.contracts.expression.Init as init
use Rattle.jv_tree.specs.contracts.type_ref.Var as var
use Rattle.jv_tree.specs.contracts.statement.Stmt as stmt
use Rattle.jv_tree.specs.contracts.declaration.Method as method
use Rattle.jv_tree.specs.contracts.declaration.Ctor as ctor
use Rattle.jv_tree.specs.contracts.declaration.TypeDecl as type_decl
use Rattle.jv_tree.specs.contracts.declaration.Unit as tree

expr_send : IsSend (expr.the_field).row
expr_send = exprs.send-Expr (search (sendable, heap.crosses) depth 40) (search (sendable, heap.crosses) depth 40) (search (sendable, heap.crosses) depth 40) (search (sendable, heap.crosses) depth 40) (search (sendable, heap.crosses) depth 40) (search (sendable, heap.crosses) depth 40) (search (sendable, heap.crosses) depth 40) (search (sendable, heap.crosses) depth 40) (search (sendable, heap.crosses) depth 40)

expr_row_send : IsSend expr.the_row
expr_row_send = search (sendable, heap.crosses, exprs.crosses) depth 40 fits 20000

init_send : IsSend init.the_row
init_send = search (sendable, heap.crosses, exprs.crosses) depth 40 fits 20000

var_send : IsSend var.the_row
var_send = search (init_send, sendable, heap.crosses) depth 40 fits 20000

stmt_send : IsSend (stmt.the_field).row
stmt_send = stmts.send-Stmt (search (var_send, expr_send, expr_row_send, sendable, heap.crosses) depth 40 fits 20000) (search (var_send, expr_send, expr_row_send, sendable, heap.crosses) depth 40 fits 20000) (search (var_send, expr_send, expr_row_send, sendable, heap.crosses) depth 40 fits 20000) (search (var_send, expr_send, expr_row_send, sendable, heap.crosses) depth 40 fits 20000) (search (var_send, expr_send, expr_row_send, sendable, heap.crosses) depth 40 fits 20000) (search (var_send, expr_send, expr_row_send, sendable, heap.crosses) depth 40 fits 20000) (search (var_send, expr_send, expr_row_send, sendable, heap.crosses) depth 40 fits 20000) (search (var_send, expr_send, expr_row_send, sendable, heap.crosses) depth 40 fits 20000) (search (var_send, expr_send, expr_row_send, sendable, heap.crosses) depth 40 fits 20000) (search (var_send, expr_send, expr_row_send, sendable, heap.crosses) depth 40 fits 20000) (search (var_send, expr_send, expr_row_send, sendable, heap.crosses) depth 40 fits 20000)

stmt_row_send : IsSend stmt.the_row
stmt_row_send = search (stmt_send, var_send, expr_send, expr_row_send, sendable, heap.crosses, stmts.crosses) depth 40 fits 100000

method_send : IsSend (method.the_field).row
method_send = search (stmt_row_send, sendable, heap.crosses) depth 40 fits 100000

ctor_send : IsSend (ctor.the_field).row
ctor_send = search (expr_row_send, stmt_row_send, sendable, heap.crosses) depth 40 fits 100000

type_decl_send : IsSend (type_decl.the_field).row
type_decl_send = decls.send-TypeDecl (search (method_send, ctor_send, var_send, sendable, heap.crosses) depth 40 fits 20000) (search (method_send, ctor_send, var_send, sendable, heap.crosses) depth 40 fits 20000) (search (method_send, ctor_send, var_send, sendable, heap.crosses) depth 40 fits 20000) (search (method_send, ctor_send, var_send, sendable, heap.crosses) depth 40 fits 20000) (search (method_send, ctor_send, var_send, sendable, heap.crosses) depth 40 fits 20000) (search (method_send, ctor_send, var_send, sendable, heap.crosses) depth 40 fits 20000) (search (method_send, ctor_send, var_send, sendable, heap.crosses) depth 40 fits 20000) (search (method_send, ctor_send, var_send, sendable, heap.crosses) depth 40 fits 20000) (search (method_send, ctor_send, var_send, sendable, heap.crosses) depth 40 fits 20000)

type_decl_row_send : IsSend type_decl.the_row
type_decl_row_send = search (type_decl_send, method_send, ctor_send, var_send, sendable, heap.crosses, decls.crosses) depth 40 fits 100000

pub tree_send : IsSend tree.the_row
tree_send = search (type_decl_row_send, sendable, heap.crosses) depth 40 fits 100000

expr_sync : IsSync (expr.the_field).row
expr_sync = exprs.sync-Expr (search (sendable, heap.crosses) depth 40) (search (sendable, heap.crosses) depth 40) (search (sendable, heap.crosses) depth 40) (search (sendable, heap.crosses) depth 40) (search (sendable, heap.crosses) depth 40) (search (sendable, heap.crosses) depth 40) (search (sendable, heap.crosses) depth 40) (search (sendable, heap.crosses) depth 40) (search (sendable, heap.crosses) depth 40)

expr_row_sync : IsSync expr.the_row
expr_row_sync = search (sendable, heap.crosses, exprs.crosses) depth 40 fits 20000

init_sync : IsSync init.the_row
init_sync = search (sendable, heap.crosses, exprs.crosses) depth 40 fits 20000

var_sync : IsSync var.the_row
var_sync = search (init_sync, sendable, heap.crosses) depth 40 fits 20000

stmt_sync : IsSync (stmt.the_field).row
stmt_sync = stmts.sync-Stmt (search (var_sync, expr_sync, expr_row_sync, sendable, heap.crosses) depth 40 fits 20000) (search (var_sync, expr_sync, expr_row_sync, sendable, heap.crosses) depth 40 fits 20000) (search (var_sync, expr_sync, expr_row_sync, sendable, heap.crosses) depth 40 fits 20000) (search (var_sync, expr_sync, expr_row_sync, sendable, heap.crosses) depth 40 fits 20000) (search (var_sync, expr_sync, expr_row_sync, sendable, heap.crosses) depth 40 fits 20000) (search (var_sync, expr_sync, expr_row_sync, sendable, heap.crosses) depth 40 fits 20000) (search (var_sync, expr_sync, expr_row_sync, sendable, heap.crosses) depth 40 fits 20000) (search (var_sync, expr_sync, expr_row_sync, sendable, heap.crosses) depth 40 fits 20000) (search (var_sync, expr_sync, expr_row_sync, sendable, heap.crosses) depth 40 fits 20000) (search (var_sync, expr_sync, expr_row_sync, sendable, heap.crosses) depth 40 fits 20000) (search (var_sync, expr_sync, expr_row_sync, sendable, heap.crosses) depth 40 fits 20000)

stmt_row_sync : IsSync stmt.the_row
stmt_row_sync = search (stmt_sync, var_sync, expr_sync, expr_row_sync, sendable, heap.crosses, stmts.crosses) depth 40 fits 100000

method_sync : IsSync (method.the_field).row
method_sync = search (stmt_row_sync, sendable, heap.crosses) depth 40 fits 100000

ctor_sync : IsSync (ctor.the_field).row
ctor_sync = search (expr_row_sync, stmt_row_sync, sendable, heap.crosses) depth 40 fits 100000

type_decl_sync : IsSync (type_decl.the_field).row
type_decl_sync = decls.sync-TypeDecl (search (method_sync, ctor_sync, var_sync, sendable, heap.crosses) depth 40 fits 20000) (search (method_sync, ctor_sync, var_sync, sendable, heap.crosses) depth 40 fits 20000) (search (method_sync, ctor_sync, var_sync, sendable, heap.crosses) depth 40 fits 20000) (search (method_sync, ctor_sync, var_sync, sendable, heap.crosses) depth 40 fits 20000) (search (method_sync, ctor_sync, var_sync, sendable, heap.crosses) depth 40 fits 20000) (search (method_sync, ctor_sync, var_sync, sendable, heap.crosses) depth 40 fits 20000) (search (method_sync, ctor_sync, var_sync, sendable, heap.crosses) depth 40 fits 20000) (search (method_sync, ctor_sync, var_sync, sendable, heap.crosses) depth 40 fits 20000) (search (method_sync, ctor_sync, var_sync, sendable, heap.crosses) depth 40 fits 20000)

type_decl_row_sync : IsSync type_decl.the_row
type_decl_row_sync = search (type_decl_sync, method_sync, ctor_sync, var_sync, sendable, heap.crosses, decls.crosses) depth 40 fits 100000

pub tree_sync : IsSync tree.the_row
tree_sync = search (type_decl_row_sync, sendable, heap.crosses) depth 40 fits 100000
