use Rattle.std.proofs.Common.{◌-◌, ◌+◌, List, sym, ap, ◌∙◌, subst}
use Rattle.jv_tree.specs.DeclTree.{ImportTree, import_tree}
use Rattle.jv_grammar.specs.Reader.{Reads}
use Rattle.jv_grammar.specs.DeclReader.{imports_of}
use Rattle.jv_parse_expr.specs.View.{Fails}
use Rattle.jv_parse_expr.proofs.Faults.{refuses}
use Rattle.jv_parse.proofs.CommaTurns.{onto}
use Rattle.jv_parse.proofs.ImportTurns.{imports_begin, imports_over, imports_done, imports_failed, imports_next}
use Rattle.jv_parse.proofs.declarations.imports.imports.Goals as goal

pub loop-i-init : goal.loop-i-init
loop-i-init c = imports_begin c.args.count c.new-items.result.items c.args.terminals.now c.new-items.ensures.items

pub returns-in_default : goal.returns-in_default
returns-in_default c =
    sym c.loop-i.invariant ∙ imports_done c.args.count c.loop-i._i c.loop-i.items.items c.loop-i.rest.now c.loop-i-test.true c.in_default.ensures

pub returns-in-Err : goal.returns-in-Err
returns-in-Err c =
    subst (λ (r : Reads (List ImportTree)). Fails c.in-Err.fault r) c.loop-i.invariant
    (imports_failed c.args.count c.loop-i._i c.loop-i.items.items c.loop-i.rest.now c.loop-i-test.true
    c.in-Some.open.now c.in-Some.ensures.0 c.in-Some.ensures.1 c.in-Err.fault c.in-Err.ensures)

pub loop-i-preserved : goal.loop-i-preserved
loop-i-preserved c =
    ap (λ l. onto import_tree l (imports_of (c.args.count - (c.loop-i._i + 1)) c.in-Ok.read.1.now)) c.in_ok-push.ensures.items
    ∙ imports_next c.args.count c.loop-i._i c.loop-i.items.items c.loop-i.rest.now c.loop-i-test.true
    c.in-Some.open.now c.in-Some.ensures.0 c.in-Some.ensures.1 c.in-Ok.read.0 c.in-Ok.read.1.now c.in-Ok.ensures
    ∙ c.loop-i.invariant

pub returns : goal.returns
returns c =
    refuses _ _ _ c.refused.ensures (sym c.loop-i.invariant ∙ imports_over c.args.count c.loop-i._i c.loop-i.items.items c.loop-i.rest.now c.loop-i-test.false)
