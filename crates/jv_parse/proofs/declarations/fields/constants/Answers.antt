use Rattle.std.proofs.Common.{◌-◌, ◌+◌, List, map, sym, ap, ◌∙◌, subst}
use Rattle.jv_tree.specs.StmtTree.{var_tree}
use Rattle.jv_grammar.specs.Reader.{Reads}
use Rattle.jv_grammar.specs.DeclReader.{constants_of}
use Rattle.jv_parse_expr.specs.View.{Fails}
use Rattle.jv_parse.specs.DeclView.{constant_of}
use Rattle.jv_parse_expr.proofs.Faults.{refuses}
use Rattle.jv_parse.proofs.CommaTurns.{onto, some_items, constants_listed, listed_begin, listed_over, listed_failed, listed_done, listed_next}
use Rattle.jv_parse.proofs.declarations.fields.constants.Goals as goal

pub loop-i-init : goal.loop-i-init
loop-i-init c = listed_begin var_tree (constant_of c.args.fuel) (constants_of c.args.fuel) (constants_listed c.args.fuel) c.args.count c.new-items.result.items c.args.terminals.now c.new-items.ensures.items

pub returns-in-Err : goal.returns-in-Err
returns-in-Err c =
    subst (λ (r : Reads (List _)). Fails c.in-Err.fault r) c.loop-i.invariant
    (listed_failed var_tree (constant_of c.args.fuel) (constants_of c.args.fuel) (constants_listed c.args.fuel) c.args.count c.loop-i._i c.loop-i.items.items c.loop-i.rest.now c.loop-i-test.true c.in-Err.fault c.in-Err.ensures)

pub returns-in_default : goal.returns-in_default
returns-in_default c =
    sym c.loop-i.invariant
    ∙ listed_done var_tree (constant_of c.args.fuel) (constants_of c.args.fuel) (constants_listed c.args.fuel) c.args.count c.loop-i._i c.loop-i.items.items c.loop-i.rest.now c.loop-i-test.true
    c.in-Ok.read.0 c.in-Ok.read.1.now c.in-Ok.ensures c.in_default.ensures
    ∙ ap (λ l. some_items c.in-Ok.read.1.now (map var_tree l)) (sym c.in_ok-push.ensures.items)

pub loop-i-preserved : goal.loop-i-preserved
loop-i-preserved c =
    ap (λ l. onto var_tree l (constants_of c.args.fuel (c.args.count - (c.loop-i._i + 1)) c.in-Some.next.now)) c.in_ok-push.ensures.items
    ∙ listed_next var_tree (constant_of c.args.fuel) (constants_of c.args.fuel) (constants_listed c.args.fuel) c.args.count c.loop-i._i c.loop-i.items.items c.loop-i.rest.now c.loop-i-test.true
    c.in-Ok.read.0 c.in-Ok.read.1.now c.in-Some.next.now c.in-Ok.ensures c.in-Some.ensures.0 c.in-Some.ensures.1
    ∙ c.loop-i.invariant

pub returns : goal.returns
returns c =
    refuses _ _ _ c.refused.ensures (sym c.loop-i.invariant ∙ listed_over var_tree (constant_of c.args.fuel) (constants_of c.args.fuel) (constants_listed c.args.fuel) c.args.count c.loop-i._i c.loop-i.items.items c.loop-i.rest.now c.loop-i-test.false)
