use Rattle.std.proofs.Common.{◌-◌, ◌+◌, true, false, sym, ap, ◌∙◌}
use Rattle.jv_grammar.specs.DeclReader.{path_of}
use Rattle.jv_parse_expr.proofs.Faults.{refuses}
use Rattle.jv_parse.proofs.ImportTurns.{path_onto, some_path, path_read, path_begin, path_over, path_refused, path_done, path_all, path_next}
use Rattle.jv_parse.proofs.declarations.imports.path.Goals as goal

pub loop-i-init : goal.loop-i-init
loop-i-init c = path_begin c.args.is_static c.args.count c.new-ids.result.items c.args.terminals.now c.new-ids.ensures.items

pub returns-in_default : goal.returns-in_default
returns-in_default c =
    refuses _ _ _ c.refused.ensures
    (sym c.loop-i.invariant ∙ path_refused c.args.is_static c.args.count c.loop-i._i c.loop-i.ids.items c.loop-i.rest.now c.loop-i-test.true c.in_default.ensures)

pub returns-in_default-behind : goal.returns-in_default-behind
returns-in_default-behind c =
    sym c.loop-i.invariant
    ∙ path_done c.args.is_static c.args.count c.loop-i._i c.loop-i.ids.items c.loop-i.rest.now c.loop-i-test.true c.in-Some.next c.in-Some.after.now c.in-Some.ensures c.in_default-behind.ensures
    ∙ ap (some_path c.in-Some.after.now false c.args.is_static) (sym c.in_ok-push.ensures.items)
    ∙ ap (path_read c.in-Some.after.now) (sym c.import.ensures)

pub returns-in-Some-behind-2 : goal.returns-in-Some-behind-2
returns-in-Some-behind-2 c =
    sym c.loop-i.invariant
    ∙ path_all c.args.is_static c.args.count c.loop-i._i c.loop-i.ids.items c.loop-i.rest.now c.loop-i-test.true c.in-Some.next c.in-Some.after.now c.in-Some.ensures
    c.in-Some-behind.dotted.now c.in-Some-behind.ensures.0 c.in-Some-behind.ensures.1 c.in-Some-behind-2.end.now c.in-Some-behind-2.ensures.0 c.in-Some-behind-2.ensures.1
    ∙ ap (some_path c.in-Some-behind-2.end.now true c.args.is_static) (sym c.in_ok-push.ensures.items)
    ∙ ap (path_read c.in-Some-behind-2.end.now) (sym c.import-in-Some-behind-2.ensures)

pub loop-i-preserved : goal.loop-i-preserved
loop-i-preserved c =
    ap (λ l. path_onto c.args.is_static l (path_of c.args.is_static (c.args.count - (c.loop-i._i + 1)) c.in-Some-behind.dotted.now)) c.in_ok-push.ensures.items
    ∙ path_next c.args.is_static c.args.count c.loop-i._i c.loop-i.ids.items c.loop-i.rest.now c.loop-i-test.true
    c.in-Some.next c.in-Some.after.now c.in-Some.ensures c.in-Some-behind.dotted.now c.in-Some-behind.ensures.0 c.in-Some-behind.ensures.1 c.in_default-behind-2.ensures
    ∙ c.loop-i.invariant

pub returns : goal.returns
returns c =
    refuses _ _ _ c.refused-2.ensures (sym c.loop-i.invariant ∙ path_over c.args.is_static c.args.count c.loop-i._i c.loop-i.ids.items c.loop-i.rest.now c.loop-i-test.false)
