use Rattle.std.proofs.Common.{◌-◌, ◌+◌, sym, ap, ◌∙◌, subst}
use Rattle.jv_tree.specs.DeclTree.{MemberTree, MemberTrees, member_tree}
use Rattle.jv_grammar.specs.Reader.{Reads}
use Rattle.jv_grammar.specs.DeclReader.{below_type, members_of}
use Rattle.jv_parse_expr.specs.View.{Fails, Gives}
use Rattle.jv_parse_expr.proofs.Faults.{refuses}
use Rattle.jv_parse.proofs.MemberTurns.{members_onto, members_begin, members_over, members_done, members_skip, members_failed, members_next, member_behind, member_failed}
use Rattle.jv_parse.proofs.declarations.+declarations.Goals as goal

-- a member behind its modifiers
pub members::member-returns-in-Err : goal.members::member-returns-in-Err
members::member-returns-in-Err m c = member_failed c.args.interface c.args.fuel (below_type c.args.fuel) c.args.terminals.now c.in-Err.fault c.in-Err.ensures

pub members::member-returns : goal.members::member-returns
members::member-returns m c =
    subst (λ (r : Reads MemberTree). Gives (λ q. (member_tree q.0, q.1.now)) c.behind_modifiers.result r)
    (member_behind c.args.interface c.args.fuel (below_type c.args.fuel) c.in-Ok.read.0.words.items c.args.terminals.now c.in-Ok.read.1.now c.in-Ok.ensures)
    c.behind_modifiers.ensures

-- members up to a `}`
pub members::members-loop-i-init : goal.members::members-loop-i-init
members::members-loop-i-init m c =
    members_begin c.args.interface c.args.fuel (below_type c.args.fuel) c.args.count c.new-items.result.items c.args.terminals.now c.new-items.ensures.items

pub members::members-returns-in-Some : goal.members::members-returns-in-Some
members::members-returns-in-Some m c =
    sym c.loop-i.invariant
    ∙ members_done c.args.interface c.args.fuel (below_type c.args.fuel) c.args.count c.loop-i._i c.loop-i.items.items c.loop-i.rest.now c.loop-i-test.true
    c.in-Some.end.now c.in-Some.ensures.0 c.in-Some.ensures.1

pub members::members-loop-i-preserved-in-Some-behind : goal.members::members-loop-i-preserved-in-Some-behind
members::members-loop-i-preserved-in-Some-behind m c =
    members_skip c.args.interface c.args.fuel (below_type c.args.fuel) c.args.count c.loop-i._i c.loop-i.items.items c.loop-i.rest.now c.loop-i-test.true
    c.in_default.ensures c.in-Some-behind.next.now c.in-Some-behind.ensures.0 c.in-Some-behind.ensures.1
    ∙ c.loop-i.invariant

pub members::members-returns-in-Err : goal.members::members-returns-in-Err
members::members-returns-in-Err m c =
    subst (λ (r : Reads MemberTrees). Fails c.in-Err.fault r) c.loop-i.invariant
    (members_failed c.args.interface c.args.fuel (below_type c.args.fuel) c.args.count c.loop-i._i c.loop-i.items.items c.loop-i.rest.now c.loop-i-test.true
    c.in_default.ensures c.in_default-behind.ensures c.in-Err.fault c.in-Err.ensures)

pub members::members-loop-i-preserved : goal.members::members-loop-i-preserved
members::members-loop-i-preserved m c =
    ap (λ l. members_onto l (members_of c.args.interface c.args.fuel (below_type c.args.fuel) (c.args.count - (c.loop-i._i + 1)) c.in-Ok.read.1.now)) c.in_ok-push.ensures.items
    ∙ members_next c.args.interface c.args.fuel (below_type c.args.fuel) c.args.count c.loop-i._i c.loop-i.items.items c.loop-i.rest.now c.loop-i-test.true
    c.in_default.ensures c.in_default-behind.ensures c.in-Ok.read.0 c.in-Ok.read.1.now c.in-Ok.ensures
    ∙ c.loop-i.invariant

pub members::members-returns : goal.members::members-returns
members::members-returns m c =
    refuses _ _ _ c.refused.ensures
    (sym c.loop-i.invariant ∙ members_over c.args.interface c.args.fuel (below_type c.args.fuel) c.args.count c.loop-i._i c.loop-i.items.items c.loop-i.rest.now c.loop-i-test.false)
