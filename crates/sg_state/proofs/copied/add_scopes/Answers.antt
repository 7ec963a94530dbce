use Rattle.std.proofs.Common.{◌+◌, drop, get_or, arith}
use Rattle.std.proofs.lemmas.List.{drop_more, drop_all}
use Rattle.sg_base.specs.declared.scope.Scope.{Scope}
use Rattle.sg_state.proofs.Gaining.{scopes_next, scopes_end}
use Rattle.sg_state.proofs.copied.add_scopes.Goals as goal

pub loop-s-preserved : goal.loop-s-preserved
loop-s-preserved g c =
    let all = c.args.scopes.now in
    let i = c.loop-s.s-index in
    let s : Scope = get_or all i (record { unit = 0; serial = 0 }) in
    let left = rw (drop_more all i (record { unit = 0; serial = 0 }) c.loop-s-test.true) at c.loop-s.invariant in
    scopes_next c.args.graph.now c.loop-s.graph c.add_scope.new.self s (drop (i + 1) all) all left c.in_ok-add_scope.ensures.ok

pub returns : goal.returns
returns g c = record { ok = scopes_end c.args.graph.now c.loop-s.graph c.args.scopes.now (rw (drop_all c.loop-s.s-index c.args.scopes.now (omega (arith, c.loop-s-test.false))) at c.loop-s.invariant) }
