use Rattle.std.proofs.Common.{sym, ◌∙◌, subst, map}
use Rattle.sg_base.specs.Row.{AreRows, row_cmp}
use Rattle.sg_base.proofs.Rising.{rising_from_sorted}
use Rattle.sg_base.proofs.Rows.{on_err, set-same, set-adds, set-AreRows, insert-adds, insert-AreRows, target-found, target-absent}
use Rattle.sg_base.proofs.graph.add_target.Goals as goal

pub returns-in_err-insert-in-Some-clause-err : goal.returns-in_err-insert-in-Some-clause-err
returns-in_err-insert-in-Some-clause-err c =
    on_err c.from_residual.result ((c.get_mut.follows.holds c.insert.new.self).0 ∙ set-same c.args.row c.args.rows.now.entries c.in-Some.targets.now c.insert.new.self (sym c.in-Some.ensures.value) c.in_err-insert-in-Some.ensures.err)

pub returns-in_err-insert-in-Some-clause-rows : goal.returns-in_err-insert-in-Some-clause-rows
returns-in_err-insert-in-Some-clause-rows c =
    subst AreRows (sym ((c.get_mut.follows.holds c.insert.new.self).0 ∙ set-same c.args.row c.args.rows.now.entries c.in-Some.targets.now c.insert.new.self (sym c.in-Some.ensures.value) c.in_err-insert-in-Some.ensures.err)) c.requires

pub returns-in_err-insert-in-Some-clause-again : goal.returns-in_err-insert-in-Some-clause-again
returns-in_err-insert-in-Some-clause-again c =
    λ _. (c.get_mut.follows.holds c.insert.new.self).0 ∙ set-same c.args.row c.args.rows.now.entries c.in-Some.targets.now c.insert.new.self (sym c.in-Some.ensures.value) c.in_err-insert-in-Some.ensures.err

pub returns-in_ok-insert-in-Some-clause-ok : goal.returns-in_ok-insert-in-Some-clause-ok
returns-in_ok-insert-in-Some-clause-ok c =
    rw (c.get_mut.follows.holds c.insert.new.self).0 (set-adds c.args.row c.args.to c.args.rows.now.entries c.in-Some.targets.now c.insert.new.self (sym c.in-Some.ensures.value) c.in_ok-insert-in-Some.ensures.ok)

pub returns-in_ok-insert-in-Some-clause-rows : goal.returns-in_ok-insert-in-Some-clause-rows
returns-in_ok-insert-in-Some-clause-rows c =
    rw (c.get_mut.follows.holds c.insert.new.self).0 (set-AreRows c.args.row c.args.rows.now.entries c.insert.new.self c.in_ok-insert-in-Some.ensures.rising c.requires)

pub returns-in_ok-insert-in-Some-clause-again : goal.returns-in_ok-insert-in-Some-clause-again
returns-in_ok-insert-in-Some-clause-again c = λ there.
    (c.get_mut.follows.holds c.insert.new.self).0
    ∙ set-same c.args.row c.args.rows.now.entries c.in-Some.targets.now c.insert.new.self (sym c.in-Some.ensures.value)
    (c.in_ok-insert-in-Some.ensures.again (target-found c.args.row c.args.rows.now.entries c.in-Some.targets.now c.requires.rows_rise (sym c.in-Some.ensures.value) c.args.to there))

pub returns-in_ok-insert-in-None-2-clause-ok : goal.returns-in_ok-insert-in-None-2-clause-ok
returns-in_ok-insert-in-None-2-clause-ok c =
    let only = rw c.new-targets.ensures at c.in_ok-insert-in-None.ensures.ok in
    rw (c.in_ok-insert-in-None-2.ensures.entries, c.get_mut.follows.holds-at-none) (insert-adds c.args.row c.args.to c.args.rows.now.entries c.insert-in-None.new.self (sym c.in-None.ensures.value) only)

pub returns-in_ok-insert-in-None-2-clause-rows : goal.returns-in_ok-insert-in-None-2-clause-rows
returns-in_ok-insert-in-None-2-clause-rows c =
    let keys = rw (c.in_ok-insert-in-None-2.ensures.entries, c.get_mut.follows.holds-at-none) at (rising_from_sorted row_cmp (map (λ p. p.0) c.insert-in-None-2.new.self.entries) c.in_ok-insert-in-None-2.ensures.ordered) in
    rw (c.in_ok-insert-in-None-2.ensures.entries, c.get_mut.follows.holds-at-none) (insert-AreRows c.args.row c.args.rows.now.entries c.insert-in-None.new.self c.in_ok-insert-in-None.ensures.rising c.requires keys)

pub returns-in_ok-insert-in-None-2-clause-again : goal.returns-in_ok-insert-in-None-2-clause-again
returns-in_ok-insert-in-None-2-clause-again c = λ there.
    absurd (target-absent c.args.row c.args.rows.now.entries (sym c.in-None.ensures.value) c.args.to there)
