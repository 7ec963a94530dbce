use Rattle.std.proofs.Common.{refl, sym, map, inr}
use Rattle.std.specs.Ordering.{nat_cmp}
use Rattle.sg_base.proofs.Rising.{rising_from_sorted}
use Rattle.sg_state.proofs.Noting.{kept_set, listed_set, kept_insert, listed_insert}
use Rattle.sg_state.proofs.PlaceRows.{set_same}
use Rattle.sg_state.proofs.lists.note.Goals as goal

pub returns-in_err-push-in-Some-clause-kept : goal.returns-in_err-push-in-Some-clause-kept
returns-in_err-push-in-Some-clause-kept c =
    rw ((c.get_mut.follows.holds c.push.new.self).0, set_same _ c.args.lists.now.entries c.in-Some.list.now c.push.new.self (sym c.in-Some.ensures.value) c.in_err-push-in-Some.ensures.err) (λ u s h. h)

pub returns-in_ok-push-in-Some-clause-kept : goal.returns-in_ok-push-in-Some-clause-kept
returns-in_ok-push-in-Some-clause-kept c =
    rw (c.get_mut.follows.holds c.push.new.self).0 (kept_set c.args.lists.now.entries c.requires.rising c.args.unit c.args.s c.in-Some.list.now c.push.new.self (sym c.in-Some.ensures.value) c.in_ok-push-in-Some.ensures.ok)

pub returns-in_ok-push-in-Some-clause-ok : goal.returns-in_ok-push-in-Some-clause-ok
returns-in_ok-push-in-Some-clause-ok c =
    rw (c.get_mut.follows.holds c.push.new.self).0 (listed_set c.args.lists.now.entries c.requires.rising c.args.unit c.args.s c.in-Some.list.now c.push.new.self (sym c.in-Some.ensures.value) c.in_ok-push-in-Some.ensures.ok)

pub returns-in_ok-insert-in-None-clause-kept : goal.returns-in_ok-insert-in-None-clause-kept
returns-in_ok-insert-in-None-clause-kept c =
    rw (c.in_ok-insert-in-None.ensures.entries, c.get_mut.follows.holds-at-none) (kept_insert c.args.lists.now.entries c.args.unit c.push-in-None.new.self (sym c.in-None.ensures.value))

pub returns-in_ok-insert-in-None-clause-ok : goal.returns-in_ok-insert-in-None-clause-ok
returns-in_ok-insert-in-None-clause-ok c =
    rw (c.in_ok-insert-in-None.ensures.entries, c.get_mut.follows.holds-at-none) (listed_insert c.args.lists.now.entries c.args.unit c.push-in-None.new.self (sym c.in-None.ensures.value) c.args.s ((c.in_ok-push-in-None.ensures.ok c.args.s).1 (inr refl)))

pub returns-in_ok-insert-in-None-clause-rising : goal.returns-in_ok-insert-in-None-clause-rising
returns-in_ok-insert-in-None-clause-rising c = rising_from_sorted nat_cmp (map (λ p. p.0) c.insert.new.self.entries) c.in_ok-insert-in-None.ensures.ordered
