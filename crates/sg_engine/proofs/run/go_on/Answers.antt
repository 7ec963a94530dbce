use Rattle.std.proofs.Common.{◌≡◌, ℕ, IfOk, length, vec_len, inl, inr, sym, ◌∙◌, subst, arith}
use Rattle.sg_state.specs.Held.{state_of}
use Rattle.sg_engine.specs.Keyed.{wanting_by}
use Rattle.sg_engine.specs.Run.{IsSearchIn, IsReply}
use Rattle.sg_engine.specs.declared.progress.Progress.{Progress}
use Rattle.sg_engine.proofs.Listing.{back_chain}
use Rattle.sg_engine.proofs.Running.{free_item, is_zero, nothing_left}
use Rattle.sg_engine.proofs.run.go_on.Goals as goal

pub returns-in-Many-clause-stands : goal.returns-in-Many-clause-stands
returns-in-Many-clause-stands g c = λ q ps s.
    let r = rw c.in-Many.is at c.in_ok-run_on.ensures.ran in
    (c.in_ok-run_on.ensures.stands q ps s, (r.1, inr r.0))

pub returns-in-Free-clause-stands : goal.returns-in-Free-clause-stands
returns-in-Free-clause-stands g c = λ q ps s.
    let k = c.in_ok-run_on.ensures.stands q ps s in
    let r = rw c.in-Free.is at c.in_ok-run_on.ensures.ran in
    (k, (r.1, free_item (state_of c.args.h.now) q c.run_on.new.tree (k.0).0 r.2 r.3 r.4, r.0))

pub returns-then-is_empty-clause-stands : goal.returns-then-is_empty-clause-stands
returns-then-is_empty-clause-stands g c = λ q ps s.
    let v = c.run_on.new.tree in
    let k = c.in_ok-run_on.ensures.stands q ps s in
    let r = rw c.in-Over.is at c.in_ok-run_on.ensures.ran in
    let zero : vec_len v.blocked ≡ 0 = is_zero (vec_len v.blocked) (sym c.is_empty.ensures ∙ c.if-is_empty.true) in
    let size : length v.blocked.items ≡ 0 = omega (arith, zero, v.blocked.ok.0) in
    (k, (omega (arith, r.1), inl (nothing_left (state_of c.args.h.now) q v (k.0).0 r.2 size)))

pub returns-else-is_empty-clause-stands : goal.returns-else-is_empty-clause-stands
returns-else-is_empty-clause-stands g c = λ q ps s.
    let h = state_of c.args.h.now in
    let k0 = wanting_by g.I.Instance.wants g.I.Instance.datum_key g.I.Instance.pred_key c.args.pred.now in
    let v = c.look_again.new.tree in
    let r = rw c.in-Over.is at c.in_ok-run_on.ensures.ran in
    subst (λ (n : ℕ). IfOk c.look_again.result (λ (p : Progress). IsSearchIn c.args.h.now k0 ps q v × IsReply h q n v p)) r.1 (c.look_again.ensures.stands q ps (c.in_ok-run_on.ensures.stands q ps s))

pub look_again-requires-clause-stands : goal.look_again-requires-clause-stands
look_again-requires-clause-stands g c = (c.requires.stands.0, c.requires.stands.1, c.in_ok-run_on.ensures.stands c.requires.stands.0 c.requires.stands.1 c.requires.stands.2)

pub look_again-requires-clause-over : goal.look_again-requires-clause-over
look_again-requires-clause-over g c = let r = rw c.in-Over.is at c.in_ok-run_on.ensures.ran in r.2

pub returns-in-Many-clause-back : goal.returns-in-Many-clause-back
returns-in-Many-clause-back g c = rw c.requires.anew c.run_on.ensures.lists

pub returns-in-Free-clause-back : goal.returns-in-Free-clause-back
returns-in-Free-clause-back g c = rw c.requires.anew c.run_on.ensures.lists

pub returns-in_err-run_on-clause-back : goal.returns-in_err-run_on-clause-back
returns-in_err-run_on-clause-back g c = rw c.requires.anew c.run_on.ensures.lists

pub returns-then-is_empty-clause-back : goal.returns-then-is_empty-clause-back
returns-then-is_empty-clause-back g c = rw c.requires.anew c.run_on.ensures.lists

pub returns-else-is_empty-clause-back : goal.returns-else-is_empty-clause-back
returns-else-is_empty-clause-back g c = back_chain c.args.tree.now c.run_on.new.tree c.look_again.new.tree c.look_again.new.spent c.run_on.ensures.lists c.look_again.ensures.back
