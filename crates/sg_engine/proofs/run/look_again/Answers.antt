use Rattle.std.proofs.Common.{◌≡◌, ◌<◌, length, inl, inr, sym, ◌∙◌, ap, subst, arith, vec_len, List}
use Rattle.sg_state.specs.Held.{state_of}
use Rattle.sg_engine.specs.Keyed.{wanting_by}
use Rattle.sg_engine.specs.declared.work.Work.{Work}
use Rattle.sg_engine.specs.Tree.{AllBlock}
use Rattle.sg_engine.proofs.Running.{again_search, is_zero, above_zero, free_item, left_is, nothing_left, something_left, all_blocked}
use Rattle.sg_engine.proofs.run.look_again.Goals as goal

pub run_on-requires-clause-stands : goal.run_on-requires-clause-stands
run_on-requires-clause-stands g c =
    let none = ap (λ v. v.items) c.replace-waiting.ensures.after ∙ c.new.ensures.items in
    let waiting = ap (λ v. v.items) (c.replace-over.ensures.after ∙ c.replace-waiting.ensures.value) in
    let r = c.requires.stands in
    (r.0, r.1, again_search c.args.h.now (wanting_by g.I.Instance.wants g.I.Instance.datum_key g.I.Instance.pred_key c.args.pred.now) r.1 r.0 c.args.tree.now _ _ none waiting c.requires.over r.2)

pub returns-in-Many-clause-stands : goal.returns-in-Many-clause-stands
returns-in-Many-clause-stands g c = λ q ps s.
    let h = state_of c.args.h.now in
    let t = c.args.tree.now in
    let none = ap (λ v. v.items) c.replace-waiting.ensures.after ∙ c.new.ensures.items in
    let waiting = ap (λ v. v.items) (c.replace-over.ensures.after ∙ c.replace-waiting.ensures.value) in
    let k = c.in_ok-run_on.ensures.stands q ps (again_search c.args.h.now (wanting_by g.I.Instance.wants g.I.Instance.datum_key g.I.Instance.pred_key c.args.pred.now) ps q t _ _ none waiting c.requires.over s) in
    let r = rw c.in-Many.is at c.in_ok-run_on.ensures.ran in
    (k, (r.1, inr r.0))

pub returns-in-Free-clause-stands : goal.returns-in-Free-clause-stands
returns-in-Free-clause-stands g c = λ q ps s.
    let h = state_of c.args.h.now in
    let t = c.args.tree.now in
    let none = ap (λ v. v.items) c.replace-waiting.ensures.after ∙ c.new.ensures.items in
    let waiting = ap (λ v. v.items) (c.replace-over.ensures.after ∙ c.replace-waiting.ensures.value) in
    let k = c.in_ok-run_on.ensures.stands q ps (again_search c.args.h.now (wanting_by g.I.Instance.wants g.I.Instance.datum_key g.I.Instance.pred_key c.args.pred.now) ps q t _ _ none waiting c.requires.over s) in
    let r = rw c.in-Free.is at c.in_ok-run_on.ensures.ran in
    (k, (r.1, free_item h q c.run_on.new.tree (k.0).0 r.2 r.3 r.4, r.0))

pub returns-then-is_empty-clause-stands : goal.returns-then-is_empty-clause-stands
returns-then-is_empty-clause-stands g c = λ q ps s.
    let h = state_of c.args.h.now in
    let t = c.args.tree.now in
    let v = c.run_on.new.tree in
    let none = ap (λ v. v.items) c.replace-waiting.ensures.after ∙ c.new.ensures.items in
    let waiting = ap (λ v. v.items) (c.replace-over.ensures.after ∙ c.replace-waiting.ensures.value) in
    let k = c.in_ok-run_on.ensures.stands q ps (again_search c.args.h.now (wanting_by g.I.Instance.wants g.I.Instance.datum_key g.I.Instance.pred_key c.args.pred.now) ps q t _ _ none waiting c.requires.over s) in
    let r = rw c.in-Over.is at c.in_ok-run_on.ensures.ran in
    let zero : vec_len v.blocked ≡ 0 = is_zero (vec_len v.blocked) (sym c.is_empty.ensures ∙ c.if-is_empty.true) in
    let size : length v.blocked.items ≡ 0 = omega (arith, zero, v.blocked.ok.0) in
    (k, (omega (arith, r.1), inl (nothing_left h q v (k.0).0 r.2 size)))

pub returns-else-is_empty-clause-stands : goal.returns-else-is_empty-clause-stands
returns-else-is_empty-clause-stands g c = λ q ps s.
    let h = state_of c.args.h.now in
    let t = c.args.tree.now in
    let v = c.run_on.new.tree in
    let none = ap (λ v. v.items) c.replace-waiting.ensures.after ∙ c.new.ensures.items in
    let waiting = ap (λ v. v.items) (c.replace-over.ensures.after ∙ c.replace-waiting.ensures.value) in
    let k = c.in_ok-run_on.ensures.stands q ps (again_search c.args.h.now (wanting_by g.I.Instance.wants g.I.Instance.datum_key g.I.Instance.pred_key c.args.pred.now) ps q t _ _ none waiting c.requires.over s) in
    let r = rw c.in-Over.is at c.in_ok-run_on.ensures.ran in
    let some : 0 < vec_len v.blocked = above_zero (vec_len v.blocked) (sym c.is_empty.ensures ∙ c.if-is_empty.false) in
    let size : 0 < length v.blocked.items = omega (arith, some, v.blocked.ok.0) in
    let stuck : AllBlock h v.start v.nodes.items v.blocked.items = r.3 (subst (λ (ws : List Work). AllBlock h t.start t.nodes.items ws) (sym none) tt) in
    (k, (omega (arith, r.1), something_left h q v (k.0).0 r.2 size, all_blocked h q v (k.0).0 r.2 stuck, r.0, left_is h q v (k.0).0 r.2))
