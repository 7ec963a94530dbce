use Rattle.std.proofs.Common.{◌≡◌, ℕ, [], ◌↔◌, refl, inl, inr, sym, ap, ◌∙◌, subst}
use Rattle.std.specs.Arc.{arc_value}
use Rattle.sg_base.specs.Label.{Word}
use Rattle.sg_expr.specs.Positions.{Accepts, first_of}
use Rattle.sg_expr.specs.Word.{In}
use Rattle.sg_engine.specs.Nodes.{RestOf}
use Rattle.sg_engine.proofs.Rooting.{Counts, root_made}
use Rattle.sg_engine.proofs.tree.Tree.root.Goals as goal
use Rattle.sg_engine.proofs.tree.Tree.root.Goals.{then-goes_on, else-goes_on}

pub returns-clause-tree : goal.returns-clause-tree
returns-clause-tree g c = λ e same.
    let words = arc_value c.args.words in
    let rest : RestOf = record { words = words; set = c.first-set.result } in
    let first : c.first-set.result ≡ first_of words = c.first-set.ensures ∙ ap first_of c.deref.ensures in
    let here : (w : Word) → (Accepts words c.first-set.result w) ↔ (In e w) = subst (λ (n : ℕ). (w : Word) → (Accepts words n w) ↔ (In e w)) (sym first) same in
    let goes = rw c.deref-3.ensures at c.goes_on.ensures in
    let counts : Counts rest c.if-goes_on.going = elim c.if-goes_on.branch [
      | then-goes_on w ↦ inl (w.going-is, goes.0 w.if-goes_on.true)
      | else-goes_on w ↦ inr (w.going-is, (λ k. cc (goes.1 k, w.if-goes_on.false)))
    ] in
    root_made e rest c.args.start [] c.in_ok-nodes.nodes.items _ c.new.result.items c.new-queue.result.items c.push_offers.new.queue.items c.new-2.result.items c.if-goes_on.going here refl c.in_ok-nodes.ensures.items refl
    (ap (λ (n : ℕ). let r : RestOf = record { words = words; set = n } in r) (sym first)) c.new.ensures.items c.new-queue.ensures.items (rw c.deref-2.ensures at c.in_ok-push_offers.ensures.offers) c.new-2.ensures.items counts
