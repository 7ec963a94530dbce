use Rattle.std.proofs.Common.{List, ap, sym, ◌∙◌, subst, length}
use Rattle.sg_waits.specs.declared.shown.ShownItem.{ShownItem}
use Rattle.sg_waits.specs.Shown.{AreShown, items_below}
use Rattle.sg_waits.specs.Waits.{WaitsOf}
use Rattle.sg_waits.proofs.Showing.{all_shown}
use Rattle.sg_waits.proofs.waits.Waits.shown.Goals as goal

pub returns : goal.returns
returns c =
    let items = c.self.inside.units.items in
    let hs = c.args.holder_of.now in
    let es = c.in_ok-least.least.entries in
    let named = rw (← c.self.view_is) at c.requires.named in
    let shown = all_shown items hs es c.in_ok-least.ensures (λ u. (c.self.invariant.0.standing u).0) named (λ u w. (c.self.invariant.0.standing u).1 w) in
    let same = c.in_ok-items.ensures ∙ ap (λ (ws : WaitsOf). items_below ws es (length ws)) c.deref.ensures.value in
    subst (λ (ws : WaitsOf). AreShown ws hs c.in_ok-items.items) c.self.view_is (subst (λ (l : List ShownItem). AreShown items hs l) (sym same) shown)
