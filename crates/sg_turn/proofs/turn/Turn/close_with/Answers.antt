use Rattle.std.proofs.Common.{◌≡◌, ◌≤◌, [], ℕ, length, ap, ◌∙◌, subst, arith}
use Rattle.std.specs.Prelude.{All}
use Rattle.sg_turn.specs.Entries.{told_by}
use Rattle.sg_turn.proofs.RuleSteps.{closes_with, slot_full}
use Rattle.sg_turn.proofs.SeatLists.{free_of}
use Rattle.sg_turn.proofs.Lists.{all_of}
use Rattle.sg_turn.proofs.turn.Turn.close_with.Goals as goal

pub unwrap-requires : goal.unwrap-requires
unwrap-requires g c = let k = c.self.inside.table.shared.key in let me = c.seat.inside.seat in
    let f = free_of me.me.0.stage me.me.1 c.seat.invariant (ap (λ z. z.inside) c.seat.view_is ∙ c.requires.own.1) in
    slot_full _ _ _ (g.V.Storied.root k.value.value) k.seats _ me.me.0 _ _ c.close_with-closed.ensures.values.2 f.0
    (let a = ap (λ z. length z.kept) c.seat.view_is in let b = ap (λ z. z.seats) c.self.view_is in let d = c.requires.all in omega arith) c.take-value.result c.take-value.ensures.value

pub returns : goal.returns
returns g c = let k = c.self.inside.table.shared.key in let me = c.seat.inside.seat in let v = c.seat.view_is in
    let f = free_of me.me.0.stage me.me.1 c.seat.invariant (ap (λ z. z.inside) v ∙ c.requires.own.1) in
    let t = closes_with _ _ _ (g.V.Storied.root k.value.value) k.seats _ me.me.0 _ _ c.close_with-closed.ensures.values.2 f.0
    (let a = ap (λ z. length z.kept) v in let b = ap (λ z. z.seats) c.self.view_is in let d = c.requires.all in omega arith) c.unwrap.result c.take-value.result c.take-value.ensures.value c.unwrap.ensures in
    record {
      own = subst (λ z. told_by g.V.Storied.teller z.number (g.V.Storied.entries c.unwrap.result) ≡ z.mine) v t.1;
      kept = subst (λ z. All (λ p. told_by g.V.Storied.teller p.0 (g.V.Storied.entries c.unwrap.result) ≡ p.1) z.kept) v (all_of (λ p. told_by g.V.Storied.teller p.0 (g.V.Storied.entries c.unwrap.result) ≡ p.1) me.me.0.kept (λ q a e. t.2 a.0 a.1 q e));
      others = subst (λ z. (n : ℕ) → z.seats ≤ n → told_by g.V.Storied.teller n (g.V.Storied.entries c.unwrap.result) ≡ []) c.self.view_is t.3;
      root = t.0 ∙ ap (λ z. z.root) c.self.view_is;
    }
