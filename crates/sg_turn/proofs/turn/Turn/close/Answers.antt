use Rattle.std.proofs.Common.{◌≡◌, ◌≤◌, ◌++◌, ◌∷◌, [], ℕ, length, ap, ◌∙◌, subst, arith, length-append}
use Rattle.std.proofs.lemmas.List.Elements.{All-cons, All-nil, All-weaker, All-append, All-same}
use Rattle.sg_turn.specs.Entries.{told_by}
use Rattle.sg_turn.specs.TurnSeat.{Keeps}
use Rattle.sg_turn.proofs.RuleSteps.{closes_with, slot_full}
use Rattle.sg_turn.proofs.turn.Turn.close.Goals as goal

pub unwrap-requires : goal.unwrap-requires
unwrap-requires g c = slot_full _ _ _ (g.V.Storied.root c.self.inside.table.shared.key.value.value) c.self.inside.table.shared.key.seats _ c.gather_all-gatherer.result.me.0 _ _ c.close_with-closed.ensures.values.2 c.gather_all-gatherer.ensures.first.2
    (let a = c.gather_all-gatherer.ensures.count in let b = ap length c.in-Some.ensures.items in let d = length-append c.pop.new.self.items (c.in-Some.first ∷ []) in let e = c.requires.count in let f = ap (λ z. z.seats) c.self.view_is in omega arith) c.take-value.result c.take-value.ensures.value

pub returns : goal.returns
returns g c = let t = closes_with _ _ _ (g.V.Storied.root c.self.inside.table.shared.key.value.value) c.self.inside.table.shared.key.seats _ c.gather_all-gatherer.result.me.0 _ _ c.close_with-closed.ensures.values.2 c.gather_all-gatherer.ensures.first.2
    (let a = c.gather_all-gatherer.ensures.count in let b = ap length c.in-Some.ensures.items in let d = length-append c.pop.new.self.items (c.in-Some.first ∷ []) in let e = c.requires.count in let f = ap (λ z. z.seats) c.self.view_is in omega arith)
    c.unwrap.result c.take-value.result c.take-value.ensures.value c.unwrap.ensures in
    let first = c.gather_all-gatherer.ensures.first.1 in
    record {
      own = All-same (λ s. told_by g.V.Storied.teller s.number (g.V.Storied.entries c.unwrap.result) ≡ s.mine) _ (c.pop.new.self.items ++ c.in-Some.first ∷ []) c.in-Some.ensures.items
          (All-append (λ s. told_by g.V.Storied.teller s.number (g.V.Storied.entries c.unwrap.result) ≡ s.mine) c.pop.new.self.items (c.in-Some.first ∷ [])
          (All-weaker (λ s. Keeps c.gather_all-gatherer.result.me.0 s.number s.mine) (λ s. told_by g.V.Storied.teller s.number (g.V.Storied.entries c.unwrap.result) ≡ s.mine) (λ s k. t.2 s.number s.mine k.0 k.1) c.pop.new.self.items c.gather_all-gatherer.ensures.others)
          (All-cons (λ s. told_by g.V.Storied.teller s.number (g.V.Storied.entries c.unwrap.result) ≡ s.mine) c.in-Some.first [] (subst (λ s. told_by g.V.Storied.teller s.number (g.V.Storied.entries c.unwrap.result) ≡ s.mine) first t.1) (All-nil (λ s. told_by g.V.Storied.teller s.number (g.V.Storied.entries c.unwrap.result) ≡ s.mine))));
      others = subst (λ z. (n : ℕ) → z.seats ≤ n → told_by g.V.Storied.teller n (g.V.Storied.entries c.unwrap.result) ≡ []) c.self.view_is t.3;
      root = t.0 ∙ ap (λ z. z.root) c.self.view_is;
    }
