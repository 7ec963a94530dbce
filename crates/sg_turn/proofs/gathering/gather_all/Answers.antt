use Rattle.std.proofs.Common.{rules, ◌≡◌, ◌++◌, ◌∷◌, [], false, length, sym, ap, ◌∙◌, subst, append_assoc}
use Rattle.std.specs.Prelude.{Some, All}
use Rattle.std.proofs.lemmas.List.Elements.{All-pop, All-same}
use Rattle.sg_turn.specs.Stage.{IsFree}
use Rattle.sg_turn.specs.TurnSeat.{known, Keeps}
use Rattle.sg_turn.proofs.RuleSteps.{gathers}
use Rattle.sg_turn.proofs.SeatLists.{free_of, keeps_more}
use Rattle.sg_turn.proofs.Lists.{none_left}
use Rattle.sg_turn.proofs.gathering.gather_all.Goals as goal

pub join_seat-requires : goal.join_seat-requires
join_seat-requires g c = let inv = c.loop-other.invariant in
    let p = All-pop (λ s. (s.turn ≡ c.args.first.turn) × (s.inside ≡ false) × (s.kept ≡ [])) c.loop-other.left.items c.pop.new.self.items (Some c.in-Some.other) c.in-Some.ensures.items inv.left in
    let f = free_of c.other.inside.seat.me.0.stage c.other.inside.seat.me.1 c.other.invariant (ap (λ z. z.inside) c.other.view_is ∙ p.1.1) in
    (inv.same.0 ∙ c.requires.table.0, ap (λ z. z.turn) c.other.view_is ∙ (p.1.0 ∙ c.requires.table.0), f.1, search rules, gathers _ _ _ _ _ _ c.loop-other.gatherer.me.0 _ c.other.inside.seat.me.0 inv.same.2 f.0)

pub loop-other-preserved : goal.loop-other-preserved
loop-other-preserved g c = let inv = c.loop-other.invariant in let d = inv.done in
    let p = All-pop (λ s. (s.turn ≡ c.args.first.turn) × (s.inside ≡ false) × (s.kept ≡ [])) c.loop-other.left.items c.pop.new.self.items (Some c.in-Some.other) c.in-Some.ensures.items inv.left in
    let m = keeps_more c.other.inside.seat.table_id c.loop-other.gatherer.me.0 c.other.inside.seat.me.0 c.in-Some.other d.0 c.other.view_is (ap (λ z. z.kept) c.other.view_is ∙ p.1.2) d.2 d.3 in
    let e = c.join_seat.ensures.2 in
    record {
      same = (c.join_seat.ensures.0 ∙ inv.same.0, ap (λ z. record (known c.args.first.turn z.0) { kept = c.args.first.kept }) e ∙ inv.same.1, subst (λ z. IsFree z.0.stage) (sym e) inv.same.2, ap (λ z. z.1) e ∙ inv.same.3);
      left = p.0;
      done = (
        c.in-Some.other ∷ d.0,
        d.1 ∙ (ap (λ l. l ++ d.0) c.in-Some.ensures.items ∙ append_assoc c.pop.new.self.items (c.in-Some.other ∷ []) d.0),
        subst (λ z. All (λ s. Keeps z.0 s.number s.mine) (c.in-Some.other ∷ d.0)) (sym e) m.0,
        ap (λ z. length z.0.kept) e ∙ m.1,
      );
    }

pub returns-clause-others : goal.returns-clause-others
returns-clause-others g c = let d = c.loop-other.invariant.done in
    All-same (λ s. Keeps c.loop-other.gatherer.me.0 s.number s.mine) c.args.others.items d.0 (d.1 ∙ ap (λ l. l ++ d.0) (none_left c.loop-other.left.items (sym c.loop-other.left.ok.0 ∙ c.in_default.ensures.cases.0))) d.2
