use Rattle.std.proofs.Common.{◌≡◌, ◌∙◌, ◌-◌, ◌∷◌, ◌++◌, [], false, ap, sym, length, arith, length-append}
use Rattle.std.proofs.lemmas.List.Elements.{All-cons, All-nil, All-append, All-same}
use Rattle.sg_turn_tests.specs.declared.tests.Job.{Job}
use Rattle.sg_turn.specs.Turn.{IsOf, fresh_seats}
use Rattle.sg_turn.specs.TurnSeat.{fresh_seat}
use Rattle.sg_turn.proofs.SeatLists.{fresh_seats-pop}
use Rattle.sg_turn_tests.proofs.tests.jobs_of.Goals as goal

pub loop-seat-preserved : goal.loop-seat-preserved
loop-seat-preserved c = let t = c.args.turn.now in let n = c.loop-seat.number in let others = c.pop.new.self.items in
    let p = fresh_seats-pop t.turn t.root n others c.in-Some.seat (sym c.loop-seat.invariant.left ∙ c.in-Some.ensures.items) in
    let number : length others ≡ n - 1 = let a = p.0 in omega arith in
    let seat : c.in-Some.seat ≡ fresh_seat t.turn t.root (n - 1) = p.2 ∙ ap (λ k. fresh_seat t.turn t.root k) number in
    let P : Job → Type 0 = λ (j : Job). IsOf t j.seat × (j.seat.number ≡ j.number) × (j.seat.inside ≡ false) × (j.seat.spent ≡ false) × (j.seat.kept ≡ []) in
    let job : Job = record { seat = c.in-Some.seat; number = n - 1 } in
    record {
      left = p.1 ∙ ap (λ k. fresh_seats t.turn t.root k) number;
      made = let a = ap length c.in_ok-push.ensures.items in let b = length-append c.loop-seat.jobs.items (job ∷ []) in let d = c.loop-seat.invariant.made in let e = p.0 in omega arith;
      jobs = All-same P c.push.new.self.items (c.loop-seat.jobs.items ++ job ∷ []) c.in_ok-push.ensures.items
          (All-append P c.loop-seat.jobs.items (job ∷ []) c.loop-seat.invariant.jobs
          (All-cons P job [] ((ap (λ z. z.turn) seat, ap (λ z. z.root) seat), ap (λ z. z.number) seat, ap (λ z. z.inside) seat, ap (λ z. z.spent) seat, ap (λ z. z.kept) seat) (All-nil P)));
    }
