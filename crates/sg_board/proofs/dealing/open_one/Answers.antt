use Rattle.std.proofs.Common.{◌≡◌, ◌-◌, ◌∷◌, ◌++◌, [], Some, All, vec_len, subst, ap, ◌∙◌, sym, arith}
use Rattle.std.proofs.lemmas.List.Elements.{All-pop}
use Rattle.crossbeam_deque.specs.Handles.{worker_view, worker_deque, stealer_deque}
use Rattle.sg_board.specs.declared.worker_view.WorkerView.{WorkerView}
use Rattle.sg_board.specs.Shares.{AreNew}
use Rattle.sg_board.specs.Weighing.{account, all_parts}
use Rattle.sg_board.proofs.Sums.{all_pushed}
use Rattle.sg_board.proofs.dealing.open_one.Goals as goal

pub loop-ways-preserved : goal.loop-ways-preserved
loop-ways-preserved g c = let i = c.loop-ways.invariant in let t = c.in_ok-thief.ensures in let push = c.in_ok-push.ensures in
    let less : all_parts - vec_len c.loop-ways.more - 1 ≡ all_parts - vec_len c.push.new.self = omega (arith, push.len) in
    record {
      owner = t.view ∙ ap (λ (u : WorkerView). account (u.parts - 1) u.given u.taken u.boards) i.owner ∙ ap (λ p. account p [] [] 0) less;
      count = omega (arith, i.count, c.in-Some.ensures.len, push.len);
      ways = λ ds all.
          let j = i.ways ds all in
          let p = All-pop (λ w. AreNew ds w.items) c.loop-ways.left.items c.pop.new.self.items (Some c.in-Some.ways) c.in-Some.ensures.items j.0 in (
            p.0,
            all_pushed (λ w. AreNew (ds ++ worker_deque c.new.new.owner ∷ []) w.items) c.push.new.self.items c.loop-ways.more.items c.in_ok-join.field-0 push.items
                (subst (λ d. All (λ w. AreNew (ds ++ d ∷ []) w.items) c.loop-ways.more.items) (sym t.same) j.1)
                (subst (λ d. AreNew (ds ++ d ∷ []) c.in_ok-join.field-0.items) (t.thief.0 ∙ sym t.same) (c.in_ok-join.ensures ds p.1)),
          );
    }

pub returns-clause-ways : goal.returns-clause-ways
returns-clause-ways g c = λ ds all. (c.loop-ways.invariant.ways ds all).1
