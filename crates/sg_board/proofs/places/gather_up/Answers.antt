use Rattle.std.proofs.Common.{◌∷◌, [], Some, length, map, ap, sym, ◌∙◌, arith, length-append}
use Rattle.std.proofs.lemmas.List.Elements.{All-pop}
use Rattle.sg_board.specs.Places.{task_at, HasTask}
use Rattle.sg_board.proofs.Laid.{more_laid, none_left, map_pushed, map_reverse}
use Rattle.sg_board.proofs.places.gather_up.Goals as goal

pub into_task-requires : goal.into_task-requires
into_task-requires g c = (All-pop HasTask c.loop-place.left.items c.pop.new.self.items (Some c.in-Some.place) c.in-Some.ensures.items c.loop-place.invariant.back).1

pub loop-place-preserved : goal.loop-place-preserved
loop-place-preserved g c = record {
  laid = more_laid task_at c.loop-place.left.items c.pop.new.self.items c.in-Some.place (map (λ t. Some t) c.loop-place.tasks.items) (map (λ t. Some t) c.push_reserved.new.self.items) (Some c.into_task.result) _ c.in-Some.ensures.items (map_pushed (λ t. Some t) c.loop-place.tasks.items c.push_reserved.new.self.items c.into_task.result c.push_reserved.ensures.items) c.into_task.ensures c.loop-place.invariant.laid;
  back = (All-pop HasTask c.loop-place.left.items c.pop.new.self.items (Some c.in-Some.place) c.in-Some.ensures.items c.loop-place.invariant.back).0;
  room = omega (arith, c.loop-place.invariant.room, ap length c.in-Some.ensures.items, length-append c.pop.new.self.items (c.in-Some.place ∷ []), ap length c.push_reserved.ensures.items, length-append c.loop-place.tasks.items (c.into_task.result ∷ []), c.push_reserved.ensures.capacity);
}

pub returns : goal.returns
returns g c = none_left task_at c.loop-place.left.items (map (λ t. Some t) c.loop-place.tasks.items) (map (λ t. Some t) c.reverse.new.self.items) _ (sym c.loop-place.left.ok.0 ∙ c.in_default.ensures.cases.0) (ap (map (λ t. Some t)) c.reverse.ensures.items ∙ map_reverse (λ t. Some t) c.loop-place.tasks.items) c.loop-place.invariant.laid
