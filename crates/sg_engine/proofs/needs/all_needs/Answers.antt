use Rattle.std.proofs.Common.{◌≡◌, ◌+◌, ◌<◌, ◌∷◌, ◌++◌, [], take, length, sym, ap, ◌∙◌}
use Rattle.std.proofs.lemmas.List.{take_more, take_all}
use Rattle.sg_base.proofs.Finite.{each_at}
use Rattle.sg_engine.specs.declared.work.Work.{Work}
use Rattle.sg_engine.specs.Need.{need_of}
use Rattle.sg_engine.specs.Tree.{paths_of, item_of, place_of}
use Rattle.sg_engine.proofs.Needing.{pushed, waits_more}
use Rattle.sg_engine.proofs.needs.all_needs.Goals as goal

pub need_at-requires : goal.need_at-requires
need_at-requires c =
    record { there = each_at (λ (w : Work). place_of w < length c.args.nodes.now.items) c.args.blocked.now c.requires.there c.w-item.result (c.loop-w.w-index, c.loop-w-test.true, sym c.w-item.is) }

pub loop-w-preserved : goal.loop-w-preserved
loop-w-preserved c = λ e start nodes.
    let f = λ (w : Work). need_of start (item_of (paths_of c.args.nodes.now.items) w) in
    let longer : take (c.loop-w.w-index + 1) c.args.blocked.now ≡ take c.loop-w.w-index c.args.blocked.now ++ c.w-item.result ∷ [] =
    take_more c.args.blocked.now c.loop-w.w-index c.w-item.result c.loop-w-test.true ∙ ap (λ (x : Work). take c.loop-w.w-index c.args.blocked.now ++ x ∷ []) (sym c.w-item.is) in
    rw longer (waits_more f (take c.loop-w.w-index c.args.blocked.now) c.w-item.result c.loop-w.all.items c.push.new.self.items (rw (c.in_ok-push.ensures.items, c.need_at.ensures e start nodes) (pushed _ _)) (c.loop-w.invariant e start nodes))

pub returns : goal.returns
returns c = λ e start nodes.
    let whole : take c.loop-w.w-index c.args.blocked.now ≡ c.args.blocked.now = take_all c.loop-w.w-index c.args.blocked.now c.loop-w-test.false in
    rw whole at (c.loop-w.invariant e start nodes)
