use Rattle.std.proofs.Common.{◌≡◌, ◌-◌, map, vec_len, ◌∙◌, sym, arith}
use Rattle.sg_board.specs.Shares.{hand_shape}
use Rattle.sg_board.specs.Weighing.{all_parts}
use Rattle.sg_board.proofs.Sums.{shape_parts, shape_ways}
use Rattle.sg_board.proofs.closing.gather_up.Goals as goal

pub close_all-requires-clause-parts : goal.close_all-requires-clause-parts
close_all-requires-clause-parts g c = let t = c.take_apart.ensures in
    let p = t.parts (all_parts - vec_len c.args.hands) (shape_parts (λ x. hand_shape x) (vec_len c.args.hands) c.args.hands.items c.requires.hands.1) in
    λ k d l. omega (arith, p k d l, t.room.0, c.requires.hands.2)

pub close_all-requires-clause-ways : goal.close_all-requires-clause-ways
close_all-requires-clause-ways g c = let t = c.take_apart.ensures in
    let w = t.ways (map (λ x. (hand_shape x).own) c.args.hands.items) (shape_ways (λ x. hand_shape x) (vec_len c.args.hands) c.args.hands.items c.requires.hands.1) in
    λ k d l. w k d l ∙ sym t.owners
