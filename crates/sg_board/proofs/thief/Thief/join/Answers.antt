use Rattle.sg_board.proofs.Sums.{one_more_new}
use Rattle.sg_board.proofs.thief.Thief.join.Goals as goal

pub returns : goal.returns
returns g c = λ ds a. one_more_new c.push.new.self.items c.args.ways.items c.args.self c.in_ok-push.ensures.items c.requires ds a
