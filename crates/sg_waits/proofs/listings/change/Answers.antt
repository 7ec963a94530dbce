use Rattle.sg_waits.proofs.Standing.{same_number}
use Rattle.sg_waits.proofs.Listed.{relisted, restored}
use Rattle.sg_waits.proofs.listings.change.Goals as goal

pub add-requires-clause-there : goal.add-requires-clause-there
add-requires-clause-there c = λ n k. (c.requires.listed n).1 k

pub returns-in-Ok-clause-ok : goal.returns-in-Ok-clause-ok
returns-in-Ok-clause-ok c = relisted c.args.listings.now.keys c.args.before.now c.args.needs.now c.args.unit c.requires.listed same_number c.add.new.listings.keys c.take_off.new.listings.keys c.in-Ok.ensures.ok c.take_off.ensures.left

pub returns-in-Err-clause-err : goal.returns-in-Err-clause-err
returns-in-Err-clause-err c = restored c.args.listings.now.keys c.args.before.now c.args.needs.now c.args.unit c.requires.listed c.add.new.listings.keys c.take_off-in-Err.new.listings.keys c.in-Err.ensures.some c.take_off-in-Err.ensures.left c.requires.rising c.take_off-in-Err.ensures.rising
