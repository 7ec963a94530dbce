use Rattle.std.proofs.Common.{rules}
use mathlib.Core.Option.{none}
use Rattle.atomic_table.specs.Table.{step}
use Rattle.sg_turn.proofs.RuleSteps.{draws_meant}
use Rattle.sg_turn.proofs.taking.draw_free.Goals as goal

pub compare_exchange-next-requires : goal.compare_exchange-next-requires
compare_exchange-next-requires g c = (search rules, search rules, draws_meant _ _ _ _ _ _ _ (step 0 0 c.peek-served.result 0 none) c.args.seat.now.me c.requires.outside)
