use Rattle.std.proofs.Common.{arith}
use Rattle.jv_layout.specs.Readers.{members_of_type}
use Rattle.jv_unit.proofs.CheckPlaces.{count_checks}
use Rattle.jv_unit.proofs.check_rules.check_count.Goals as goal

pub returns-clause-count : goal.returns-clause-count
returns-clause-count c = omega (arith, c.member_count.ensures.count, count_checks (members_of_type c.args.w.now.layout c.args.t))
