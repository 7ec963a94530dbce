use Rattle.std.proofs.Common.{refl}
use Rattle.jv_names.specs.Replies.{reply_to}
use Rattle.jv_unit.specs.Kept.{folder_of}
use Rattle.jv_unit.proofs.CheckRules.{so_far_first}
use Rattle.jv_unit.proofs.check_rules.start_checks.Goals as goal

pub go_on-requires-clause-so_far : goal.go_on-requires-clause-so_far
go_on-requires-clause-so_far c =
    so_far_first (reply_to c.args.o.now) (folder_of c.args.w.now) c.args.t (record { place = 0; blanks = c.in_ok-blanks.blanks; diags = c.args.diags; body = c.new.result }) c.requires.head refl c.in_ok-blanks.ensures c.new.ensures
