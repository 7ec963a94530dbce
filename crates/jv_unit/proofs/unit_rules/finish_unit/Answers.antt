use Rattle.std.proofs.Common.{ℕ, ◌-◌, subst}
use Rattle.jv_names.specs.Replies.{reply_to}
use Rattle.jv_unit.specs.Kept.{folder_of}
use Rattle.jv_unit.specs.Progress.{IsSoFar}
use Rattle.jv_unit.proofs.unit_rules.finish_unit.Goals as goal

pub returns-else-unit-files-clause-so_far : goal.returns-else-unit-files-clause-so_far
returns-else-unit-files-clause-so_far c = subst (λ (n : ℕ). IsSoFar (reply_to c.args.o.now) (folder_of c.args.w.now) (c.args.unit - n) c.finish_own_type.new.progress.begun) c.file_count-files.ensures c.finish_own_type.ensures.so_far
