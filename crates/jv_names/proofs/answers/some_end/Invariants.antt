use Rattle.std.proofs.Common.{◌≡◌, ◌&&◌, length}
use Rattle.std.specs.List.{list_any}
use Rattle.sg_base.specs.Scope.{is_scope}
use Rattle.jv_names.specs.Ends.{is_counted, path_end}
use Rattle.jv_names.proofs.answers.some_end.Given as goal

abbrev pub invariant-loop-end : goal.invariant-loop-end
invariant-loop-end l = list_any (λ f. is_counted l.l l.fn.counts f && is_scope (path_end f.path) l.scope) l.paths ≡ list_any (λ s. is_scope s l.scope) l.ends

abbrev pub decreases-loop-end : goal.decreases-loop-end
decreases-loop-end l = length l.ends
