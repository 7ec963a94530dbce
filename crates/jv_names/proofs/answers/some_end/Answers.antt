use Rattle.std.proofs.Common.{List, sym, ap, ◌∙◌}
use Rattle.std.specs.List.{list_any}
use Rattle.sg_base.specs.declared.scope.Scope.{Scope}
use Rattle.sg_base.specs.Scope.{is_scope}
use Rattle.jv_names.proofs.Ending.{any_end}
use Rattle.jv_names.proofs.answers.some_end.Goals as goal

pub loop-end-init : goal.loop-end-init
loop-end-init c =
    any_end c.args.l.now c.args.counts (λ s. is_scope s c.args.scope) c.args.paths.now ∙ ap (λ (es : List Scope). list_any (λ s. is_scope s c.args.scope) es) (sym c.new-ends.ensures)
