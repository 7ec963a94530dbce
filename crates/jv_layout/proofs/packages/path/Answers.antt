use Rattle.std.proofs.Common.{take, ap, ◌∙◌, sym}
use Rattle.std.proofs.lemmas.List.{take-map}
use Rattle.jv_layout.proofs.packages.path.Goals as goal

pub returns-then-p-names : goal.returns-then-p-names
returns-then-p-names c = sym (take-map (λ i. i.id.0) c.args.p.len c.clause-names.result.now) ∙ ap (take c.args.p.len) c.clause-names.ensures
