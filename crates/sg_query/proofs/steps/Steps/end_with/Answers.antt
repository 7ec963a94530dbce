use Rattle.std.proofs.Common.{[], ◌∷◌, sym, ap, ◌∙◌}
use Rattle.std.proofs.lemmas.List.{append-nil}
use Rattle.sg_base.specs.Path.{end_of}
use Rattle.sg_query.proofs.Paths.{end_of-append}
use Rattle.sg_query.proofs.steps.Steps.end_with.Goals as goal

pub returns-in-Some : goal.returns-in-Some
returns-in-Some c = rw c.in-Some.is (sym (end_of-append c.args.start c.args.self.now (c.in-Some.step ∷ [])))

pub returns-in-None : goal.returns-in-None
returns-in-None c = rw c.in-None.is (c.end.ensures ∙ sym (ap (end_of c.args.start) (append-nil c.args.self.now)))
