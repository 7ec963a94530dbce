use Rattle.std.proofs.Common.{◌≡◌, ◌∙◌, List, sym, ap}
use Rattle.std.specs.Cmp.Lexicographic.{slice_cmp}
use Rattle.sg_base.specs.declared.step.Step.{Step}
use Rattle.sg_base.specs.Path.{step_cmp}
use Rattle.sg_base.specs.PathTree.{path_at}
use Rattle.sg_query.proofs.Trees.{one_start_cmp}
use Rattle.sg_query.proofs.shadow.compare_found.Goals as goal

pub returns : goal.returns
returns g c =
    let t = c.args.paths.now in
    let p = path_at t.paths c.args.f.now.place in
    let q = path_at t.paths c.args.h.now.place in
    c.compare.ensures
    ∙ (ap (λ (ps : List Step). slice_cmp step_cmp ps (path_at t.paths c.place_in-2.result)) c.place_in.ensures.same
    ∙ (ap (slice_cmp step_cmp p) c.place_in-2.ensures.same
    ∙ sym (one_start_cmp t.start p q)))
