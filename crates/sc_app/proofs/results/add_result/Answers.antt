use Rattle.std.proofs.Common.{List, ◌++◌, ap, ◌∙◌}
use Rattle.jv_diag.specs.Plain.{DiagOf}
use Rattle.sc_app.proofs.Came.{came_once, none_more_came, on_ok_more, one_more_came}
use Rattle.sc_app.proofs.results.add_result.Goals as goal

pub returns-in_ok-copies_of-in-Some : goal.returns-in_ok-copies_of-in-Some
returns-in_ok-copies_of-in-Some c =
    on_ok_more c.append.result _ _ c.append.ensures.ok (λ e h.
    one_more_came c.args.core.now c.args.unit c.args.all.now c.in-Some.diags.now c.append.new.self h c.in-Some.ensures.some
    (λ y k. came_once c.args.core.now c.requires c.args.unit c.in-Some.diags.now y c.in-Some.ensures.some k)
    (e ∙ ap (λ (x : List DiagOf). c.args.all.now ++ x) (c.in_ok-copies_of-in-Some.ensures ∙ c.as_slice.ensures)))

pub returns-in-None : goal.returns-in-None
returns-in-None c = λ h. none_more_came c.args.core.now c.args.unit c.args.all.now h c.in-None.ensures.none
