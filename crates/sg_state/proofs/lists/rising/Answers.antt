use Rattle.std.proofs.Common.{sym, []}
use Rattle.sg_state.proofs.Noting.{in_list, none_listed}
use Rattle.sg_state.proofs.lists.rising.Goals as goal

pub returns-in_ok-scopes-in-Some-clause-exact : goal.returns-in_ok-scopes-in-Some-clause-exact
returns-in_ok-scopes-in-Some-clause-exact c = λ s h.
    (c.in_ok-scopes-in-Some.ensures.exact s).1 (in_list c.args.lists.now.entries c.requires.rising c.args.unit c.in-Some.list.now (sym c.in-Some.ensures.value) s h)

pub returns-in-None-clause-exact : goal.returns-in-None-clause-exact
returns-in-None-clause-exact c = λ s h. absurd (none_listed c.args.lists.now.entries c.args.unit [] (sym c.in-None.ensures.value) s h)
