use Rattle.std.proofs.Common.{sym, []}
use Rattle.sg_state.proofs.Noting.{in_list, none_listed}
use Rattle.sg_state.proofs.lists.listed.Goals as goal

pub returns-in-Some : goal.returns-in-Some
returns-in-Some c = rw c.as_slice.ensures (in_list c.args.lists.now.entries c.requires.rising c.args.unit c.in-Some.list.now (sym c.in-Some.ensures.value))

pub returns-in-None : goal.returns-in-None
returns-in-None c = λ s h. absurd (none_listed c.args.lists.now.entries c.args.unit [] (sym c.in-None.ensures.value) s h)
