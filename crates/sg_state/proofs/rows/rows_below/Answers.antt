use Rattle.std.proofs.Common.{sym, ◌∙◌, arith, not, nat_lt}
use Rattle.sg_state.proofs.ShortRows.{position_found, position_missed, prefix_within}
use Rattle.sg_state.proofs.rows.rows_below.Goals as goal

pub returns-in-Some : goal.returns-in-Some
returns-in-Some c = (position_found (λ r. nat_lt c.args.label r.0) c.args.rows.now c.in-Some.at (sym c.row_above.ensures ∙ c.in-Some.is)).0

pub returns-in-None : goal.returns-in-None
returns-in-None c =
    let past = position_missed (λ r. nat_lt c.args.label r.0) c.args.rows.now (sym c.row_above.ensures ∙ c.in-None.is) in
    let within = prefix_within (λ r. not (nat_lt c.args.label r.0)) c.args.rows.now in
    omega (arith, past, within)
