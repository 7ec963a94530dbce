use Rattle.std.proofs.Common.{◌≡◌, ◌≢◌, sym, ap, ◌∙◌, arith}
use Rattle.std.proofs.lemmas.Bool.Decides.{nat_tests}
use Rattle.sg_query.specs.declared.found_at.FoundAt.{FoundAt}
use Rattle.sg_query.proofs.Marking.{run_ends, run_grows}
use Rattle.sg_query.proofs.shadow.key_run.Goals as goal

pub returns-then-key_of_datum-key-clause-apart : goal.returns-then-key_of_datum-key-clause-apart
returns-then-key_of_datum-key-clause-apart g c = λ f h a b e.
    let key = g.I.Instance.datum_key in
    let at_first : c.key_of_datum-key.result ≡ key c.index-rest-0.result.datum = c.key_of_datum-key.ensures ∙ ap (λ (t : FoundAt g.row.I-Datum.Denot). key t.datum) (sym c.index-rest-0.is) in
    let differ = c.if-key_of_datum-key.true in
    let other : key c.index-rest-n.result.datum ≢ key c.index-rest-0.result.datum = λ same. grind (arith, nat_tests, differ, at_first ∙ sym same, c.key_of_datum.ensures) in
    run_ends (λ (x : FoundAt g.row.I-Datum.Denot). key x.datum) c.args.rest.now c.requires.rising c.loop-n.n c.index-rest-0.result c.index-rest-n.result c.loop-n-test.true c.index-rest-0.is c.index-rest-n.is other h b
    (sym at_first ∙ sym (c.loop-n.invariant f a) ∙ e)

pub loop-n-preserved : goal.loop-n-preserved
loop-n-preserved g c =
    let key = g.I.Instance.datum_key in
    let alike = c.if-key_of_datum-key.false in
    let same : key c.index-rest-n.result.datum ≡ c.key_of_datum-key.result = grind (arith, nat_tests, alike, c.key_of_datum.ensures) in
    run_grows (λ (x : FoundAt g.row.I-Datum.Denot). key x.datum) c.args.rest.now c.key_of_datum-key.result c.loop-n.n c.index-rest-n.result c.loop-n-test.true c.index-rest-n.is same c.loop-n.invariant
