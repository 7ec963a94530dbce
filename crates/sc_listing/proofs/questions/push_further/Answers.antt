use Rattle.std.proofs.Common.{◌≡◌, ℕ, List, ◌++◌, codes, string_bytes, ap, ◌∙◌, arith}
use Rattle.std.proofs.lemmas.List.{append_assoc}
use Rattle.sg_query.specs.declared.found.Found.{Found}
use Rattle.jv_instance.specs.declared.datum.JavaDatum.{JavaDatum}
use Rattle.sc_listing.specs.Listed.{listed_of}
use Rattle.sc_listing.specs.Questions.{path_text}
use Rattle.sc_listing.proofs.FoundTexts.{piece_more, pieces_done}
use Rattle.sc_listing.proofs.questions.push_further.Goals as goal

pub loop-k-preserved : goal.loop-k-preserved
loop-k-preserved c =
    let w = listed_of c.args.w.now in
    let g : Found JavaDatum → List ℕ = λ f. codes "; " ++ path_text w f.path in
    let one = c.at-one.result in
    let text = string_bytes c.loop-k.text in
    piece_more g c.args.found.now c.loop-k.k one text (string_bytes c.push_found.new.text) (omega (arith, c.loop-k-test.true, c.len-k-end.ensures)) c.at-one.ensures
    (c.in_ok-push_found.ensures ∙ (ap (λ (t : List ℕ). t ++ path_text w one.path) c.in_ok-push_str.ensures.bytes ∙ append_assoc text (codes "; ") (path_text w one.path)))
    ∙ c.loop-k.invariant

pub returns : goal.returns
returns c =
    let g : Found JavaDatum → List ℕ = λ f. codes "; " ++ path_text (listed_of c.args.w.now) f.path in
    pieces_done g c.args.found.now c.loop-k.k (string_bytes c.loop-k.text) _ (omega (arith, c.loop-k-test.false, c.len-k-end.ensures)) c.loop-k.invariant
