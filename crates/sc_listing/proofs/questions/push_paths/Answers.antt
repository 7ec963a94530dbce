use Rattle.std.proofs.Common.{rules, ◌≡◌, ℕ, List, ◌++◌, codes, drop, string_bytes, OnOk, ap, ◌∙◌, subst, arith}
use Rattle.std.specs.List.{flat_map}
use Rattle.std.proofs.lemmas.List.{append_assoc}
use Rattle.sg_query.specs.declared.found.Found.{Found}
use Rattle.jv_instance.specs.declared.datum.JavaDatum.{JavaDatum}
use Rattle.sc_listing.specs.Listed.{listed_of}
use Rattle.sc_listing.specs.Questions.{path_text}
use Rattle.sc_listing.proofs.FoundTexts.{no_path, first_path}
use Rattle.sc_listing.proofs.questions.push_paths.Goals as goal

pub returns-then-len-eq0 : goal.returns-then-len-eq0
returns-then-len-eq0 c =
    subst (λ (t : List ℕ). OnOk c.push_str.result (string_bytes c.push_str.new.self ≡ string_bytes c.args.text.now ++ t)) (no_path (listed_of c.args.w.now) c.args.found.now (omega (arith, c.if-len-eq0.true, c.len.ensures))) (search rules)

pub returns : goal.returns
returns c =
    let w = listed_of c.args.w.now in
    let old = string_bytes c.args.text.now in
    let first = c.at-first.result in
    let others : List ℕ = flat_map (λ (f : Found JavaDatum). codes "; " ++ path_text w f.path) (drop 1 c.args.found.now) in
    subst (λ (t : List ℕ). OnOk c.push_further.result (string_bytes c.push_further.new.text ≡ t))
    (ap (λ (t : List ℕ). t ++ others) c.in_ok-push_found.ensures ∙ (append_assoc old (path_text w first.path) others ∙ ap (λ (t : List ℕ). old ++ t) (first_path w c.args.found.now first (λ e. c.if-len-eq0.false (omega (arith, e, c.len.ensures))) c.at-first.ensures)))
    c.push_further.ensures
