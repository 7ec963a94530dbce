use Rattle.std.proofs.Common.{◌≡◌, ℕ, take, sym, ap, ◌∙◌, eqb-true}
use Rattle.jv_layout.specs.Paths.{clause_at}
use Rattle.jv_layout.proofs.compare.begin_alike.Goals as goal

pub returns-in-Some-first_file : goal.returns-in-Some-first_file
returns-in-Some-first_file c = λ e units ok.
    let same : c.in-Some.file ≡ c.in-Some-first_file.other = eqb-true _ _ e in
    let left = ok.same c.args.a c.args.len c.in-Some.file (sym c.in-Some.ensures) in
    let right = ok.same c.args.b c.args.len c.in-Some-first_file.other (sym c.in-Some-first_file.ensures) in
    sym left ∙ (ap (λ (f : ℕ). take c.args.len (clause_at units f)) same ∙ right)
