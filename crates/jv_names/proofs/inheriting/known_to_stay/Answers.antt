use Rattle.std.proofs.Common.{◌≡◌, true, sym, ap, subst, ◌∙◌, arith}
use Rattle.sg_base.specs.declared.scope.Scope.{Scope}
use Rattle.sg_base.specs.Path.{shared_len}
use Rattle.sg_base.proofs.Scopes.{scope_same}
use Rattle.sg_base.proofs.Sharing.{shared_within_other}
use Rattle.sg_query.specs.declared.found.Found.{Found}
use Rattle.jv_instance.specs.declared.datum.JavaDatum.{JavaDatum}
use Rattle.jv_layout.specs.Readers.{package_of}
use Rattle.jv_names.specs.Inherited.{declarer, lies_in, stays_in_package}
use Rattle.jv_names.proofs.Along.{one_there, lies_shared, staying_at}
use Rattle.jv_names.proofs.inheriting.known_to_stay.Goals as goal

pub returns-then-eq : goal.returns-then-eq
returns-then-eq c = λ f e.
    let l = c.args.l.now in
    let o : Found JavaDatum = c.at-2.result in
    let home : Found JavaDatum → Scope = λ g. package_of l (declarer g.path.start g.path.steps) in
    let s = c.shared_len.ensures in
    let start : o.path.start ≡ f.path.start = s.start o f c.at-2.ensures e in
    let len : c.shared_len.result ≡ shared_len o.path.steps f.path.steps = s.len o f c.at-2.ensures e in
    let one : c.at.result ≡ f = one_there c.args.paths.now c.args.k c.at.result f c.requires.below c.at.ensures e in
    let theirs : c.package_of.result ≡ home o = c.package_of.ensures ∙ (ap (package_of l) c.declarer.ensures ∙ ap home c.other.view_is) in
    let ours : c.package_of-2.result ≡ home f = c.package_of-2.ensures ∙ (ap (package_of l) c.declarer-2.ensures ∙ (ap home c.path.view_is ∙ ap home one)) in
    let same : home o ≡ home f = sym theirs ∙ (scope_same c.package_of.result c.package_of-2.result (sym c.eq.ensures ∙ c.if-eq.true) ∙ ours) in
    let stays : stays_in_package l o.path.start o.path.steps ≡ true = staying_at l c.args.paths.now c.args.staying c.in-Some.j c.in-Some.is c.requires.staying o c.at-2.ensures in
    let inside : lies_in l (home f) o.path.start o.path.steps ≡ true = subst (λ (h : Scope). lies_in l h o.path.start o.path.steps ≡ true) same stays in
    (omega (arith, len, shared_within_other o.path.steps f.path.steps), lies_shared l o.path f.path c.shared_len.result start len (home f) inside)
