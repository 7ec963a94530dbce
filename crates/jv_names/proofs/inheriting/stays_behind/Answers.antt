use Rattle.std.proofs.Common.{◌≡◌, ◌<◌, Bool, true, false, length, sym, ap, subst, ◌∙◌, arith}
use Rattle.std.proofs.lemmas.Bool.{not-true, not-false}
use Rattle.sg_base.specs.declared.scope.Scope.{Scope}
use Rattle.sg_base.specs.Scope.{is_scope}
use Rattle.jv_layout.specs.Readers.{package_of}
use Rattle.jv_layout.proofs.Fitting.{front_long, front_kept}
use Rattle.jv_names.specs.Inherited.{declarer, lies_in}
use Rattle.jv_names.proofs.Paths.{left_apart, left_along, left_known}
use Rattle.jv_names.proofs.inheriting.stays_behind.Goals as goal

pub returns-then-ne : goal.returns-then-ne
returns-then-ne c =
    let p = c.args.path.now in
    let f : Scope → Bool = λ t. is_scope (package_of c.args.l.now t) c.package_of-home.result in
    let e = c.in-Some.ensures in
    let apart : is_scope c.package_of.result c.package_of-home.result ≡ false = not-true (is_scope c.package_of.result c.package_of-home.result) (sym c.ne.ensures ∙ c.if-ne.true) in
    let no = subst (λ (s : Scope). is_scope s c.package_of-home.result ≡ false) (c.package_of.ensures ∙ ap (λ (s : Scope). package_of c.args.l.now s) c.end.ensures) apart in
    let all : lies_in c.args.l.now c.package_of-home.result p.start p.steps ≡ false = c.loop-at.invariant.same ∙ left_apart f c.loop-at.at.start c.in-Some.before.start c.in-Some.before.steps c.loop-at.at.steps c.in-Some.field-0-1 e.0 e.1 no in
    let home : c.package_of-home.result ≡ package_of c.args.l.now (declarer p.start p.steps) = c.package_of-home.ensures ∙ ap (λ (s : Scope). package_of c.args.l.now s) c.declarer.ensures in
    subst (λ (h : Scope). false ≡ lies_in c.args.l.now h p.start p.steps) home (sym all)

pub loop-at-preserved-in-Some : goal.loop-at-preserved-in-Some
loop-at-preserved-in-Some c =
    let i = c.loop-at.invariant in
    let f : Scope → Bool = λ t. is_scope (package_of c.args.l.now t) c.package_of-home.result in
    let e = c.in-Some.ensures in
    let same : is_scope c.package_of.result c.package_of-home.result ≡ true = not-false (is_scope c.package_of.result c.package_of-home.result) (sym c.ne.ensures ∙ c.if-ne.false) in
    let yes = subst (λ (s : Scope). is_scope s c.package_of-home.result ≡ true) (c.package_of.ensures ∙ ap (λ (s : Scope). package_of c.args.l.now s) c.end.ensures) same in
    let longer : c.args.known < length c.loop-at.at.steps = omega (arith, c.loop-at-test.true, c.len.ensures) in
    record {
      start = e.0 ∙ i.start;
      same = i.same ∙ left_along f c.loop-at.at.start c.in-Some.before.start c.in-Some.before.steps c.loop-at.at.steps c.in-Some.field-0-1 e.0 e.1 yes;
      within = front_long c.args.known c.loop-at.at.steps c.in-Some.before.steps c.in-Some.field-0-1 e.1 longer;
      front = front_kept c.args.known c.loop-at.at.steps c.in-Some.before.steps c.in-Some.field-0-1 e.1 longer ∙ i.front;
    }

pub loop-at-preserved : goal.loop-at-preserved
loop-at-preserved c = absurd (omega (arith, ap length c.in_default.ensures, c.loop-at-test.true, c.len.ensures))

pub returns : goal.returns
returns c =
    let p = c.args.path.now in
    let i = c.loop-at.invariant in
    let f : Scope → Bool = λ t. is_scope (package_of c.args.l.now t) (package_of c.args.l.now (declarer p.start p.steps)) in
    let home : c.package_of-home.result ≡ package_of c.args.l.now (declarer p.start p.steps) = c.package_of-home.ensures ∙ ap (λ (s : Scope). package_of c.args.l.now s) c.declarer.ensures in
    let here : lies_in c.args.l.now (package_of c.args.l.now (declarer p.start p.steps)) c.loop-at.at.start c.loop-at.at.steps ≡ true =
    left_known f p.start c.loop-at.at.start p.steps c.loop-at.at.steps c.args.known i.start i.front (omega (arith, c.loop-at-test.false, c.len.ensures)) c.requires.front in
    sym (subst (λ (h : Scope). lies_in c.args.l.now h p.start p.steps ≡ lies_in c.args.l.now h c.loop-at.at.start c.loop-at.at.steps) home i.same ∙ here)
