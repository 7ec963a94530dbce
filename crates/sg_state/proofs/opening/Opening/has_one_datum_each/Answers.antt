use Rattle.std.proofs.Common.{◌≡◌, true, sym, ◌∙◌}
use Rattle.sg_state.proofs.Soundness.{one_each, each_one}
use Rattle.sg_state.proofs.opening.Opening.has_one_datum_each.Goals as goal

pub returns-then-not-given_apart : goal.returns-then-not-given_apart
returns-then-not-given_apart g c = (
  (λ t. absurd (cc)),
  (λ d. (let t : c.given_apart.result ≡ true = c.given_apart.ensures.1 (rw c.deref.ensures.value (each_one c.args.self.now.given.items c.args.self.now.datum_holds.items d).0) in cc)),
)

pub returns-then-not-holds_apart : goal.returns-then-not-holds_apart
returns-then-not-holds_apart g c = (
  (λ t. absurd (cc)),
  (λ d. (let t : c.holds_apart.result ≡ true = c.holds_apart.ensures.1 (rw c.deref-2.ensures.value (each_one c.args.self.now.given.items c.args.self.now.datum_holds.items d).1) in cc)),
)

pub returns : goal.returns
returns g c =
    let given = c.args.self.now.given.items in
    let holds = c.args.self.now.datum_holds.items in
    let a : c.given_apart.result ≡ true = cc in
    let b : c.holds_apart.result ≡ true = cc in
    let same = rw (c.deref-3.ensures.value, c.deref-4.ensures.value) at c.none_twice.ensures in (
      (λ t. one_each given holds (sym same ∙ t) (rw c.deref.ensures.value at (c.given_apart.ensures.0 a)) (rw c.deref-2.ensures.value at (c.holds_apart.ensures.0 b))),
      (λ d. same ∙ (each_one given holds d).2),
    )
