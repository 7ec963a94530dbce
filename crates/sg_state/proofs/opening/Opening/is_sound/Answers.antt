use Rattle.std.proofs.Common.{◌≡◌, ◌<◌, true, sym, ◌∙◌, arith}
use Rattle.sg_state.specs.Opening.{nobody}
use Rattle.sg_state.proofs.Soundness.{sound_from, sound_to}
use Rattle.sg_state.proofs.opening.Opening.is_sound.Goals as goal

pub returns-then-not-is_listed : goal.returns-then-not-is_listed
returns-then-not-is_listed g c =
    let o = c.args.self.now in (
      (λ t. absurd (cc)),
      (λ s. (let t : c.is_listed.result ≡ true = c.is_listed.ensures ∙ sound_to o.scopes.items o.edges.items o.given.items o.row_holds.items o.datum_holds.items o.units s in cc)),
    )

pub returns : goal.returns
returns g c =
    let o = c.args.self.now in
    let few : o.units < nobody = omega (arith, c.if-self-ge4294967295.false) in
    let a : c.is_distinct.result ≡ true = cc in
    let b : c.is_listed.result ≡ true = cc in (
      (λ t. sound_from o.scopes.items o.edges.items o.given.items o.row_holds.items o.datum_holds.items o.units few (rw c.deref-2.ensures.value at (c.is_distinct.ensures.0 a)) (sym c.is_listed.ensures ∙ b) (c.has_one_datum_each.ensures.0 t)),
      (λ s. c.has_one_datum_each.ensures.1 s.one_datum),
    )
