use Rattle.std.proofs.Common.{map, refl}
use Rattle.sg_base.specs.Row.{edges_in}
use Rattle.sg_base.specs.Scope.{scope_cmp}
use Rattle.sg_base.proofs.Entries.{Contains-insert_entry, pair_adds}
use Rattle.sg_base.proofs.Growing.{datum_added}
use Rattle.sg_base.proofs.Rising.{rising_from_sorted}
use Rattle.sg_base.proofs.graph.Graph.set_datum.Goals as goal

pub invariant_of-self-2 : goal.invariant_of-self-2
invariant_of-self-2 g c =
    let fresh = rw (← c.self.view_is) at c.requires.fresh in
    let there = rw (← c.self.view_is) at c.requires.there in
    let keys = rising_from_sorted scope_cmp (map (λ p. p.0) c.insert.new.self.entries) c.in_ok-insert.ensures.ordered in (
      c.self.invariant.0,
      datum_added (record { scopes = c.self.inside.scopes; edges = edges_in c.self.inside.rows.entries; given = c.self.inside.given.entries }) c.insert.new.self.entries c.args.s c.args.d c.self.invariant.1 keys
          (λ q. rw c.in_ok-insert.ensures.entries (Contains-insert_entry c.args.s c.self.inside.given.entries c.args.d fresh q)) there,
    )

pub returns-clause-ok : goal.returns-clause-ok
returns-clause-ok g c =
    let fresh = rw (← c.self.view_is) at c.requires.fresh in
    rw (← c.self.view_is) (record {
      scopes = refl;
      edges = refl;
      given = pair_adds c.self.inside.given.entries c.insert.new.self.entries c.args.s c.args.d (λ q. rw c.in_ok-insert.ensures.entries (Contains-insert_entry c.args.s c.self.inside.given.entries c.args.d fresh q));
    })

pub returns-clause-sound : goal.returns-clause-sound
returns-clause-sound g c = (invariant_of-self-2 g c).1
