use Rattle.sg_state.specs.Part.{rest_in}
use Rattle.std.proofs.Common.{map, subst}
use Rattle.std.specs.List.{flat_map}
use Rattle.sg_base.specs.Graph.{IsGraph}
use Rattle.sg_base.proofs.Finite.{each_from, each_at}
use Rattle.sg_state.specs.Place.{IsPlace}
use Rattle.sg_state.specs.View.{seen, edges_at, given_of}
use Rattle.sg_state.proofs.Gaining.{same_things, same_images, same_parts, scopes_by, edges_by, data_by, has_ends, still_scopes, same_graph}
use Rattle.sg_state.proofs.Keeping.{held_from}
use Rattle.sg_state.proofs.held.Held.graph.Goals as goal

pub add_edges-requires-clause-places : goal.add_edges-requires-clause-places
add_edges-requires-clause-places g c =
    each_from (λ p. IsPlace p.1) c.all-places.result.now (λ p m. each_at (λ p. IsPlace p.1) c.self.inside.places.entries ((c.self.invariant.0).places).each p ((c.all-places.ensures.exact p).0 m))

pub add_edges-requires-clause-there : goal.add_edges-requires-clause-there
add_edges-requires-clause-there g c =
    let es = c.self.inside.places.entries in
    let all = c.all-places.result.now in
    let held = held_from es c.self.inside.made.items c.self.inside.lists.entries c.self.invariant.0 _ c.self.inside.parts.entries c.self.invariant.1 in
    let scopes = scopes_by c.new-graph.result c.add_scopes.new.graph c.in_ok-scopes.scopes.items (map (λ p. p.0) es) (same_things c.in_ok-scopes.scopes.items (map (λ p. p.0) all) (map (λ p. p.0) es) c.in_ok-scopes.ensures (same_images all es c.all-places.ensures.exact (λ p. p.0))) (rw c.deref.ensures.value at c.in_ok-add_scopes.ensures.ok) in
    λ e m. has_ends (seen es c.self.inside.made.items (rest_in c.self.inside.parts.entries)).graph c.new-graph.result c.add_scopes.new.graph held.graph c.new-graph.ensures scopes e ((same_parts all es c.all-places.ensures.exact edges_at e).0 m)

pub add_data-requires-clause-distinct : goal.add_data-requires-clause-distinct
add_data-requires-clause-distinct g c = c.all-places.ensures.once

pub add_data-requires-clause-there : goal.add_data-requires-clause-there
add_data-requires-clause-there g c =
    let es = c.self.inside.places.entries in
    let all = c.all-places.result.now in
    let held = held_from es c.self.inside.made.items c.self.inside.lists.entries c.self.invariant.0 _ c.self.inside.parts.entries c.self.invariant.1 in
    let scopes = scopes_by c.new-graph.result c.add_scopes.new.graph c.in_ok-scopes.scopes.items (map (λ p. p.0) es) (same_things c.in_ok-scopes.scopes.items (map (λ p. p.0) all) (map (λ p. p.0) es) c.in_ok-scopes.ensures (same_images all es c.all-places.ensures.exact (λ p. p.0))) (rw c.deref.ensures.value at c.in_ok-add_scopes.ensures.ok) in
    let edges = edges_by c.add_scopes.new.graph c.add_edges.new.graph (flat_map edges_at all) (flat_map edges_at es) (same_parts all es c.all-places.ensures.exact edges_at) c.in_ok-add_edges.ensures.ok in
    λ s m. still_scopes (seen es c.self.inside.made.items (rest_in c.self.inside.parts.entries)).graph c.new-graph.result c.add_scopes.new.graph held.graph c.new-graph.ensures scopes c.add_edges.new.graph edges s ((same_images all es c.all-places.ensures.exact (λ p. p.0) s).0 m)

pub returns : goal.returns
returns g c =
    let es = c.self.inside.places.entries in
    let all = c.all-places.result.now in
    let held = held_from es c.self.inside.made.items c.self.inside.lists.entries c.self.invariant.0 _ c.self.inside.parts.entries c.self.invariant.1 in
    let scopes = scopes_by c.new-graph.result c.add_scopes.new.graph c.in_ok-scopes.scopes.items (map (λ p. p.0) es) (same_things c.in_ok-scopes.scopes.items (map (λ p. p.0) all) (map (λ p. p.0) es) c.in_ok-scopes.ensures (same_images all es c.all-places.ensures.exact (λ p. p.0))) (rw c.deref.ensures.value at c.in_ok-add_scopes.ensures.ok) in
    let edges = edges_by c.add_scopes.new.graph c.add_edges.new.graph (flat_map edges_at all) (flat_map edges_at es) (same_parts all es c.all-places.ensures.exact edges_at) c.in_ok-add_edges.ensures.ok in
    let given = data_by c.add_edges.new.graph c.add_data.new.graph (flat_map (λ p. given_of p.0 (p.1).slot) all) (flat_map (λ p. given_of p.0 (p.1).slot) es) (same_parts all es c.all-places.ensures.exact (λ p. given_of p.0 (p.1).slot)) c.in_ok-add_data.ensures.ok in
    let sound : IsGraph c.add_data.new.graph = subst IsGraph c.graph-4.view_is c.graph-4.invariant.1 in
    rw (← c.self.view_is) (same_graph (seen es c.self.inside.made.items (rest_in c.self.inside.parts.entries)).graph c.new-graph.result c.add_scopes.new.graph held.graph c.new-graph.ensures scopes c.add_edges.new.graph edges c.add_data.new.graph given sound)
