use Rattle.std.proofs.Common.{List, sym, subst}
use Rattle.sg_base.specs.declared.scope.Scope.{Scope}
use Rattle.sg_base.specs.List.{IsDistinct}
use Rattle.sg_state.specs.Opening.{opening_of, held_datum_of, IsOpening}
use Rattle.sg_state.specs.Part.{rest_in}
use Rattle.sg_state.proofs.Beginning.{edges_there, rows_there, data_empty, given_empty, held_datum_distinct, given_distinct, map_twice, seen_is, rest_opened, parts_opened, opened_kept}
use Rattle.sg_state.proofs.SoundOpenings.{opens}
use Rattle.sg_state.proofs.held.Held.open.Goals as goal

pub add_edges-requires-clause-there : goal.add_edges-requires-clause-there
add_edges-requires-clause-there g c =
    let bare = rw c.deref.ensures.value at c.in_ok-places.ensures in
    rw c.deref-2.ensures.value (edges_there (opening_of c.args.o) c.requires.sound c.in_ok-places.places.entries bare)

pub add_row_holds-requires-clause-there : goal.add_row_holds-requires-clause-there
add_row_holds-requires-clause-there g c =
    let bare = rw c.deref.ensures.value at c.in_ok-places.ensures in
    let a = rw c.deref-2.ensures.value at c.in_ok-add_edges.ensures.ok in
    rw c.deref-3.ensures.value (rows_there (opening_of c.args.o) c.requires.sound c.in_ok-places.places.entries bare c.add_edges.new.places.entries a)

pub add_datum_holds-requires-clause-empty : goal.add_datum_holds-requires-clause-empty
add_datum_holds-requires-clause-empty g c =
    let bare = rw c.deref.ensures.value at c.in_ok-places.ensures in
    let a = rw c.deref-2.ensures.value at c.in_ok-add_edges.ensures.ok in
    let b = rw c.deref-3.ensures.value at c.in_ok-add_row_holds.ensures.ok in
    rw c.deref-4.ensures.value (data_empty (opening_of c.args.o) c.requires.sound c.in_ok-places.places.entries bare c.add_edges.new.places.entries a c.add_row_holds.new.places.entries b)

pub add_datum_holds-requires-clause-distinct : goal.add_datum_holds-requires-clause-distinct
add_datum_holds-requires-clause-distinct g c =
    let bare = rw c.deref.ensures.value at c.in_ok-places.ensures in
    rw c.deref-4.ensures.value (subst (λ (xs : List Scope). IsDistinct xs) (map_twice held_datum_of (λ k. k.scope) c.args.o.datum_holds.items) (held_datum_distinct (opening_of c.args.o) c.requires.sound c.in_ok-places.places.entries bare))

pub add_given-requires-clause-empty : goal.add_given-requires-clause-empty
add_given-requires-clause-empty g c =
    let bare = rw c.deref.ensures.value at c.in_ok-places.ensures in
    let a = rw c.deref-2.ensures.value at c.in_ok-add_edges.ensures.ok in
    let b = rw c.deref-3.ensures.value at c.in_ok-add_row_holds.ensures.ok in
    let d = rw c.deref-4.ensures.value at c.in_ok-add_datum_holds.ensures.ok in
    given_empty (opening_of c.args.o) c.requires.sound c.in_ok-places.places.entries bare c.add_edges.new.places.entries a c.add_row_holds.new.places.entries b c.add_datum_holds.new.places.entries d

pub add_given-requires-clause-distinct : goal.add_given-requires-clause-distinct
add_given-requires-clause-distinct g c =
    let bare = rw c.deref.ensures.value at c.in_ok-places.ensures in
    given_distinct (opening_of c.args.o) c.requires.sound c.in_ok-places.places.entries bare

pub parts_of-requires : goal.parts_of-requires
parts_of-requires g c = record { places = (c.add_given.ensures).places }

pub invariant_of-result : goal.invariant_of-result
invariant_of-result g c =
    let bare = rw c.deref.ensures.value at c.in_ok-places.ensures in
    let a = rw c.deref-2.ensures.value at c.in_ok-add_edges.ensures.ok in
    let b = rw c.deref-3.ensures.value at c.in_ok-add_row_holds.ensures.ok in
    let d = rw c.deref-4.ensures.value at c.in_ok-add_datum_holds.ensures.ok in
    let rows = rw c.deref-3.ensures.value at c.in_ok-add_row_holds.ensures.listed in
    let held = rw c.deref-4.ensures.value at c.in_ok-add_datum_holds.ensures.listed in
    let are = rw c.deref-5.ensures.value at c.in_ok-parts.ensures in (
      opened_kept (opening_of c.args.o) c.requires.sound c.in_ok-places.places.entries bare c.add_edges.new.places.entries a c.add_row_holds.new.places.entries b c.add_datum_holds.new.places.entries d c.add_given.new.places.entries c.add_given.ensures c.in_ok-made.made.items (c.in_ok-made.ensures.items_if_clones_equal (λ y e. e)) c.add_datum_holds.new.units.entries c.in_ok-add_datum_holds.ensures.rising
          (λ k m. c.in_ok-add_datum_holds.ensures.kept _ _ (rows k m)) held,
      parts_opened (opening_of c.args.o) c.requires.sound c.in_ok-places.places.entries bare c.add_edges.new.places.entries a c.add_row_holds.new.places.entries b c.add_datum_holds.new.places.entries d c.add_given.new.places.entries c.add_given.ensures _ c.in_ok-parts.parts.entries are,
    )

pub returns-clause-opened : goal.returns-clause-opened
returns-clause-opened g c =
    let bare = rw c.deref.ensures.value at c.in_ok-places.ensures in
    let a = rw c.deref-2.ensures.value at c.in_ok-add_edges.ensures.ok in
    let b = rw c.deref-3.ensures.value at c.in_ok-add_row_holds.ensures.ok in
    let d = rw c.deref-4.ensures.value at c.in_ok-add_datum_holds.ensures.ok in
    let are = rw c.deref-5.ensures.value at c.in_ok-parts.ensures in
    seen_is (opening_of c.args.o) c.requires.sound c.in_ok-places.places.entries bare c.add_edges.new.places.entries a c.add_row_holds.new.places.entries b c.add_datum_holds.new.places.entries d c.add_given.new.places.entries c.add_given.ensures c.in_ok-made.made.items (c.in_ok-made.ensures.items_if_clones_equal (λ y e. e)) (rest_in c.in_ok-parts.parts.entries)
    (rest_opened (opening_of c.args.o) c.requires.sound c.in_ok-places.places.entries bare c.add_edges.new.places.entries a c.add_row_holds.new.places.entries b c.add_datum_holds.new.places.entries d c.add_given.new.places.entries c.add_given.ensures _ c.in_ok-parts.parts.entries are)

pub returns-clause-begins : goal.returns-clause-begins
returns-clause-begins g c = subst IsOpening (sym (returns-clause-opened g c)) (opens (opening_of c.args.o) c.requires.sound)
