use Rattle.std.proofs.Common.{Some, is_some, sym, ap, ◌∙◌, arith}
use Rattle.jv_tree.specs.DeclTree.{type_decl_tree}
use Rattle.jv_unit.proofs.Places.{along_end, leads_at, leads_to, leads_nowhere, of_none}
use Rattle.jv_unit.proofs.decl_paths.inner.Goals as goal

pub index-requires : goal.index-requires
index-requires c =
    let h = leads_at c.loop-place.decl.now c.args.path.now c.loop-place.place-index c.loop-place-test.true (ap is_some c.loop-place.invariant ∙ c.requires.leads) in
    omega (arith, h, c.loop-place.decl.now.members.ok.0)

pub unreachable-requires : goal.unreachable-requires
unreachable-requires c =
    leads_nowhere c.loop-place.decl.now c.args.path.now c.loop-place.place-index c.index.result.now c.loop-place-test.true (ap is_some c.loop-place.invariant ∙ c.requires.leads) (sym c.index.ensures)
    (of_none _ _ _ c.nested.ensures c.in_default.not-Some)

pub loop-place-preserved : goal.loop-place-preserved
loop-place-preserved c =
    sym (leads_to c.loop-place.decl.now c.args.path.now c.loop-place.place-index c.index.result.now c.in-Some.next.now c.loop-place-test.true (ap is_some c.loop-place.invariant ∙ c.requires.leads) (sym c.index.ensures) c.in-Some.ensures)
    ∙ c.loop-place.invariant

pub returns : goal.returns
returns c = sym (along_end (Some (type_decl_tree c.loop-place.decl.now)) c.args.path.now c.loop-place.place-index (omega (arith, c.loop-place-test.false))) ∙ c.loop-place.invariant
