use Rattle.std.proofs.Common.{◌≡◌, ◌∷◌, ◌++◌, [], ap, length, sym, subst, ◌∙◌, append_assoc, append-nil, arith}
use Rattle.std.specs.Vec.Iter.{into_iter_items}
use Rattle.sg_state.specs.View.{Gives}
use Rattle.sg_state.proofs.Giving.{gives_given, given_ready, pushed, nothing_left}
use Rattle.sg_state.proofs.opened.add_given.Goals as goal

pub set_slot-requires-clause-there : goal.set_slot-requires-clause-there
set_slot-requires-clause-there g c =
    let at = c.loop-s in
    let steps : into_iter_items at.s-iterator ≡ (c.in-Some.s, c.in-Some.d) ∷ into_iter_items c.next.new.self = c.in-Some.ensures.steps.0 in
    let all = rw steps at at.invariant.0 in
    let ready = given_ready c.args.places.now.entries at.places.entries c.args.list.items at.yielded (c.in-Some.s, c.in-Some.d) (into_iter_items c.next.new.self) (all ∙ c.into_iter-s-iterator.ensures.into_iter_gives.0) at.invariant.1 c.requires.empty c.requires.distinct in
    (ready.0, ready.1)

pub set_slot-requires-clause-places : goal.set_slot-requires-clause-places
set_slot-requires-clause-places g c = (c.loop-s.invariant.1).places

pub loop-s-preserved : goal.loop-s-preserved
loop-s-preserved g c =
    let at = c.loop-s in
    let steps : into_iter_items at.s-iterator ≡ (c.in-Some.s, c.in-Some.d) ∷ into_iter_items c.next.new.self = c.in-Some.ensures.steps.0 in
    let all = rw steps at at.invariant.0 in
    let ready = given_ready c.args.places.now.entries at.places.entries c.args.list.items at.yielded (c.in-Some.s, c.in-Some.d) (into_iter_items c.next.new.self) (all ∙ c.into_iter-s-iterator.ensures.into_iter_gives.0) at.invariant.1 c.requires.empty c.requires.distinct in (
      append_assoc at.yielded ((c.in-Some.s, c.in-Some.d) ∷ []) _ ∙ all,
      gives_given c.args.places.now.entries at.places.entries c.set_slot.new.self.entries [] [] at.yielded [] c.in-Some.s at.invariant.1 c.in-Some.d (at.yielded ++ (c.in-Some.s, c.in-Some.d) ∷ []) (pushed at.yielded (c.in-Some.s, c.in-Some.d)) c.set_slot.ensures ready,
      let was = at.invariant.2 in
          let gone = c.in-Some.ensures.steps.1 in
          let short = ap length steps in
          omega (arith, was, gone, short),
    )

pub returns : goal.returns
returns g c =
    let at = c.loop-s in
    let none = c.in-None.ensures.steps in
    let empty : into_iter_items at.s-iterator ≡ [] = nothing_left _ (sym at.invariant.2 ∙ none.0) in
    let all = sym (append-nil at.yielded) ∙ rw empty at at.invariant.0 ∙ c.into_iter-s-iterator.ensures.into_iter_gives.0 in
    subst (λ l. Gives c.args.places.now.entries at.places.entries [] [] l []) all at.invariant.1
