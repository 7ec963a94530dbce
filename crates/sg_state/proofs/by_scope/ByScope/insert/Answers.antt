use Rattle.std.proofs.Common.{ℕ, ◌∙◌, subst, arith}
use Rattle.sg_base.specs.Scope.{is_scope}
use Rattle.sg_state.specs.ByScope.{Notes}
use Rattle.sg_state.proofs.ByPlace.{first_none, indexed_more}
use Rattle.sg_state.proofs.by_scope.ByScope.insert.Goals as goal

pub note-requires-clause-new : goal.note-requires-clause-new
note-requires-clause-new g c = c.requires.indexed c.args.s ∙ first_none (is_scope c.args.s) c.args.self.now.all.items c.requires.new 0

pub note-requires-clause-small : goal.note-requires-clause-small
note-requires-clause-small g c = omega (arith, c.len.ensures, c.reserve.new.self.ok.1, c.reserve.new.self.small)

pub returns-clause-indexed : goal.returns-clause-indexed
returns-clause-indexed g c =
    let at = c.len.ensures ∙ c.reserve.ensures.len ∙ c.args.self.now.all.ok.0 in
    rw (c.push_reserved.ensures.items, c.reserve.ensures.items)
    (indexed_more c.args.self.now.index c.args.self.now.all.items c.requires.indexed c.note.new.self c.args.s c.args.value c.requires.new (subst (λ (n : ℕ). Notes c.args.self.now.index c.note.new.self c.args.s n) at c.in_ok-note.ensures.ok))
