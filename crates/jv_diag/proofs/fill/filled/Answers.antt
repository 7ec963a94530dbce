use Rattle.std.proofs.Common.{◌≡◌, map, drop, sym, ap, ◌∙◌, refl}
use Rattle.std.proofs.lemmas.Str.{encodes-chars, cons_from_encodes}
use Rattle.std.proofs.lemmas.List.{append-nil}
use Rattle.std.specs.Str.{chars}
use Rattle.std.specs.declared.str.Chars.{Chars}
use Rattle.jv_diag.proofs.Filling.{now_of, mark_filled, no_argument, plain_filled, nothing_left}
use Rattle.jv_diag.proofs.fill.filled.Goals as goal

pub loop-c-init : goal.loop-c-init
loop-c-init c = (chars c.args.template.now, encodes-chars c.args.template.now c.utf8.template ∙ (sym c.chars-c-items.ensures.rest ∙ sym (ap (λ (t : Chars). t.rest.now) c.into_iter-c-iterator.ensures.into_iter_gives)), rw c.new-text.ensures.bytes refl)

pub loop-c-preserved-then-next-args : goal.loop-c-preserved-then-next-args
loop-c-preserved-then-next-args c =
    let i = c.loop-c.invariant in
    let k = cons_from_encodes i.0 c.next.new.self.rest.now c.in-Some.c (i.1 ∙ c.in-Some.ensures.steps.0) in
    (k.0, k.2, mark_filled c.args.args.now c.loop-c.next _ c.if-next-args.true c.in-Some.c k.0 i.0 k.1 c.if-c-eq36.true _ _ _ c.in_ok-push_str.ensures.bytes i.2)

pub loop-c-preserved-else-next-args : goal.loop-c-preserved-else-next-args
loop-c-preserved-else-next-args c =
    let i = c.loop-c.invariant in
    let k = cons_from_encodes i.0 c.next.new.self.rest.now c.in-Some.c (i.1 ∙ c.in-Some.ensures.steps.0) in
    (k.0, k.2, no_argument c.args.args.now c.loop-c.next c.if-next-args.false c.in-Some.c k.0 i.0 k.1 c.if-c-eq36.true _ _ i.2)

pub loop-c-preserved : goal.loop-c-preserved
loop-c-preserved c =
    let i = c.loop-c.invariant in
    let k = cons_from_encodes i.0 c.next.new.self.rest.now c.in-Some.c (i.1 ∙ c.in-Some.ensures.steps.0) in
    (k.0, k.2, plain_filled (drop c.loop-c.next (map now_of c.args.args.now)) c.in-Some.c k.0 i.0 k.1 c.if-c-eq36.false _ _ _ c.in_ok-push.ensures.bytes i.2)

pub returns : goal.returns
returns c =
    let i = c.loop-c.invariant in
    let none = nothing_left i.0 c.loop-c.c-iterator.rest.now i.1 (c.in-None.ensures.steps.0.0) in
    sym (append-nil _) ∙ rw none at i.2
