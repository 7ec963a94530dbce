-- Operations that a seat answers.
use Rattle.std.proofs.Common.{◌≡◌, ℕ, ◌<◌, List, inl, inr, Bool, refl, sym, ap, subst, Option, Some, length}
use Rattle.std.specs.Prelude.{IfSome}
use Rattle.sg_base.specs.Graph.{IsGraph, HasScope}
use Rattle.sg_query.specs.declared.answer.Answer.{Answer}
use Rattle.sg_query.specs.declared.query.Query.{Query}
use Rattle.sg_unit.specs.declared.entry.Entry.{Entry}
use Rattle.sg_unit.specs.declared.op.Op.{Op}
use Rattle.sg_unit.specs.declared.op.Op.TheVariants.{Ask as AskOf, Advance, Take}
use Rattle.sg_unit.specs.declared.reply.Reply.TheVariants.{Moved, Ready as ReadyNow, Answer as Answered}
use Rattle.sg_core.specs.declared.ahead.Ahead.{Ahead}
use Rattle.sg_core.specs.declared.ahead.Ahead.TheVariants as ahead
use Rattle.sg_core.specs.declared.found_ask.FoundAsk.{FoundAsk}
use Rattle.sg_core.specs.declared.found_ask.FoundAsk.TheVariants.{Nothing}
use Rattle.sg_core.specs.Ahead.{IsAhead}
use Rattle.sg_core.specs.Beside.{AsksFound, TellsReady, TakesReady}
use Rattle.sg_core.specs.Sight.{SightOf}
use Rattle.sg_broker.specs.Aside.{AreAhead, TellsHere, Comes}
use Rattle.sg_broker.specs.declared.step.Step.TheVariants.{Turn}

-- what the search of the query came to
abbrev Came : {I D P : Type 0} → (P → D → Bool) → (D → D → Bool) → SightOf D → Query P → Ahead I D P → Type 0
Came wants same v q b = IsGraph v.held.graph × HasScope v.held.graph q.start × IsAhead wants same v.kinds v.held q b

pub ahead_for : {I R D P : Type 0} (wants : P → D → Bool) (same : D → D → Bool) (v : SightOf D) (q : Query P) (o : Option (Ahead I D P)) → IfSome o (Came wants same v q) → AreAhead {I = I} {R = R} wants same (Some v) (AskOf q) o
ahead_for {I} {R} {D} {P} wants same v q o x p e =
    let one : q ≡ p = (let f : ◌≡◌ {A = Op I R D P} (AskOf q) (AskOf p) = e in cc) in
    subst (λ (p : Query P). IfSome o (λ b. IsGraph v.held.graph × HasScope v.held.graph p.start × IsAhead wants same v.kinds v.held p b)) one x

module _ {I R D P : Type 0} (wants : P → D → Bool) (same : D → D → Bool) (v : SightOf D) (u : ℕ) (old new : List (Entry I R D P)) (ask then : FoundAsk D) where
  pub asked_here : (q : Query P) (a : Answer D) → ask ≡ Nothing → q.kind < length v.kinds → IsGraph v.held.graph × HasScope v.held.graph q.start → IsAhead {I = I} wants same v.kinds v.held q (ahead.Found a) → AsksFound u q a old new then → TellsHere wants same (Some v) u (AskOf q) Moved old ask new then
  asked_here q a none kind there x k = (k.0, inl (q, a, none, refl, k.1, kind, there.1, x.0, x.1))

  pub advanced_here : TellsReady u ask old new then → TellsHere wants same (Some v) u Advance ReadyNow old ask new then
  advanced_here k = (k.2, inr (inl (k.0, k.1, refl, k.3)))

  pub taken_here : (a : Answer D) → TakesReady u a ask old new then → TellsHere wants same (Some v) u Take (Answered a) old ask new then
  taken_here a k = (k.1, inr (inr (a, k.0, refl, k.2)))

  -- the query and its answer come back where no event was kept
  pub back_here : (q p : Query P) (a b : Answer D) → p ≡ q → b ≡ a → new ≡ old → then ≡ ask → IsGraph v.held.graph × HasScope v.held.graph q.start → IsAhead {I = I} wants same v.kinds v.held q (ahead.Found a) → Comes wants same (Some v) u (AskOf q) old ask new then (Turn (AskOf p) (Some (ahead.Found b)))
  back_here q p a b e f kept asks there x = (
    ap (λ (q : Query P). let o : Op I R D P = AskOf q in o) e,
    ahead_for wants same v q (Some (ahead.Found b)) (there.0, there.1, subst (λ (a : Answer D). IsAhead {I = I} wants same v.kinds v.held q (ahead.Found a)) (sym f) x),
    kept,
    asks,
  )
