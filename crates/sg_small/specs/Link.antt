-- Links: units of which each asks along the row of one scope, and then ends with its number.
use Rattle.std.specs.Prelude.{◌≡◌, ℕ, zero, suc, ◌<◌, List, [], ◌∷◌, ◌==◌, Option, Some, None, length, slice_get}
use Rattle.sg_base.specs.declared.scope.Scope.{Scope}
use Rattle.sg_base.specs.Graph.{HasScope}
use Rattle.sg_query.specs.declared.query.Query.{Query}
use Rattle.sg_query.specs.Query.{KindOf}
use Rattle.sg_state.specs.Held.{HeldOf}
use Rattle.sg_unit.specs.declared.op.Op.{Op}
use Rattle.sg_unit.specs.declared.op.Op.TheVariants.{Ask, End}
use Rattle.sg_unit.specs.declared.reply.Reply.{Reply}
use Rattle.sg_unit.specs.Trace.{Past}
use Rattle.sg_unit.specs.Unit.{CanBeHanded, GoesOn, GivesOwed}
use Rattle.sg_core.specs.Core.{CoreOf, setting}

-- the query along the row of a scope
abbrev pub along : {P : Type 0} → Scope → P → Query P
along s p = record { start = s; kind = 0; pred = p }

-- what a link gives after so many operations: its ask, and then its end
abbrev pub link_op : {I R D P : Type 0} → Scope → P → R → ℕ → Op I R D P
link_op s p x zero = Ask (along s p)
link_op s p x (suc n) = End x

-- what a link gave after so many operations
abbrev pub GaveSo : {I R D P : Type 0} → Scope → P → R → ℕ → Past I R D P → Option (Op I R D P) → Type 0
GaveSo s p x zero past given = (past ≡ []) × (given ≡ None)
GaveSo s p x (suc zero) past given = (past ≡ []) × (given ≡ Some (link_op s p x 0))
GaveSo {I} {R} {D} {P} s p x (suc (suc n)) past given = (y : Reply I D P) × (past ≡ (link_op s p x 0, y) ∷ []) × (given ≡ Some (End x))

-- a unit with this number can ask along the row in a run that begins so
abbrev pub CanAsk : {D : Type 0} → HeldOf D → List KindOf → ℕ → Scope → Type 0
CanAsk begins kinds u s = (u < length begins.made) × (0 < length kinds) × HasScope begins.graph s

-- the link with this number, which comes to this, stands for these traces
abbrev pub LinkStands : {I R D P : Type 0} → HeldOf D → List KindOf → ℕ → Scope → P → R → ℕ → Past I R D P → Option (Op I R D P) → Type 0
LinkStands begins kinds u s p x n past given = CanAsk begins kinds u s × GaveSo s p x n past given

-- what stays of a link: its number, the scope whose row it asks along, and what its run begins with
abbrev pub link_part : {D : Type 0} → ℕ → Scope → HeldOf D → List KindOf → ℕ × Scope × HeldOf D × List KindOf
link_part u s begins kinds = (u, s, begins, kinds)

-- a new link with this number at a core, where links have these numbers, ask along the rows of these scopes, gave so many operations and know
-- these cores
abbrev pub IsNewLink : {I R D P V : Type 0} → (V → ℕ) → (V → Scope) → (V → ℕ) → (V → CoreOf I R D P) → CoreOf I R D P → ℕ → V → Type 0
IsNewLink number looks given core c u v = (number v ≡ u) × (core v ≡ c) × (given v ≡ 0) × CanAsk c.opening c.kinds u (looks v)

-- one new link for each number below this, listed by number
abbrev pub AreNewLinks : {I R D P V : Type 0} → (V → ℕ) → (V → Scope) → (V → ℕ) → (V → CoreOf I R D P) → CoreOf I R D P → ℕ → List V → Type 0
AreNewLinks {V = V} number looks given core c count vs = (length vs ≡ count) × ((u : ℕ) (v : V) → slice_get vs u ≡ Some v → IsNewLink number looks given core c u v)

-- the core is at its opening, and these are its new links, one for each of its units
abbrev pub BeginsWithLinks : {I R D P V : Type 0} → (V → ℕ) → (V → Scope) → (V → ℕ) → (V → CoreOf I R D P) → CoreOf I R D P → List V → Type 0
BeginsWithLinks number looks given core c vs = (c.log ≡ []) × AreNewLinks number looks given core c (length c.opening.made) vs

-- ---- a link at a core where data are numbers, and so are predicates, each of which wants the number that it equals; it asks for 5

module _ {I : Type 0} where
  -- the link stands for a trace after which it can be handed this
  abbrev pub LinkCanBeHanded : CoreOf I ℕ ℕ ℕ → ℕ → Scope → ℕ → Option (Reply I ℕ ℕ) → Type 0
  LinkCanBeHanded c u s n last = CanBeHanded {R = ℕ} (setting (λ p d. p == d) (λ a b. a == b) c) u (LinkStands c.opening c.kinds u s 5 u n) last

  -- the old link goes on to the new one with such an operation
  abbrev pub LinkSteps : CoreOf I ℕ ℕ ℕ → ℕ → Scope → ℕ → CoreOf I ℕ ℕ ℕ → ℕ → Scope → ℕ → Option (Reply I ℕ ℕ) → Op I ℕ ℕ ℕ → Type 0
  LinkSteps c u s n c' u' s' n' = GoesOn (setting (λ p d. p == d) (λ a b. a == b) c) u (LinkStands c.opening c.kinds u s 5 u n) (LinkStands c'.opening c'.kinds u' s' 5 u' n')

  -- what the link gave by now is what it owes
  abbrev pub LinkGivesOwed : CoreOf I ℕ ℕ ℕ → ℕ → Scope → ℕ → Option (Reply I ℕ ℕ) → Op I ℕ ℕ ℕ → Type 0
  LinkGivesOwed c u s n = GivesOwed (setting (λ p d. p == d) (λ a b. a == b) c) u (λ _ _ _ _. ⊥) (λ _ _ _. ⊥) (λ _ q. q ≡ along s 5) (λ _ x. x ≡ u) (LinkStands c.opening c.kinds u s 5 u n)

  -- the old link and the new one have one fixed part and one number
  abbrev pub LinkStays : CoreOf I ℕ ℕ ℕ → ℕ → Scope → CoreOf I ℕ ℕ ℕ → ℕ → Scope → Type 0
  LinkStays c u s c' u' s' = (link_part u' s' c'.opening c'.kinds ≡ link_part u s c.opening c.kinds) × (u' ≡ u)
