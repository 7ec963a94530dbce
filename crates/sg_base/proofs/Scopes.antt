-- Scopes, steps, paths, edges and rows: when two are one, by test and by order.
use Rattle.std.proofs.Common.{◌≡◌, ℕ, List, [], ◌∷◌, Bool, true, false, eqb, ◌&&◌, refl, ap, ◌∙◌, subst, arith, nat_cmp}
use Rattle.std.proofs.lemmas.Bool.Decides.{nat_tests}
use Rattle.std.proofs.lemmas.Cmp.{tied_itself}
use Rattle.std.specs.Cmp.Lexicographic.{slice_cmp}
use Rattle.std.specs.Ordering.{ordering_then}
use Rattle.std.specs.declared.cmp.Ordering.{Ordering}
use Rattle.std.specs.declared.cmp.Ordering.TheVariants.{Less, Equal, Greater}
use Rattle.sg_base.specs.declared.row.Row.{Row}
use Rattle.sg_base.specs.declared.scope.Scope.{Scope}
use Rattle.sg_base.specs.declared.step.Step.{Step}
use Rattle.sg_base.specs.Graph.{Edge}
use Rattle.sg_base.specs.Path.{PathOf, is_step, step_cmp, path_cmp}
use Rattle.sg_base.specs.Row.{row_cmp, row_total}
use Rattle.sg_base.specs.Scope.{scope_cmp, scope_total, is_scope}

-- ---- by their parts

pub scope_by : (a b : Scope) → a.unit ≡ b.unit → a.serial ≡ b.serial → a ≡ b
scope_by a b u s =
    ap (λ (n : ℕ). let r : Scope = record { unit = n; serial = a.serial } in r) u ∙ ap (λ (n : ℕ). let r : Scope = record { unit = b.unit; serial = n } in r) s

pub step_by : (a b : Step) → a.label ≡ b.label → a.to ≡ b.to → a ≡ b
step_by a b l t =
    ap (λ (n : ℕ). let r : Step = record { label = n; to = a.to } in r) l ∙ ap (λ (s : Scope). let r : Step = record { label = b.label; to = s } in r) t

pub path_by : (a b : PathOf) → a.start ≡ b.start → a.steps ≡ b.steps → a ≡ b
path_by a b s p =
    ap (λ (x : Scope). let r : PathOf = record { start = x; steps = a.steps } in r) s ∙ ap (λ (x : List Step). let r : PathOf = record { start = b.start; steps = x } in r) p

pub edge_by : (a b : Edge) → a.from ≡ b.from → a.label ≡ b.label → a.to ≡ b.to → a ≡ b
edge_by a b f l t =
    ap (λ (x : Scope). let r : Edge = record { from = x; label = a.label; to = a.to } in r) f
    ∙ (ap (λ (x : ℕ). let r : Edge = record { from = b.from; label = x; to = a.to } in r) l
    ∙ ap (λ (x : Scope). let r : Edge = record { from = b.from; label = b.label; to = x } in r) t)

pub row_by : (a b : Row) → a.from ≡ b.from → a.label ≡ b.label → a ≡ b
row_by a b f l =
    ap (λ (x : Scope). let r : Row = record { from = x; label = a.label } in r) f ∙ ap (λ (x : ℕ). let r : Row = record { from = b.from; label = x } in r) l

-- ---- by order

pub then_equal : (a b : Ordering) → ordering_then a b ≡ Equal → (a ≡ Equal) × (b ≡ Equal)
then_equal Less b h = absurd (cc)
then_equal Equal b h = (refl, h)
then_equal Greater b h = absurd (cc)

pub equal_nat : (a b : ℕ) → nat_cmp a b ≡ Equal → a ≡ b
equal_nat a b h = grind (arith, nat_tests)

pub nat_itself : (a : ℕ) → nat_cmp a a ≡ Equal
nat_itself a = grind (arith, nat_tests)

pub equal_scope : (a b : Scope) → scope_cmp a b ≡ Equal → a ≡ b
equal_scope a b h =
    let k : (nat_cmp a.unit b.unit ≡ Equal) × (nat_cmp a.serial b.serial ≡ Equal) = then_equal (nat_cmp a.unit b.unit) (nat_cmp a.serial b.serial) h in
    scope_by a b (equal_nat a.unit b.unit k.0) (equal_nat a.serial b.serial k.1)

pub equal_row : (a b : Row) → row_cmp a b ≡ Equal → a ≡ b
equal_row a b h =
    let k : (scope_cmp a.from b.from ≡ Equal) × (nat_cmp a.label b.label ≡ Equal) = then_equal (scope_cmp a.from b.from) (nat_cmp a.label b.label) h in
    row_by a b (equal_scope a.from b.from k.0) (equal_nat a.label b.label k.1)

pub equal_step : (a b : Step) → step_cmp a b ≡ Equal → a ≡ b
equal_step a b h =
    let k : (nat_cmp a.label b.label ≡ Equal) × (scope_cmp a.to b.to ≡ Equal) = then_equal (nat_cmp a.label b.label) (scope_cmp a.to b.to) h in
    step_by a b (equal_nat a.label b.label k.0) (equal_scope a.to b.to k.1)

equal_steps : (ps qs : List Step) → slice_cmp step_cmp ps qs ≡ Equal → ps ≡ qs
equal_steps [] [] h = refl
equal_steps [] (q ∷ qs) h = absurd (cc)
equal_steps (p ∷ ps) [] h = absurd (cc)
equal_steps (p ∷ ps) (q ∷ qs) h =
    let k : (step_cmp p q ≡ Equal) × (slice_cmp step_cmp ps qs ≡ Equal) = then_equal (step_cmp p q) (slice_cmp step_cmp ps qs) h in
    let first : p ≡ q = equal_step p q k.0 in
    let rest : ps ≡ qs = equal_steps ps qs k.1 in
    cc

pub equal_path : (a b : PathOf) → path_cmp a b ≡ Equal → a ≡ b
equal_path a b h =
    let k : (scope_cmp a.start b.start ≡ Equal) × (slice_cmp step_cmp a.steps b.steps ≡ Equal) = then_equal (scope_cmp a.start b.start) (slice_cmp step_cmp a.steps b.steps) h in
    path_by a b (equal_scope a.start b.start k.0) (equal_steps a.steps b.steps k.1)

pub scope_itself : (a : Scope) → scope_cmp a a ≡ Equal
scope_itself a = tied_itself scope_total a

pub row_itself : (a : Row) → row_cmp a a ≡ Equal
row_itself a = tied_itself row_total a

-- ---- by test

first_same : (a b c d : ℕ) → (eqb a b && eqb c d) ≡ true → a ≡ b
first_same a b c d h = grind (arith, nat_tests)

second_same : (a b c d : ℕ) → (eqb a b && eqb c d) ≡ true → c ≡ d
second_same a b c d h = grind (arith, nat_tests)

itself : (a c : ℕ) → (eqb a a && eqb c c) ≡ true
itself a c = grind (arith, nat_tests)

pub scope_same : (a b : Scope) → is_scope a b ≡ true → a ≡ b
scope_same a b h = scope_by a b (first_same a.unit b.unit a.serial b.serial h) (second_same a.unit b.unit a.serial b.serial h)

pub same_scope : (a b : Scope) → a ≡ b → is_scope a b ≡ true
same_scope a b e = subst (λ (s : Scope). is_scope a s ≡ true) e (itself a.unit a.serial)

pub number_same : (a b : ℕ) → eqb a b ≡ true → a ≡ b
number_same a b h = grind (arith, nat_tests)

pub number_itself : (a : ℕ) → eqb a a ≡ true
number_itself a = grind (arith, nat_tests)

pub both_true : (a b : Bool) → (a && b) ≡ true → (a ≡ true) × (b ≡ true)
both_true true b h = (refl, h)
both_true false b h = absurd (cc)

pub step_same : (a b : Step) → is_step a b ≡ true → a ≡ b
step_same a b h =
    let k : (eqb a.label b.label ≡ true) × (is_scope a.to b.to ≡ true) = both_true (eqb a.label b.label) (is_scope a.to b.to) h in
    step_by a b (number_same a.label b.label k.0) (scope_same a.to b.to k.1)

pub same_step : (a b : Step) → a ≡ b → is_step a b ≡ true
same_step a b e = subst (λ (s : Step). is_step a s ≡ true) e (and_itself (eqb a.label a.label) (is_scope a.to a.to) (number_itself a.label) (same_scope a.to a.to refl))
  where
    and_itself : (b c : Bool) → b ≡ true → c ≡ true → (b && c) ≡ true
    and_itself true c f g = g
    and_itself false c f g = f

pub not_true : (b : Bool) → (b ≡ true → ⊥) → b ≡ false
not_true true n = absurd (n refl)
not_true false n = refl
