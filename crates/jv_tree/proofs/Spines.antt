-- Spines of expressions.
use Rattle.std.proofs.Common.{◌≡◌, ℕ, List, [], ◌∷◌, ◌++◌, map, reverse, refl, sym, ap, ◌∙◌}
use Rattle.std.proofs.lemmas.List.{append-nil, map-append, reverse-append}
use Rattle.indexmap.proofs.ReorderLemmas.{map-reverse}
use Rattle.jv_tree.specs.declared.spine.Step.{Step}
use Rattle.jv_tree.specs.ExprTree as e
use Rattle.jv_tree.specs.ExprTree.{ExprTree}
use Rattle.jv_tree.specs.Spine.{StepTree, StepKindTree, field, call, index, stepped, outward, IsHead, step_tree}

-- what stands innermost
abbrev head_of : ExprTree → ExprTree
head_of (e.expr at (e.field x i)) = head_of x
head_of (e.expr at (e.call (e.on x) i xs)) = head_of x
head_of (e.expr at (e.index x y)) = head_of x
head_of (e.expr at k) = e.expr at k

-- the steps of an expression, in front of others
abbrev steps_onto : ExprTree → List StepTree → List StepTree
steps_onto (e.expr at (e.field x i)) ss = steps_onto x (record { at = at; kind = field i } ∷ ss)
steps_onto (e.expr at (e.call (e.on x) i xs)) ss = steps_onto x (record { at = at; kind = call i xs } ∷ ss)
steps_onto (e.expr at (e.index x y)) ss = steps_onto x (record { at = at; kind = index y } ∷ ss)
steps_onto (e.expr at k) ss = ss

head_stepped : (x : ExprTree) (at : ℕ) (k : StepKindTree) → head_of (stepped x at k) ≡ head_of x
head_stepped x at (field i) = refl
head_stepped x at (call i xs) = refl
head_stepped x at (index y) = refl

steps_stepped : (x : ExprTree) (at : ℕ) (k : StepKindTree) (ss : List StepTree) → steps_onto (stepped x at k) ss ≡ steps_onto x (record { at = at; kind = k } ∷ ss)
steps_stepped x at (field i) ss = refl
steps_stepped x at (call i xs) ss = refl
steps_stepped x at (index y) ss = refl

head_outward : (x : ExprTree) (ss : List StepTree) → head_of (outward x ss) ≡ head_of x
head_outward x [] = refl
head_outward x (s ∷ ss) = head_outward (stepped x s.at s.kind) ss ∙ head_stepped x s.at s.kind

steps_outward : (x : ExprTree) (ss ts : List StepTree) → steps_onto (outward x ss) ts ≡ steps_onto x (ss ++ ts)
steps_outward x [] ts = refl
steps_outward x (s ∷ ss) ts = steps_outward (stepped x s.at s.kind) ss ts ∙ steps_stepped x s.at s.kind (ss ++ ts)

head_of_head : (x : ExprTree) → IsHead x → head_of x ≡ x
head_of_head (e.expr at e.int) h = refl
head_of_head (e.expr at e.long) h = refl
head_of_head (e.expr at e.char) h = refl
head_of_head (e.expr at e.str) h = refl
head_of_head (e.expr at (e.bool b)) h = refl
head_of_head (e.expr at e.null) h = refl
head_of_head (e.expr at e.this) h = refl
head_of_head (e.expr at (e.name ids)) h = refl
head_of_head (e.expr at (e.field x i)) h = absurd h
head_of_head (e.expr at (e.super_field i)) h = refl
head_of_head (e.expr at (e.call e.bare i xs)) h = refl
head_of_head (e.expr at (e.call (e.on x) i xs)) h = absurd h
head_of_head (e.expr at (e.call e.super i xs)) h = refl
head_of_head (e.expr at (e.index x y)) h = absurd h
head_of_head (e.expr at (e.new ids xs)) h = refl
head_of_head (e.expr at (e.new_array t xs)) h = refl
head_of_head (e.expr at (e.new_list t xs)) h = refl
head_of_head (e.expr at (e.pre p o x)) h = refl
head_of_head (e.expr at (e.post p o x)) h = refl
head_of_head (e.expr at (e.chain x xs)) h = refl
head_of_head (e.expr at (e.cast t x)) h = refl
head_of_head (e.expr at (e.choice x y z)) h = refl
head_of_head (e.expr at (e.assign p o x y)) h = refl

steps_of_head : (x : ExprTree) (ss : List StepTree) → IsHead x → steps_onto x ss ≡ ss
steps_of_head (e.expr at e.int) ss h = refl
steps_of_head (e.expr at e.long) ss h = refl
steps_of_head (e.expr at e.char) ss h = refl
steps_of_head (e.expr at e.str) ss h = refl
steps_of_head (e.expr at (e.bool b)) ss h = refl
steps_of_head (e.expr at e.null) ss h = refl
steps_of_head (e.expr at e.this) ss h = refl
steps_of_head (e.expr at (e.name ids)) ss h = refl
steps_of_head (e.expr at (e.field x i)) ss h = absurd h
steps_of_head (e.expr at (e.super_field i)) ss h = refl
steps_of_head (e.expr at (e.call e.bare i xs)) ss h = refl
steps_of_head (e.expr at (e.call (e.on x) i xs)) ss h = absurd h
steps_of_head (e.expr at (e.call e.super i xs)) ss h = refl
steps_of_head (e.expr at (e.index x y)) ss h = absurd h
steps_of_head (e.expr at (e.new ids xs)) ss h = refl
steps_of_head (e.expr at (e.new_array t xs)) ss h = refl
steps_of_head (e.expr at (e.new_list t xs)) ss h = refl
steps_of_head (e.expr at (e.pre p o x)) ss h = refl
steps_of_head (e.expr at (e.post p o x)) ss h = refl
steps_of_head (e.expr at (e.chain x xs)) ss h = refl
steps_of_head (e.expr at (e.cast t x)) ss h = refl
steps_of_head (e.expr at (e.choice x y z)) ss h = refl
steps_of_head (e.expr at (e.assign p o x y)) ss h = refl

pub one_spine : (x y : ExprTree) (ss ts : List StepTree) → IsHead x → IsHead y → outward x ss ≡ outward y ts → (x ≡ y) × (ss ≡ ts)
one_spine x y ss ts h k same = (
  sym (head_of_head x h) ∙ sym (head_outward x ss) ∙ ap head_of same ∙ head_outward y ts ∙ head_of_head y k,
  sym (steps x ss h) ∙ ap (λ z. steps_onto z []) same ∙ steps y ts k,
)
  where
    steps : (z : ExprTree) (rs : List StepTree) → IsHead z → steps_onto (outward z rs) [] ≡ rs
    steps z rs i = steps_outward z rs [] ∙ ap (steps_onto z) (append-nil rs) ∙ steps_of_head z rs i

-- one step further in: the steps so far are gathered from the outside
pub further_in : (x y z : ExprTree) (s : Step) (ss ts : List Step) → ts ≡ ss ++ s ∷ [] → stepped y (step_tree s).at (step_tree s).kind ≡ x
    → outward x (reverse (map step_tree ss)) ≡ z → outward y (reverse (map step_tree ts)) ≡ z
further_in x y z s ss ts grown made so_far =
    ap (λ l. outward y (reverse (map step_tree l))) grown
    ∙ ap (λ l. outward y (reverse l)) (map-append step_tree ss (s ∷ []))
    ∙ ap (outward y) (reverse-append (map step_tree ss) (step_tree s ∷ []))
    ∙ ap (λ e. outward e (reverse (map step_tree ss))) made ∙ so_far

-- the steps in their order are those that were gathered
pub turned : (x z : ExprTree) (ss ts : List Step) → ts ≡ reverse ss → outward x (reverse (map step_tree ss)) ≡ z → outward x (map step_tree ts) ≡ z
turned x z ss ts e so_far = ap (λ l. outward x (map step_tree l)) e ∙ ap (outward x) (map-reverse step_tree ss) ∙ so_far
