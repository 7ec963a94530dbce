-- Turns of the loop that reads the `++` and `--` behind an expression.
use Rattle.std.proofs.Common.{◌≡◌, ℕ, true, List, ◌∷◌, ap, sym, ◌∙◌, refl, nat_eq, if◌then◌else◌}
use Rattle.std.specs.List.{list_any}
use Rattle.jv_tree.specs.ExprTree as t
use Rattle.jv_tree.specs.ExprTree.{ExprTree}
use Rattle.jv_tree.specs.Shaped.{postfix_operators}
use Rattle.jv_grammar.specs.declared.form.Form.{Form}
use Rattle.jv_grammar.specs.declared.form.Form.TheVariants.{Effect}
use Rattle.jv_grammar.specs.declared.terminal.Terminal.{Terminal}
use Rattle.jv_grammar.specs.declared.terminal.Terminal.TheVariants.{Punct}
use Rattle.jv_grammar.specs.ExprGrammar.{at_of}
use Rattle.jv_grammar.specs.ExprReader.{Parsed, steps_of}

abbrev step_of : Form → ExprTree → ℕ → ℕ → List Terminal → Parsed × List Terminal
step_of f e p o xs = if list_any (nat_eq o) postfix_operators then steps_of Effect (t.expr (at_of e) (t.post p o e)) xs else ((f, e), Punct p o ∷ xs)

step_at : (f : Form) (e : ExprTree) (p o : ℕ) (xs : List Terminal) → steps_of f e (Punct p o ∷ xs) ≡ step_of f e p o xs
unfolding steps_of
step_at f e p o xs = refl

pub step_next : (f : Form) (e : ExprTree) (p o : ℕ) (xs ys : List Terminal) → xs ≡ Punct p o ∷ ys → list_any (nat_eq o) postfix_operators ≡ true
    → steps_of Effect (t.expr (at_of e) (t.post p o e)) ys ≡ steps_of f e xs
step_next f e p o xs ys at is = sym (ap (steps_of f e) at ∙ step_at f e p o ys ∙ rw is refl)
