-- A front that ends in a name, or with a terminal behind it that a name may have, is read to its end as an expression, or up to its `)`.
use Rattle.std.proofs.Common.{◌≡◌, ℕ, suc, ◌||◌, Bool, true, false, cond, List, [], ◌∷◌, length, refl, sym, subst, Ok, Err, if◌then◌else◌}
use Rattle.std.specs.List.{list_any}
use Rattle.jv_tree.specs.declared.name.Ident.{Ident as Identifier}
use Rattle.jv_tree.specs.TypeTree.{BaseTree, named, TypeTree}
use Rattle.jv_tree.specs.ExprTree as t
use Rattle.jv_tree.specs.ExprTree.{ExprTree}
use Rattle.jv_tree.specs.Shaped.{levels}
use Rattle.jv_grammar.specs.declared.terminal.Terminal.{Terminal}
use Rattle.jv_grammar.specs.declared.terminal.Terminal.TheVariants.{Ident, Punct}
use Rattle.jv_grammar.specs.declared.form.Form.{Form}
use Rattle.jv_grammar.specs.declared.form.Form.TheVariants.{Target, Other}
use Rattle.jv_grammar.specs.Marks.{paren_open, paren_close}
use Rattle.jv_grammar.specs.ExprGrammar.{kind_of, begins_plain}
use Rattle.jv_grammar.specs.Reader.{Reads, ◌>>=◌, closed}
use Rattle.jv_grammar.specs.TypeReader.{name_of, base_of, pairs_of, ty_of, is_bare}
use Rattle.jv_grammar.specs.ExprReader.{Parsed, Below, run_of, suffixes_of, head_of, primary_of, steps_of, post_of, cast_of, unary_of, is_mark_of, links_of, chained, bin_of, cond_of, expr_of}
use Rattle.jv_grammar.proofs.Ending.{Ends, IsShort}
use Rattle.jv_grammar.proofs.Read.{or_false}
use Rattle.jv_grammar.proofs.Goes.{ends_bind}
use Rattle.jv_grammar.proofs.Cut.{none_left}
use Rattle.jv_grammar.proofs.CutPrimary.{bare_call, bare_name, suffixed}
use Rattle.jv_grammar.proofs.CutHalf.{NameRead, IsHalfRead, to_end, to_open, to_close, IsHalfLeft, left_none, left_dot, left_open, left_close, half_run}

-- read up to a `)`
abbrev pub up_to_close : {A : Type 0} → A → ℕ → Reads A
up_to_close x p = Ok (x, Punct p paren_close ∷ [])

pub data IsHalfDone {A : Type 0} : Bool → Reads A → Type 0 where
  done_end : {c : Bool} {q : Reads A} → Ends q → IsHalfDone c q
  done_close : {q : Reads A} {x : A} {p : ℕ} → q ≡ up_to_close x p → IsHalfDone true q

pub half_then : {A B : Type 0} {c : Bool} {q : Reads A} (f : A × List Terminal → Reads B) → IsHalfDone c q → ((x : A) → Ends (f (x, []))) → ((x : A) (p : ℕ) → IsHalfDone true (f (x, Punct p paren_close ∷ [])))
    → IsHalfDone c (q >>= f)
half_then f (done_end {q} e) g g' = done_end (ends_bind q f e g)
half_then f (done_close {x} {p} e) g g' = subst (λ z. IsHalfDone true (z >>= f)) (sym e) (g' x p)

-- a `)` is no operator of the levels
abbrev has_close : List ℕ → Bool
has_close level = is_mark_of level paren_close

module _ (b : Below) (short : IsShort b.expr) where
  half_suffixes : {c : Bool} {us : List Terminal} (n : ℕ) (f : Form) (e : ExprTree) → IsHalfLeft c us → IsHalfDone c (suffixes_of b (suc n) f e us)
  unfolding suffixes_of
  half_suffixes n f e left_none = done_end refl
  half_suffixes n f e left_dot = done_end refl
  half_suffixes n f e left_open = done_end (ends_bind (b.expr []) _ (none_left _ (short [])) (λ x. refl))
  half_suffixes n f e (left_close {p}) = done_close {x = (f, e)} {p = p} refl

  half_primary : {c : Bool} (i : Identifier) (xs : List Terminal) → IsHalfRead c (name_of (Ident i ∷ xs)) → IsHalfDone c (primary_of b (Ident i ∷ xs))
  unfolding primary_of head_of
  half_primary {c} i xs h = let r = half_run i xs h in
      subst (λ u. IsHalfDone c (cond u (bare_call b i xs) (bare_name i (run_of xs)) >>= suffixed b (length xs))) (sym r.1) (half_suffixes (suc (length xs)) Target (t.expr i.at (t.name (i ∷ (run_of xs).0))) r.0)

  half_post : {c : Bool} (i : Identifier) (xs : List Terminal) → IsHalfRead c (name_of (Ident i ∷ xs)) → IsHalfDone c (post_of b (Ident i ∷ xs))
  unfolding post_of steps_of
  half_post i xs h = half_then _ (half_primary i xs h) (λ x. refl) (λ x p. done_close {x = x} {p = p} refl)

  links_close : (operand : List Terminal → Reads Parsed) (level : List ℕ) (n p : ℕ) (r : Parsed) → has_close level ≡ false
      → IsHalfDone true (links_of operand level (suc n) (Punct p paren_close ∷ []) >>= λ s. Ok (chained r s.0, s.1))
  unfolding links_of
  links_close operand level n p r e = rw e (done_close {x = r} {p = p} refl)

  half_bin : {c : Bool} (ls : List (List ℕ)) (i : Identifier) (xs : List Terminal) → list_any has_close ls ≡ false → IsHalfRead c (name_of (Ident i ∷ xs)) → IsHalfDone c (bin_of b ls (Ident i ∷ xs))
  unfolding bin_of unary_of links_of
  half_bin [] i xs e h = half_post i xs h
  half_bin (level ∷ ls) i xs e h =
      let k = or_false (has_close level) (list_any has_close ls) e in
      half_then _ (half_bin ls i xs k.1 h) (λ x. refl) (λ x p. links_close (bin_of b ls) level (suc (length xs)) p x k.0)

  half_cond : {c : Bool} (i : Identifier) (xs : List Terminal) → IsHalfRead c (name_of (Ident i ∷ xs)) → IsHalfDone c (cond_of b (Ident i ∷ xs))
  unfolding cond_of
  half_cond i xs h = half_then _ (half_bin levels i xs refl h) (λ x. refl) (λ x p. done_close {x = x} {p = p} refl)

  pub half_expr : {c : Bool} (i : Identifier) (xs : List Terminal) → IsHalfRead c (name_of (Ident i ∷ xs)) → IsHalfDone c (expr_of b (Ident i ∷ xs))
  unfolding expr_of
  half_expr i xs h = half_then _ (half_cond i xs h) (λ x. refl) (λ x p. done_close {x = x} {p = p} refl)

-- where a declaration could begin, and does not yet, the expression is read to the end
pub ended_expr : {A : Type 0} {q : Reads A} → IsHalfDone false q → Ends q
ended_expr (done_end e) = e

-- a name as the type of a cast
abbrev name_base : Identifier → List Identifier × List Terminal → Reads (ℕ × BaseTree)
name_base i r = Ok ((i.at, named r.0), r.1)

abbrev base_ty : (ℕ × BaseTree) × List Terminal → Reads TypeTree
base_ty r = pairs_of 200 r.1 >>= λ s. Ok (record { at = r.0.0; base = r.0.1; dims = s.0 }, s.1)

abbrev behind_ty : Below → ℕ → TypeTree × List Terminal → Reads Parsed
behind_ty b p r = closed paren_close r.0 r.1 >>= λ s.
    if is_bare s.0 || begins_plain s.1
    then (b.unary s.1 >>= λ u. Ok ((Other, t.expr p (t.cast s.0 u.0.1)), u.1))
    else Err s.1

abbrev closing : ℕ → Parsed × List Terminal → Reads Parsed
closing p r = closed paren_close (Other, t.expr p (kind_of r.0.1)) r.1

abbrev stepped : Parsed × List Terminal → Reads Parsed
stepped r = Ok (steps_of r.0.0 r.0.1 r.1)

-- Behind a `(`: what is half read there ends in parentheses, and as a cast too.
module _ (b : Below) where
  pub in_parens_end : (p : ℕ) (xs : List Terminal) → IsHalfDone true (b.expr xs) → Ends (post_of b (Punct p paren_open ∷ xs))
  unfolding post_of primary_of head_of steps_of suffixes_of
  in_parens_end p xs h = ends_bind ((b.expr xs >>= closing p) >>= suffixed b (length xs)) stepped (ends_bind (b.expr xs >>= closing p) (suffixed b (length xs)) (by h) (λ x. refl)) (λ x. refl)
    where
      by : {q : Reads Parsed} → IsHalfDone true q → Ends (q >>= closing p)
      by (done_end {q} e) = ends_bind q _ e (λ x. refl)
      by (done_close e) = subst (λ z. Ends (z >>= closing p)) (sym e) refl

  cast_from : (i : Identifier) (p : ℕ) (r : NameRead) → IsHalfRead true r → Ends (((r >>= name_base i) >>= base_ty) >>= behind_ty b p)
  unfolding pairs_of
  cast_from i p r (to_end e) = ends_bind ((r >>= name_base i) >>= base_ty) (behind_ty b p) (ends_bind (r >>= name_base i) base_ty (ends_bind r (name_base i) e (λ x. refl)) (λ x. refl)) (λ x. refl)
  cast_from i p r (to_open e) = subst (λ z. Ends (((z >>= name_base i) >>= base_ty) >>= behind_ty b p)) (sym e) refl
  cast_from i p r (to_close e) = subst (λ z. Ends (((z >>= name_base i) >>= base_ty) >>= behind_ty b p)) (sym e) refl

  pub half_cast : (p : ℕ) (i : Identifier) (xs : List Terminal) → IsHalfRead true (name_of (Ident i ∷ xs)) → Ends (cast_of b p (Ident i ∷ xs))
  unfolding cast_of ty_of base_of
  half_cast p i xs h = cast_from i p (name_of (Ident i ∷ xs)) h
