-- Turns of the loop that reads the fields, calls and indexes behind a head.
use Rattle.std.proofs.Common.{◌≡◌, ℕ, zero, suc, ◌+◌, ◌-◌, ◌<◌, ◌≤◌, Bool, true, false, List, [], ◌∷◌, ap, sym, ◌∙◌, refl, true≢false, arith, Result, Ok, Err, Option, Some, None, if◌then◌else◌}
use Rattle.jv_tree.specs.declared.name.Ident.{Ident as Identifier}
use Rattle.jv_tree.specs.ExprTree as t
use Rattle.jv_tree.specs.ExprTree.{ExprTree, KindTree, TargetTree}
use Rattle.jv_grammar.specs.declared.form.Form.{Form}
use Rattle.jv_grammar.specs.declared.form.Form.TheVariants.{Target, Effect}
use Rattle.jv_grammar.specs.declared.terminal.Terminal.{Terminal}
use Rattle.jv_grammar.specs.declared.terminal.Terminal.TheVariants.{Ident, Keyword, Literal, Minimum, MinimumLong, Punct}
use Rattle.jv_grammar.specs.Marks.{bracket_open, bracket_close, dot, paren_open}
use Rattle.jv_grammar.specs.TypeGrammar.{starts}
use Rattle.jv_grammar.specs.ExprGrammar.{at_of}
use Rattle.jv_grammar.specs.Reader.{Reads, ◌>>=◌, rest_of, starts_ident, closed}
use Rattle.jv_grammar.specs.ExprReader.{Parsed, Below, member_of, done, args_of, suffixes_of, super_of}
use Rattle.jv_parse_expr.specs.declared.fault.Fault.{Fault}
use Rattle.jv_parse_expr.specs.View.{Fails, Suffixed, suffix_of}
use Rattle.jv_parse_expr.proofs.Faults.{fails_bind}

pub no_member : (expr : List Terminal → Reads Parsed) (go : Form → ExprTree → List Terminal → Reads Parsed) (p : ℕ) (target : TargetTree) (field : Identifier → KindTree) (xs : List Terminal)
    → starts_ident xs ≡ false → member_of expr go p target field xs ≡ Err xs
no_member expr go p target field [] h = refl
no_member expr go p target field (Ident i ∷ xs) h = absurd (true≢false h)
no_member expr go p target field (Keyword q k ∷ xs) h = refl
no_member expr go p target field (Literal q l ∷ xs) h = refl
no_member expr go p target field (Minimum q ∷ xs) h = refl
no_member expr go p target field (MinimumLong q ∷ xs) h = refl
no_member expr go p target field (Punct q o ∷ xs) h = refl

bind_assoc : {A B C : Type 0} (r : Result A (List Terminal)) (f : A → Result B (List Terminal)) (g : B → Result C (List Terminal)) → ((r >>= f) >>= g) ≡ (r >>= λ x. f x >>= g)
bind_assoc (Ok x) f g = refl
bind_assoc (Err e) f g = refl

-- what a suffix that is read goes on with
abbrev suffix_step : Below → ℕ → Form → Suffixed × List Terminal → Reads Parsed
suffix_step b c f ((None, e), ys) = done f e ys
suffix_step b c f ((Some g, e), ys) = suffixes_of b c g e ys

abbrev formed : Parsed × List Terminal → Reads Suffixed
formed r = Ok ((Some r.0.0, r.0.1), r.1)

abbrev indexed : ExprTree → ExprTree × List Terminal → Reads Suffixed
indexed e s = Ok ((Some Target, t.expr (at_of e) (t.index e s.0)), s.1)

module _ (expr : List Terminal → Reads Parsed) (go : Form → ExprTree → List Terminal → Reads Parsed) (p : ℕ) (target : TargetTree) (field : Identifier → KindTree) where
  member_if : (b : Bool) (i : Identifier) (r : Reads _) (xs : List Terminal)
      → (if b then (r >>= λ s. go Effect (t.expr p (t.call target i s.0)) s.1) else go Target (t.expr p (field i)) xs)
      ≡ ((if b then (r >>= λ s. done Effect (t.expr p (t.call target i s.0)) s.1) else done Target (t.expr p (field i)) xs) >>= λ s. go s.0.0 s.0.1 s.1)
  member_if true i (Ok s) xs = refl
  member_if true i (Err e) xs = refl
  member_if false i r xs = refl

  member_go : (xs : List Terminal) → member_of expr go p target field xs ≡ (member_of expr done p target field xs >>= λ s. go s.0.0 s.0.1 s.1)
  member_go [] = refl
  member_go (Ident i ∷ xs) = member_if (starts paren_open xs) i (args_of expr xs) xs
  member_go (Keyword q k ∷ xs) = refl
  member_go (Literal q l ∷ xs) = refl
  member_go (Minimum q ∷ xs) = refl
  member_go (MinimumLong q ∷ xs) = refl
  member_go (Punct q o ∷ xs) = refl

module _ (b : Below) (c : ℕ) (f : Form) (e : ExprTree) where
  index_linked : (r : Reads Parsed) → (r >>= λ x. closed bracket_close x.0.1 x.1 >>= λ s. suffixes_of b c Target (t.expr (at_of e) (t.index e s.0)) s.1)
      ≡ ((r >>= λ x. closed bracket_close x.0.1 x.1 >>= indexed e) >>= suffix_step b c f)
  index_linked (Ok x) = sym (bind_assoc (closed bracket_close x.0.1 x.1) (indexed e) (suffix_step b c f))
  index_linked (Err z) = refl

  linked_if : (p q : Bool) (x y z : Reads Parsed) (x' y' z' : Reads Suffixed)
      → x ≡ (x' >>= suffix_step b c f) → y ≡ (y' >>= suffix_step b c f) → z ≡ (z' >>= suffix_step b c f)
      → (if p then x else if q then y else z) ≡ ((if p then x' else if q then y' else z') >>= suffix_step b c f)
  linked_if true q x y z x' y' z' h h' h'' = h
  linked_if false true x y z x' y' z' h h' h'' = h'
  linked_if false false x y z x' y' z' h h' h'' = h''

suffixes_at : (b : Below) (c : ℕ) (f : Form) (e : ExprTree) (xs : List Terminal) → suffixes_of b (suc c) f e xs ≡ (suffix_of b e xs >>= suffix_step b c f)
unfolding suffixes_of
suffixes_at b c f e xs =
    linked_if b c f e (starts bracket_open xs) (starts dot xs) _ _ _ _ _ _
    (index_linked b c f e (b.expr (rest_of xs)))
    (member_go b.expr (suffixes_of b c) (at_of e) (t.on e) (t.field e) (rest_of xs)
    ∙ sym (bind_assoc (member_of b.expr done (at_of e) (t.on e) (t.field e) (rest_of xs)) formed (suffix_step b c f)))
    refl

abbrev no_suffixes : List Terminal → Reads Parsed
no_suffixes xs = Err xs

suffixes_zero : (b : Below) (f : Form) (e : ExprTree) (xs : List Terminal) → suffixes_of b zero f e xs ≡ no_suffixes xs
unfolding suffixes_of
suffixes_zero b f e xs = refl

pub suffixes_begin : (b : Below) (n : ℕ) (f : Form) (e : ExprTree) (xs : List Terminal) → suffixes_of b (n - 0) f e xs ≡ suffixes_of b n f e xs
suffixes_begin b n f e xs = let z : n - 0 ≡ n = omega arith in ap (λ k. suffixes_of b k f e xs) z

pub suffixes_over : (b : Below) (n i : ℕ) (f : Form) (e : ExprTree) (xs : List Terminal) → n ≤ i → suffixes_of b (n - i) f e xs ≡ no_suffixes xs
suffixes_over b n i f e xs h = let z : n - i ≡ zero = omega arith in ap (λ k. suffixes_of b k f e xs) z ∙ suffixes_zero b f e xs

abbrev suffix_read : Option Form → ExprTree → List Terminal → Reads Suffixed
suffix_read g e ys = Ok ((g, e), ys)

module _ (b : Below) (f : Form) (e : ExprTree) (n i : ℕ) (xs : List Terminal) (h : i < n) where
  suffix_turn : suffixes_of b (n - i) f e xs ≡ (suffix_of b e xs >>= suffix_step b (n - (i + 1)) f)
  suffix_turn = let z : n - i ≡ suc (n - (i + 1)) = omega arith in ap (λ k. suffixes_of b k f e xs) z ∙ suffixes_at b (n - (i + 1)) f e xs

  pub suffix_failed : (er : Fault) → Fails er (suffix_of b e xs) → Fails er (suffixes_of b (n - i) f e xs)
  suffix_failed er w = rw suffix_turn (fails_bind er (suffix_of b e xs) _ w)

  pub suffix_done : (g : Option Form) (x : ExprTree) (ys : List Terminal) → suffix_of b e xs ≡ suffix_read g x ys → g ≡ None → suffixes_of b (n - i) f e xs ≡ done f x ys
  suffix_done g x ys r none = suffix_turn ∙ ap (λ z. z >>= suffix_step b (n - (i + 1)) f) (r ∙ ap (λ k. suffix_read k x ys) none)

  pub suffix_next : (g : Option Form) (k : Form) (x : ExprTree) (ys : List Terminal) → suffix_of b e xs ≡ suffix_read g x ys → g ≡ Some k
      → suffixes_of b (n - (i + 1)) k x ys ≡ suffixes_of b (n - i) f e xs
  suffix_next g k x ys r some = sym (suffix_turn ∙ ap (λ z. z >>= suffix_step b (n - (i + 1)) f) (r ∙ ap (λ z. suffix_read z x ys) some))

abbrev no_suffix : List Terminal → Reads Parsed
no_suffix xs = Err xs

pub super_refused : (b : Below) (p : ℕ) (xs ts : List Terminal) → starts dot xs ≡ true → ts ≡ rest_of xs → starts_ident ts ≡ false → super_of b p xs ≡ no_suffix ts
super_refused b p xs ts s at none = rw (s, ← at) (no_member b.expr done p t.super t.super_field ts none)
