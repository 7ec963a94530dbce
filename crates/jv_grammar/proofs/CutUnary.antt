-- Reading a front of terminals against reading them all: operators in front of an operand and behind it, and casts.
use Rattle.std.proofs.Common.{◌≡◌, ℕ, suc, ◌<◌, ◌≤◌, ◌⊎◌, inl, inr, ◌||◌, Bool, true, false, cond, nat_eq, List, [], ◌∷◌, ◌++◌, length, arith, refl, sym, subst, Ok, Err}
use Rattle.std.specs.List.{list_any}
use Rattle.jv_tree.specs.declared.name.Ident.{Ident as Identifier}
use Rattle.jv_tree.specs.ExprTree as t
use Rattle.jv_tree.specs.ExprTree.{ExprTree}
use Rattle.jv_tree.specs.Shaped.{postfix_operators}
use Rattle.jv_grammar.specs.declared.terminal.Terminal.{Terminal}
use Rattle.jv_grammar.specs.declared.terminal.Terminal.TheVariants.{Ident, Keyword, Literal, Minimum, MinimumLong, Punct}
use Rattle.jv_grammar.specs.declared.form.Form.{Form}
use Rattle.jv_grammar.specs.declared.form.Form.TheVariants.{Effect, Other}
use Rattle.jv_grammar.specs.Marks.{paren_open, paren_close, minus_sign}
use Rattle.jv_grammar.specs.ExprGrammar.{at_of, begins_plain}
use Rattle.jv_grammar.specs.Reader.{Reads}
use Rattle.jv_grammar.specs.TypeReader.{name_of, is_bare, prim_of, is_prim}
use Rattle.jv_grammar.specs.ExprReader.{Parsed, Below, head_of, primary_of, steps_of, post_of, is_cast, cast_ahead, cast_of, signed_by, signed_of}
use Rattle.jv_grammar.proofs.Ending.{left_of, IsShort}
use Rattle.jv_grammar.proofs.Read.{fails}
use Rattle.jv_grammar.proofs.Cut.{none_left, cut_name}
use Rattle.jv_grammar.proofs.CutBoth.{IsCutUnless, both_end, both_give, both_refuse, too_deep, CutBoth, looser, ended, from_first, cut_choice, cut_then, cut_none, cut_map, cut_if, cut_mark}
use Rattle.jv_grammar.proofs.CutTypes.{both_ty}
use Rattle.jv_grammar.proofs.CutHeads.{BelowBoth}
use Rattle.jv_grammar.proofs.CutPrimary.{both_primary}
use Rattle.jv_grammar.proofs.CutHalf.{IsTold, told_cast, IsHalfRead}
use Rattle.jv_grammar.proofs.CutHalfExpr.{IsHalfDone, done_end, in_parens_end, half_cast}

-- the `++` and `--` behind a primary
abbrev stepped : Form → ExprTree → List Terminal → Reads Parsed
stepped f e xs = Ok (steps_of f e xs)

abbrev next : Form → ExprTree → ℕ → ℕ → List Terminal → Parsed × List Terminal
next f e p o xs = steps_of Effect (t.expr (at_of e) (t.post p o e)) xs

steps_short : (f : Form) (e : ExprTree) → IsShort (stepped f e)
unfolding steps_of
steps_short f e [] = omega arith
steps_short f e (Punct p o ∷ xs) = by (list_any (nat_eq o) postfix_operators) (steps_short Effect (t.expr (at_of e) (t.post p o e)) xs)
  where
    by : (b : Bool) → length (left_of (stepped Effect (t.expr (at_of e) (t.post p o e)) xs)) ≤ length xs
        → length (cond {A = Parsed × List Terminal} b (next f e p o xs) ((f, e), Punct p o ∷ xs)).1 ≤ suc (length xs)
    by true l = omega arith
    by false l = omega arith
steps_short f e (x ∷ xs) = omega arith

steps_cut : {D : Type 0} (f : Form) (e : ExprTree) (zs ws : List Terminal) → IsCutUnless D ws (stepped f e zs) (stepped f e (zs ++ ws))
unfolding steps_of
steps_cut f e [] ws = both_end refl (steps_short f e ws)
steps_cut {D} f e (Punct p o ∷ zs) ws = by (list_any (nat_eq o) postfix_operators) (steps_cut Effect (t.expr (at_of e) (t.post p o e)) zs ws)
  where
    by : (b : Bool) → IsCutUnless D ws (stepped Effect (t.expr (at_of e) (t.post p o e)) zs) (stepped Effect (t.expr (at_of e) (t.post p o e)) (zs ++ ws))
        → IsCutUnless {A = Parsed} D ws (Ok (cond b (next f e p o zs) ((f, e), Punct p o ∷ zs))) (Ok (cond b (next f e p o (zs ++ ws)) ((f, e), Punct p o ∷ zs ++ ws)))
    by true c = c
    by false c = both_give
steps_cut f e (Ident i ∷ zs) ws = both_give
steps_cut f e (Keyword p k ∷ zs) ws = both_give
steps_cut f e (Literal p l ∷ zs) ws = both_give
steps_cut f e (Minimum p ∷ zs) ws = both_give
steps_cut f e (MinimumLong p ∷ zs) ws = both_give

-- Of a front that ends in a name the reader below reads all, or it refuses it at once, where it may nest no deeper.
abbrev pub ReadsNames : ℕ → Below → Type 0
ReadsNames k b = (i : Identifier) (xs : List Terminal) → IsHalfRead true (name_of (Ident i ∷ xs)) → IsHalfDone true (b.expr (Ident i ∷ xs)) ⊎ ((b.expr (Ident i ∷ xs) ≡ fails (Ident i ∷ xs)) × (k ≡ 0))

module _ (k : ℕ) (b c : Below) (h : BelowBoth k b c) where
  pub both_post : (n m : ℕ) → CutBoth n m (suc k) (post_of b) (post_of c)
  unfolding post_of
  both_post n m = cut_then _ _ (both_primary k b c h n m) (λ x. record { front = steps_short x.0 x.1; whole = steps_short x.0 x.1; cut = λ zs ws l l'. steps_cut x.0 x.1 zs ws })

  pub both_cast : (p n m : ℕ) → CutBoth n m k (cast_of b p) (cast_of c p)
  unfolding cast_of
  both_cast p n m = cut_then _ _ (both_ty n m k) (λ x. cut_then _ _ (cut_mark paren_close x) (λ y.
      cut_if (λ us. is_bare y || begins_plain us) (λ z zs ws. refl) (cut_map (λ (u : Parsed). (Other, t.expr p (t.cast y u.1))) (h.unary n m)) cut_none))

  both_signed_by : (p o n m : ℕ) → CutBoth n m k (signed_by b p o) (signed_by c p o)
  both_signed_by p o n m = cut_map (λ (u : Parsed). (Other, t.expr p (t.pre p o u.1))) (h.unary n m)

  minimum_short : (p o q : ℕ) (x : Terminal) (e : ExprTree) (u : Bool) (xs : List Terminal) → length (left_of {A = Parsed} (cond u (Ok ((Other, t.expr p (t.pre p o e)), xs)) (Err (x ∷ xs)))) ≤ suc (length xs)
  minimum_short p o q x e true xs = omega arith
  minimum_short p o q x e false xs = omega arith

  signed_front : (p o : ℕ) → IsShort (signed_of b p o)
  unfolding signed_of
  signed_front p o [] = (both_signed_by p o 0 0).front []
  signed_front p o (Minimum q ∷ xs) = minimum_short p o q (Minimum q) (t.expr q t.int) (nat_eq o minus_sign) xs
  signed_front p o (MinimumLong q ∷ xs) = minimum_short p o q (MinimumLong q) (t.expr q t.long) (nat_eq o minus_sign) xs
  signed_front p o (x ∷ xs) = (both_signed_by p o 0 0).front (x ∷ xs)

  signed_whole : (p o : ℕ) → IsShort (signed_of c p o)
  unfolding signed_of
  signed_whole p o [] = (both_signed_by p o 0 0).whole []
  signed_whole p o (Minimum q ∷ xs) = minimum_short p o q (Minimum q) (t.expr q t.int) (nat_eq o minus_sign) xs
  signed_whole p o (MinimumLong q ∷ xs) = minimum_short p o q (MinimumLong q) (t.expr q t.long) (nat_eq o minus_sign) xs
  signed_whole p o (x ∷ xs) = (both_signed_by p o 0 0).whole (x ∷ xs)

  pub both_signed : (p o n m : ℕ) → CutBoth n m k (signed_of b p o) (signed_of c p o)
  unfolding signed_of
  both_signed p o n m = from_first (signed_of b p o) (signed_of c p o) (signed_front p o) (signed_whole p o) by
    where
      by : (z : Terminal) (zs ws : List Terminal) → suc (length zs) < n → suc (length (zs ++ ws)) < m → IsCutUnless (k < suc (length (zs ++ ws))) ws (signed_of b p o (z ∷ zs)) (signed_of c p o (z ∷ zs ++ ws))
      by (Minimum q) zs ws l l' = cut_choice (nat_eq o minus_sign) both_give both_refuse
      by (MinimumLong q) zs ws l l' = cut_choice (nat_eq o minus_sign) both_give both_refuse
      by (Ident i) zs ws l l' = (both_signed_by p o n m).cut (Ident i ∷ zs) ws l l'
      by (Keyword q v) zs ws l l' = (both_signed_by p o n m).cut (Keyword q v ∷ zs) ws l l'
      by (Literal q v) zs ws l l' = (both_signed_by p o n m).cut (Literal q v ∷ zs) ws l l'
      by (Punct q v) zs ws l l' = (both_signed_by p o n m).cut (Punct q v ∷ zs) ws l l'

  module _ (names : ReadsNames k b) where
    -- a cast or an expression in parentheses, behind the `(`
    abbrev opened : Below → ℕ → Bool → List Terminal → Reads Parsed
    opened b p u xs = cond u (cast_of b p xs) (post_of b (Punct p paren_open ∷ xs))

    casts : (p : ℕ) (zs ws : List Terminal) → IsCutUnless (suc k < suc (length (zs ++ ws))) ws (cast_of b p zs) (cast_of c p (zs ++ ws))
    casts p zs ws = looser (λ d. omega arith) ((both_cast p (suc (length zs)) (suc (length (zs ++ ws)))).cut zs ws (omega arith) (omega arith))

    posts : (z : Terminal) (zs ws : List Terminal) → IsCutUnless (suc k < suc (length (zs ++ ws))) ws (post_of b (z ∷ zs)) (post_of c (z ∷ zs ++ ws))
    posts z zs ws = (both_post (suc (suc (length zs))) (suc (suc (length (zs ++ ws))))).cut (z ∷ zs) ws (omega arith) (omega arith)

    refused_post : (p : ℕ) (xs : List Terminal) → b.expr xs ≡ fails xs → post_of b (Punct p paren_open ∷ xs) ≡ fails xs
    unfolding post_of primary_of head_of
    refused_post p xs e = rw e refl

    -- the front is half, and the whole may be a cast
    half_open : (p : ℕ) (i : Identifier) (xs ws : List Terminal) (u : Bool) → IsHalfRead true (name_of (Ident i ∷ xs))
        → IsCutUnless (suc k < suc (suc (length (xs ++ ws)))) ws (post_of b (Punct p paren_open ∷ Ident i ∷ xs)) (cond u (cast_of c p (Ident i ∷ xs ++ ws)) (post_of c (Punct p paren_open ∷ Ident i ∷ xs ++ ws)))
    half_open p i xs ws false x = posts (Punct p paren_open) (Ident i ∷ xs) ws
    half_open p i xs ws true x = elim (names i xs x) [
      | inl d ↦ both_end (in_parens_end b p (Ident i ∷ xs) d) (ended (casts p (Ident i ∷ xs) ws) (half_cast b p i xs x))
      | inr e ↦ subst (λ z. IsCutUnless (suc k < suc (suc (length (xs ++ ws)))) ws z (cast_of c p (Ident i ∷ xs ++ ws))) (sym (refused_post p (Ident i ∷ xs) e.0))
          (too_deep (let z = e.1 in omega arith) ((both_cast p 0 0).whole (Ident i ∷ xs ++ ws)))
    ]

    name_open : (p : ℕ) (i : Identifier) (xs ws : List Terminal) → IsTold true is_cast (name_of (Ident i ∷ xs)) (name_of (Ident i ∷ xs ++ ws))
        → IsCutUnless (suc k < suc (suc (length (xs ++ ws)))) ws (opened b p (is_cast (name_of (Ident i ∷ xs))) (Ident i ∷ xs)) (opened c p (is_cast (name_of (Ident i ∷ xs ++ ws))) (Ident i ∷ xs ++ ws))
    name_open p i xs ws (inl e) = subst (λ u. IsCutUnless (suc k < suc (suc (length (xs ++ ws)))) ws (opened b p (is_cast (name_of (Ident i ∷ xs))) (Ident i ∷ xs)) (opened c p u (Ident i ∷ xs ++ ws))) (sym e)
        (cut_choice (is_cast (name_of (Ident i ∷ xs))) (casts p (Ident i ∷ xs) ws) (posts (Punct p paren_open) (Ident i ∷ xs) ws))
    name_open p i xs ws (inr x) =
        subst (λ u. IsCutUnless (suc k < suc (suc (length (xs ++ ws)))) ws (opened b p u (Ident i ∷ xs)) (opened c p (is_cast (name_of (Ident i ∷ xs ++ ws))) (Ident i ∷ xs ++ ws))) (sym x.0)
        (half_open p i xs ws (is_cast (name_of (Ident i ∷ xs ++ ws))) x.1)

    none_open : (p : ℕ) (ws : List Terminal) (u : Bool) → IsCutUnless (suc k < suc (length ws)) ws (post_of b (Punct p paren_open ∷ [])) (opened c p u ws)
    none_open p ws true = both_end (in_parens_end b p [] (done_end (none_left _ ((h.expr 0 0).front [])))) ((both_cast p 0 0).whole ws)
    none_open p ws false = posts (Punct p paren_open) [] ws

    pub both_open : (p : ℕ) (zs ws : List Terminal) → IsCutUnless (suc k < suc (length (zs ++ ws))) ws (opened b p (cast_ahead zs) zs) (opened c p (cast_ahead (zs ++ ws)) (zs ++ ws))
    unfolding cast_ahead
    both_open p [] ws = none_open p ws (cast_ahead ws)
    both_open p (Ident i ∷ zs) ws = name_open p i zs ws (told_cast (cut_name.cut (Ident i ∷ zs) ws))
    both_open p (Keyword q v ∷ zs) ws = cut_choice (is_prim (prim_of v)) (casts p (Keyword q v ∷ zs) ws) (posts (Punct p paren_open) (Keyword q v ∷ zs) ws)
    both_open p (Literal q v ∷ zs) ws = posts (Punct p paren_open) (Literal q v ∷ zs) ws
    both_open p (Minimum q ∷ zs) ws = posts (Punct p paren_open) (Minimum q ∷ zs) ws
    both_open p (MinimumLong q ∷ zs) ws = posts (Punct p paren_open) (MinimumLong q ∷ zs) ws
    both_open p (Punct q v ∷ zs) ws = posts (Punct p paren_open) (Punct q v ∷ zs) ws
