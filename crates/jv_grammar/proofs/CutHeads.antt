-- Reading a front of terminals against reading them all: new arrays and objects, and what stands behind a dot.
use Rattle.std.proofs.Common.{◌≡◌, ℕ, zero, suc, ◌<◌, ◌≤◌, ◌&&◌, Bool, true, false, cond, List, [], ◌∷◌, ◌++◌, length, arith, refl, Ok, if◌then◌else◌}
use Rattle.jv_tree.specs.declared.name.Ident.{Ident as Identifier}
use Rattle.jv_tree.specs.TypeTree.{BaseTree, boolean, char, int, long, void, named}
use Rattle.jv_tree.specs.ExprTree as t
use Rattle.jv_tree.specs.ExprTree.{ExprTree, KindTree, TargetTree, InitTree, ExprTrees, InitTrees}
use Rattle.jv_grammar.specs.declared.terminal.Terminal.{Terminal}
use Rattle.jv_grammar.specs.declared.terminal.Terminal.TheVariants.{Ident, Keyword, Literal, Minimum, MinimumLong, Punct}
use Rattle.jv_grammar.specs.declared.form.Form.{Form}
use Rattle.jv_grammar.specs.declared.form.Form.TheVariants.{Target, Effect, Other}
use Rattle.jv_grammar.specs.Marks.{paren_open, bracket_open, bracket_close, dot}
use Rattle.jv_grammar.specs.TypeGrammar.{is_mark, starts}
use Rattle.jv_grammar.specs.Reader.{Reads, ◌>>=◌, rest_of, closed}
use Rattle.jv_grammar.specs.TypeReader.{pairs_of, starts_pair}
use Rattle.jv_grammar.specs.ExprReader.{Parsed, Below, args_of, list_of, sizes_of, object_of, array_of, new_of, member_of, done, super_of}
use Rattle.jv_grammar.proofs.Ending.{left_of, Ends, IsShort}
use Rattle.jv_grammar.proofs.Goes.{ends_bind}
use Rattle.jv_grammar.proofs.Cut.{none_left, left_bind}
use Rattle.jv_grammar.proofs.CutBoth.{IsCutUnless, both_end, both_refuse, CutBoth, looser, weaker, from_first, short_if, cut_choice, cut_then, cut_done, cut_none, cut_map, cut_next, cut_under, cut_if, cut_mark}
use Rattle.jv_grammar.proofs.CutTypes.{first_mark, both_base, both_pairs, pairs_take}
use Rattle.jv_grammar.proofs.CutLists.{both_args, both_list}

pub lower : {A : Type 0} {n m d : ℕ} {p q : List Terminal → Reads A} → CutBoth n m (suc d) p q → CutBoth n m d p q
lower c = weaker (omega arith) (omega arith) (omega arith) c

-- a pair of brackets, or else a `[`, or neither
abbrev pub brackets : {A : Type 0} → (List Terminal → Reads A) → (List Terminal → Reads A) → (List Terminal → Reads A) → List Terminal → Reads A
brackets p p' p'' xs = if starts_pair xs then p xs else if starts bracket_open xs then p' xs else p'' xs

pub cut_brackets : {A : Type 0} {n m d : ℕ} (p q p' q' p'' q'' : List Terminal → Reads A) → CutBoth n m d p q → CutBoth n m d p' q' → CutBoth n m d p'' q''
    → ((z : Terminal) → is_mark bracket_open z ≡ true → Ends (p' (z ∷ [])))
    → ((z : Terminal) (ws : List Terminal) → is_mark bracket_open z ≡ true → length (left_of (q (z ∷ ws))) ≤ length ws)
    → ((z : Terminal) (ws : List Terminal) → is_mark bracket_open z ≡ true → length (left_of (q' (z ∷ ws))) ≤ length ws)
    → CutBoth n m d (brackets p p' p'') (brackets q q' q'')
cut_brackets {A} {n} {m} {d} p q p' q' p'' q'' c c' c'' e l l' = from_first (brackets p p' p'') (brackets q q' q'')
    (λ xs. short_if (starts_pair xs) (p xs) _ xs (c.front xs) (short_if (starts bracket_open xs) (p' xs) (p'' xs) xs (c'.front xs) (c''.front xs)))
    (λ xs. short_if (starts_pair xs) (q xs) _ xs (c.whole xs) (short_if (starts bracket_open xs) (q' xs) (q'' xs) xs (c'.whole xs) (c''.whole xs))) by
  where
    lone : (z : Terminal) (ws : List Terminal) (b b' : Bool) → is_mark bracket_open z ≡ b → IsCutUnless (d < suc (length ws)) ws (p'' (z ∷ [])) (q'' (z ∷ ws))
        → IsCutUnless (d < suc (length ws)) ws (cond (b && false) (p (z ∷ [])) (cond b (p' (z ∷ [])) (p'' (z ∷ [])))) (cond (b && b') (q (z ∷ ws)) (cond b (q' (z ∷ ws)) (q'' (z ∷ ws))))
    lone z ws true b' h o = both_end (e z h) (short_if b' (q (z ∷ ws)) (q' (z ∷ ws)) ws (l z ws h) (l' z ws h))
    lone z ws false b' h o = o

    by : (z : Terminal) (zs ws : List Terminal) → suc (length zs) < n → suc (length (zs ++ ws)) < m → IsCutUnless (d < suc (length (zs ++ ws))) ws (brackets p p' p'' (z ∷ zs)) (brackets q q' q'' (z ∷ zs ++ ws))
    by z [] ws s s' = lone z ws (is_mark bracket_open z) (starts bracket_close ws) refl (c''.cut (z ∷ []) ws s s')
    by z (y ∷ zs) ws s s' = cut_choice (is_mark bracket_open z && is_mark bracket_close y) (c.cut (z ∷ y ∷ zs) ws s s')
        (cut_choice (is_mark bracket_open z) (c'.cut (z ∷ y ∷ zs) ws s s') (c''.cut (z ∷ y ∷ zs) ws s s'))

-- The readers of what is nested one level deeper, of which the first nest k deep, and the others no less deep.
pub record BelowBoth (k : ℕ) (b c : Below) : Type 0 where
  pub expr : (n m : ℕ) → CutBoth n m k b.expr c.expr
  pub cond : (n m : ℕ) → CutBoth n m k b.cond c.cond
  pub unary : (n m : ℕ) → CutBoth n m k b.unary c.unary
  pub init : (n m : ℕ) → CutBoth n m k b.init c.init

module _ (k : ℕ) (b c : Below) (h : BelowBoth k b c) where
  -- a size behind its `[`, and what follows
  abbrev size : (List Terminal → Reads Parsed) → ℕ → List Terminal → Reads (ExprTrees × ℕ)
  size r room xs = r xs >>= λ r'. closed bracket_close r'.0.1 r'.1 >>= λ s. sizes_of r room s.1 >>= λ u. Ok ((t.exprs s.0 u.0.0, u.0.1), u.1)

  abbrev no_size : ℕ × List Terminal → Reads (ExprTrees × ℕ)
  no_size r = Ok ((t.no_exprs, r.0), r.1)

  abbrev pairs : ℕ → List Terminal → Reads (ExprTrees × ℕ)
  pairs room xs = pairs_of (suc room) xs >>= no_size

  both_size : (room n m : ℕ) → CutBoth n m (suc k) (sizes_of b.expr room) (sizes_of c.expr room) → CutBoth n m k (size b.expr room) (size c.expr room)
  both_size room n m r = cut_then _ _ (h.expr n m) (λ x. cut_then _ _ (cut_mark bracket_close x.1) (λ y. cut_map (λ (u : ExprTrees × ℕ). (t.exprs y u.0, u.1)) (lower r)))

  both_some_pairs : (room n m d : ℕ) → CutBoth n m d (pairs room) (pairs room)
  both_some_pairs room n m d = cut_map (λ k. (t.no_exprs, k)) (both_pairs (suc room) n m d)

  pairs_behind : (room : ℕ) (z : Terminal) (ws : List Terminal) → is_mark bracket_open z ≡ true → length (left_of (pairs room (z ∷ ws))) ≤ length ws
  pairs_behind room z ws e = omega (arith, pairs_take room z ws e, left_bind (pairs_of (suc room) (z ∷ ws)) no_size (λ x us. omega arith))

  pub both_sizes : (room n m : ℕ) → CutBoth n m (suc k) (sizes_of b.expr room) (sizes_of c.expr room)
  unfolding sizes_of
  both_sizes zero n m = cut_if (starts bracket_open) (first_mark _) cut_none (cut_done (t.no_exprs, zero))
  both_sizes (suc room) n m =
      let s : CutBoth n m k (size b.expr room) (size c.expr room) = both_size room n m (both_sizes room n m) in
      cut_brackets (pairs room) (pairs room) (λ xs. size b.expr room (rest_of xs)) (λ xs. size c.expr room (rest_of xs)) _ _ (both_some_pairs room n m (suc k)) (cut_under s) (cut_done (t.no_exprs, zero))
      (λ z e. none_left _ (s.front [])) (pairs_behind room) (λ z ws e. s.whole ws)

  sizes_end : (room : ℕ) (z : Terminal) → is_mark bracket_open z ≡ true → Ends (sizes_of b.expr (suc room) (z ∷ []))
  unfolding sizes_of
  sizes_end room z e = rw e (none_left _ ((both_size room 0 0 (both_sizes room 0 0)).front []))

  sizes_take : (room : ℕ) (z : Terminal) (ws : List Terminal) → is_mark bracket_open z ≡ true → length (left_of (sizes_of c.expr (suc room) (z ∷ ws))) ≤ length ws
  unfolding sizes_of
  sizes_take room z ws e = let l = pairs_behind room z ws e in rw e (by (starts bracket_close ws) l)
    where
      by : (b : Bool) → length (left_of (pairs room (z ∷ ws))) ≤ length ws → length (left_of (cond b (pairs room (z ∷ ws)) (size c.expr room ws))) ≤ length ws
      by true l = l
      by false l = (both_size room 0 0 (both_sizes room 0 0)).whole ws

  -- a list behind the pairs of its type, and sizes
  abbrev listed : Below → ℕ → ℕ → BaseTree → List Terminal → Reads Parsed
  listed b p q base xs = pairs_of 200 xs >>= λ r. list_of b.init r.1 >>= λ s. Ok ((Other, t.expr p (t.new_list (record { at = q; base = base; dims = r.0 }) s.0)), s.1)

  abbrev new_sized : ℕ → ℕ → BaseTree → (ExprTrees × ℕ) × List Terminal → Reads Parsed
  new_sized p q base r = Ok ((Other, t.expr p (t.new_array (record { at = q; base = base; dims = r.0.1 }) r.0.0)), r.1)

  abbrev sized : Below → ℕ → ℕ → BaseTree → List Terminal → Reads Parsed
  sized b p q base xs = sizes_of b.expr 200 xs >>= new_sized p q base

  abbrev list_behind : Below → ℕ → ℕ → BaseTree → ℕ × List Terminal → Reads Parsed
  list_behind b p q base r = list_of b.init r.1 >>= λ s. Ok ((Other, t.expr p (t.new_list (record { at = q; base = base; dims = r.0 }) s.0)), s.1)

  both_behind : (p q : ℕ) (base : BaseTree) (n m j : ℕ) → CutBoth n m (suc k) (λ us. list_behind b p q base (j, us)) (λ us. list_behind c p q base (j, us))
  both_behind p q base n m j = cut_map (λ (is : InitTrees). (Other, t.expr p (t.new_list (record { at = q; base = base; dims = j }) is))) (both_list k b.init c.init h.init n m)

  pub both_array : (p q : ℕ) (base : BaseTree) (n m : ℕ) → CutBoth n m (suc k) (array_of b p q base) (array_of c p q base)
  both_array p q base n m = cut_brackets (listed b p q base) (listed c p q base) (sized b p q base) (sized c p q base) _ _
      (cut_then (list_behind b p q base) (list_behind c p q base) (both_pairs 200 n m (suc k)) (both_behind p q base n m))
      (cut_map (λ (u : ExprTrees × ℕ). (Other, t.expr p (t.new_array (record { at = q; base = base; dims = u.1 }) u.0))) (both_sizes 200 n m)) cut_none
      (λ z e. ends_bind (sizes_of b.expr 200 (z ∷ [])) _ (sizes_end 199 z e) (λ x. refl))
      (λ z ws e. omega (arith, pairs_take 199 z ws e, left_bind (pairs_of 200 (z ∷ ws)) (list_behind c p q base) (λ j. (both_behind p q base n m j).whole)))
      (λ z ws e. omega (arith, sizes_take 199 z ws e, left_bind (sizes_of c.expr 200 (z ∷ ws)) (new_sized p q base) (λ x us. omega arith)))

  both_object : (p : ℕ) (base : BaseTree) (n m : ℕ) → CutBoth n m (suc k) (object_of b p base) (object_of c p base)
  both_object p (named ids) n m = cut_map (λ (es : ExprTrees). (Effect, t.expr p (t.new ids es))) (both_args k b.expr c.expr h.expr n m)
  both_object p boolean n m = cut_none
  both_object p char n m = cut_none
  both_object p int n m = cut_none
  both_object p long n m = cut_none
  both_object p void n m = cut_none

  pub both_new : (p n m : ℕ) → CutBoth n m (suc k) (new_of b p) (new_of c p)
  unfolding new_of
  both_new p n m = cut_then _ _ (both_base n m (suc k)) (λ x. cut_if (starts paren_open) (first_mark _) (both_object p x.1 n m) (both_array p x.0 x.1 n m))

  -- what stands behind an identifier that stands behind a dot
  abbrev behind_member : (List Terminal → Reads Parsed) → (Form → ExprTree → List Terminal → Reads Parsed) → ℕ → TargetTree → (Identifier → KindTree) → Identifier → List Terminal → Reads Parsed
  behind_member r go p target field i xs =
      if starts paren_open xs then (args_of r xs >>= λ s. go Effect (t.expr p (t.call target i s.0)) s.1) else go Target (t.expr p (field i)) xs

  module _ {n m : ℕ} (go go' : Form → ExprTree → List Terminal → Reads Parsed) (goes : (f : Form) (e : ExprTree) → CutBoth n m k (go f e) (go' f e)) (p : ℕ) (target : TargetTree) (field : Identifier → KindTree) where
    both_behind_member : (i : Identifier) → CutBoth n m k (behind_member b.expr go p target field i) (behind_member c.expr go' p target field i)
    both_behind_member i = cut_if (starts paren_open) (first_mark _)
        (cut_then _ _ (lower (both_args k b.expr c.expr h.expr n m)) (λ es. goes Effect (t.expr p (t.call target i es)))) (goes Target (t.expr p (field i)))

    front_member : IsShort (member_of b.expr go p target field)
    front_member (Ident i ∷ xs) = let s = (both_behind_member i).front xs in omega (arith, s)
    front_member [] = omega arith
    front_member (x ∷ xs) = omega arith

    pub whole_member : IsShort (member_of c.expr go' p target field)
    whole_member (Ident i ∷ xs) = let s = (both_behind_member i).whole xs in omega (arith, s)
    whole_member [] = omega arith
    whole_member (x ∷ xs) = omega arith

    pub both_member : CutBoth n m k (member_of b.expr go p target field) (member_of c.expr go' p target field)
    both_member = from_first (member_of b.expr go p target field) (member_of c.expr go' p target field) front_member whole_member by
      where
        by : (z : Terminal) (zs ws : List Terminal) → suc (length zs) < n → suc (length (zs ++ ws)) < m
            → IsCutUnless (k < suc (length (zs ++ ws))) ws (member_of b.expr go p target field (z ∷ zs)) (member_of c.expr go' p target field (z ∷ zs ++ ws))
        by (Ident i) zs ws l l' = looser (λ h. omega arith) ((both_behind_member i).cut zs ws (omega arith) (omega arith))
        by (Keyword p v) zs ws l l' = both_refuse
        by (Literal p v) zs ws l l' = both_refuse
        by (Minimum p) zs ws l l' = both_refuse
        by (MinimumLong p) zs ws l l' = both_refuse
        by (Punct p o) zs ws l l' = both_refuse

    -- a call takes its identifier
    pub member_calls : (i : Identifier) (xs : List Terminal) → length (left_of (member_of c.expr go' p target field (Ident i ∷ xs))) ≤ length xs
    member_calls i xs = (both_behind_member i).whole xs

  pub both_super : (p n m : ℕ) → CutBoth n m k (super_of b p) (super_of c p)
  both_super p n m = cut_if (starts dot) (first_mark _) (cut_next (both_member done done (λ f e. cut_done (f, e)) p t.super t.super_field)) cut_none
