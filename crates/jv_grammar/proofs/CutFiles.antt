-- Reading a front of terminals against reading them all: members, classes and interfaces, and files.
use Rattle.std.proofs.Common.{◌≡◌, ℕ, zero, suc, ◌<◌, ◌≤◌, Bool, true, false, cond, nat_eq, List, [], ◌∷◌, ◌++◌, length, arith, refl, Ok}
use Rattle.std.specs.List.{list_any}
use Rattle.jv_tree.specs.DeclTree as d
use Rattle.jv_tree.specs.DeclTree.{TypeDeclTree, MemberTree, MemberTrees, ImportTree, UnitTree}
use Rattle.jv_grammar.specs.declared.terminal.Terminal.{Terminal}
use Rattle.jv_grammar.specs.declared.terminal.Terminal.TheVariants.{Ident, Keyword, Literal, Minimum, MinimumLong, Punct}
use Rattle.jv_grammar.specs.Marks.{brace_open, brace_close, semicolon, word_class, word_extends, word_implements, word_interface, modifiers}
use Rattle.jv_grammar.specs.TypeGrammar.{starts, starts_word}
use Rattle.jv_grammar.specs.Reader.{Reads, ◌>>=◌}
use Rattle.jv_grammar.specs.DeclReader.{mods_of, BelowType, begins_type, behind_mods, member_of, members_of, braced_of, class_of, interface_of, decl_of, below_type}
use Rattle.jv_grammar.proofs.Ending.{IsShort}
use Rattle.jv_grammar.proofs.Goes.{ends_bind}
use Rattle.jv_grammar.proofs.Cut.{left_bind}
use Rattle.jv_grammar.proofs.Read.{gives}
use Rattle.jv_grammar.proofs.DeclDepth.{less_member, less_imember}
use Rattle.jv_grammar.proofs.DeclSound.{s_member, sound_type}
use Rattle.jv_grammar.proofs.CutBoth.{IsCutUnless, both_end, both_give, both_refuse, too_deep, CutBoth, cut_then, cut_then_less, cut_done, cut_none, cut_map, cut_turn, cut_next, cut_if}
use Rattle.jv_grammar.proofs.CutTurns.{all_turns, turns_under}
use Rattle.jv_grammar.proofs.CutTypes.{first_mark, first_word}
use Rattle.jv_grammar.proofs.CutHeads.{lower}
use Rattle.jv_grammar.proofs.CutBelow.{refused_below}
use Rattle.jv_grammar.proofs.CutForms.{both_ident}
use Rattle.jv_grammar.proofs.CutParts.{both_parent, both_headed}
use Rattle.jv_grammar.proofs.CutDecl.{both_ctor_or}

-- what is read, in another form
map_cut : {A B D : Type 0} {ws : List Terminal} {q r : Reads A} (f : A → B) → IsCutUnless D ws q r → IsCutUnless D ws (q >>= λ x. Ok (f x.0, x.1)) (r >>= λ x. Ok (f x.0, x.1))
map_cut f (both_end {q} {r} e l) = both_end (ends_bind q (λ x. Ok (f x.0, x.1)) e (λ x. refl)) (omega (arith, left_bind r (λ x. Ok (f x.0, x.1)) (λ x us. omega arith), l))
map_cut f both_give = both_give
map_cut f both_refuse = both_refuse
map_cut f (too_deep {ys} {r} h l) = too_deep h (omega (arith, left_bind r (λ x. Ok (f x.0, x.1)) (λ x us. omega arith), l))

-- the longest list of modifiers
abbrev pub modified : List Terminal → Reads (List ℕ)
modified xs = Ok (mods_of xs)

mods_short : IsShort modified
unfolding mods_of
mods_short [] = omega arith
mods_short (Keyword p k ∷ xs) = by (list_any (nat_eq k) modifiers) (mods_short xs)
  where
    by : (b : Bool) → length (mods_of xs).1 ≤ length xs → length (cond {A = List ℕ × List Terminal} b (k ∷ (mods_of xs).0, (mods_of xs).1) ([], Keyword p k ∷ xs)).1 ≤ suc (length xs)
    by true l = omega arith
    by false l = omega arith
mods_short (x ∷ xs) = omega arith

mods_cut : {D : Type 0} (zs ws : List Terminal) → IsCutUnless D ws (modified zs) (modified (zs ++ ws))
unfolding mods_of
mods_cut [] ws = both_end refl (mods_short ws)
mods_cut {D} (Keyword p k ∷ zs) ws = by (list_any (nat_eq k) modifiers) (map_cut (λ ks. k ∷ ks) (mods_cut zs ws))
  where
    by : (b : Bool) → IsCutUnless {A = List ℕ} D ws (Ok (k ∷ (mods_of zs).0, (mods_of zs).1)) (Ok (k ∷ (mods_of (zs ++ ws)).0, (mods_of (zs ++ ws)).1))
        → IsCutUnless {A = List ℕ} D ws (Ok (cond b (k ∷ (mods_of zs).0, (mods_of zs).1) ([], Keyword p k ∷ zs))) (Ok (cond b (k ∷ (mods_of (zs ++ ws)).0, (mods_of (zs ++ ws)).1) ([], Keyword p k ∷ zs ++ ws)))
    by true c = c
    by false c = both_give
mods_cut (Ident i ∷ zs) ws = both_give
mods_cut (Literal p l ∷ zs) ws = both_give
mods_cut (Minimum p ∷ zs) ws = both_give
mods_cut (MinimumLong p ∷ zs) ws = both_give
mods_cut (Punct p o ∷ zs) ws = both_give

pub both_mods : (n m d : ℕ) → CutBoth n m d modified modified
both_mods n m d = record { front = mods_short; whole = mods_short; cut = λ zs ws l l'. mods_cut zs ws }

-- The readers of classes and interfaces nested deeper, of which the first nest n deep, and the others no less deep.
abbrev pub TypesBoth : ℕ → BelowType → BelowType → Type 0
TypesBoth n nest nest' = (ks : List ℕ) (i j : ℕ) → CutBoth i j n (nest ks) (nest' ks)

module _ (n m : ℕ) (l : n ≤ m) (nest nest' : BelowType) (h : TypesBoth n nest nest') where
  pub both_behind_mods : (f : Bool) (ks : List ℕ) (i j : ℕ) → CutBoth i j n (behind_mods f n nest ks) (behind_mods f m nest' ks)
  unfolding behind_mods
  both_behind_mods f ks i j = cut_if begins_type (λ z zs ws. refl) (cut_map (λ (x : TypeDeclTree). d.nested x) (h ks i j)) (lower (both_ctor_or n m l ks f i j))

  pub both_member : (f : Bool) (i j : ℕ) → CutBoth i j n (member_of f n nest) (member_of f m nest')
  unfolding member_of
  both_member f i j = cut_then (λ r. behind_mods f n nest r.0 r.1) (λ r. behind_mods f m nest' r.0 r.1) (both_mods i j n) (λ ks. both_behind_mods f ks i j)

  module _ (less : (f : Bool) (xs : List Terminal) (x : MemberTree × List Terminal) → member_of f n nest xs ≡ gives x → length x.1 < length xs) where
    pub both_members : (f : Bool) (i j : ℕ) → CutBoth (suc i) (suc j) n (members_of f n nest i) (members_of f m nest' j)
    unfolding members_of
    both_members f = all_turns (members_of f n nest) (members_of f m nest') (λ xs. omega arith) (λ xs. omega arith) (λ i j more.
        cut_if (starts brace_close) (first_mark _) (cut_next (cut_done d.no_members)) (cut_if (starts semicolon) (first_mark _) (cut_turn more)
        (cut_then_less _ _ (both_member f _ _) (less f) (λ x. cut_map (λ (ms : MemberTrees). d.members x ms) more))))

    pub both_braced : (f : Bool) (i j : ℕ) → CutBoth i j (suc n) (braced_of f n nest) (braced_of f m nest')
    unfolding braced_of
    both_braced f i j = cut_if (starts brace_open) (first_mark _) (turns_under (members_of f n nest) (members_of f m nest') (both_members f)) cut_none

    pub both_class : (ks : List ℕ) (i j : ℕ) → CutBoth i j (suc n) (class_of n nest ks) (class_of m nest' ks)
    unfolding class_of
    both_class ks i j = cut_then _ _ (both_ident i j (suc n)) (λ x. cut_then _ _ (both_parent i j (suc n)) (λ a. cut_then _ _ (both_headed word_implements i j (suc n)) (λ b.
        cut_map (λ (ms : MemberTrees). d.type_decl x ks false a b ms) (both_braced false i j))))

    pub both_interface : (ks : List ℕ) (i j : ℕ) → CutBoth i j (suc n) (interface_of n nest ks) (interface_of m nest' ks)
    unfolding interface_of
    both_interface ks i j = cut_then _ _ (both_ident i j (suc n)) (λ x. cut_then _ _ (both_headed word_extends i j (suc n)) (λ a.
        cut_map (λ (ms : MemberTrees). d.type_decl x ks true a [] ms) (both_braced true i j)))

    pub both_decl : TypesBoth (suc n) (decl_of n nest) (decl_of m nest')
    unfolding decl_of
    both_decl ks i j = cut_if (starts_word word_class) (first_word _) (cut_next (both_class ks i j)) (cut_if (starts_word word_interface) (first_word _) (cut_next (both_interface ks i j)) cut_none)

-- a member takes a terminal
pub member_takes : (n k : ℕ) (f : Bool) (xs : List Terminal) (x : MemberTree × List Terminal) → member_of f n (below_type k) xs ≡ gives x → length x.1 < length xs
member_takes n k true xs x e = less_imember (s_member n (below_type k) (sound_type k) true xs x e).0
member_takes n k false xs x e = less_member (s_member n (below_type k) (sound_type k) false xs x e).0

-- at each depth of nesting
same_type : (n : ℕ) → TypesBoth n (below_type n) (below_type n)
unfolding below_type
same_type zero ks i j = refused_below _ (λ xs. omega arith)
same_type (suc n) ks i j = both_decl n n (omega arith) (below_type n) (below_type n) (same_type n) (member_takes n n) ks i j

pub both_below_type : (n m : ℕ) → n ≤ m → TypesBoth n (below_type n) (below_type m)
unfolding below_type
both_below_type zero m l ks i j = refused_below (below_type m ks) (same_type m ks 0 0).whole
both_below_type (suc n) zero l ks i j = absurd (omega arith)
both_below_type (suc n) (suc m) l ks i j = both_decl n m (omega arith) (below_type n) (below_type m) (both_below_type n m (omega arith)) (member_takes n n) ks i j
