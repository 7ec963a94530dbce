-- Turns of the loop that reads members, and members behind their modifiers.
use Rattle.std.proofs.Common.{◌≡◌, ℕ, zero, suc, ◌+◌, ◌-◌, ◌<◌, ◌≤◌, Bool, true, false, List, [], ◌∷◌, ◌++◌, ap, sym, ◌∙◌, refl, arith, Ok, Err, if◌then◌else◌}
use Rattle.jv_tree.specs.declared.declaration.Member.{Member}
use Rattle.jv_tree.specs.DeclTree as d
use Rattle.jv_tree.specs.DeclTree.{MemberTree, MemberTrees, TypeDeclTree, member_tree, member_trees}
use Rattle.jv_grammar.specs.declared.terminal.Terminal.{Terminal}
use Rattle.jv_grammar.specs.Marks.{brace_close, semicolon}
use Rattle.jv_grammar.specs.TypeGrammar.{starts}
use Rattle.jv_grammar.specs.Reader.{Reads, ◌>>=◌, rest_of}
use Rattle.jv_grammar.specs.DeclReader.{BelowType, behind_mods, member_of, members_of, decl_of, type_of, below_type}
use Rattle.jv_parse_expr.specs.declared.fault.Fault.{Fault}
use Rattle.jv_parse_expr.specs.View.{Fails}
use Rattle.jv_parse.specs.DeclView.{modifiers_of}
use Rattle.jv_parse_expr.proofs.Faults.{fails_bind}

-- members that are read already, in front of those that are read behind them
abbrev pub members_front : List Member → MemberTrees → MemberTrees
members_front [] ms = ms
members_front (x ∷ xs) ms = d.members (member_tree x) (members_front xs ms)

abbrev pub members_onto : List Member → Reads MemberTrees → Reads MemberTrees
members_onto front r = r >>= λ s. Ok (members_front front s.0, s.1)

abbrev pub some_members : List Terminal → MemberTrees → Reads MemberTrees
some_members ys ms = Ok (ms, ys)

abbrev pub refused_members : List Terminal → Reads MemberTrees
refused_members xs = Err xs

members_front_none : (xs : List Member) → members_front xs d.no_members ≡ member_trees xs
members_front_none [] = refl
members_front_none (x ∷ xs) = ap (d.members (member_tree x)) (members_front_none xs)

members_front_push : (xs : List Member) (x : Member) (ms : MemberTrees) → members_front (xs ++ x ∷ []) ms ≡ members_front xs (d.members (member_tree x) ms)
members_front_push [] x ms = refl
members_front_push (y ∷ xs) x ms = ap (d.members (member_tree y)) (members_front_push xs x ms)

members_push : (xs : List Member) (x : Member) (r : Reads MemberTrees)
    → members_onto (xs ++ x ∷ []) r ≡ members_onto xs (r >>= λ s. some_members s.1 (d.members (member_tree x) s.0))
members_push xs x (Ok s) = ap (some_members s.1) (members_front_push xs x s.0)
members_push xs x (Err e) = refl

members_nil : (r : Reads MemberTrees) → members_onto [] r ≡ r
members_nil (Ok s) = refl
members_nil (Err e) = refl

abbrev members_turn : Bool → ℕ → BelowType → ℕ → List Terminal → Reads MemberTrees
members_turn i n nest c xs =
    if starts brace_close xs then some_members (rest_of xs) d.no_members
    else if starts semicolon xs then members_of i n nest c (rest_of xs)
    else (member_of i n nest xs >>= λ r. members_of i n nest c r.1 >>= λ s. some_members s.1 (d.members r.0 s.0))

members_at : (i : Bool) (n : ℕ) (nest : BelowType) (c : ℕ) (xs : List Terminal) → members_of i n nest (suc c) xs ≡ members_turn i n nest c xs
unfolding members_of
members_at i n nest c xs = refl

members_zero : (i : Bool) (n : ℕ) (nest : BelowType) (xs : List Terminal) → members_of i n nest zero xs ≡ refused_members xs
unfolding members_of
members_zero i n nest xs = refl

module _ (i : Bool) (n : ℕ) (nest : BelowType) where
  pub members_begin : (count : ℕ) (items : List Member) (xs : List Terminal) → items ≡ []
      → members_onto items (members_of i n nest (count - 0) xs) ≡ members_of i n nest count xs
  members_begin count items xs none = let e : count - 0 ≡ count = omega arith in rw (none, e) (members_nil (members_of i n nest count xs))

  pub members_over : (count k : ℕ) (items : List Member) (xs : List Terminal) → count ≤ k
      → members_onto items (members_of i n nest (count - k) xs) ≡ refused_members xs
  members_over count k items xs h = let e : count - k ≡ zero = omega arith in rw (e, members_zero i n nest xs) refl

  module _ (count k : ℕ) (items : List Member) (xs : List Terminal) (h : k < count) where
    turn_now : members_of i n nest (count - k) xs ≡ members_turn i n nest (count - (k + 1)) xs
    turn_now = let e : count - k ≡ suc (count - (k + 1)) = omega arith in ap (λ j. members_of i n nest j xs) e ∙ members_at i n nest (count - (k + 1)) xs

    pub members_done : (ys : List Terminal) → starts brace_close xs ≡ true → ys ≡ rest_of xs
        → members_onto items (members_of i n nest (count - k) xs) ≡ some_members ys (member_trees items)
    members_done ys s at = rw (turn_now, s, ← at) (ap (some_members ys) (members_front_none items))

    module _ (more : starts brace_close xs ≡ false) where
      pub members_skip : (ys : List Terminal) → starts semicolon xs ≡ true → ys ≡ rest_of xs
          → members_onto items (members_of i n nest (count - (k + 1)) ys) ≡ members_onto items (members_of i n nest (count - k) xs)
      members_skip ys s at = sym (rw (turn_now, more, s, ← at) refl)

      module _ (none : starts semicolon xs ≡ false) where
        pub members_failed : (e : Fault) → Fails e (member_of i n nest xs) → Fails e (members_onto items (members_of i n nest (count - k) xs))
        members_failed e f = rw (turn_now, more, none) (fails_bind e _ _ (fails_bind e (member_of i n nest xs) _ f))

        pub members_next : (x : Member) (ys : List Terminal) → member_of i n nest xs ≡ Ok (member_tree x, ys)
            → members_onto (items ++ x ∷ []) (members_of i n nest (count - (k + 1)) ys) ≡ members_onto items (members_of i n nest (count - k) xs)
        members_next x ys r = members_push items x (members_of i n nest (count - (k + 1)) ys) ∙ sym (rw (turn_now, more, none, r) refl)

-- a member and a type, once their modifiers are read
pub member_behind : (i : Bool) (n : ℕ) (nest : BelowType) (ks : List ℕ) (xs ys : List Terminal) → modifiers_of xs ≡ Ok (ks, ys)
    → behind_mods i n nest ks ys ≡ member_of i n nest xs
unfolding member_of
member_behind i n nest ks xs ys r = sym (ap (λ q. q >>= λ s. behind_mods i n nest s.0 s.1) r)

pub type_behind : (n : ℕ) (ks : List ℕ) (xs ys : List Terminal) → modifiers_of xs ≡ Ok (ks, ys) → decl_of n (below_type n) ks ys ≡ type_of n xs
unfolding type_of
type_behind n ks xs ys r = sym (ap (λ q. q >>= λ s. decl_of n (below_type n) s.0 s.1) r)

pub member_failed : (i : Bool) (n : ℕ) (nest : BelowType) (xs : List Terminal) (e : Fault) → Fails e (modifiers_of xs) → Fails e (member_of i n nest xs)
unfolding member_of
member_failed i n nest xs e f = fails_bind e (modifiers_of xs) (λ s. behind_mods i n nest s.0 s.1) f

pub type_failed : (n : ℕ) (xs : List Terminal) (e : Fault) → Fails e (modifiers_of xs) → Fails e (type_of n xs)
unfolding type_of
type_failed n xs e f = fails_bind e (modifiers_of xs) (λ s. decl_of n (below_type n) s.0 s.1) f
