-- Turns of the loops that read names, parameters and constants with commas between them.
use Rattle.std.proofs.Common.{◌≡◌, ℕ, zero, suc, ◌+◌, ◌-◌, ◌<◌, ◌≤◌, true, false, List, [], ◌∷◌, ◌++◌, map, ap, sym, ◌∙◌, refl, arith, append_assoc, Ok, Err, Some, if◌then◌else◌}
use Rattle.std.proofs.lemmas.List.{map-append}
use Rattle.jv_tree.specs.declared.name.Ident.{Ident as Identifier}
use Rattle.jv_tree.specs.ExprTree.{InitTree}
use Rattle.jv_tree.specs.StmtTree.{VarTree}
use Rattle.jv_grammar.specs.declared.terminal.Terminal.{Terminal}
use Rattle.jv_grammar.specs.Marks.{comma, equals_sign}
use Rattle.jv_grammar.specs.TypeGrammar.{starts}
use Rattle.jv_grammar.specs.Reader.{Reads, ◌>>=◌, rest_of, closed}
use Rattle.jv_grammar.specs.TypeReader.{name_of}
use Rattle.jv_grammar.specs.ExprReader.{below, init_of}
use Rattle.jv_grammar.specs.DeclReader.{ident_of, names_of, param_of, some_params_of, constants_of}
use Rattle.jv_parse_expr.specs.declared.fault.Fault.{Fault}
use Rattle.jv_parse_expr.specs.View.{Fails}
use Rattle.jv_parse.specs.DeclView.{constant_of}
use Rattle.jv_parse_expr.proofs.Faults.{fails_bind}

-- what is read already, in front of what is read behind it
abbrev pub onto : {X T : Type 0} → (X → T) → List X → Reads (List T) → Reads (List T)
onto tree front r = r >>= λ s. Ok (map tree front ++ s.0, s.1)

abbrev pub some_items : {T : Type 0} → List Terminal → List T → Reads (List T)
some_items ys ts = Ok (ts, ys)

pub onto_nil : {X T : Type 0} (tree : X → T) (r : Reads (List T)) → onto tree [] r ≡ r
onto_nil tree (Ok s) = refl
onto_nil tree (Err e) = refl

pub onto_push : {X T : Type 0} (tree : X → T) (items : List X) (x : X) (r : Reads (List T))
    → onto tree (items ++ x ∷ []) r ≡ onto tree items (r >>= λ s. some_items s.1 (tree x ∷ s.0))
onto_push tree items x (Ok s) = ap (some_items s.1) (ap (λ l. l ++ s.0) (map-append tree items (x ∷ [])) ∙ append_assoc (map tree items) (tree x ∷ []) s.0)
onto_push tree items x (Err e) = refl

-- an item, and others if a comma stands behind it
abbrev pub comma_turn : {T : Type 0} → (List Terminal → Reads T) → (List Terminal → Reads (List T)) → List Terminal → Reads (List T)
comma_turn item others xs = item xs >>= λ r.
    if starts comma r.1
    then (others (rest_of r.1) >>= λ s. some_items s.1 (r.0 ∷ s.0))
    else some_items r.1 (r.0 ∷ [])

abbrev pub no_items : {T : Type 0} → List Terminal → Reads (List T)
no_items xs = Err xs

-- a reader of at most as many items as counted, with commas between them
pub record IsListed {T : Type 0} (item : List Terminal → Reads T) (listed : ℕ → List Terminal → Reads (List T)) : Type 0 where
  pub stop : (xs : List Terminal) → listed zero xs ≡ no_items xs
  pub turn : (c : ℕ) (xs : List Terminal) → listed (suc c) xs ≡ comma_turn item (listed c) xs

module _ {X T : Type 0} (tree : X → T) (item : List Terminal → Reads T) (listed : ℕ → List Terminal → Reads (List T)) (is : IsListed item listed) where
  pub listed_begin : (n : ℕ) (items : List X) (xs : List Terminal) → items ≡ [] → onto tree items (listed (n - 0) xs) ≡ listed n xs
  listed_begin n items xs none = let e : n - 0 ≡ n = omega arith in rw (none, e) (onto_nil tree (listed n xs))

  pub listed_over : (n i : ℕ) (items : List X) (xs : List Terminal) → n ≤ i → onto tree items (listed (n - i) xs) ≡ no_items xs
  listed_over n i items xs h = let e : n - i ≡ zero = omega arith in rw (e, is.stop xs) refl

  module _ (n i : ℕ) (items : List X) (xs : List Terminal) (h : i < n) where
    listed_turn : listed (n - i) xs ≡ comma_turn item (listed (n - (i + 1))) xs
    listed_turn = let e : n - i ≡ suc (n - (i + 1)) = omega arith in ap (λ k. listed k xs) e ∙ is.turn (n - (i + 1)) xs

    pub listed_failed : (e : Fault) → Fails e (item xs) → Fails e (onto tree items (listed (n - i) xs))
    listed_failed e f = rw listed_turn (fails_bind e _ _ (fails_bind e (item xs) _ f))

    pub listed_done : (x : X) (ys : List Terminal) → item xs ≡ Ok (tree x, ys) → starts comma ys ≡ false
        → onto tree items (listed (n - i) xs) ≡ some_items ys (map tree (items ++ x ∷ []))
    listed_done x ys r s = rw (listed_turn, r, s) (ap (some_items ys) (sym (map-append tree items (x ∷ []))))

    pub listed_next : (x : X) (ys zs : List Terminal) → item xs ≡ Ok (tree x, ys) → starts comma ys ≡ true → zs ≡ rest_of ys
        → onto tree (items ++ x ∷ []) (listed (n - (i + 1)) zs) ≡ onto tree items (listed (n - i) xs)
    listed_next x ys zs r s at = onto_push tree items x (listed (n - (i + 1)) zs) ∙ sym (rw (listed_turn, r, s, ← at) refl)

-- names
names_stop : (xs : List Terminal) → names_of zero xs ≡ no_items xs
unfolding names_of
names_stop xs = refl

names_turn : (c : ℕ) (xs : List Terminal) → names_of (suc c) xs ≡ comma_turn name_of (names_of c) xs
unfolding names_of
names_turn c xs = refl

pub names_listed : IsListed name_of names_of
names_listed = record { stop = names_stop; turn = names_turn }

-- parameters
params_stop : (xs : List Terminal) → some_params_of zero xs ≡ no_items xs
unfolding some_params_of
params_stop xs = refl

params_turn : (c : ℕ) (xs : List Terminal) → some_params_of (suc c) xs ≡ comma_turn param_of (some_params_of c) xs
unfolding some_params_of
params_turn c xs = refl

pub params_listed : IsListed param_of some_params_of
params_listed = record { stop = params_stop; turn = params_turn }

-- constants
constants_stop : (n : ℕ) (xs : List Terminal) → constants_of n zero xs ≡ no_items xs
unfolding constants_of
constants_stop n xs = refl

abbrev constant_named : Identifier → InitTree × List Terminal → Reads VarTree
constant_named i r = Ok (record { name = i; init = Some r.0 }, r.1)

abbrev constants_behind : ℕ → ℕ → VarTree × List Terminal → Reads (List VarTree)
constants_behind n c r = if starts comma r.1 then (constants_of n c (rest_of r.1) >>= λ s. some_items s.1 (r.0 ∷ s.0)) else some_items r.1 (r.0 ∷ [])

-- an initializer is read, and then the constant is made
initialized : (n c : ℕ) (i : Identifier) (r : Reads InitTree)
    → (r >>= λ s. constants_behind n c (record { name = i; init = Some s.0 }, s.1)) ≡ ((r >>= constant_named i) >>= constants_behind n c)
initialized n c i (Ok s) = refl
initialized n c i (Err e) = refl

abbrev equals : Identifier × List Terminal → Reads Identifier
equals i = closed equals_sign i.0 i.1

named_constant : (n c : ℕ) (r : Reads Identifier)
    → (r >>= λ j. init_of (below n) j.1 >>= λ s. constants_behind n c (record { name = j.0; init = Some s.0 }, s.1))
    ≡ ((r >>= λ j. init_of (below n) j.1 >>= constant_named j.0) >>= constants_behind n c)
named_constant n c (Ok j) = initialized n c j.0 (init_of (below n) j.1)
named_constant n c (Err e) = refl

constant_begun : (n c : ℕ) (r : Reads Identifier)
    → (r >>= λ i. equals i >>= λ j. init_of (below n) j.1 >>= λ s. constants_behind n c (record { name = j.0; init = Some s.0 }, s.1))
    ≡ ((r >>= λ i. equals i >>= λ j. init_of (below n) j.1 >>= constant_named j.0) >>= constants_behind n c)
constant_begun n c (Ok i) = named_constant n c (equals i)
constant_begun n c (Err e) = refl

constants_turn : (n c : ℕ) (xs : List Terminal) → constants_of n (suc c) xs ≡ comma_turn (constant_of n) (constants_of n c) xs
unfolding constants_of
constants_turn n c xs = constant_begun n c (ident_of xs)

pub constants_listed : (n : ℕ) → IsListed (constant_of n) (constants_of n)
constants_listed n = record { stop = constants_stop n; turn = constants_turn n }
