-- Turns of the loops that read imports, and the name of an import.
use Rattle.std.proofs.Common.{◌≡◌, ℕ, zero, suc, ◌+◌, ◌-◌, ◌<◌, ◌≤◌, Bool, true, false, List, [], ◌∷◌, ◌++◌, map, ap, sym, ◌∙◌, refl, arith, append_assoc, Ok, Err, if◌then◌else◌}
use Rattle.std.proofs.lemmas.List.{append-nil}
use Rattle.jv_tree.specs.declared.name.Ident.{Ident as Identifier}
use Rattle.jv_tree.specs.declared.declaration.Import.{Import}
use Rattle.jv_tree.specs.DeclTree.{ImportTree, import_tree}
use Rattle.jv_grammar.specs.declared.terminal.Terminal.{Terminal}
use Rattle.jv_grammar.specs.declared.terminal.Terminal.TheVariants.{Ident}
use Rattle.jv_grammar.specs.Marks.{dot, star, word_import}
use Rattle.jv_grammar.specs.TypeGrammar.{starts, starts_word}
use Rattle.jv_grammar.specs.Reader.{Reads, ◌>>=◌, rest_of, starts_ident}
use Rattle.jv_grammar.specs.DeclReader.{ident_of, path_of, import_of, imports_of}
use Rattle.jv_parse_expr.specs.declared.fault.Fault.{Fault}
use Rattle.jv_parse_expr.specs.View.{Fails}
use Rattle.jv_parse_expr.proofs.Faults.{fails_bind}
use Rattle.jv_parse.proofs.FirstIdentifiers.{no_ident}
use Rattle.jv_parse.proofs.CommaTurns.{onto, onto_nil, onto_push, some_items, no_items}

-- imports
abbrev imports_turn : ℕ → List Terminal → Reads (List ImportTree)
imports_turn c xs =
    if starts_word word_import xs
    then (import_of (rest_of xs) >>= λ r. imports_of c r.1 >>= λ s. some_items s.1 (r.0 ∷ s.0))
    else some_items xs []

imports_at : (c : ℕ) (xs : List Terminal) → imports_of (suc c) xs ≡ imports_turn c xs
unfolding imports_of
imports_at c xs = refl

imports_zero : (xs : List Terminal) → imports_of zero xs ≡ no_items xs
unfolding imports_of
imports_zero xs = refl

pub imports_begin : (n : ℕ) (items : List Import) (xs : List Terminal) → items ≡ [] → onto import_tree items (imports_of (n - 0) xs) ≡ imports_of n xs
imports_begin n items xs none = let e : n - 0 ≡ n = omega arith in rw (none, e) (onto_nil import_tree (imports_of n xs))

pub imports_over : (n i : ℕ) (items : List Import) (xs : List Terminal) → n ≤ i → onto import_tree items (imports_of (n - i) xs) ≡ no_items xs
imports_over n i items xs h = let e : n - i ≡ zero = omega arith in rw (e, imports_zero xs) refl

module _ (n i : ℕ) (items : List Import) (xs : List Terminal) (h : i < n) where
  imports_now : imports_of (n - i) xs ≡ imports_turn (n - (i + 1)) xs
  imports_now = let e : n - i ≡ suc (n - (i + 1)) = omega arith in ap (λ k. imports_of k xs) e ∙ imports_at (n - (i + 1)) xs

  pub imports_done : starts_word word_import xs ≡ false → onto import_tree items (imports_of (n - i) xs) ≡ some_items xs (map import_tree items)
  imports_done s = rw (imports_now, s) (ap (some_items xs) (append-nil (map import_tree items)))

  module _ (ts : List Terminal) (s : starts_word word_import xs ≡ true) (at : ts ≡ rest_of xs) where
    pub imports_failed : (e : Fault) → Fails e (import_of ts) → Fails e (onto import_tree items (imports_of (n - i) xs))
    imports_failed e f = rw (imports_now, s, ← at) (fails_bind e _ _ (fails_bind e (import_of ts) _ f))

    pub imports_next : (x : Import) (ys : List Terminal) → import_of ts ≡ Ok (import_tree x, ys)
        → onto import_tree (items ++ x ∷ []) (imports_of (n - (i + 1)) ys) ≡ onto import_tree items (imports_of (n - i) xs)
    imports_next x ys r = onto_push import_tree items x (imports_of (n - (i + 1)) ys) ∙ sym (rw (imports_now, s, ← at, r) refl)

-- the identifiers of an import's name that are read already, in front of what is read behind them
abbrev pub path_onto : Bool → List Identifier → Reads ImportTree → Reads ImportTree
path_onto is_static front r = r >>= λ s. Ok (record { name = front ++ s.0.name; all = s.0.all; is_static = is_static }, s.1)

abbrev pub some_path : List Terminal → Bool → Bool → List Identifier → Reads ImportTree
some_path ys all is_static ids = Ok (record { name = ids; all = all; is_static = is_static }, ys)

abbrev pub path_read : List Terminal → ImportTree → Reads ImportTree
path_read ys t = Ok (t, ys)

abbrev pub no_path : List Terminal → Reads ImportTree
no_path xs = Err xs

path_push : (is_static : Bool) (ids : List Identifier) (i : Identifier) (r : Reads ImportTree)
    → path_onto is_static (ids ++ i ∷ []) r ≡ path_onto is_static ids (r >>= λ s. some_path s.1 s.0.all is_static (i ∷ s.0.name))
path_push is_static ids i (Ok s) = ap (some_path s.1 s.0.all is_static) (append_assoc ids (i ∷ []) s.0.name)
path_push is_static ids i (Err e) = refl

-- what is read behind an identifier and a dot, by whether a star stands there
abbrev path_dotted : Bool → ℕ → Identifier → List Terminal → Bool → Reads ImportTree
path_dotted is_static c i xs starred =
    if starred then some_path (rest_of xs) true is_static (i ∷ []) else (path_of is_static c xs >>= λ r. some_path r.1 r.0.all is_static (i ∷ r.0.name))

-- what is read behind an identifier, by whether a dot stands there
abbrev path_behind : Bool → ℕ → Identifier × List Terminal → Bool → Reads ImportTree
path_behind is_static c i dotted =
    if dotted then path_dotted is_static c i.0 (rest_of i.1) (starts star (rest_of i.1)) else some_path i.1 false is_static (i.0 ∷ [])

abbrev path_turn : Bool → ℕ → List Terminal → Reads ImportTree
path_turn is_static c xs = ident_of xs >>= λ i. path_behind is_static c i (starts dot i.1)

path_at : (is_static : Bool) (c : ℕ) (xs : List Terminal) → path_of is_static (suc c) xs ≡ path_turn is_static c xs
unfolding path_of
path_at is_static c xs = refl

path_zero : (is_static : Bool) (xs : List Terminal) → path_of is_static zero xs ≡ no_path xs
unfolding path_of
path_zero is_static xs = refl

-- all of a name is static, or nothing of it
module _ (is_static : Bool) (c : ℕ) where
  same_longer : (i : Identifier) (r : Reads ImportTree)
      → path_onto is_static [] (r >>= λ s. some_path s.1 s.0.all is_static (i ∷ s.0.name)) ≡ (r >>= λ s. some_path s.1 s.0.all is_static (i ∷ s.0.name))
  same_longer i (Ok s) = refl
  same_longer i (Err e) = refl

  same_dotted : (i : Identifier) (xs : List Terminal) (starred : Bool) → path_onto is_static [] (path_dotted is_static c i xs starred) ≡ path_dotted is_static c i xs starred
  same_dotted i xs true = refl
  same_dotted i xs false = same_longer i (path_of is_static c xs)

  same_behind : (i : Identifier × List Terminal) (dotted : Bool) → path_onto is_static [] (path_behind is_static c i dotted) ≡ path_behind is_static c i dotted
  same_behind i true = same_dotted i.0 (rest_of i.1) (starts star (rest_of i.1))
  same_behind i false = refl

  same_turn : (r : Reads Identifier)
      → path_onto is_static [] (r >>= λ i. path_behind is_static c i (starts dot i.1)) ≡ (r >>= λ i. path_behind is_static c i (starts dot i.1))
  same_turn (Ok i) = same_behind i (starts dot i.1)
  same_turn (Err e) = refl

path_same : (is_static : Bool) (n : ℕ) (xs : List Terminal) → path_onto is_static [] (path_of is_static n xs) ≡ path_of is_static n xs
path_same is_static zero xs = rw (path_zero is_static xs) refl
path_same is_static (suc c) xs = rw (path_at is_static c xs) (same_turn is_static c (ident_of xs))

pub path_begin : (is_static : Bool) (n : ℕ) (ids : List Identifier) (xs : List Terminal) → ids ≡ [] → path_onto is_static ids (path_of is_static (n - 0) xs) ≡ path_of is_static n xs
path_begin is_static n ids xs none = let e : n - 0 ≡ n = omega arith in rw (none, e) (path_same is_static n xs)

pub path_over : (is_static : Bool) (n i : ℕ) (ids : List Identifier) (xs : List Terminal) → n ≤ i → path_onto is_static ids (path_of is_static (n - i) xs) ≡ no_path xs
path_over is_static n i ids xs h = let e : n - i ≡ zero = omega arith in rw (e, path_zero is_static xs) refl

module _ (is_static : Bool) (n i : ℕ) (ids : List Identifier) (xs : List Terminal) (h : i < n) where
  path_now : path_of is_static (n - i) xs ≡ path_turn is_static (n - (i + 1)) xs
  path_now = let e : n - i ≡ suc (n - (i + 1)) = omega arith in ap (λ k. path_of is_static k xs) e ∙ path_at is_static (n - (i + 1)) xs

  pub path_refused : starts_ident xs ≡ false → path_onto is_static ids (path_of is_static (n - i) xs) ≡ no_path xs
  path_refused none = rw (path_now, no_ident xs none) refl

  module _ (j : Identifier) (ys : List Terminal) (is : xs ≡ Ident j ∷ ys) where
    read : ident_of xs ≡ Ok (j, ys)
    read = rw is refl

    pub path_done : starts dot ys ≡ false → path_onto is_static ids (path_of is_static (n - i) xs) ≡ some_path ys false is_static (ids ++ j ∷ [])
    path_done s = rw (path_now, read, s) refl

    module _ (ts : List Terminal) (s : starts dot ys ≡ true) (at : ts ≡ rest_of ys) where
      pub path_all : (zs : List Terminal) → starts star ts ≡ true → zs ≡ rest_of ts → path_onto is_static ids (path_of is_static (n - i) xs) ≡ some_path zs true is_static (ids ++ j ∷ [])
      path_all zs a at' = rw (path_now, read, s, ← at, a, ← at') refl

      pub path_next : starts star ts ≡ false → path_onto is_static (ids ++ j ∷ []) (path_of is_static (n - (i + 1)) ts) ≡ path_onto is_static ids (path_of is_static (n - i) xs)
      path_next a = path_push is_static ids j (path_of is_static (n - (i + 1)) ts) ∙ sym (rw (path_now, read, s, ← at, a) refl)
