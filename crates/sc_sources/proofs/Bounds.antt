-- How many tokens, names and trees sources leave, and that the identifiers of their trees are names.
use Rattle.std.proofs.Common.{◌≡◌, ℕ, zero, suc, ◌+◌, ◌≤◌, Bool, true, false, cond, ◌||◌, List, [], ◌∷◌, ◌++◌, length, Option, Some, None, refl, sym, ap, ◌∙◌, subst, arith, true≢false}
use Rattle.std.specs.List.{All, Contains, list_any, sum_by}
use Rattle.std.specs.Str.{bytes_eq, chars, encode_utf8_all}
use Rattle.std.proofs.lemmas.List.{length-map}
use Rattle.std.proofs.lemmas.List.Elements.{All-nil, All-cons}
use Rattle.std.proofs.lemmas.List.Sums.{sum_by-cons}
use Rattle.std.proofs.lemmas.Slice.Eq.{bytes_eq-Decides}
use Rattle.std.proofs.lemmas.Str.{length-le-encodes, encodes-chars}
use Rattle.sg_base.proofs.Finite.{nothing_in}
use Rattle.jv_lex.specs.Source.{Follows, nothing, gap, token, Tokenizes}
use Rattle.jv_lex.specs.declared.token.Token.{Token}
use Rattle.jv_lex.specs.declared.token.TokenKind.{TokenKind}
use Rattle.jv_lex.proofs.Sources.{gap_shorter, token_shorter}
use Rattle.jv_tree.specs.declared.name.Ident.{Ident}
use Rattle.jv_tree.specs.Names.{with_text}
use Rattle.jv_tree.specs.StmtTree.{VarTree}
use Rattle.jv_tree.specs.DeclTree.{TypeDeclTree, type_decl, nested, field, method, ctor, MemberTrees, no_members, members, UnitTree}
use Rattle.jv_tree.specs.Identifiers.{idents_vars, idents_decl, idents_members, idents_decls, idents_package, idents_unit}
use Rattle.jv_tree.specs.Numbered.{IsNumbered}
use Rattle.jv_tree.proofs.Numbers.{unit_stays}
use Rattle.jv_layout.specs.Folder.{numbers_in}
use Rattle.jv_layout.specs.Sizes.{decl_names, body_names, unit_names, names_declared}
use Rattle.jv_parse.specs.Naming.{text_of, is_identifier, names_with, terminal_of, IsKnown, IsNamed}
use Rattle.jv_parse.specs.Parse.{terminals_of}
use Rattle.jv_parse.proofs.Numbers.{names_after, names_one, names_append, names_grow, known_kept, numbered_terminals}
use Rattle.jv_parse.proofs.DeclIdentifiers.{few_in_file}
use Rattle.jv_parse.proofs.DeclNumbers.{numbered_file}
use Rattle.sc_sources.specs.Sources.{Outcome, tree, fault, Reads, not_utf8, bad_literal, bad_token, too_deep, no_tree, parsed, ReadsAll, nothing as no_source, next}
use Rattle.sc_sources.specs.Reading.{trees_of}

-- ---- tokens

follows_few : {total : ℕ} {before : Option TokenKind} {cs : List ℕ} {ts : List Token} → Follows total before cs ts → length ts ≤ length cs
follows_few nothing = omega arith
follows_few (gap {cs} {rest} h d) = omega (arith, gap_shorter cs rest h, follows_few d)
follows_few (token {cs} {w} {rest} {k} t m d) = omega (arith, token_shorter cs w rest k t, follows_few d)

-- each token takes a byte at least
pub tokens_few : (bytes : List ℕ) (ts : List Token) → Tokenizes bytes ts → length ts ≤ length bytes
tokens_few bytes ts t =
    let same : length (encode_utf8_all (chars bytes)) ≡ length bytes = ap length (encodes-chars bytes t.utf8) in
    omega (arith, follows_few t.tokens, length-le-encodes (chars bytes), same)

-- ---- names

-- the names with those of one token, and then with those behind it
names_step : (source : List ℕ) (old : List (List ℕ)) (x : Token) (xs : List Token) → names_with source old (x ∷ xs) ≡ names_with source (names_after source old x) xs
names_step source old x xs = names_append source old (x ∷ []) xs ∙ ap (λ ns. names_with source ns xs) (names_one source old x)

-- there are at most as many new names as tokens
pub names_few : (source : List ℕ) (old : List (List ℕ)) (ts : List Token) → length (names_with source old ts) ≤ length old + length ts
names_few source old [] = omega arith
names_few source old (x ∷ xs) =
    let all : length (names_with source old (x ∷ xs)) ≡ length (names_with source (names_after source old x) xs) = ap length (names_step source old x xs) in
    omega (arith, all, names_grow source old (names_after source old x) x (sym (names_one source old x)), names_few source (names_after source old x) xs)

after_known : (source : List ℕ) (old : List (List ℕ)) (x : Token) (t : List ℕ) → IsKnown old t → IsKnown (names_after source old x) t
after_known source old x t h = by (is_identifier x.kind)
  where
    by : (b : Bool) → IsKnown (cond b (with_text old (text_of source x)) old) t
    by true = known_kept old (text_of source x) t h
    by false = h

-- a known text stays known
known_stays : (source : List ℕ) (old : List (List ℕ)) (ts : List Token) (t : List ℕ) → IsKnown old t → IsKnown (names_with source old ts) t
known_stays source old [] t h = h
known_stays source old (x ∷ xs) t h =
    subst (λ (ns : List (List ℕ)). IsKnown ns t) (sym (names_step source old x xs)) (known_stays source (names_after source old x) xs t (after_known source old x t h))

among_known : (t : List ℕ) (names : List (List ℕ)) → list_any (bytes_eq t) names ≡ true → IsKnown names t
among_known t [] h = absurd (true≢false (sym h))
among_known t (y ∷ ys) h = by (bytes_eq t y) refl h (λ e. among_known t ys e)
  where
    by : (b : Bool) → bytes_eq t y ≡ b → b || list_any (bytes_eq t) ys ≡ true → (list_any (bytes_eq t) ys ≡ true → IsKnown ys t) → IsKnown (y ∷ ys) t
    by true e h behind = (0, ap Some (sym ((bytes_eq-Decides t y).0 e)))
    by false e h behind = let r = behind h in (suc r.0, r.1)

last_known : (t : List ℕ) (names : List (List ℕ)) → IsKnown (names ++ t ∷ []) t
last_known t [] = (0, refl)
last_known t (y ∷ ys) = let r = last_known t ys in (suc r.0, r.1)

-- a text that was added is known
text_known : (t : List ℕ) (names : List (List ℕ)) → IsKnown (with_text names t) t
text_known t names = by (list_any (bytes_eq t) names) refl
  where
    by : (b : Bool) → list_any (bytes_eq t) names ≡ b → IsKnown (cond b names (names ++ t ∷ [])) t
    by true e = among_known t names e
    by false e = last_known t names

after_named : (source : List ℕ) (old : List (List ℕ)) (x : Token) → IsNamed source (names_after source old x) x
after_named source old x e =
    subst (λ (b : Bool). IsKnown (cond b (with_text old (text_of source x)) old) (text_of source x)) (sym e) (text_known (text_of source x) old)

-- all identifiers among tokens are named
all_named : (source : List ℕ) (old : List (List ℕ)) (ts : List Token) → All (IsNamed source (names_with source old ts)) ts
all_named source old [] = All-nil (IsNamed source old)
all_named source old (x ∷ xs) =
    let after : List (List ℕ) = names_after source old x in
    subst (λ (ns : List (List ℕ)). All (IsNamed source ns) (x ∷ xs)) (sym (names_step source old x xs))
    (All-cons (IsNamed source (names_with source after xs)) x xs (λ e. known_stays source after xs (text_of source x) (after_named source old x e)) (all_named source after xs))

more_after : (source : List ℕ) (old : List (List ℕ)) (x : Token) → length old ≤ length (names_after source old x)
more_after source old x = by (is_identifier x.kind) (list_any (bytes_eq (text_of source x)) old)
  where
    longer : (ns : List (List ℕ)) → length ns ≤ length (ns ++ text_of source x ∷ [])
    longer [] = omega arith
    longer (n ∷ ns) = omega (arith, longer ns)

    by : (b c : Bool) → length old ≤ length (cond b (cond c old (old ++ text_of source x ∷ [])) old)
    by true true = omega arith
    by true false = longer old
    by false c = omega arith

-- no name is lost
pub names_more : (source : List ℕ) (old : List (List ℕ)) (ts : List Token) → length old ≤ length (names_with source old ts)
names_more source old [] = omega arith
names_more source old (x ∷ xs) =
    let all : length (names_with source old (x ∷ xs)) ≡ length (names_with source (names_after source old x) xs) = ap length (names_step source old x xs) in
    omega (arith, all, more_after source old x, names_more source (names_after source old x) xs)

-- ---- what a tree declares

vars_few : (vs : List VarTree) → length vs ≤ idents_vars vs
vars_few [] = omega arith
vars_few (v ∷ vs) = omega (arith, vars_few vs)

mutual
  decl_few : (d : TypeDeclTree) → decl_names d ≤ idents_decl d
  decl_few (type_decl n ms i es is xs) = omega (arith, body_few xs)

  body_few : (xs : MemberTrees) → body_names xs ≤ idents_members xs
  body_few no_members = omega arith
  body_few (members (nested d) xs) = omega (arith, decl_few d, body_few xs)
  body_few (members (field ms t vs) xs) = omega (arith, vars_few vs, body_few xs)
  body_few (members (method m) xs) = omega (arith, body_few xs)
  body_few (members (ctor c) xs) = omega (arith, body_few xs)

decls_few : (ds : List TypeDeclTree) → sum_by decl_names ds ≤ idents_decls ds
decls_few [] = omega arith
decls_few (d ∷ ds) = omega (arith, sum_by-cons decl_names d ds, decl_few d, decls_few ds)

package_few : (p : Option (List Ident)) → length (numbers_in p) ≤ idents_package p
package_few None = omega arith
package_few (Some ids) = omega (arith, length-map ids (λ i. i.id.0))

-- a file declares no more names than it has identifiers
unit_few : (u : UnitTree) → unit_names u ≤ idents_unit u
unit_few u = omega (arith, package_few u.package_name, decls_few u.types)

-- ---- one source

-- a tree declares at most so many names, and its identifiers have numbers of so many names
abbrev IsWithin : ℕ → ℕ → Outcome → Type 0
IsWithin most n (tree u) = (unit_names u ≤ most) × IsNumbered n u
IsWithin most n (fault at code) = Unit {0}

-- what a source leaves: names are added, at most as many as it has bytes, and its tree is within them
record Bounded (bytes : List ℕ) (old new : List (List ℕ)) (x : Outcome) : Type 0 where
  more : length old ≤ length new
  few : length new ≤ length old + length bytes
  within : IsWithin (length bytes) (length new) x

named_few : (bytes : List ℕ) (old : List (List ℕ)) (ts : List Token) → Tokenizes bytes ts → length (names_with bytes old ts) ≤ length old + length bytes
named_few bytes old ts t = omega (arith, names_few bytes old ts, tokens_few bytes ts t)

bounded : {bytes : List ℕ} {old new : List (List ℕ)} {x : Outcome} → Reads bytes old new x → Bounded bytes old new x
bounded (not_utf8 n v) = record { more = omega arith; few = omega arith; within = tt }
bounded (bad_literal h) = record { more = omega arith; few = omega arith; within = tt }
bounded (bad_token h) = record { more = omega arith; few = omega arith; within = tt }
bounded {bytes} {old} (too_deep {ts} t d s) = record { more = names_more bytes old ts; few = named_few bytes old ts t; within = tt }
bounded {bytes} {old} (no_tree {ts} t n r) = record { more = names_more bytes old ts; few = named_few bytes old ts t; within = tt }
bounded {bytes} {old} (parsed {ts} {u} t is) =
    let names : List (List ℕ) = names_with bytes old ts in
    let terminals : length (terminals_of bytes names ts) ≡ length ts = length-map ts (terminal_of bytes names) in
    record {
      more = names_more bytes old ts;
      few = named_few bytes old ts t;
      within = (
        omega (arith, unit_few u, few_in_file (terminals_of bytes names ts) u is.derives, terminals, tokens_few bytes ts t),
        numbered_file (length names) (terminals_of bytes names ts) u is.derives (numbered_terminals bytes names ts (all_named bytes old ts)),
      );
    }

-- ---- all sources

-- what sources leave: how many names, outcomes and trees, what the trees declare, and that their identifiers are names
pub record Totals (old : List (List ℕ)) (sources : List (List ℕ)) (new : List (List ℕ)) (xs : List Outcome) : Type 0 where
  pub more : length old ≤ length new
  pub few : length new ≤ length old + sum_by length sources
  pub declared : names_declared (trees_of xs) ≤ sum_by length sources
  pub trees : length (trees_of xs) ≤ length sources
  pub numbered : (u : UnitTree) → Contains (trees_of xs) u → IsNumbered (length new) u

either : {X : Type 0} (x : X) (xs : List X) (y : X) (P : X → Type 0) → P x → ((y : X) → Contains xs y → P y) → Contains (x ∷ xs) y → P y
either x xs y P here behind (zero, l, e) = subst P e here
either x xs y P here behind (suc k, l, e) = behind y (k, omega (arith, l), e)

one_more : (bytes : List ℕ) (sources old middle new : List (List ℕ)) (x : Outcome) (xs : List Outcome) → Bounded bytes old middle x → Totals middle sources new xs → Totals old (bytes ∷ sources) new (x ∷ xs)
one_more bytes sources old middle new (fault at code) xs o l = record {
  more = omega (arith, o.more, l.more);
  few = omega (arith, o.few, l.few, sum_by-cons length bytes sources);
  declared = omega (arith, l.declared, sum_by-cons length bytes sources);
  trees = omega (arith, l.trees);
  numbered = l.numbered;
}
one_more bytes sources old middle new (tree u) xs o l = record {
  more = omega (arith, o.more, l.more);
  few = omega (arith, o.few, l.few, sum_by-cons length bytes sources);
  declared = omega (arith, o.within.0, l.declared, sum_by-cons length bytes sources, sum_by-cons unit_names u (trees_of xs));
  trees = omega (arith, l.trees);
  numbered = λ v c. either u (trees_of xs) v (IsNumbered (length new)) (unit_stays (length middle) (length new) l.more u o.within.1) l.numbered c;
}

pub totals : {old sources new : List (List ℕ)} {xs : List Outcome} → ReadsAll old sources new xs → Totals old sources new xs
totals no_source = record { more = omega arith; few = omega arith; declared = omega arith; trees = omega arith; numbered = λ u c. absurd (nothing_in u c) }
totals (next {bytes} {sources} {old} {middle} {new} {x} {xs} r rs) = one_more bytes sources old middle new x xs (bounded r) (totals rs)
