-- What the sources of a folder come to: trees, or faults.
use Rattle.std.specs.Prelude.{◌≡◌, ℕ, suc, true, false, List, [], ◌∷◌, codes, length, map, Option, None, Some, slice_get}
use Rattle.std.specs.Str.{IsUtf8, IsValidUpTo}
use Rattle.jv_lex.specs.declared.token.Token.{Token}
use Rattle.jv_lex.specs.Source.{HasBad, Tokenizes}
use Rattle.jv_diag.specs.Plain.{DiagOf, diagnostic}
use Rattle.jv_tree.specs.DeclTree.{UnitTree}
use Rattle.jv_grammar.specs.Load.{IsFirstDeep}
use Rattle.jv_grammar.specs.RefusedAt.{IsRefusedAt}
use Rattle.jv_parse.specs.Naming.{names_with}
use Rattle.jv_parse.specs.Parse.{HasNoTree, IsTreeOf, terminals_of}

-- what a source comes to: its tree, or the place of its fault and the fault's code
pub data Outcome : Type 0 where
  tree : UnitTree → Outcome
  fault : ℕ → ℕ → Outcome

-- where a token starts, or where there is none the end of the source
abbrev pub start_of : List ℕ → Option Token → ℕ
start_of bytes (Some t) = t.start
start_of bytes None = length bytes

-- A source with the names so far comes to this, and leaves these names: the old ones, and behind them the texts of its identifiers. Its fault is the first
-- of these: it is not UTF-8; its first bad place; the first token behind which it is nested too deep; and where no tree derives from its tokens, the first one
-- with which they do not begin a file, or its end, where all of them begin one.
pub data Reads (bytes : List ℕ) (old : List (List ℕ)) : List (List ℕ) → Outcome → Type 0 where
  not_utf8 : {at : ℕ} → (IsUtf8 bytes → ⊥) → IsValidUpTo bytes at → Reads bytes old old (fault at 1)
  bad_literal : {at : ℕ} → HasBad true bytes at → Reads bytes old old (fault at 3)
  bad_token : {at : ℕ} → HasBad false bytes at → Reads bytes old old (fault at 5)
  too_deep : {ts : List Token} {i : ℕ} {t : Token} → Tokenizes bytes ts → IsFirstDeep (terminals_of bytes (names_with bytes old ts) ts) i
      → slice_get ts i ≡ Some t → Reads bytes old (names_with bytes old ts) (fault t.start 4)
  no_tree : {ts : List Token} {i : ℕ} → Tokenizes bytes ts → HasNoTree (terminals_of bytes (names_with bytes old ts) ts)
      → IsRefusedAt (terminals_of bytes (names_with bytes old ts) ts) i → Reads bytes old (names_with bytes old ts) (fault (start_of bytes (slice_get ts i)) 2)
  parsed : {ts : List Token} {u : UnitTree} → Tokenizes bytes ts → IsTreeOf (terminals_of bytes (names_with bytes old ts) ts) u
      → Reads bytes old (names_with bytes old ts) (tree u)

-- sources one after another come to these
pub data ReadsAll : List (List ℕ) → List (List ℕ) → List (List ℕ) → List Outcome → Type 0 where
  nothing : {names : List (List ℕ)} → ReadsAll names [] names []
  next : {bytes : List ℕ} {sources old middle new : List (List ℕ)} {x : Outcome} {xs : List Outcome}
      → Reads bytes old middle x → ReadsAll middle sources new xs → ReadsAll old (bytes ∷ sources) new (x ∷ xs)

-- the sources of the prelude, which come before those of each folder (JLS 4.3.2, 4.3.3)
abbrev pub object_source : List ℕ
object_source =
    codes "package java.lang; public class Object { public boolean equals(Object o) { return true; } public int hashCode() { return 0; } public String toString() { return \"\"; } }\n"

-- the second source of the prelude, that of `java.lang.String` (JLS 4.3.3)
abbrev pub string_source : List ℕ
string_source =
    codes "package java.lang; public final class String { public int length() { return 0; } public char charAt(int i) { return ' '; } public boolean isEmpty() { return true; } public String concat(String s) { return s; } }\n"

-- the sources of a folder behind those of the prelude, with the names that all of them leave
abbrev pub ReadsFolder : List (List ℕ) → List (List ℕ) → List Outcome → Type 0
ReadsFolder sources names xs = ReadsAll [] (object_source ∷ string_source ∷ sources) names xs

-- all came to trees
abbrev pub AreTrees : List Outcome → List UnitTree → Type 0
AreTrees xs us = xs ≡ map tree us

-- the diagnostics of the faults, of files with numbers from this one on
abbrev pub faults_from : ℕ → List Outcome → List DiagOf
faults_from file [] = []
faults_from file (tree u ∷ xs) = faults_from (suc file) xs
faults_from file (fault at code ∷ xs) = diagnostic file at code [] ∷ faults_from (suc file) xs
