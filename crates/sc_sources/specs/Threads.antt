-- Sources that several threads read: the tokens of each, then its terminals, with the names of those before it, and then what it comes to.
use Rattle.std.specs.Prelude.{◌≡◌, ℕ, ◌≤◌, List, [], ◌∷◌, map, length, Option, Some, None}
use Rattle.std.specs.List.{All}
use Rattle.jv_lex.specs.declared.token.Token.{Token}
use Rattle.jv_lex.specs.Source.{IsFaultOf, IsPlaced, Tokenizes}
use Rattle.jv_tree.specs.DeclTree.{tree_of}
use Rattle.jv_grammar.specs.declared.terminal.Terminal.{Terminal}
use Rattle.jv_grammar.specs.declared.terminal.Terminal.TheVariants.{Ident, Keyword, Literal, Minimum, MinimumLong, Punct}
use Rattle.jv_parse.specs.Naming.{names_with}
use Rattle.jv_parse.specs.Parse.{terminals_of}
use Rattle.sc_io.specs.declared.source_file.SourceFile.{SourceFile}
use Rattle.sc_sources.specs.declared.lexing.Lexed.{Lexed}
use Rattle.sc_sources.specs.declared.lexing.Lexed.TheVariants.{Tokens, NoTokens}
use Rattle.sc_sources.specs.declared.naming.Named.{Named}
use Rattle.sc_sources.specs.declared.naming.Named.TheVariants.{Listed, NotListed}
use Rattle.sc_sources.specs.declared.growing.Grown.{Grown}
use Rattle.sc_sources.specs.Sources.{Outcome, Reads, faults_from}
use Rattle.sc_sources.specs.Reading.{trees_of}

-- each file has at most 1 MiB
abbrev pub AreSmall : List SourceFile → Type 0
AreSmall files = All (λ f. length f.bytes.items ≤ 1048576) files

-- the bytes of files
abbrev pub bytes_of : List SourceFile → List (List ℕ)
bytes_of files = map (λ f. f.bytes.items) files

-- the tokens of a source, or why it has none
abbrev pub IsLexed : List ℕ → Lexed → Type 0
IsLexed bytes (Tokens ts) = Tokenizes bytes ts.items × All (IsPlaced bytes) ts.items
IsLexed bytes (NoTokens fault) = IsFaultOf bytes fault

-- the tokens of each file
abbrev pub AreLexed : List SourceFile → List Lexed → Type 0
AreLexed [] [] = Unit {0}
AreLexed [] (x ∷ xs) = ⊥
AreLexed (f ∷ fs) [] = ⊥
AreLexed (f ∷ fs) (x ∷ xs) = IsLexed f.bytes.items x × AreLexed fs xs

-- the terminals of a source with the names before it, which leaves the names behind it, or why it has none
abbrev pub IsNamed : List ℕ → List (List ℕ) → List (List ℕ) → Named → Type 0
IsNamed bytes old new (Listed ts) =
    (tokens : List Token) × Tokenizes bytes tokens × (new ≡ names_with bytes old tokens) × (ts.list.items ≡ terminals_of bytes new tokens) × (ts.end ≡ length bytes)
IsNamed bytes old new (NotListed fault) = (new ≡ old) × IsFaultOf bytes fault

-- the terminals of sources, each with the names of those before it
pub data AreNamed : List (List ℕ) → List (List ℕ) → List (List ℕ) → List Named → Type 0 where
  no_more : {names : List (List ℕ)} → AreNamed names [] names []
  one_more : {bytes : List ℕ} {sources old middle new : List (List ℕ)} {x : Named} {xs : List Named}
      → IsNamed bytes old middle x → AreNamed middle sources new xs → AreNamed old (bytes ∷ sources) new (x ∷ xs)

-- the place of a terminal
abbrev pub place_of : Terminal → ℕ
place_of (Ident i) = i.at
place_of (Keyword p k) = p
place_of (Literal p l) = p
place_of (Minimum p) = p
place_of (MinimumLong p) = p
place_of (Punct p o) = p

-- where a terminal stands, or where there is none the end
abbrev pub place_in : ℕ → Option Terminal → ℕ
place_in end (Some t) = place_of t
place_in end None = end

-- what the source of these terminals comes to, whatever it is
abbrev pub ComesTo : Named → Outcome → Type 0
ComesTo x o = (bytes : List ℕ) (old new : List (List ℕ)) → IsNamed bytes old new x → Reads bytes old new o

-- what the source of each of these comes to
abbrev pub ComeTo : List Named → List Outcome → Type 0
ComeTo [] [] = Unit {0}
ComeTo [] (o ∷ os) = ⊥
ComeTo (x ∷ xs) [] = ⊥
ComeTo (x ∷ xs) (o ∷ os) = ComesTo x o × ComeTo xs os

-- the trees and the faults to which these come, the first of which has this number
pub record IsGrown (first : ℕ) (items : List Named) (g : Grown) : Type 0 where
  pub outcomes : List Outcome
  pub come : ComeTo items outcomes
  pub trees : map tree_of g.units.items ≡ trees_of outcomes
  pub faults : g.faults ≡ faults_from first outcomes
