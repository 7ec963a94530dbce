-- Identifiers and keywords (JLS 3.8, 3.9).
use Rattle.std.specs.Prelude.{ℕ, Bool, false, ◌&&◌, List, [], ◌∷◌, Option, Some, None, position, codes}
use Rattle.std.specs.List.{list_all}
use Rattle.std.specs.Str.{bytes_eq}
use Rattle.jv_lex.specs.Character.{begins_word, continues_word}
use Rattle.jv_lex.specs.declared.token.TokenKind.{TokenKind}
use Rattle.jv_lex.specs.declared.token.TokenKind.TheVariants.{Ident, Keyword}

-- a whole text is an identifier or a keyword by its characters
abbrev pub is_word : List ℕ → Bool
is_word [] = false
is_word (c ∷ cs) = begins_word c && list_all continues_word cs

-- the keywords in the order of their numbers
abbrev pub keywords : List (List ℕ)
keywords = codes "abstract" ∷ codes "assert" ∷ codes "boolean" ∷ codes "break" ∷ codes "byte" ∷ codes "case" ∷ codes "catch" ∷ codes "char"
    ∷ codes "class" ∷ codes "const" ∷ codes "continue" ∷ codes "default" ∷ codes "do" ∷ codes "double" ∷ codes "else" ∷ codes "enum"
    ∷ codes "extends" ∷ codes "final" ∷ codes "finally" ∷ codes "float" ∷ codes "for" ∷ codes "goto" ∷ codes "if" ∷ codes "implements"
    ∷ codes "import" ∷ codes "instanceof" ∷ codes "int" ∷ codes "interface" ∷ codes "long" ∷ codes "native" ∷ codes "new" ∷ codes "package"
    ∷ codes "private" ∷ codes "protected" ∷ codes "public" ∷ codes "return" ∷ codes "short" ∷ codes "static" ∷ codes "strictfp" ∷ codes "super"
    ∷ codes "switch" ∷ codes "synchronized" ∷ codes "this" ∷ codes "throw" ∷ codes "throws" ∷ codes "transient" ∷ codes "try" ∷ codes "void"
    ∷ codes "volatile" ∷ codes "while" ∷ codes "true" ∷ codes "false" ∷ codes "null" ∷ []

-- the kind of a word by its place among the keywords, where it has one
abbrev pub kind_at : Option ℕ → TokenKind
kind_at None = Ident
kind_at (Some n) = Keyword n

-- the kind of a word: a keyword where it is one of those texts, else an identifier
abbrev pub word_kind : List ℕ → TokenKind
word_kind w = kind_at (position (bytes_eq w) keywords)
