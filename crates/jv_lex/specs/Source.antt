-- The tokens of a source, and its first bad place.
use Rattle.std.specs.Prelude.{◌≡◌, ℕ, ◌-◌, ◌<◌, Bool, true, false, List, [], ◌∷◌, length, map, Option, Some, None, ◌⊎◌}
use Rattle.std.specs.List.Sorted.{IsStrictlyIncreasing}
use Rattle.std.specs.Str.{IsUtf8, IsValidUpTo, IsCharBoundary, chars, encode_utf8_all}
use Rattle.jv_lex.specs.Gap.{behind_gap}
use Rattle.jv_lex.specs.Text.{IsFirstToken, MayFollow, begins_literal}
use Rattle.jv_lex.specs.declared.token.Token.{Token}
use Rattle.jv_lex.specs.declared.token.TokenKind.{TokenKind}
use Rattle.jv_lex.specs.declared.fault.LexFault.{LexFault}
use Rattle.jv_lex.specs.declared.fault.LexFault.TheVariants.{NotUtf8, BadToken, BadLiteral, OutOfMemory}

-- where what is left of a text of this many bytes begins
abbrev pub place_of : ℕ → List ℕ → ℕ
place_of total cs = total - length (encode_utf8_all cs)

-- Behind the token `before`, what is left of a text of `total` bytes has these tokens, with blanks and comments between them.
pub data Follows (total : ℕ) : Option TokenKind → List ℕ → List Token → Type 0 where
  nothing : {before : Option TokenKind} → Follows total before [] []
  gap : {before : Option TokenKind} {cs rest : List ℕ} {ts : List Token} → behind_gap cs ≡ Some rest → Follows total before rest ts → Follows total before cs ts
  token : {before : Option TokenKind} {cs w rest : List ℕ} {k : TokenKind} {ts : List Token} → IsFirstToken cs w rest k → MayFollow before k
      → Follows total (Some k) rest ts → Follows total before cs (record { kind = k; start = place_of total cs; end = place_of total rest } ∷ ts)

-- no token that may stand behind `before` is the first of the text
abbrev pub HasNoNext : Option TokenKind → List ℕ → Type 0
HasNoNext before cs = (w rest : List ℕ) (k : TokenKind) → IsFirstToken cs w rest k → MayFollow before k → ⊥

-- The text is not empty, and begins neither with a whole gap nor with a token that may stand behind `before`.
pub record IsBad (before : Option TokenKind) (cs : List ℕ) : Type 0 where
  pub some : 0 < length cs
  pub no_gap : behind_gap cs ≡ None
  pub no_token : HasNoNext before cs

-- Behind the token `before`, the first bad place in what is left of a text of `total` bytes is `at`, and whether a literal begins there is `literal`.
pub data Breaks (total : ℕ) (literal : Bool) (at : ℕ) : Option TokenKind → List ℕ → Type 0 where
  here : {before : Option TokenKind} {cs : List ℕ} → IsBad before cs → begins_literal cs ≡ literal → place_of total cs ≡ at → Breaks total literal at before cs
  behind_gaps : {before : Option TokenKind} {cs rest : List ℕ} → behind_gap cs ≡ Some rest → Breaks total literal at before rest → Breaks total literal at before cs
  behind_token : {before : Option TokenKind} {cs w rest : List ℕ} {k : TokenKind} → IsFirstToken cs w rest k → MayFollow before k
      → Breaks total literal at (Some k) rest → Breaks total literal at before cs

-- the bytes are UTF-8, and these are their tokens
pub record Tokenizes (bytes : List ℕ) (ts : List Token) : Type 0 where
  pub utf8 : IsUtf8 bytes
  pub tokens : Follows (length bytes) None (chars bytes) ts

-- the bytes are UTF-8, and their first bad place is one at which a literal begins, or one at which none begins
pub record HasBad (literal : Bool) (bytes : List ℕ) (at : ℕ) : Type 0 where
  pub utf8 : IsUtf8 bytes
  pub first : Breaks (length bytes) literal at None (chars bytes)

-- the fault at a bad place, at which a literal begins or none
abbrev pub fault_at : ℕ → Bool → LexFault
fault_at at true = BadLiteral at
fault_at at false = BadToken at

-- why the bytes have no tokens, other than for want of memory
abbrev pub IsFaultOf : List ℕ → LexFault → Type 0
IsFaultOf bytes (NotUtf8 at) = (IsUtf8 bytes → ⊥) × IsValidUpTo bytes at
IsFaultOf bytes (BadToken at) = HasBad false bytes at
IsFaultOf bytes (BadLiteral at) = HasBad true bytes at
IsFaultOf bytes OutOfMemory = Unit {0}

-- the token takes some bytes, and begins and ends at characters
pub record IsPlaced (bytes : List ℕ) (t : Token) : Type 0 where
  pub some : t.start < t.end
  pub begins : IsCharBoundary bytes t.start
  pub ends : IsCharBoundary bytes t.end

-- a source has at most one list of tokens
abbrev pub TokensAreOne : Type 0
TokensAreOne = (bytes : List ℕ) (ts us : List Token) → Tokenizes bytes ts → Tokenizes bytes us → ts ≡ us

-- a source has at most one first bad place, of one kind
abbrev pub FaultsAreOne : Type 0
FaultsAreOne = (bytes : List ℕ) (l m : Bool) (at bt : ℕ) → HasBad l bytes at → HasBad m bytes bt → (l ≡ m) × (at ≡ bt)

-- a source that has tokens has no bad place
abbrev pub TokensExcludeFaults : Type 0
TokensExcludeFaults = (bytes : List ℕ) (ts : List Token) (l : Bool) (at : ℕ) → Tokenizes bytes ts → HasBad l bytes at → ⊥

-- a source that is UTF-8 has a list of tokens, or a first bad place of some kind
abbrev pub TextsHaveTokensOrAFault : Type 0
TextsHaveTokensOrAFault = (bytes : List ℕ) → IsUtf8 bytes → ((ts : List Token) × Tokenizes bytes ts) ⊎ ((literal : Bool) × (at : ℕ) × HasBad literal bytes at)

-- the tokens of a source rise by place: each starts behind the start of the one before
abbrev pub TokensRiseByPlace : Type 0
TokensRiseByPlace = (bytes : List ℕ) (ts : List Token) → Tokenizes bytes ts → IsStrictlyIncreasing (map (λ t. t.start) ts)
