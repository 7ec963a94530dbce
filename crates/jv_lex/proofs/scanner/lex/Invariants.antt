use Rattle.std.proofs.Common.{◌≡◌, ◌≤◌, ℕ, Bool, List, ◌++◌, length, None}
use Rattle.std.specs.Str.{chars, IsUtf8}
use Rattle.jv_lex.specs.declared.token.Token.{Token}
use Rattle.jv_lex.specs.Source.{Follows, Breaks}
use Rattle.jv_lex.proofs.scanner.lex.Given as goal

abbrev pub invariant-loop-text : goal.invariant-loop-text
invariant-loop-text l = record {
  whole : l.text ≡ l.source;
  utf8 : IsUtf8 l.rest;
  within : length l.rest ≤ length l.text;
  tokens : (us : List Token) → Follows (length l.text) l.before (chars l.rest) us → Follows (length l.text) None (chars l.text) (l.tokens.items ++ us);
  breaks : (literal : Bool) (at : ℕ) → Breaks (length l.text) literal at l.before (chars l.rest) → Breaks (length l.text) literal at None (chars l.text);
}

abbrev pub decreases-loop-text : goal.decreases-loop-text
decreases-loop-text l = length (chars l.rest)
