use Rattle.std.proofs.Common.{◌≡◌, length}
use Rattle.std.specs.Str.{chars, IsUtf8}
use Rattle.jv_lex.specs.Number.{behind_digits}
use Rattle.jv_lex.proofs.Digits.{ReadSoFar}
use Rattle.jv_lex.proofs.numbers.read_digits.Given as goal

abbrev pub invariant-loop-ch : goal.invariant-loop-ch
invariant-loop-ch l = record {
  utf8 : IsUtf8 l.rest;
  read : ReadSoFar l.radix l.value (chars l.rest) (chars l.text);
  behind : behind_digits l.radix (chars l.rest) ≡ behind_digits l.radix (chars l.text);
}

abbrev pub decreases-loop-ch : goal.decreases-loop-ch
decreases-loop-ch l = length l.rest
