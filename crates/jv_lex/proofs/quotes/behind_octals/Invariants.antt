use Rattle.std.proofs.Common.{◌≡◌, ◌-◌}
use Rattle.std.specs.Str.{chars, IsUtf8}
use Rattle.jv_lex.specs.Quoted.{behind_octals}
use Rattle.jv_lex.proofs.quotes.behind_octals.Given as goal

abbrev pub invariant-loop-i : goal.invariant-loop-i
invariant-loop-i l = record { utf8 : IsUtf8 l.rest; same : behind_octals (l.most - l._i) (chars l.rest) ≡ behind_octals l.most (chars l.text) }
