use Rattle.std.proofs.Common.{inl, inr, length, None, arith}
use Rattle.std.specs.Str.{chars}
use Rattle.jv_lex.proofs.Texts.{tokens_or_break}
use Rattle.jv_lex.proofs.laws.texts_have_tokens_or_a_fault.Goals as goal

pub returns : goal.returns
returns c = λ bytes u. elim (tokens_or_break (length (chars bytes)) (length bytes) None (chars bytes) (omega arith)) [ inl t ↦ inl (t.0, record { utf8 = u; tokens = t.1 }) | inr b ↦ inr (b.0, b.1, record { utf8 = u; first = b.2 }) ]
