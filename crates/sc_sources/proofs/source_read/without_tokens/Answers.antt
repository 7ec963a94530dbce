use Rattle.std.proofs.Common.{subst}
use Rattle.jv_lex.specs.Source.{IsFaultOf}
use Rattle.sc_sources.specs.Sources.{not_utf8, bad_literal, bad_token}
use Rattle.sc_sources.proofs.source_read.without_tokens.Goals as goal

pub returns-in-NotUtf8-clause-reads : goal.returns-in-NotUtf8-clause-reads
returns-in-NotUtf8-clause-reads c = λ bytes names h. let f : _ = subst (IsFaultOf bytes) c.in-NotUtf8.is h in not_utf8 f.0 f.1

pub returns-in-BadLiteral-clause-reads : goal.returns-in-BadLiteral-clause-reads
returns-in-BadLiteral-clause-reads c = λ bytes names h. bad_literal (subst (IsFaultOf bytes) c.in-BadLiteral.is h)

pub returns-in-BadToken-clause-reads : goal.returns-in-BadToken-clause-reads
returns-in-BadToken-clause-reads c = λ bytes names h. bad_token (subst (IsFaultOf bytes) c.in-BadToken.is h)
