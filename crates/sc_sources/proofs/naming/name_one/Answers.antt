use Rattle.std.proofs.Common.{length, ap, subst, arith}
use Rattle.sc_sources.specs.Threads.{IsLexed}
use Rattle.sc_sources.proofs.Bounds.{tokens_few}
use Rattle.sc_sources.proofs.naming.name_one.Goals as goal

pub name_text-requires-clause-few : goal.name_text-requires-clause-few
name_text-requires-clause-few c =
    omega (arith, tokens_few c.args.source.now c.in-Tokens.tokens.items (subst (IsLexed c.args.source.now) c.in-Tokens.is c.requires.lexed).0, ap length c.deref.ensures.value, c.requires.size)

pub name_text-requires-clause-room : goal.name_text-requires-clause-room
name_text-requires-clause-room c =
    omega (arith, tokens_few c.args.source.now c.in-Tokens.tokens.items (subst (IsLexed c.args.source.now) c.in-Tokens.is c.requires.lexed).0, ap length c.deref.ensures.value, c.requires.room)
