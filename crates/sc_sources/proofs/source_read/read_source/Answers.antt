use Rattle.std.proofs.Common.{length, ap, arith}
use Rattle.sc_sources.proofs.Bounds.{tokens_few}
use Rattle.sc_sources.proofs.source_read.read_source.Goals as goal

pub read_tokens-requires-clause-room : goal.read_tokens-requires-clause-room
read_tokens-requires-clause-room c =
    omega (arith, tokens_few c.args.source.now c.in-Ok.tokens.items c.in-Ok.ensures.tokens, ap length c.deref.ensures.value, c.requires.room)
