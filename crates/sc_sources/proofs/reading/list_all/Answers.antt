use Rattle.std.proofs.Common.{length, ap, ◌∙◌}
use Rattle.sc_sources.proofs.Threads.{small_sources, lexed_count}
use Rattle.sc_sources.proofs.reading.list_all.Goals as goal

pub lex_all-requires-after_bounds : goal.lex_all-requires-after_bounds
lex_all-requires-after_bounds g c κs within = small_sources c.args.files.now c.requires.within.each

pub name_all-requires-clause-count : goal.name_all-requires-clause-count
name_all-requires-clause-count g c = ap length c.deref.ensures.value ∙ lexed_count c.args.files.now c.in_ok-lexed.lexed.items c.in_ok-lexed.ensures
