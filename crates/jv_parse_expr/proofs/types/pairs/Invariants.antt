use Rattle.std.proofs.Common.{◌≡◌, ◌-◌}
use Rattle.jv_grammar.specs.TypeReader.{pairs_of}
use Rattle.jv_parse_expr.proofs.TypeTurns.{pairs_onto}
use Rattle.jv_parse_expr.proofs.types.pairs.Given as goal

abbrev pub invariant-loop-dims : goal.invariant-loop-dims
invariant-loop-dims l = pairs_onto l.dims (pairs_of (l.room - l.dims) l.rest) ≡ pairs_of l.room l.terminals
