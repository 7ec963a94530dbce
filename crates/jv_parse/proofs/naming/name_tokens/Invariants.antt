use Rattle.std.proofs.Common.{◌+◌, ◌≤◌, length, take}
use Rattle.jv_parse.proofs.Numbers.{IsNamedSoFar}
use Rattle.jv_parse.proofs.naming.name_tokens.Given as goal

abbrev pub invariant-loop-token : goal.invariant-loop-token
invariant-loop-token l =
    IsNamedSoFar l.fn.source l.fn.names (take l.token-index l.tokens) l.names l.terminals.items
    × (length l.names ≤ length l.fn.names + l.token-index)
