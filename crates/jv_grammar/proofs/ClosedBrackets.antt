-- Closed brackets, and rows of pairs of square brackets.
use Rattle.std.proofs.Common.{ℕ, suc, ◌≤◌, List, arith}
use Rattle.jv_grammar.specs.declared.terminal.Terminal.{Terminal}
use Rattle.jv_grammar.specs.Load.{IsClosed, nothing, terminal, group, BeginsWithPairs, none, pair, HasFewBrackets}

pub closed_trans : {ts us vs : List Terminal} → IsClosed ts us → IsClosed us vs → IsClosed ts vs
closed_trans nothing b = b
closed_trans (terminal o c a) b = terminal o c (closed_trans a b)
closed_trans (group o inner c a) b = group o inner c (closed_trans a b)

-- What stands behind closed brackets has few, too.
pub few_behind : {ts us : List Terminal} → IsClosed ts us → HasFewBrackets ts → HasFewBrackets us
few_behind nothing h = h
few_behind (terminal o c rest) h = few_behind rest h.1
few_behind (group o inner c rest) h = few_behind rest (few_behind inner h.1).1

pub few_pairs : {n : ℕ} {ts : List Terminal} → HasFewBrackets ts → BeginsWithPairs n ts → n ≤ 200
few_pairs h none = omega arith
few_pairs {n = suc n} h (pair i r) = h.0 (suc n) (pair i r)
