use Rattle.std.proofs.Common.{◌++◌, sym, subst}
use Rattle.std.specs.Prelude.{IfOk}
use Rattle.sc_sources.specs.Threads.{AreLexed}
use Rattle.sc_sources.proofs.Threads.{lexed_append}
use Rattle.sc_sources.proofs.lexing.+fn-lex_all-join+arg2+fn-lex_all-join+arg3+lex_all.Goals as goal

pub returns : goal.returns
returns g t c =
    let one : AreLexed c.split_at.result.0.now c.in_ok-all.all.items = subst (λ r. IfOk r (λ v. AreLexed c.split_at.result.0.now v.items)) c.in_ok-all.was c.join-first.ensures.first in
    let other : AreLexed c.split_at.result.1.now c.in_ok-others.others.items = subst (λ r. IfOk r (λ v. AreLexed c.split_at.result.1.now v.items)) c.in_ok-others.was c.join-first.ensures.second in
    subst (λ fs. AreLexed fs c.append.new.self.items) (sym c.split_at.ensures.by_index.0)
    (subst (λ vs. AreLexed (c.split_at.result.0.now ++ c.split_at.result.1.now) vs) (sym c.in_ok-append.ensures.items)
    (lexed_append c.split_at.result.0.now c.split_at.result.1.now c.in_ok-all.all.items c.in_ok-others.others.items one other))
