use Rattle.std.proofs.Common.{◌≡◌, ◌++◌, inl, ap, ◌∙◌, length, append-nil, arith}
use Rattle.sg_broker.proofs.GivenBack.{nothing_more, some_more, gave_nothing, gave_more}
use Rattle.sg_broker.proofs.giving.give.Goals as goal

pub unlock-requires-clause-entries : goal.unlock-requires-clause-entries
unlock-requires-clause-entries g c =
    let seen = c.args.seat.now.seen in
    let m = c.requires.more in
    let same : length c.args.core.value.log ≡ length seen = omega (arith, c.if-log-before.true, ap length c.log.ensures.log, ap (λ c. length c.log) c.deref.ensures, c.requires.before) in
    inl (m.1 ∙ ap (λ es. seen ++ es) (nothing_more c.args.core.value.log seen m.0 m.1 same) ∙ append-nil seen)

pub returns-then-log-before : goal.returns-then-log-before
returns-then-log-before g c = λ more is.
    let seen = c.args.seat.now.seen in
    let same : length c.args.core.value.log ≡ length seen = omega (arith, c.if-log-before.true, ap length c.log.ensures.log, ap (λ c. length c.log) c.deref.ensures, c.requires.before) in
    let none = nothing_more c.args.core.value.log seen more is same in
    gave_nothing c.args.seat.now c.unlock.new.seat more none (c.unlock.ensures.spent (is ∙ ap (λ es. seen ++ es) none ∙ append-nil seen))

pub returns-else-log-before : goal.returns-else-log-before
returns-else-log-before g c = λ more is.
    let seen = c.args.seat.now.seen in
    gave_more c.args.seat.now c.unlock_all.new.seat c.args.core.value.log more (some_more c.args.core.value.log seen more is (λ same. omega (arith, same, c.if-log-before.false, ap length c.log.ensures.log, ap (λ c. length c.log) c.deref.ensures, c.requires.before))) c.requires.inside.1 is (c.unlock_all.ensures more is)
