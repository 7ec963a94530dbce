use denote.Param.Send.{sendable}
use Rattle.std.proofs.Crossing as heap
use Rattle.std.proofs.Common.{◌≤◌, ◌+◌, ℕ, List, length, ap, subst, arith}
use Rattle.std.specs.Prelude.{IfOk}
use Rattle.sc_sources.specs.declared.naming.Named.{Named}
use Rattle.sc_sources.specs.Threads.{IsGrown}
use Rattle.sc_sources.proofs.Sending.{grown_send}
use Rattle.sc_sources.proofs.Threads.{parts_joined}
use Rattle.sc_sources.proofs.growing.+fn-grow_all-join+arg2+fn-grow_all-join+arg3+grow_all.Goals as goal

pub join-one-requires-send-A : goal.join-one-requires-send-A
join-one-requires-send-A g t c κs within = search (grown_send, sendable, heap.crosses) depth 40 fits 20000

pub returns : goal.returns
returns g t c =
    let size : ℕ = c.cut-size.result in
    let front : List Named = c.split_off.new.self.items in
    let back : List Named = c.in_ok-back.back.items in
    let within : size ≤ length c.args.named.items = omega (arith, c.cut-size.ensures, ap length c.deref.ensures.value) in
    let one : IsGrown c.args.first front c.in_ok-one.field-0 = subst (λ r. IfOk r (IsGrown c.args.first front)) c.in_ok-one.was c.join-one.ensures.first in
    let other : IsGrown (c.args.first + size) back c.in_ok-other.field-0 = subst (λ r. IfOk r (IsGrown (c.args.first + size) back)) c.in_ok-other.was c.join-one.ensures.second in
    parts_joined c.args.first size c.args.named.items front back c.in_ok-one.field-0 c.in_ok-other.field-0 c.joined.result within c.in_ok-back.ensures.items c.in_ok-back.ensures.tail one other
    c.joined.ensures.units c.joined.ensures.faults
