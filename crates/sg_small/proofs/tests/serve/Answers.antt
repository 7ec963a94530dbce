use Rattle.std.specs.Prelude.{◌≡◌, [], Option, IfSome}
use Rattle.std.proofs.Common.{ℕ, refl, subst}
use Rattle.sg_core.specs.Core.{CoreOf}
use Rattle.sg_script.specs.declared.follower.Follower.{Follower}
use Rattle.sg_script.specs.Example.{reply_to}
use Rattle.sg_script.specs.Following.{FollowsPlan}
use Rattle.sg_headers.specs.Small.{three}
use Rattle.sg_numbers.specs.declared.numbers.Numbers.{Numbers}
use Rattle.sg_small.specs.declared.reader.Reader.{Reader}
use Rattle.sg_small.specs.Reader.{reader_plan}
use Rattle.sg_small.proofs.Examples.{readers_are_new}
use Rattle.sg_small.proofs.tests.serve.Goals as goal

pub run_serial-requires-clause-new : goal.run_serial-requires-clause-new
run_serial-requires-clause-new c =
    let core = subst (λ (o : Option (CoreOf Numbers ℕ ℕ ℕ)). IfSome o (λ k. k ≡ record { opening = three; kinds = c.args.table; log = [] })) c.in-Some.is c.in_ok-core.ensures in
    readers_are_new {I = Numbers} (λ (f : Follower Reader Numbers ℕ ℕ ℕ). f.script) (λ f past last. FollowsPlan (reader_plan f.script) (reply_to f.script.replies) f.asked f.pending f.stage f.ended past last × Unit {0})
    c.in-Some.core c.in_ok-units.units.items _ c.args.table c.in_ok-a.a c.in_ok-b.b c.in_ok-c.c
    core refl c.in_ok-units.ensures
    c.in_ok-a.ensures.reader (c.in_ok-a.ensures.follows, tt) c.in_ok-b.ensures.reader (c.in_ok-b.ensures.follows, tt) c.in_ok-c.ensures.reader (c.in_ok-c.ensures.follows, tt)
