use Rattle.std.proofs.Common.{◌≡◌, ◌+◌, ◌<◌, ◌≤◌, true, arith, length}
use Rattle.std.proofs.lemmas.Result.{IfOk-weaker}
use Rattle.sg_expr.specs.Laying.{Lays, begin_at, is_live}
use Rattle.sg_expr.specs.Tree.{expr_of, in_turn, either_of}
use Rattle.sg_expr.proofs.Laid.{lays_one_at, lays_turn, lays_either}
use Rattle.sg_expr.proofs.laying.Laying.+lay.Goals as goal

pub returns-in_ok-push-in-One : goal.returns-in_ok-push-in-One
returns-in_ok-push-in-One t c =
    let b = c.args.self.now.behind.items in
    let m = c.args.self.now.places in
    let room : length b + 1 ≤ 63 = rw c.in-One.is at c.requires.room in
    let below : c.in-One.l < length m = omega (arith, c.number.ensures.value, c.number.ensures.below) in
    let at : c.len-at.result ≡ length b = omega (arith, c.len-at.ensures) in
    let laid = lays_one_at c.in-One.l b m c.args.rest c.len-at.result at (omega arith) below c.requires.within in
    rw (c.in-One.is, c.in_ok-push-in-One.ensures.items, c.from.ensures, c.number.ensures.value) laid

pub returns-in_ok-lay-in-Seq : goal.returns-in_ok-lay-in-Seq
returns-in_ok-lay-in-Seq t c =
    let x = c.in-Seq.first.value in
    let y = c.in-Seq.second.value in
    let b = c.args.self.now.behind.items in
    let m = c.args.self.now.places in
    let b' = c.lay.new.self.behind.items in
    let m' = c.lay.new.self.places in
    let b'' = c.lay-in-Seq.new.self.behind.items in
    let m'' = c.lay-in-Seq.new.self.places in
    let told = rw c.deref.ensures at c.is_live.ensures in
    let live : is_live (expr_of y) ≡ true = cc in
    let from : c.len.result ≡ length b = omega (arith, c.len.ensures) in
    let at = rw (c.deref-in-Seq.ensures, from) at c.begin_at-after.ensures in
    let one = rw c.deref-in-Seq-2.ensures at c.in_ok-lay-in-Seq.ensures in
    let two = rw (c.deref-in-Seq-3.ensures, at) at c.lay-in-Seq.ensures in
    rw c.in-Seq.is (IfOk-weaker c.lay-in-Seq.result (λ _. Lays (expr_of x) (begin_at (expr_of y) (length b) c.args.rest) b' m' b'' m'') (λ _. Lays (in_turn (expr_of x) (expr_of y)) c.args.rest b m b'' m'')
    (λ _ h. lays_turn (expr_of x) (expr_of y) b m b' m' b'' m'' c.args.rest live one h) two)

pub returns-in_ok-lay-in-Alt : goal.returns-in_ok-lay-in-Alt
returns-in_ok-lay-in-Alt t c =
    let x = c.in-Alt.left.value in
    let y = c.in-Alt.right.value in
    let b = c.args.self.now.behind.items in
    let m = c.args.self.now.places in
    let b' = c.lay-in-Alt.new.self.behind.items in
    let m' = c.lay-in-Alt.new.self.places in
    let b'' = c.lay-in-Alt-2.new.self.behind.items in
    let m'' = c.lay-in-Alt-2.new.self.places in
    let one = rw c.deref-in-Alt.ensures at c.in_ok-lay-in-Alt.ensures in
    let two = rw c.deref-in-Alt-2.ensures at c.lay-in-Alt-2.ensures in
    rw c.in-Alt.is (IfOk-weaker c.lay-in-Alt-2.result (λ _. Lays (expr_of y) c.args.rest b' m' b'' m'') (λ _. Lays (either_of (expr_of x) (expr_of y)) c.args.rest b m b'' m'')
    (λ _ h. lays_either (expr_of x) (expr_of y) b m b' m' b'' m'' c.args.rest one h) two)
