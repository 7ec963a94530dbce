use Rattle.std.proofs.Common.{◌≡◌, ◌++◌, ◌∙◌, Some, ap, arith, length}
use Rattle.sc_io.specs.MemSink.{front_within}
use Rattle.sc_io.proofs.Rooms.{Fits-not, front_within-append, piece_within-front}
use Rattle.sc_io.proofs.mem_sink.MemSinkSink.put.Goals as goal

pub returns-then-front-piece-clause-full : goal.returns-then-front-piece-clause-full
returns-then-front-piece-clause-full c =
    let room = c.self.inside.room in
    let before = c.self.inside.written in
    let piece = c.args.piece.now in
    let front = c.front_of-front.result.now in
    let behind : c.len.result ≡ length before.items = omega (arith, before.ok.0) in
    let written : c.extend_from_slice.new.self.items ≡ front_within room (before.items ++ piece) =
    c.in_ok-extend_from_slice.ensures.items ∙ front_within-append room before.items piece front _ behind c.front_of-front.ensures c.self.invariant in
    rw (← c.self.view_is) (λ _. (Fits-not room before.items piece front _ behind c.front_of-front.ensures c.if-front-piece.true, cc))

pub returns-then-front-piece-clause-front : goal.returns-then-front-piece-clause-front
returns-then-front-piece-clause-front c =
    let front = c.front_of-front.result.now in
    let rest = piece_within-front c.self.inside.room c.len.result c.args.piece.now front c.front_of-front.ensures in
    rw (← c.self.view_is) (front, rest.0, rest.1, ap Some c.in_ok-extend_from_slice.ensures.items)
