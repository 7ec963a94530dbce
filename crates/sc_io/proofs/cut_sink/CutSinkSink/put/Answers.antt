use Rattle.std.proofs.Common.{List, ℕ, ◌++◌, ◌∙◌, Some, ap, sym}
use Rattle.std.proofs.lemmas.List.{take-append-drop}
use Rattle.std.proofs.Math.ListN.{drop}
use Rattle.sc_io.proofs.cut_sink.CutSinkSink.put.Goals as goal

-- a front of the piece was written
pub returns-in_ok-extend_from_slice-in-Some-clause-front :
    goal.returns-in_ok-extend_from_slice-in-Some-clause-front
returns-in_ok-extend_from_slice-in-Some-clause-front c =
    let piece = c.args.piece.now in
    let most = c.in-Some.most in
    let front = c.front_of.result.now in
    rw (← c.self.view_is) (
      front,
      drop most piece,
      sym (take-append-drop most piece) ∙ ap (λ (f : List ℕ). f ++ drop most piece) (sym c.front_of.ensures),
      ap Some c.in_ok-extend_from_slice-in-Some.ensures.items,
    )
