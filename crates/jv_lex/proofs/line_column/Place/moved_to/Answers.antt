use Rattle.std.proofs.Common.{◌≡◌, refl, arith}
use Rattle.jv_lex.proofs.Counts.{column_adds, column_is}
use Rattle.jv_lex.proofs.line_column.Place.moved_to.Goals as goal
use Rattle.jv_lex.proofs.line_column.Place.moved_to.Goals.{then-self-at, else-self-at}

pub loop-i-init : goal.loop-i-init
loop-i-init c =
    let s = c.args.source.now in
    let p = c.requires.place in
    elim c.if-self-at.branch [
      | then-self-at w ↦ rw w.from-is (record {
        line = λ h. p.line (omega (arith, h, w.if-self-at.true));
        column = λ h. column_adds s c.args.self.at c.args.self.column (p.column (omega (arith, h, w.if-self-at.true)));
        within = p.within;
        across = p.across;
        from_one = p.from_one;
        below = omega (arith, w.if-self-at.true);
      })
      | else-self-at w ↦ rw (w.from-is, w.start-from.ensures) (record {
        line = λ h. refl;
        column = λ h. refl;
        within = omega arith;
        across = omega arith;
        from_one = omega arith;
        below = omega arith;
      })
    ]

pub returns-clause-place : goal.returns-clause-place
returns-clause-place c =
    let i = c.loop-i.invariant in
    let last : c.loop-i.i ≡ c.args.at = omega (arith, c.loop-i-test.false, i.below) in
    record {
      line = λ h. rw (← last) (i.line h);
      column = λ h. rw (← last) (column_is c.args.source.now c.loop-i.i c.loop-i.column (i.column h) i.from_one);
      within = omega (arith, i.within, last);
      across = omega (arith, i.across, last);
      from_one = i.from_one;
    }
