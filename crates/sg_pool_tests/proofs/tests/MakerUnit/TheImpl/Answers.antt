use Rattle.std.proofs.Common.{refl}
use Rattle.sg_pool_tests.proofs.tests.MakerUnit.TheImpl.Goals as goal

pub next-tells : goal.next-tells
next-tells g x x' x'' x3 c = record {
  gives = c.ensures.gives;
  owed = c.ensures.owed;
  falls = c.ensures.falls;
  same = c.ensures.same;
  fixed = (refl, c.ensures.number);
}
