use Rattle.std.proofs.Common.{arith}
use Rattle.formula.proofs.Turns.{counts-here, over-here}
use Rattle.formula.proofs.check.check_shape.Goals as goal

pub returns-in_default : goal.returns-in_default
returns-in_default c = over-here c.args.listing.now c.loop-place.place c.loop-place.owed c.loop-place-test.true c.loop-place.invariant.0 (omega (arith, c.in_default.ensures))

pub loop-place-preserved : goal.loop-place-preserved
loop-place-preserved c = (
  counts-here c.args.listing.now c.loop-place.place c.loop-place.owed c.loop-place-test.true c.loop-place.invariant.0 c.in-Some.others _ (omega (arith, c.in-Some.ensures)) c.owed_after-owed.ensures.owed,
  omega (arith, c.owed_after-owed.ensures.most, c.loop-place.invariant.1, c.in-Some.ensures),
)
