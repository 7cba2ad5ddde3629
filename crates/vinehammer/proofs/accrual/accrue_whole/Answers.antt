use Rattle.vinehammer.proofs.Coupons.{accrued_exact}
use Rattle.vinehammer.proofs.accrual.accrue_whole.Goals as goal

pub returns-clause-exact : goal.returns-clause-exact
returns-clause-exact c = accrued_exact c.args.coupon.now c.accrue.result c.accrue.ensures
