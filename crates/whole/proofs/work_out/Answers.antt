use Rattle.std.proofs.Common.{arith}
use Rattle.std.proofs.lemmas.Bool.Decides.{nat_tests}
use Rattle.whole.proofs.work_out.Goals as goal

-- What is saturated is past the range, as the result is.
pub returns : goal.returns
returns c = grind (arith, nat_tests)
