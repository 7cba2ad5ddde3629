use Rattle.std.proofs.Common.{arith, rules}
use Rattle.binary64.proofs.Patterns.{finite_no_nan, finite_survives}
use Rattle.binary64.proofs.number_of.Goals as goal

pub then-requires : goal.then-requires
then-requires c = search (rules, finite_no_nan)

pub returns-clause-back : goal.returns-clause-back
returns-clause-back c = grind (arith, finite_survives)
