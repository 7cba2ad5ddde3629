use Rattle.std.proofs.Common.{arith}
use Rattle.binary64.proofs.Patterns.{pattern_finite}
use Rattle.binary64.proofs.is_finite.Goals as goal

pub returns : goal.returns
returns c = grind (arith, pattern_finite)
