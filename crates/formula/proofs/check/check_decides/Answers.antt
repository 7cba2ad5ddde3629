use Rattle.formula.proofs.Decides.{check_decides}
use Rattle.formula.proofs.check.check_decides.Goals as goal

pub returns : goal.returns
returns c = check_decides
