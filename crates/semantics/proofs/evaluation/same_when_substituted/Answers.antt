use Rattle.semantics.proofs.SameOutcomes.{same_when_substituted}
use Rattle.semantics.proofs.evaluation.same_when_substituted.Goals as goal

pub returns : goal.returns
returns c = same_when_substituted
