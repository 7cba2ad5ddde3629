use Rattle.semantics.proofs.OneOutcome.{at_most_one_outcome}
use Rattle.semantics.proofs.evaluation.at_most_one_outcome.Goals as goal

pub returns : goal.returns
returns c = at_most_one_outcome
