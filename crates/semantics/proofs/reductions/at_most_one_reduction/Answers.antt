use Rattle.semantics.proofs.OneReduction.{at_most_one_reduction}
use Rattle.semantics.proofs.reductions.at_most_one_reduction.Goals as goal

pub returns : goal.returns
returns c = at_most_one_reduction
