use Rattle.semantics.proofs.ReductionSequence.{shows_the_reductions}
use Rattle.semantics.proofs.reductions.shows_the_reductions.Goals as goal

pub returns : goal.returns
returns c = shows_the_reductions
