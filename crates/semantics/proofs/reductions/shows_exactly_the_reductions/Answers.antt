use Rattle.semantics.proofs.ReductionSequence.{shows_exactly_the_reductions}
use Rattle.semantics.proofs.reductions.shows_exactly_the_reductions.Goals as goal

pub returns : goal.returns
returns c = shows_exactly_the_reductions
