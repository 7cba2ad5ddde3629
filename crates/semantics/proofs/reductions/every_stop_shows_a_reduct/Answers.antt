use Rattle.semantics.proofs.ReductionSequence.{every_stop_shows_a_reduct}
use Rattle.semantics.proofs.reductions.every_stop_shows_a_reduct.Goals as goal

pub returns : goal.returns
returns c = every_stop_shows_a_reduct
