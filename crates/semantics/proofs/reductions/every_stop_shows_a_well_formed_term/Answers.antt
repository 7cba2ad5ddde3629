use Rattle.semantics.proofs.WellFormed.{every_stop_shows_a_well_formed_term}
use Rattle.semantics.proofs.reductions.every_stop_shows_a_well_formed_term.Goals as goal

pub returns : goal.returns
returns c = every_stop_shows_a_well_formed_term
