use Rattle.semantics.proofs.WellFormed.{shown_terms_are_well_formed}
use Rattle.semantics.proofs.reductions.shown_terms_are_well_formed.Goals as goal

pub returns : goal.returns
returns c = shown_terms_are_well_formed
