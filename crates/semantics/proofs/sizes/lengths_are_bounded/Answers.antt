use Rattle.semantics.proofs.CodeSize.{lengths_are_bounded}
use Rattle.semantics.proofs.sizes.lengths_are_bounded.Goals as goal

pub returns : goal.returns
returns c = lengths_are_bounded
