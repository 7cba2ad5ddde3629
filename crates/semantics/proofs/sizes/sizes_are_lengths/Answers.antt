use Rattle.semantics.proofs.CodeSize.{sizes_are_lengths}
use Rattle.semantics.proofs.sizes.sizes_are_lengths.Goals as goal

pub returns : goal.returns
returns c = sizes_are_lengths
