use Rattle.semantics.proofs.CodeSize.{code_is_bounded}
use Rattle.semantics.proofs.sizes.code_is_bounded.Goals as goal

pub returns : goal.returns
returns c = code_is_bounded
