use Rattle.semantics.proofs.Rest.{comes_to_rest}
use Rattle.semantics.proofs.run.comes_to_rest.Goals as goal

pub returns : goal.returns
returns c = comes_to_rest
