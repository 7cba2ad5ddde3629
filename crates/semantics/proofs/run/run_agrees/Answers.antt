use Rattle.semantics.proofs.Verdicts.{run_agrees}
use Rattle.semantics.proofs.run.run_agrees.Goals as goal

pub returns : goal.returns
returns c = run_agrees
