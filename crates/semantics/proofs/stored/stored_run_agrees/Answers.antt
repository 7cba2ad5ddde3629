use Rattle.semantics.proofs.StoredRuns.{stored_run_agrees}
use Rattle.semantics.proofs.stored.stored_run_agrees.Goals as goal

pub returns : goal.returns
returns c = stored_run_agrees
