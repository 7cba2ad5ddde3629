use Rattle.semantics.specs.StoredMachine.{stored_step, stored_no_room}
use Rattle.semantics.proofs.Running.{run_at_rest_stays}
use Rattle.semantics.proofs.stored.stored_run_at_rest_stays.Goals as goal

pub returns : goal.returns
returns c 𝓜 L C = run_at_rest_stays (stored_step 𝓜 C) (stored_no_room L C)
