use Rattle.semantics.specs.Machine.{step, no_room}
use Rattle.semantics.proofs.Running.{run_at_rest_stays}
use Rattle.semantics.proofs.run.run_at_rest_stays.Goals as goal

pub returns : goal.returns
returns c 𝓜 L = run_at_rest_stays (step 𝓜) (no_room L)
