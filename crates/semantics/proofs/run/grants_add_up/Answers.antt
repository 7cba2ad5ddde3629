use Rattle.semantics.specs.Machine.{step, no_room}
use Rattle.semantics.proofs.Running.{grants_add_up}
use Rattle.semantics.proofs.run.grants_add_up.Goals as goal

pub returns : goal.returns
returns c 𝓜 L = grants_add_up (step 𝓜) (no_room L)
