use Rattle.semantics.proofs.LockStep.{steps_in_lock_step}
use Rattle.semantics.proofs.stored.steps_in_lock_step.Goals as goal

pub returns : goal.returns
returns c = steps_in_lock_step
