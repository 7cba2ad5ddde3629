use Rattle.semantics.specs.StoredMachine.{stored_step, stored_no_room}
use Rattle.semantics.proofs.Running.{grants_add_up}
use Rattle.semantics.proofs.stored.stored_grants_add_up.Goals as goal

pub returns : goal.returns
returns c 𝓜 L C = grants_add_up (stored_step 𝓜 C) (stored_no_room L C)
