use Rattle.semantics.proofs.Readable.{every_stored_stop_is_readable}
use Rattle.semantics.proofs.stored.every_stored_stop_is_readable.Goals as goal

pub returns : goal.returns
returns c = every_stored_stop_is_readable
