use Rattle.semantics.proofs.Readable.{every_stop_is_readable}
use Rattle.semantics.proofs.showing.every_stop_is_readable.Goals as goal

pub returns : goal.returns
returns c = every_stop_is_readable
