use Rattle.semantics.proofs.StoredRuns.{stored_stops_stand}
use Rattle.semantics.proofs.stored.stored_stops_stand.Goals as goal

pub returns : goal.returns
returns c = stored_stops_stand
