use Rattle.semantics.proofs.Faithful.{every_stop_shows_faithfully}
use Rattle.semantics.proofs.showing.every_stop_shows_faithfully.Goals as goal

pub returns : goal.returns
returns c = every_stop_shows_faithfully
