use Rattle.semantics.proofs.Counting.{counting_decides}
use Rattle.semantics.proofs.listing.counting_decides.Goals as goal

pub returns : goal.returns
returns c = counting_decides
