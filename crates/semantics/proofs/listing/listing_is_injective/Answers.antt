use Rattle.semantics.proofs.Injective.{listing_is_injective}
use Rattle.semantics.proofs.listing.listing_is_injective.Goals as goal

pub returns : goal.returns
returns c = listing_is_injective
