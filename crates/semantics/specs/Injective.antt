-- What is claimed of listings as such.
use Rattle.std.specs.Prelude.{◌≡◌}
use Rattle.semantics.specs.Terms.{Term}
use Rattle.semantics.specs.Listing.{listing}

-- No two terms have the same listing.
abbrev pub ListingIsInjective : Type 0
ListingIsInjective = (t t' : Term) → listing t ≡ listing t' → t ≡ t'
