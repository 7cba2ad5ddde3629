use Rattle.std.proofs.Common.{◌+◌, ◌-◌, ◌*◌, length}
use Rattle.formula.proofs.translate.MeasuredListing.+emission.Given as goal

-- The records from the place on, twice, so that what stands between two calls at one place counts.
abbrev pub decreases-emit_at : goal.decreases-emit_at
decreases-emit_at l = 2 * (length l.self.now.listing.now - l.place)

abbrev pub decreases-emit_body : goal.decreases-emit_body
decreases-emit_body l = 2 * (length l.self.now.listing.now - l.place) + 1

abbrev pub decreases-emit_pair : goal.decreases-emit_pair
decreases-emit_pair l = 2 * (length l.self.now.listing.now - l.first) + 1
