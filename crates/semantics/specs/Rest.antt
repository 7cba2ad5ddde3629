-- What is claimed of how long a run goes on.
use Rattle.std.specs.Prelude.{ℕ, ◌≤◌, List}
use Rattle.domain.specs.Meaning.{Meaning}
use Rattle.semantics.specs.Terms.{Term, size}
use Rattle.semantics.specs.Sizes.{most_records}
use Rattle.semantics.specs.Running.{Bounds, limits, Status, running, ended, failed, halted, broken}
use Rattle.semantics.specs.Machine.{start, machine_run}

-- The most units that a run spends: those of the term itself, and of one body more for each cell of the store.
abbrev pub most_units : ℕ
most_units = 873300

-- A run has come to an outcome or to a limit.
abbrev pub AtRest : {V : Type 0} → Status V → Type 0
AtRest running = ⊥
AtRest (ended v) = Unit {0}
AtRest (failed φ p) = Unit {0}
AtRest (halted w) = Unit {0}
AtRest broken = ⊥

-- Every run of a term of at most so many records, on any inputs, with any stack and a store of no more cells than there
-- are, is at rest once it is granted so many units.
abbrev pub ComesToRest : Type 0
ComesToRest = (𝓜 : Meaning) (L : Bounds) (cs : List ℕ) (t : Term) (g : ℕ) → size t ≤ most_records → L.store ≤ limits.store →
    most_units ≤ g → AtRest (machine_run 𝓜 L g (start t cs)).status
