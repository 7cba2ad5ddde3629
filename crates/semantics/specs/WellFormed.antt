-- What is claimed of the terms that a run shows: they are well formed, and have no inputs.
use Rattle.std.specs.Prelude.{ℕ, List, []}
use Rattle.domain.specs.Meaning.{Meaning}
use Rattle.semantics.specs.Terms.{Term}
use Rattle.semantics.specs.Scope.{InScope, LawfulTerm}
use Rattle.semantics.specs.Running.{Bounds}
use Rattle.semantics.specs.Machine.{State, start, machine_run, Steps}
use Rattle.semantics.specs.Showing.{show}
use Rattle.semantics.specs.Lawful.{AllLawful}

-- Every variable is in scope under its name, and every number is lawful.
abbrev pub WellFormed : Meaning → List ℕ → Term → Type 0
WellFormed 𝓜 names t = InScope names t × LawfulTerm 𝓜 t

-- After any number of steps from a well-formed term on lawful inputs the shown term is well formed, with no inputs.
abbrev pub ShownTermsAreWellFormed : Type 0
ShownTermsAreWellFormed = (𝓜 : Meaning) (names cs : List ℕ) (t : Term) → WellFormed 𝓜 names t → AllLawful 𝓜 cs →
    (n : ℕ) (s : State) → Steps 𝓜 n (start t cs) s → WellFormed 𝓜 [] (show s)

-- And so wherever a run stops, by whatever grant and limits.
abbrev pub EveryStopShowsAWellFormedTerm : Type 0
EveryStopShowsAWellFormedTerm = (𝓜 : Meaning) (L : Bounds) (names cs : List ℕ) (t : Term) (g : ℕ) → WellFormed 𝓜 names t → AllLawful 𝓜 cs →
    WellFormed 𝓜 [] (show (machine_run 𝓜 L g (start t cs)).state)
