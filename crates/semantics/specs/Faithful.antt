-- What is claimed of showing: the shown term comes to what the formula comes to.
use Rattle.std.specs.Prelude.{◌≡◌, ℕ, ◌↔◌, List}
use Rattle.domain.specs.Meaning.{Meaning}
use Rattle.semantics.specs.Terms.{Term}
use Rattle.semantics.specs.Values.{Env, ε, input_env, Outcome}
use Rattle.semantics.specs.Evaluation.{Evals}
use Rattle.semantics.specs.Substitution.{Observation, observe}
use Rattle.semantics.specs.Running.{Bounds}
use Rattle.semantics.specs.Machine.{State, start, machine_run, Steps}
use Rattle.semantics.specs.Showing.{show}

-- The term has an outcome in ρ, which is seen as w.
abbrev pub ComesTo : Meaning → Env → Term → Observation → Type 0
ComesTo 𝓜 ρ t w = (o : Outcome) × (n : ℕ) × Evals 𝓜 ρ 0 t o n × (w ≡ observe o)

-- After any number of steps the shown term, with no inputs, comes to just what the formula comes to on its inputs.
abbrev pub EveryStateShowsFaithfully : Type 0
EveryStateShowsFaithfully = (𝓜 : Meaning) (cs : List ℕ) (t : Term) (n : ℕ) (s : State) → Steps 𝓜 n (start t cs) s →
    (w : Observation) → ComesTo 𝓜 (input_env cs) t w ↔ ComesTo 𝓜 ε (show s) w

-- And so wherever a run stops, by whatever grant and limits, and whether it is running, ended, faulted or halted.
abbrev pub EveryStopShowsFaithfully : Type 0
EveryStopShowsFaithfully = (𝓜 : Meaning) (L : Bounds) (cs : List ℕ) (t : Term) (g : ℕ) (w : Observation) →
    ComesTo 𝓜 (input_env cs) t w ↔ ComesTo 𝓜 ε (show (machine_run 𝓜 L g (start t cs)).state) w
