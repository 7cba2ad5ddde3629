-- What is claimed of a run: it agrees with the evaluation rules, unit for unit, as far as there is room.
use Rattle.std.specs.Prelude.{◌≡◌, ℕ, ◌+◌, ◌<◌, ◌≤◌, ◌↔◌, List, Some, None, ◌≢◌}
use Rattle.domain.specs.declared.Fault.{Fault}
use Rattle.domain.specs.Meaning.{Meaning}
use Rattle.semantics.specs.Terms.{Term}
use Rattle.semantics.specs.Values.{Value, input_env, Outcome, yields, fails}
use Rattle.semantics.specs.Evaluation.{Evals}
use Rattle.semantics.specs.Substitution.{reify}
use Rattle.semantics.specs.Running.{Bounds, Halt, Status, running, ended, failed, halted, broken, reports}
use Rattle.semantics.specs.Machine.{Held, State, no_room, start, machine_run, Steps}
use Rattle.semantics.specs.Showing.{show_held}

-- No outcome comes within n units.
abbrev pub NoOutcomeWithin : Meaning → List ℕ → Term → ℕ → Type 0
NoOutcomeWithin 𝓜 cs t n = (o : Outcome) (j : ℕ) → Evals 𝓜 (input_env cs) 0 t o j → n < j

-- The first n steps from s have room.
abbrev pub RoomFor : Meaning → Bounds → State → ℕ → Type 0
RoomFor 𝓜 L s n = (k : ℕ) (s' : State) → k < n → Steps 𝓜 k s s' → no_room L s' ≡ None

-- What the evaluation rules and the halting say of the run of t on the inputs cs with g units: its status, a value as it
-- shows, and the units spent.
pub data Verdict (𝓜 : Meaning) (L : Bounds) (cs : List ℕ) (t : Term) (g : ℕ) : Status Term → ℕ → Type 0 where
  -- Ended, where the rules give a value whose count is granted and has room.
  is_ended : {v : Value} {n : ℕ} → Evals 𝓜 (input_env cs) 0 t (yields v) n → n ≤ g → RoomFor 𝓜 L (start t cs) n →
      Verdict 𝓜 L cs t g (ended (reify v)) n
  -- Failed, where they give a fault, node included, whose count is granted and has room.
  is_failed : {φ : Fault} {p n : ℕ} → Evals 𝓜 (input_env cs) 0 t (fails φ p) n → n ≤ g → RoomFor 𝓜 L (start t cs) n →
      Verdict 𝓜 L cs t g (failed φ p) n
  -- Halted, where a step that is granted has no room, those before it had, and no outcome came.
  is_halted : {w : Halt} {n : ℕ} {s : State} → n < g → Steps 𝓜 n (start t cs) s → no_room L s ≡ Some w →
      RoomFor 𝓜 L (start t cs) n → NoOutcomeWithin 𝓜 cs t n → Verdict 𝓜 L cs t g (halted w) n
  -- Running, where no outcome comes within the grant, and all of it has room.
  is_running : NoOutcomeWithin 𝓜 cs t g → RoomFor 𝓜 L (start t cs) g → Verdict 𝓜 L cs t g running g

-- A status with its value as it shows.
abbrev pub shown_status : Status Held → Status Term
shown_status running = running
shown_status (ended h) = ended (show_held h)
shown_status (failed φ p) = failed φ p
shown_status (halted w) = halted w
shown_status broken = broken

-- The run stands as the rules and the halting say, and as nothing else: status and units are exactly determined.
abbrev pub RunAgrees : Type 0
RunAgrees = (𝓜 : Meaning) (L : Bounds) (cs : List ℕ) (t : Term) (g : ℕ) (x : Status Term) (n : ℕ) →
    let r = machine_run 𝓜 L g (start t cs) in
    ((shown_status r.status ≡ x) × (r.spent ≡ n)) ↔ Verdict 𝓜 L cs t g x n

-- A grant in two parts is one grant: going on from where a run on g units stopped, still running, gives what the run on
-- both gives.
abbrev pub GrantsAddUp : Type 0
GrantsAddUp = (𝓜 : Meaning) (L : Bounds) (s : State) (g g' : ℕ) → (machine_run 𝓜 L g s).status ≡ running →
    let r = machine_run 𝓜 L g' (machine_run 𝓜 L g s).state in
    machine_run 𝓜 L (g + g') s ≡ reports r.status (g + r.spent) r.state

-- A further grant changes nothing of a run that is at rest.
abbrev pub RunAtRestStays : Type 0
RunAtRestStays = (𝓜 : Meaning) (L : Bounds) (s : State) (g g' : ℕ) → ((machine_run 𝓜 L g s).status ≢ running) →
    machine_run 𝓜 L (g + g') s ≡ machine_run 𝓜 L g s
