-- Each step takes one unit at least from what is left to do, and each entry into a body is paid for by the cell that it stores.
use Rattle.std.proofs.Common.{◌≡◌, ℕ, zero, suc, ◌+◌, ◌-◌, ◌*◌, ◌<◌, ◌≤◌, max, true, false, List, ◌∷◌, Some, None, Option, refl, arith}
use Rattle.std.proofs.lemmas.Bool.Decides.{nat_tests}
use Rattle.domain.specs.Meaning.{Meaning}
use Rattle.semantics.specs.declared.layout.Instruction.{Instruction}
use Rattle.semantics.specs.declared.layout.Instruction.TheVariants.{PushThunk, Apply, Return, Choose}
use Rattle.semantics.specs.Terms.{Term, num, truth, var, binop, eq, app, lam, let_in, if_then, size}
use Rattle.semantics.specs.Evaluation.{Computed, gives_number, gives_boolean, gives_fault, operated, compared}
use Rattle.semantics.specs.Translation.{code_size, emit}
use Rattle.semantics.specs.Running.{goes, ends, faults, stuck, Bounds, Halt, for_store, no_cell, with_none_left, with_one_left}
use Rattle.semantics.specs.Machine.{Held, h_number, h_boolean, closure, HeldEnv, Cell, val, thunk, State, at, MachineNext, sort_held, push_computed, enter, enter_branch, step, no_room, start, machine_run}
use Rattle.semantics.specs.Rest.{most_units, AtRest, ComesToRest}
use Rattle.semantics.proofs.Simulation.{drop_body, else_code}
use Rattle.semantics.proofs.OneReduction.{joins_operate, joins_compare, joins_apply}
use Rattle.semantics.proofs.Continuations.{Good, good_number, good_boolean, good_closure, good_more, good_fetch, good_inputs, Kont, k_end, k_return, k_first, k_second, k_let_bound, k_let_body, k_if, good_around, RunState, on_term, on_value, between_thunks}
use Rattle.semantics.proofs.Frames.{units, frame_units, first_frame, body_frame, Sized, units_waiting, units_left}

-- Where no cell is lacking, fewer are used than there are.
cell_left : (cells used : ℕ) (w : Halt) → no_cell cells used w ≡ None → used < cells
cell_left cells used w e = grind (arith, nat_tests)

-- How many cells of the environment are stored.
abbrev stored : State → ℕ
stored (at k ρ c m) = m

module _ (L : Bounds) where
  -- What is set aside for the bodies that can still be entered: a frame for each cell not yet stored.
  abbrev reserve : ℕ → ℕ
  reserve m = frame_units * (L.store - m)

  -- A state of a run from which at most N units are left.
  abbrev Within : ℕ → State → Type 0
  Within N s = (R : RunState Sized s) × (units_left R + reserve (stored s) ≤ N)

  -- From where at most N units are left, a step that has room leads to where one fewer is left. The machine is never stuck.
  abbrev Falls : ℕ → Option Halt → MachineNext → Type 0
  Falls N w (goes s) = (1 ≤ N) × (w ≡ None → Within (N - 1) s)
  Falls N w (ends h) = Unit {0}
  Falls N w (faults φ p) = 1 ≤ N
  Falls N w stuck = ⊥

  -- What an operation or a comparison gives takes the node's last unit.
  falls_push : (p : ℕ) (r : Computed) {ρ : HeldEnv} {k : List Instruction} {c : List Cell} (m N : ℕ) → (K : Kont Sized k ρ c) →
      suc (units_waiting K) + reserve m ≤ N → Falls N None (push_computed p r k ρ c m)
  falls_push p (gives_number i) m N K b = (omega arith, λ _. (on_value good_number K, omega arith))
  falls_push p (gives_boolean i) m N K b = (omega arith, λ _. (on_value good_boolean K, omega arith))
  falls_push p (gives_fault φ) m N K b = omega arith

  -- The cell that an entry stores pays for the body's frame.
  falls-enter : (p : ℕ) {h₀ h : Held} {ρ : HeldEnv} {k : List Instruction} {c : List Cell} (m N : ℕ) → Good Sized h₀ → Good Sized h → (K : Kont Sized k ρ c) →
      suc (units_waiting K) + reserve m ≤ N → Falls N (no_room L (at (Apply p ∷ k) ρ (val h ∷ val h₀ ∷ c) m)) (enter p h₀ h k ρ c m)
  falls-enter p m N good_number s K b = omega arith
  falls-enter p m N good_boolean s K b = omega arith
  falls-enter p m N (good_closure q t r le g) s K b =
      (omega arith, λ room. (on_term (suc q) t (omega arith) (k_return (good_more s g) K), omega (arith, cell_left L.store m for_store room, body_frame t le)))

  -- An If enters a branch.
  falls-branch : (p qt qe : ℕ) (t e : Term) (r₁ r₂ : List Instruction) (h : Held) {ρ : HeldEnv} {k : List Instruction} {c : List Cell} (m N : ℕ) →
      Sized t → Sized e → (K : Kont Sized k ρ c) → suc (max (units t) (units e) + suc (units_waiting K)) + reserve m ≤ N →
      Falls N None (enter_branch p h (emit qt t (Return ∷ r₁)) ρ (emit qe e (Return ∷ r₂)) ρ k ρ c m)
  falls-branch p qt qe t e r₁ r₂ (h_number i) m N lt le K b = omega arith
  falls-branch p qt qe t e r₁ r₂ (h_boolean true) m N lt le K b = (omega arith, λ _. (on_term qt t lt (k_return (good_around Sized K) K), omega arith))
  falls-branch p qt qe t e r₁ r₂ (h_boolean false) m N lt le K b = (omega arith, λ _. (on_term qe e le (k_return (good_around Sized K) K), omega arith))
  falls-branch p qt qe t e r₁ r₂ (closure x k' ρ') m N lt le K b = omega arith

  module _ (𝓜 : Meaning) where
    -- The same of the step from s.
    abbrev StepFalls : ℕ → State → Type 0
    StepFalls N s = Falls N (no_room L s) (step 𝓜 s)

    -- The step at the first instruction of a term.
    falls_about : (t : Term) (p : ℕ) {ρ : HeldEnv} {k : List Instruction} {c : List Cell} (m N : ℕ) → Sized t → (K : Kont Sized k ρ c) →
        units t + units_waiting K + reserve m ≤ N → StepFalls N (at (emit p t k) ρ c m)
    falls_about (num i) p m N le K b = (omega arith, λ _. (on_value good_number K, omega arith))
    falls_about (truth i) p m N le K b = (omega arith, λ _. (on_value good_boolean K, omega arith))
    falls_about (var x i) p m N le K b = (omega arith, λ _. (on_value (good_fetch Sized (good_around Sized K) i) K, omega arith))
    falls_about (binop o l r) p m N le K b = falls_about l _ m N (omega arith) (k_first joins_operate _ r (omega arith) K) (omega arith)
    falls_about (eq l r) p m N le K b = falls_about l _ m N (omega arith) (k_first joins_compare _ r (omega arith) K) (omega arith)
    falls_about (app f a) p m N le K b = falls_about f _ m N (omega arith) (k_first joins_apply _ a (omega arith) K) (omega arith)
    falls_about (lam x t) p {k = k} m N le K b =
        rw (drop_body (suc p) t k) (omega arith, λ _. (on_value (good_closure p t k le (good_around Sized K)) K, omega arith))
    falls_about (let_in x a t) p m N le K b = falls_about a _ m N (omega arith) (k_let_bound x _ t (omega arith) K) (omega arith)
    falls_about (if_then q t e) p {k = k} m N le K b =
        let after : List Instruction = PushThunk (suc (code_size e)) ∷ else_code p q t e k in
        rw (drop_body (suc p + size q) t after) (omega arith, λ _. (between_thunks p _ _ q t e after le K, omega arith))

    -- The step between an If's two thunks.
    falls_between : (p qe qt : ℕ) (q t e : Term) (r₁ : List Instruction) {ρ : HeldEnv} {k : List Instruction} {c : List Cell} (m N : ℕ) →
        Sized (if_then q t e) → (K : Kont Sized k ρ c) → units q + max (units t) (units e) + 3 + units_waiting K + reserve m ≤ N →
        StepFalls N (at (PushThunk (suc (code_size e)) ∷ emit qe e (Return ∷ emit (suc p) q (Choose p ∷ k))) ρ (thunk (emit qt t (Return ∷ r₁)) ρ ∷ c) m)
    falls_between p qe qt q t e r₁ {k = k} m N le K b =
        let after : List Instruction = emit (suc p) q (Choose p ∷ k) in
        rw (drop_body qe e after)
        (omega arith, λ _. (on_term (suc p) q (omega arith) (k_if p qt qe t e r₁ after (omega arith) (omega arith) K), omega arith))

    -- The step with a value on top, by what waits for it.
    falls_having : {h : Held} {ρ : HeldEnv} {k : List Instruction} {c : List Cell} (m N : ℕ) → Good Sized h → (K : Kont Sized k ρ c) →
        units_waiting K + reserve m ≤ N → StepFalls N (at k ρ (val h ∷ c) m)
    falls_having m N g (k_end gs) b = tt
    falls_having m N g (k_return gs K) b = (omega arith, λ _. (on_value g K, omega arith))
    falls_having m N g (k_first j q r s K) b = falls_about r q m N s (k_second j g K) (omega arith)
    falls_having {h = h} m N g (k_second (joins_operate {o = o} {p = p}) {h = h₀} g₀ K) b =
        falls_push p (operated 𝓜 o (sort_held h₀) (sort_held h)) m N K b
    falls_having {h = h} m N g (k_second (joins_compare {p = p}) {h = h₀} g₀ K) b = falls_push p (compared 𝓜 (sort_held h₀) (sort_held h)) m N K b
    falls_having m N g (k_second (joins_apply {p = p}) g₀ K) b = falls-enter p m N g₀ g K b
    falls_having m N g (k_let_bound x q t s K) b = (omega arith, λ _. (on_term q t s (k_let_body g K), omega arith))
    falls_having m N g (k_let_body g₀ K) b = (omega arith, λ _. (on_value g K, omega arith))
    falls_having {h = h} m N g (k_if p qt qe t e r₁ r₂ st se K) b = falls-branch p qt qe t e r₁ r₂ h m N st se K b

    -- Every step of a run.
    state-falls : {N : ℕ} {s : State} (R : RunState Sized s) → units_left R + reserve (stored s) ≤ N → StepFalls N s
    state-falls {N = N} (on_term p t {m = m} s K) b = falls_about t p m N s K b
    state-falls {N = N} (on_value {m = m} g K) b = falls_having m N g K b
    state-falls {N = N} (between_thunks p qe qt q t e r₁ {m = m} s K) b = falls_between p qe qt q t e r₁ m N s K b

    -- A run that is granted what is left is at rest.
    rests_within : (g N : ℕ) (s : State) → N ≤ g → Within N s → AtRest (machine_run 𝓜 L g s).status
    rests_within zero N s le i = go (no_room L s) (step 𝓜 s) (state-falls i.0 i.1)
      where
        go : (w : Option Halt) (x : MachineNext) → Falls N w x → AtRest (with_none_left s x).status
        go w (goes s') f = absurd (omega (arith, f.0))
        go w (ends v) f = tt
        go w (faults φ p) f = absurd (omega arith)
        go w stuck f = f
    rests_within (suc g) N s le i = go (no_room L s) (step 𝓜 s) (state-falls i.0 i.1) (λ s'. rests_within g (N - 1) s' (omega arith))
      where
        go : (w : Option Halt) (x : MachineNext) → Falls N w x → ((s' : State) → Within (N - 1) s' → AtRest (machine_run 𝓜 L g s').status) →
            AtRest (with_one_left s w x (λ s'. machine_run 𝓜 L g s')).status
        go None (goes s') f ih = ih s' (f.1 refl)
        go (Some w) (goes s') f ih = tt
        go w stuck f ih = f
        go w x f ih = tt

pub comes_to_rest : ComesToRest
comes_to_rest 𝓜 L cs t g le few enough =
    rests_within L 𝓜 g most_units (start t cs) enough (on_term 0 t le (k_end (good_inputs Sized cs)), omega (arith, first_frame t le))
