-- Steps, the room for them, and where a run stops.
use Rattle.std.proofs.Common.{◌≡◌, ℕ, zero, suc, ◌≤◌, ◌∷◌, Some, None, Option, sym, refl, ◌∙◌, arith}
use native.Mathlib.Decide.{dec_le}
use Rattle.domain.specs.declared.Fault.{Fault}
use Rattle.domain.specs.Meaning.{Meaning}
use Rattle.semantics.specs.declared.layout.Instruction.TheVariants.{Bind, Apply}
use Rattle.semantics.specs.Running.{goes, faults, Bounds, Halt, with_none_left, with_one_left}
use Rattle.semantics.specs.Machine.{closure, val, State, at, MachineNext, step, no_room, machine_run, Steps, here, more}
use Rattle.semantics.specs.Agreement.{RoomFor}

module _ (𝓜 : Meaning) where
  -- The same number of steps leads to the same state.
  pub steps_lead_to_one : {n : ℕ} {s s₁ s₂ : State} → Steps 𝓜 n s s₁ → Steps 𝓜 n s s₂ → s₁ ≡ s₂
  steps_lead_to_one here here = refl
  steps_lead_to_one {s₂ = s₂} (more {n = n} {s' = s'} q d) (more {s' = s''} q' d') =
      let q : ◌≡◌ {A = MachineNext} (goes s'') (goes s') = sym q' ∙ q in let e : s'' ≡ s' = cc in steps_lead_to_one d (rw e at d')

  module _ (L : Bounds) where
    pub room_for_none : (s : State) → RoomFor 𝓜 L s 0
    room_for_none s k s' l d = absurd (omega arith)

    -- Room for a first step and for those after it.
    pub room_for_more : {n : ℕ} {s s' : State} → step 𝓜 s ≡ goes s' → no_room L s ≡ None → RoomFor 𝓜 L s' n → RoomFor 𝓜 L s (suc n)
    room_for_more q r R k s'' l here = r
    room_for_more {s = s} {s' = s'} q r R k s'' l (more {n = j} {s' = s₁} q' d) =
        let e : s₁ ≡ s' = steps_lead_to_one {s = s} (more q' here) (more q here) in R j s'' (omega arith) (rw e at d)

    -- Room for some steps and for one after them.
    pub room_for_last : {n : ℕ} {s s' : State} → Steps 𝓜 n s s' → no_room L s' ≡ None → RoomFor 𝓜 L s n → RoomFor 𝓜 L s (suc n)
    room_for_last {n = n} {s = s} {s' = s'} d r R k s'' l d' = go (dec_le (suc k) n)
      where
        go : Dec (suc k ≤ n) → no_room L s'' ≡ None
        go (yes lt) = R k s'' lt d'
        go (no ge) =
            let e : k ≡ n = omega arith in
            let q : s' ≡ s'' = steps_lead_to_one d (rw e at d') in
            rw q at r

    -- A step that faults has room: it takes none.
    pub faults_have_room : (s : State) {φ : Fault} {p : ℕ} → step 𝓜 s ≡ faults φ p → no_room L s ≡ None
    faults_have_room (at (Bind x ∷ k) ρ (val v ∷ c) m) q = cc
    faults_have_room (at (Apply p ∷ k) ρ (val w ∷ val (closure x k' ρ') ∷ c) m) q = cc
    faults_have_room s q = cc

    -- A run stops where some steps lead.
    pub run_stops_at_a_step : (g : ℕ) (s : State) → (n : ℕ) × Steps 𝓜 n s (machine_run 𝓜 L g s).state
    run_stops_at_a_step zero s = go (step 𝓜 s)
      where
        go : (x : MachineNext) → (n : ℕ) × Steps 𝓜 n s (with_none_left s x).state
        go (goes s') = (0, here)
        go x = (0, here)
    run_stops_at_a_step (suc g) s = go (no_room L s) (step 𝓜 s) refl (λ s. run_stops_at_a_step g s)
      where
        go : (w : Option Halt) (x : MachineNext) → step 𝓜 s ≡ x → ((s : State) → (n : ℕ) × Steps 𝓜 n s (machine_run 𝓜 L g s).state) →
            (n : ℕ) × Steps 𝓜 n s (with_one_left s w x (λ s. machine_run 𝓜 L g s)).state
        go None (goes s') q ih = let (n, d) = ih s' in (suc n, more q d)
        go (Some w) (goes s') q ih = (0, here)
        go w x q ih = (0, here)
