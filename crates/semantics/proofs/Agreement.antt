-- Runs follow the steps, and so agree with the evaluation rules.
use Rattle.std.proofs.Common.{◌≡◌, ℕ, zero, suc, ◌+◌, ◌-◌, ◌<◌, ◌≤◌, true, ◌⊎◌, List, [], ◌∷◌, length, Some, None, Option, sym, refl, ap, ◌∙◌, subst, ap₂, inl, inr, arith}
use native.Mathlib.Decide.{dec_le}
use Rattle.domain.specs.declared.Fault.{Fault}
use Rattle.domain.specs.Meaning.{Meaning}
use Rattle.semantics.specs.declared.layout.Instruction.{Instruction}
use Rattle.semantics.specs.declared.layout.Instruction.TheVariants.{End, Return}
use Rattle.semantics.specs.Terms.{Term, lam}
use Rattle.semantics.specs.Values.{Value, Env, input_env, Outcome, yields, fails}
use Rattle.semantics.specs.Evaluation.{Evals}
use Rattle.semantics.specs.Substitution.{fill, reify, reify_env}
use Rattle.semantics.specs.Running.{goes, ends, faults, Bounds, Halt, running, ended, failed, halted, Report, reports, one_unit_more, with_one_left}
use Rattle.semantics.specs.Machine.{Held, HeldEnv, Cell, val, State, at, step, no_room, held_inputs, start, machine_run, Steps, here, more}
use Rattle.semantics.specs.Showing.{show_held, show_env}
use Rattle.semantics.specs.Agreement.{NoOutcomeWithin, RoomFor, Verdict, is_ended, is_failed, is_halted, is_running, shown_status}
use Rattle.semantics.proofs.ReadingBack.{read-emit}
use Rattle.semantics.proofs.Simulation.{Fits, fits_number, fits_boolean, fits_function, FitsEnv, fits_none, fits_more, Reaches, gets, meets, simulates}
use Rattle.semantics.proofs.Running.{busy, plus, same_report, plus_none, plus-more, run_ends, run-faults, run-busy}
use Rattle.semantics.proofs.Progress.{Progress, done, going, makes_progress_within}
use Rattle.semantics.proofs.Room.{room_for_none, room_for_more, room_for_last, faults_have_room}

-- What the machine holds shows as the value that it stands for.
mutual
  pub shown_fits : {h : Held} {v : Value} → Fits h v → show_held h ≡ reify v
  shown_fits fits_number = refl
  shown_fits fits_boolean = refl
  shown_fits (fits_function {x = x} {b = b} {p = p} {ρ = ρ} {ρ' = ρ'} k fs) =
      ap (lam x) (read-emit (suc p) b (Return ∷ k) 1 (show_env ρ') [] [] ∙ ap (λ σ. fill 1 σ b) (shown_env_fits fs))

  pub shown_env_fits : {ρ' : HeldEnv} {ρ : Env} → FitsEnv ρ' ρ → show_env ρ' ≡ reify_env ρ
  shown_env_fits fits_none = refl
  shown_env_fits (fits_more f fs) = ap₂ ◌∷◌ (shown_fits f) (shown_env_fits fs)

-- The inputs as the machine holds them stand for the inputs.
pub inputs_fit : (cs : List ℕ) → FitsEnv (held_inputs cs) (input_env cs)
inputs_fit [] = fits_none
inputs_fit (c ∷ cs) = fits_more fits_number (inputs_fit cs)

module _ (𝓜 : Meaning) (L : Bounds) where
  -- A run over n steps: it halts on the way, or goes on from where they lead.
  data OverSteps (n : ℕ) (s₀ s' : State) (g : ℕ) (r : Report State Held) : Type 0 where
    stopped : {w : Halt} {u : ℕ} {s : State} → u < n → Steps 𝓜 u s₀ s → no_room L s ≡ Some w → RoomFor 𝓜 L s₀ u → r ≡ reports (halted w) u s →
        OverSteps n s₀ s' g r
    followed : RoomFor 𝓜 L s₀ n → r ≡ plus n (machine_run 𝓜 L g s') → OverSteps n s₀ s' g r

  -- So it does over one step more in front.
  one_step_over : {n : ℕ} {s s' s'' : State} {g : ℕ} {r : Report State Held} → step 𝓜 s ≡ goes s' → no_room L s ≡ None → OverSteps n s' s'' g r →
      OverSteps (suc n) s s'' g (one_unit_more r)
  one_step_over {s = s} q h (stopped l d f R e) = stopped (omega arith) (more q d) f (room_for_more 𝓜 L {s = s} q h R) (ap one_unit_more e)
  one_step_over {n = n} {s = s} {s'' = s''} {g = g} q h (followed R e) =
      followed (room_for_more 𝓜 L {s = s} q h R) (ap one_unit_more e ∙ plus-more n (machine_run 𝓜 L g s''))

  -- Every run goes so over its steps.
  over_steps : {n : ℕ} {s s' : State} → Steps 𝓜 n s s' → (g N : ℕ) → N ≡ n + g → OverSteps n s s' g (machine_run 𝓜 L N s)
  over_steps (here {s = s}) g N e =
      let f : N ≡ g = omega arith in followed (room_for_none 𝓜 L s) (ap (λ i. machine_run 𝓜 L i s) f ∙ plus_none (machine_run 𝓜 L g s))
  over_steps (more {n = n} {s = s} {s' = s'} {s'' = s''} q d) g zero e = absurd (omega arith)
  over_steps (more {n = n} {s = s} {s' = s'} {s'' = s''} q d) g (suc N) e =
      subst (λ x. OverSteps (suc n) s s'' g (with_one_left s (no_room L s) x (λ s. machine_run 𝓜 L N s))) (sym q) (go (no_room L s) refl (over_steps d g N (omega arith)))
    where
      go : (w : Option Halt) → no_room L s ≡ w → OverSteps n s' s'' g (machine_run 𝓜 L N s') →
          OverSteps (suc n) s s'' g (with_one_left s w (goes s') (λ s. machine_run 𝓜 L N s))
      go (Some w) h f = stopped (omega arith) here h (room_for_none 𝓜 L s) refl
      go None h f = one_step_over q h f

  -- What the simulation reaches, with the outcome as an equation.
  abbrev EndOrFault : State → List Instruction → HeldEnv → List Cell → Outcome → ℕ → Type 0
  EndOrFault s k ρ c o n =
      ((v : Value) × (h : Held) × (m : ℕ) × (o ≡ yields v) × Steps 𝓜 n s (at k ρ (val h ∷ c) m) × Fits h v)
      ⊎ ((φ : Fault) × (q : ℕ) × (s' : State) × (m : ℕ) × (o ≡ fails φ q) × (n ≡ suc m) × Steps 𝓜 m s s' × (step 𝓜 s' ≡ faults φ q))

  end_or_fault : {s : State} {k : List Instruction} {ρ : HeldEnv} {c : List Cell} {o : Outcome} {n : ℕ} → Reaches 𝓜 s k ρ c o n →
      EndOrFault s k ρ c o n
  end_or_fault (gets {v = v} h m d f) = inl (v, h, m, refl, d, f)
  end_or_fault (meets {φ = φ} {q = q} s' m u d f) = inr (φ, q, s', m, refl, u, d, f)

  module _ (cs : List ℕ) (t : Term) where
    -- The run in question.
    abbrev ran : ℕ → Report State Held
    ran N = machine_run 𝓜 L N (start t cs)

    -- What a run comes to when the term has an outcome within the grant.
    data OnOutcome (o : Outcome) (j : ℕ) (r : Report State Held) : Type 0 where
      comes_halted : {w : Halt} {u : ℕ} {s : State} → u < j → Steps 𝓜 u (start t cs) s → no_room L s ≡ Some w → RoomFor 𝓜 L (start t cs) u →
          r ≡ reports (halted w) u s → OnOutcome o j r
      comes_value : {h : Held} {v : Value} {s : State} → o ≡ yields v → Fits h v → RoomFor 𝓜 L (start t cs) j → r ≡ reports (ended h) j s →
          OnOutcome o j r
      comes_fault : {φ : Fault} {p : ℕ} {s : State} → o ≡ fails φ p → RoomFor 𝓜 L (start t cs) j → r ≡ reports (failed φ p) j s → OnOutcome o j r

    -- Such a run comes to the outcome, or halts before.
    on_outcome : {o : Outcome} {j : ℕ} → Evals 𝓜 (input_env cs) 0 t o j → (N : ℕ) → j ≤ N → OnOutcome o j (ran N)
    on_outcome {o = o} {j = j} e N le = go (end_or_fault (simulates 𝓜 e (held_inputs cs) (inputs_fit cs) (End ∷ []) [] (length cs)))
      where
        at_end : {s : State} {h : Held} {v : Value} → step 𝓜 s ≡ ends h → o ≡ yields v → Fits h v → OverSteps j (start t cs) s (N - j) (ran N) →
            OnOutcome o j (ran N)
        at_end q is f (stopped l d hl R e) = comes_halted l d hl R e
        at_end {s = s} {h = h} q is f (followed R e) =
            let z : j + 0 ≡ j = omega arith in
            comes_value is f R (e ∙ ap (plus j) (run_ends (step 𝓜) (no_room L) s h q (N - j)) ∙ same_report (ended h) s z)

        at_fault : {s : State} {m : ℕ} {φ : Fault} {p : ℕ} → j ≡ suc m → Steps 𝓜 m (start t cs) s → step 𝓜 s ≡ faults φ p → o ≡ fails φ p →
            OverSteps m (start t cs) s (suc (N - j)) (ran N) → OnOutcome o j (ran N)
        at_fault u d q is (stopped l d' hl R e) = comes_halted (omega arith) d' hl R e
        at_fault {s = s} {m = m} {φ = φ} {p = p} u d q is (followed R e) =
            let z : m + 1 ≡ j = omega arith in
            let R' : RoomFor 𝓜 L (start t cs) j = subst (RoomFor 𝓜 L (start t cs)) (sym u) (room_for_last 𝓜 L d (faults_have_room 𝓜 L s q) R) in
            comes_fault is R' (e ∙ ap (plus m) (run-faults (step 𝓜) (no_room L) s φ p q (N - j)) ∙ same_report (failed φ p) s z)

        go : EndOrFault (start t cs) (End ∷ []) (held_inputs cs) [] o j → OnOutcome o j (ran N)
        go (inl (v, h, m, is, d, f)) = at_end refl is f (over_steps d (N - j) N (omega arith))
        go (inr (φ, p, s, m, is, u, d, q)) = at_fault u d q is (over_steps d (suc (N - j)) N (omega arith))

    -- Where a run with an outcome within its grant has halted, it did so before.
    abbrev HaltsBefore : ℕ → Report State Held → Type 0
    HaltsBefore j r = (w : Halt) (u : ℕ) (s : State) → r ≡ reports (halted w) u s → u < j

    halts_before : {o : Outcome} {j : ℕ} {r : Report State Held} → OnOutcome o j r → HaltsBefore j r
    halts_before (comes_halted {u = u'} l d hl R is') w u s is =
        let z : u ≡ u' = ap (λ (r : Report State Held). r.spent) (sym is ∙ is') in omega arith
    halts_before (comes_value q f R is') w u s is = let y = ap (λ (r : Report State Held). r.status) (sym is ∙ is') in cc
    halts_before (comes_fault q R is') w u s is = let y = ap (λ (r : Report State Held). r.status) (sym is ∙ is') in cc

    -- Such a run is not running.
    not_running : {o : Outcome} {j : ℕ} {r : Report State Held} → OnOutcome o j r → r.status ≡ running → ⊥
    not_running (comes_halted l d hl R is') is = let y = ap (λ (r : Report State Held). r.status) is' in cc
    not_running (comes_value q f R is') is = let y = ap (λ (r : Report State Held). r.status) is' in cc
    not_running (comes_fault q R is') is = let y = ap (λ (r : Report State Held). r.status) is' in cc

    -- Where a run has halted, no outcome came.
    none_when_halted : {w : Halt} {u N : ℕ} {s : State} → u < N → ran N ≡ reports (halted w) u s → NoOutcomeWithin 𝓜 cs t u
    none_when_halted {w = w} {u = u} {N = N} {s = s} l is o j e = go (dec_le j N)
      where
        go : Dec (j ≤ N) → u < j
        go (yes le) = halts_before (on_outcome e N le) w u s is
        go (no gt) = omega arith

    -- Where a run is running, no outcome came within its grant.
    none_when_running : {N : ℕ} → (ran N).status ≡ running → NoOutcomeWithin 𝓜 cs t N
    none_when_running {N = N} is o j e = go (dec_le j N)
      where
        go : Dec (j ≤ N) → N < j
        go (yes le) = absurd (not_running (on_outcome e N le) is)
        go (no gt) = omega arith

    -- The verdict on a report.
    abbrev VerdictOn : ℕ → Report State Held → Type 0
    VerdictOn N r = Verdict 𝓜 L cs t N (shown_status r.status) r.spent

    -- The verdict where the term has an outcome within the grant, and where it has none.
    verdict_on_outcome : {o : Outcome} {j : ℕ} (N : ℕ) → Evals 𝓜 (input_env cs) 0 t o j → j ≤ N → OnOutcome o j (ran N) → VerdictOn N (ran N)
    verdict_on_outcome N e le (comes_halted l d hl R is) =
        subst (VerdictOn N) (sym is) (is_halted (omega arith) d hl R (none_when_halted (omega arith) is))
    verdict_on_outcome {j = j} N e le (comes_value {h = h} {v = v} q f R is) =
        subst (VerdictOn N) (sym is) (subst (λ x. Verdict 𝓜 L cs t N (ended x) j) (sym (shown_fits f)) (is_ended (subst (λ o. Evals 𝓜 (input_env cs) 0 t o j) q e) le R))
    verdict_on_outcome {j = j} N e le (comes_fault q R is) =
        subst (VerdictOn N) (sym is) (is_failed (subst (λ o. Evals 𝓜 (input_env cs) 0 t o j) q e) le R)

    verdict_on_steps : {s : State} (N : ℕ) → busy (step 𝓜 s) ≡ true → OverSteps N (start t cs) s 0 (ran N) → VerdictOn N (ran N)
    verdict_on_steps N b (stopped l d hl R is) = subst (VerdictOn N) (sym is) (is_halted l d hl R (none_when_halted l is))
    verdict_on_steps {s = s} N b (followed R is) =
        let z : N + 0 ≡ N = omega arith in
        let e : ran N ≡ reports running N s = is ∙ ap (plus N) (run-busy (step 𝓜) (no_room L) s b) ∙ same_report running s z in
        subst (VerdictOn N) (sym e) (is_running (none_when_running (ap (λ (r : Report State Held). r.status) e)) R)

    -- The verdict on every run.
    judge : (N : ℕ) → VerdictOn N (ran N)
    judge N = go (makes_progress_within 𝓜 N (input_env cs) 0 t (held_inputs cs) (inputs_fit cs) (End ∷ []) [] (length cs))
      where
        go : Progress 𝓜 N (start t cs) (input_env cs) 0 t → VerdictOn N (ran N)
        go (done e le) = verdict_on_outcome N e le (on_outcome e N le)
        go (going d b) = verdict_on_steps N b (over_steps d 0 N (omega arith))

pub verdict_on_run : (𝓜 : Meaning) (L : Bounds) (cs : List ℕ) (t : Term) (g : ℕ) →
    let r = machine_run 𝓜 L g (start t cs) in Verdict 𝓜 L cs t g (shown_status r.status) r.spent
verdict_on_run 𝓜 L cs t g = judge 𝓜 L cs t g
