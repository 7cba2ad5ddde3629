-- Runs of the stored machine go in step with runs of the other, and so agree with the evaluation rules.
use Rattle.std.proofs.Common.{◌≡◌, ℕ, zero, suc, List, [], ◌∷◌, length, drop, Some, None, Option, sym, refl, ap, ◌∙◌, subst, ap₂, arith}
use lib.ListN.{length-map}
use Rattle.domain.specs.Meaning.{Meaning}
use Rattle.semantics.specs.declared.layout.Instruction.{Instruction}
use Rattle.semantics.specs.Terms.{Term}
use Rattle.semantics.specs.Translation.{translate}
use Rattle.semantics.specs.Running.{goes, ends, faults, stuck, Bounds, Halt, halting, second, Report, reports, one_unit_more, with_none_left, with_one_left}
use Rattle.semantics.specs.Machine.{Held, h_number, HeldEnv, ◌◂◌, State, at, MachineNext, step, is_function, cell_is_function, no_room, held_inputs, start, machine_run}
use Rattle.semantics.specs.Agreement.{Verdict, shown_status}
use Rattle.semantics.specs.StoredMachine.{Word, w_number, Slot, s_val, s_thunk, s_return, StoreCell, StoredState, at_place, StoredNext, stored_step, slot_is_function, stored_no_room, input_cells, stored_start, stored_run}
use Rattle.semantics.specs.StoredAgrees.{env_of, cell_of, cells_of, state_of, status_of, StoreFalls, Sound, StandsFor, StoredRunAgrees, StoredStopsStand}
use Rattle.semantics.proofs.Agreement.{verdict_on_run}
use Rattle.semantics.proofs.Verdicts.{exactly}
use Rattle.semantics.proofs.LockStep.{sort_held_of, new_cell, steps_in_lock_step}

abbrev StoredReport : Type 0
StoredReport = Report StoredState (Word × List StoreCell)

-- What decides halting is alike.
second_of : (C : List Instruction) (E : ℕ → HeldEnv) (s : List Slot) → second cell_is_function (cells_of C E s) ≡ second slot_is_function s
second_of C E [] = refl
second_of C E (x ∷ []) = refl
second_of C E (x ∷ s_val w ∷ s) = ap is_function (sort_held_of C E w)
second_of C E (x ∷ s_thunk p e ∷ s) = refl
second_of C E (x ∷ s_return p e ∷ s) = refl

no_room_of : (L : Bounds) (C : List Instruction) (x : StoredState) → no_room L (state_of C x) ≡ stored_no_room L C x
no_room_of L C (at_place q e s σ) =
    ap₂ (λ n v. halting L (drop q C) n v (length σ)) (length-map s (cell_of C (env_of C σ))) (second_of C (env_of C σ) s)

-- What a report stands for.
abbrev report_of : List Instruction → StoredReport → Report State Held
report_of C r = reports (status_of C r.status) r.spent (state_of C r.state)

module _ (𝓜 : Meaning) (L : Bounds) (C : List Instruction) where
  -- A report of the stored machine stands for one of the other, and its state is sound.
  abbrev ReportStands : Report State Held → StoredReport → Type 0
  ReportStands r c = (r ≡ report_of C c) × Sound c.state

  -- Runs go in lock step.
  pub runs_in_lock_step : (g : ℕ) (x : StoredState) → Sound x → ReportStands (machine_run 𝓜 L g (state_of C x)) (stored_run 𝓜 L C g x)
  runs_in_lock_step zero x ok = go (stored_step 𝓜 C x) (step 𝓜 (state_of C x)) (steps_in_lock_step 𝓜 C x ok)
    where
      go : (c : StoredNext) (y : MachineNext) → StandsFor C c y → ReportStands (with_none_left (state_of C x) y) (with_none_left x c)
      go (goes z) y (e, h) = (ap (with_none_left (state_of C x)) e, ok)
      go (ends w) y e = (ap (with_none_left (state_of C x)) e, ok)
      go (faults φ p) y e = (ap (with_none_left (state_of C x)) e, ok)
      go stuck y e = (ap (with_none_left (state_of C x)) e, ok)
  runs_in_lock_step (suc g) x ok =
      subst (λ w. ReportStands (with_one_left (state_of C x) w (step 𝓜 (state_of C x)) (λ s. machine_run 𝓜 L g s)) (stored_run 𝓜 L C (suc g) x)) (sym (no_room_of L C x))
      (go (stored_no_room L C x) (stored_step 𝓜 C x) (step 𝓜 (state_of C x)) (steps_in_lock_step 𝓜 C x ok) (runs_in_lock_step g))
    where
      go : (w : Option Halt) (c : StoredNext) (y : MachineNext) → StandsFor C c y →
          ((z : StoredState) → Sound z → ReportStands (machine_run 𝓜 L g (state_of C z)) (stored_run 𝓜 L C g z)) →
          ReportStands (with_one_left (state_of C x) w y (λ s. machine_run 𝓜 L g s)) (with_one_left x w c (λ z. stored_run 𝓜 L C g z))
      go (Some w) (goes z) y (e, h) ih = (ap (λ y. with_one_left (state_of C x) (Some w) y (λ s. machine_run 𝓜 L g s)) e, ok)
      go None (goes z) y (e, h) ih =
          let (q, ok') = ih z h in
          (ap (λ y. with_one_left (state_of C x) None y (λ s. machine_run 𝓜 L g s)) e ∙ ap one_unit_more q, ok')
      go w (ends v) y e ih = (ap (λ y. with_one_left (state_of C x) w y (λ s. machine_run 𝓜 L g s)) e, ok)
      go w (faults φ p) y e ih = (ap (λ y. with_one_left (state_of C x) w y (λ s. machine_run 𝓜 L g s)) e, ok)
      go w stuck y e ih = (ap (λ y. with_one_left (state_of C x) w y (λ s. machine_run 𝓜 L g s)) e, ok)

-- Both machines start alike.
module _ (C : List Instruction) where
  start_env : (cs : List ℕ) → env_of C (input_cells cs) (length (input_cells cs)) ≡ held_inputs cs
  start_env [] = refl
  start_env (c ∷ cs) = new_cell C (w_number c) (length (input_cells cs)) (input_cells cs) ∙ ap (◌◂◌ (h_number c)) (start_env cs)

  start-length : (cs : List ℕ) → length (input_cells cs) ≡ length cs
  start-length [] = refl
  start-length (c ∷ cs) = ap suc (start-length cs)

  start_falls : (cs : List ℕ) → StoreFalls (input_cells cs)
  start_falls [] = tt
  start_falls (c ∷ cs) = (tt, omega arith, start_falls cs)

pub start_of : (t : Term) (cs : List ℕ) → state_of (translate t) (stored_start cs) ≡ start t cs
start_of t cs = ap₂ (λ ρ m. at (translate t) ρ [] m) (start_env (translate t) cs) (start-length (translate t) cs)

-- A run of the stored machine from its inputs stands for the other's.
stored_run_stands : (𝓜 : Meaning) (L : Bounds) (cs : List ℕ) (t : Term) (g : ℕ) →
    ReportStands 𝓜 L (translate t) (machine_run 𝓜 L g (start t cs)) (stored_run 𝓜 L (translate t) g (stored_start cs))
stored_run_stands 𝓜 L cs t g =
    let C = translate t in
    let (e, ok) = runs_in_lock_step 𝓜 L C g (stored_start cs) (omega arith, tt, start_falls C cs) in
    (sym (ap (machine_run 𝓜 L g) (start_of t cs)) ∙ e, ok)

pub stored_run_agrees : StoredRunAgrees
stored_run_agrees 𝓜 L cs t g x n =
    exactly 𝓜 L cs t g
    (subst (λ r. Verdict 𝓜 L cs t g (shown_status r.status) r.spent) (stored_run_stands 𝓜 L cs t g).0 (verdict_on_run 𝓜 L cs t g)) x n

pub stored_stops_stand : StoredStopsStand
stored_stops_stand 𝓜 L cs t g = let (e, ok) = stored_run_stands 𝓜 L cs t g in (sym (ap (λ r. r.state) e), ok)
