-- All that showing a stop of a run reads can be read.
use Rattle.std.proofs.Common.{◌≡◌, ℕ, suc, List, [], ◌∷◌, Some, Option, sym, refl, ap, ◌∙◌, subst}
use Rattle.semantics.specs.Terms.{Term, let_in, if_then}
use Rattle.semantics.specs.Substitution.{fill}
use Rattle.semantics.specs.declared.layout.Instruction.{Instruction}
use Rattle.semantics.specs.declared.layout.Instruction.TheVariants.{PushThunk, Unbind, Return, Choose}
use Rattle.semantics.specs.Translation.{code_size, emit}
use Rattle.semantics.specs.Machine.{Held, HeldEnv, Cell, State, start}
use Rattle.semantics.specs.Showing.{Mark, in_thunk, in_let, holding, read, show_held, show_env, own_cells}
use Rattle.semantics.specs.PartialReading.{with_term, attempt, attempt_in, on_top, with_terms, attempt_own, attempt_frames, ReadableHeld, ReadableEnv, ReadableCells, ReadableState, EveryStopIsReadable}
use Rattle.semantics.specs.StoredAgrees.{EveryStoredStopIsReadable}
use Rattle.semantics.proofs.ReadingBack.{read-emit}
use Rattle.semantics.proofs.PartialReading.{attempt-emit}
use Rattle.semantics.proofs.OneReduction.{Joins, joins_operate, node}
use Rattle.semantics.proofs.Room.{run_stops_at_a_step}
use Rattle.semantics.proofs.Continuations.{Good, good_number, good_boolean, good_closure, GoodEnv, good_none, good_more, Kont, k_end, k_return, k_first, k_second, k_let_bound, k_let_body, k_if, good_around, RunState, on_term, on_value, between_thunks}
use Rattle.semantics.proofs.ShownSteps.{Any}
use Rattle.semantics.proofs.ReductionSequence.{start_run_state, run_state_along}
use Rattle.semantics.proofs.StoredRuns.{stored_stops_stand}

-- What the machine holds can be read.
mutual
  held_readable : {h : Held} → Good Any h → ReadableHeld h
  held_readable good_number = tt
  held_readable good_boolean = tt
  held_readable (good_closure p b k {ρ = ρ} s g) = ((fill 1 (show_env ρ) b, attempt-emit (suc p) b (Return ∷ k) 1 (show_env ρ) [] []), env_readable g)

  env_readable : {ρ : HeldEnv} → GoodEnv Any ρ → ReadableEnv ρ
  env_readable good_none = tt
  env_readable (good_more h g) = (held_readable h, env_readable g)

-- So can the environment of what waits, and the values in its cells.
around_readable : {k : List Instruction} {ρ : HeldEnv} {c : List Cell} → Kont Any k ρ c → ReadableEnv ρ
around_readable K = env_readable (good_around Any K)

cells_readable : {k : List Instruction} {ρ : HeldEnv} {c : List Cell} → Kont Any k ρ c → ReadableCells c
cells_readable (k_end g) = tt
cells_readable (k_return g K) = (around_readable K, cells_readable K)
cells_readable (k_first j q r s K) = cells_readable K
cells_readable (k_second j g K) = (held_readable g, cells_readable K)
cells_readable (k_let_bound x q b s K) = cells_readable K
cells_readable (k_let_body g K) = cells_readable K
cells_readable (k_if p qt qe t e r₁ r₂ st se K) = (around_readable K, (around_readable K, cells_readable K))

-- What goes on with a frame's term.
abbrev below : List Cell → Option Term → Option Term
below c o = with_term o (λ t. attempt_frames t c)

-- What goes on with the terms of a frame's own cells.
abbrev in_frame : List Instruction → HeldEnv → List Cell → (List Term → List Term) → Option (List Term) → Option Term
in_frame k ρ c over o = with_terms o (λ u. below c (attempt_in 0 ρ k (over u)))

-- Reading the code of a term in a frame pushes the term, with the frame's values filled in.
frame_attempt : (p : ℕ) (t : Term) (k : List Instruction) (ρ : HeldEnv) (ms : List Mark) (s : List Term) (c : List Cell) →
    below c (attempt (emit p t k) 0 (Some (show_env ρ)) ms s) ≡ below c (attempt k 0 (Some (show_env ρ)) ms (fill (holding 0 ms) (show_env ρ) t ∷ s))
frame_attempt p t k ρ ms s c = ap (below c) (attempt-emit p t k 0 (show_env ρ) ms s)

-- A thunk can be read.
thunk-read : (p : ℕ) (t : Term) (k : List Instruction) (ρ : HeldEnv) →
    attempt_in 0 ρ (emit p t (Return ∷ k)) [] ≡ Some (read (emit p t (Return ∷ k)) 0 (show_env ρ) [] [])
thunk-read p t k ρ = attempt-emit p t (Return ∷ k) 0 (show_env ρ) [] [] ∙ ap Some (sym (read-emit p t (Return ∷ k) 0 (show_env ρ) [] []))

-- So can a frame's own cells under what waits for a value.
own_read : {k : List Instruction} {ρ : HeldEnv} {c : List Cell} → Kont Any k ρ c → attempt_own c ≡ Some (own_cells c)
own_read (k_end g) = refl
own_read (k_return g K) = refl
own_read (k_first j q r s K) = own_read K
own_read (k_second j {h = h} g K) = ap (on_top (Some (show_held h))) (own_read K)
own_read (k_let_bound x q b s K) = own_read K
own_read (k_let_body g K) = own_read K
own_read (k_if p qt qe t e r₁ r₂ {ρ = ρ} st se K) = λ i. on_top (thunk-read qe e r₂ ρ i) (on_top (thunk-read qt t r₁ ρ i) (own_read K i))

-- An instruction that takes two values makes its node of the two terms on top.
joined : {i : Instruction} (j : Joins i) (k : List Instruction) (ρ : HeldEnv) (a b : Term) (s : List Term) →
    attempt_in 0 ρ (i ∷ k) (b ∷ a ∷ s) ≡ attempt_in 0 ρ k (node j a b ∷ s)
joined joins_operate k ρ a b s = refl
joined j k ρ a b s = refl

-- What waits for a value can be read over any term that stands for it.
abbrev Reads : List Instruction → HeldEnv → List Cell → Term → Type 0
Reads k ρ c T = (t : Term) × (below c (attempt_in 0 ρ k (T ∷ own_cells c)) ≡ Some t)

rest_read : {k : List Instruction} {ρ : HeldEnv} {c : List Cell} → Kont Any k ρ c → (T : Term) → Reads k ρ c T
rest_read (k_end g) T = (T, refl)
rest_read (k_return {ρ = ρ} {k = k} {c = c} g K) T = let (t, e) = rest_read K T in (t, ap (in_frame k ρ c (◌∷◌ T)) (own_read K) ∙ e)
rest_read (k_first j q r {ρ = ρ} {k = k} {c = c} s K) T =
    let (t, e) = rest_read K (node j T (fill 0 (show_env ρ) r)) in (t, frame_attempt q r _ ρ [] (T ∷ own_cells c) c ∙ ap (below c) (joined j k ρ _ _ _) ∙ e)
rest_read (k_second j {h = h} {ρ = ρ} {k = k} {c = c} g K) T =
    let (t, e) = rest_read K (node j (show_held h) T) in (t, ap (below c) (joined j k ρ _ _ _) ∙ e)
rest_read (k_let_bound x q b {ρ = ρ} {k = k} {c = c} s K) T =
    let (t, e) = rest_read K (let_in x T (fill 1 (show_env ρ) b)) in (t, frame_attempt q b (Unbind ∷ k) ρ (in_let x T ∷ []) (own_cells c) c ∙ e)
rest_read (k_let_body g K) T = rest_read K T
rest_read (k_if p qt qe t e r₁ r₂ st se K) T = rest_read K (if_then T _ _)

-- Every state of a run can be read.
state_readable : {s : State} → RunState Any s → ReadableState s
state_readable (on_term p t {ρ = ρ} {k = k} {c = c} s K) =
    let (u, e) = rest_read K (fill 0 (show_env ρ) t) in
    (around_readable K, cells_readable K, (u, ap (in_frame (emit p t k) ρ c (λ s. s)) (own_read K) ∙ frame_attempt p t k ρ [] (own_cells c) c ∙ e))
state_readable (on_value {h = h} {ρ = ρ} {k = k} {c = c} g K) =
    let (u, e) = rest_read K (show_held h) in
    (around_readable K, (held_readable g, cells_readable K), (u, ap (λ o. in_frame k ρ c (λ s. s) (on_top (Some (show_held h)) o)) (own_read K) ∙ e))
state_readable (between_thunks p qe qt q t e r₁ {ρ = ρ} {k = k} {c = c} s K) =
    let thn : List Instruction = emit qt t (Return ∷ r₁) in
    let cnd : List Instruction = emit (suc p) q (Choose p ∷ k) in
    let els : List Instruction = emit qe e (Return ∷ cnd) in
    let σ : List Term = show_env ρ in
    let own : List Term = read thn 0 σ [] [] ∷ own_cells c in
    let (u, is) = rest_read K (if_then (fill 0 σ q) (read thn 0 σ [] []) (fill 0 σ e)) in (
      around_readable K,
      (around_readable K, cells_readable K),
      (
        u,
        (λ i. in_frame (PushThunk (suc (code_size e)) ∷ els) ρ c (λ s. s) (on_top (thunk-read qt t r₁ ρ i) (own_read K i)))
            ∙ frame_attempt qe e (Return ∷ cnd) ρ (in_thunk ∷ []) own c ∙ frame_attempt (suc p) q (Choose p ∷ k) ρ [] (fill 0 σ e ∷ own) c ∙ is,
      ),
    )

pub every_stop_is_readable : EveryStopIsReadable
every_stop_is_readable 𝓜 L cs t g = state_readable (run_state_along 𝓜 (run_stops_at_a_step 𝓜 L g (start t cs)).1 (start_run_state cs t))

pub every_stored_stop_is_readable : EveryStoredStopIsReadable
every_stored_stop_is_readable 𝓜 L cs t g = subst ReadableState (sym (stored_stops_stand 𝓜 L cs t g).0) (every_stop_is_readable 𝓜 L cs t g)
