-- The machine as it is stored, which is a matter of the implementation: places are numbers, and environments references
-- into a store of cells that only grows.
use Rattle.std.specs.Prelude.{ℕ, zero, suc, ◌+◌, Bool, true, false, cond, List, [], ◌∷◌, length, drop, Option, ◌==◌}
use Rattle.domain.specs.Meaning.{Meaning}
use Rattle.semantics.specs.declared.layout.Instruction.{Instruction}
use Rattle.semantics.specs.declared.layout.Instruction.TheVariants.{End, PushNum, PushTruth, Access, PushClosure, PushThunk, Operate, Compare, Bind, Unbind, Apply, Return, Choose}
use Rattle.semantics.specs.Evaluation.{condition_no_boolean, applied_no_function, engine_fault, Sort, a_number, a_boolean, a_function, Computed, gives_number, gives_boolean, gives_fault, operated, compared}
use Rattle.semantics.specs.Running.{Next, goes, ends, faults, stuck, Bounds, Halt, halting, second, Report, run}
use Rattle.semantics.specs.Machine.{is_function}

-- A value. A closure is its body's place and an environment: 0, or the number of the cell at its front.
pub data Word : Type 0 where
  w_number : (code : ℕ) → Word
  w_boolean : Bool → Word
  w_closure : (place env : ℕ) → Word

-- A cell of the stack.
pub data Slot : Type 0 where
  s_val : Word → Slot
  s_thunk : (place env : ℕ) → Slot
  s_return : (place env : ℕ) → Slot

-- A cell of the store: a value, and the environment behind it.
pub data StoreCell : Type 0 where
  in_front : Word → (env : ℕ) → StoreCell

-- Place, environment, stack with its top first, and store with its newest cell first.
pub data StoredState : Type 0 where
  at_place : (place env : ℕ) → List Slot → List StoreCell → StoredState

-- What a run ends with: a value and the store that it refers to.
abbrev pub StoredNext : Type 0
StoredNext = Next StoredState (Word × List StoreCell)

-- The cell with the number r: the first stored has 1.
abbrev pub cell_at : List StoreCell → ℕ → StoreCell
cell_at [] r = in_front (w_boolean false) 0
cell_at (c ∷ σ) r = cond (r == suc (length σ)) c (cell_at σ r)

-- Its value, and the environment behind it.
abbrev pub front : StoreCell → Word
front (in_front w e) = w

abbrev pub behind : StoreCell → ℕ
behind (in_front w e) = e

-- The value past i others in the environment r.
abbrev pub walk : List StoreCell → ℕ → ℕ → Word
walk σ zero r = front (cell_at σ r)
walk σ (suc i) r = walk σ i (behind (cell_at σ r))

-- What a node sees of a word.
abbrev pub sort_word : Word → Sort
sort_word (w_number c) = a_number c
sort_word (w_boolean b) = a_boolean b
sort_word (w_closure p e) = a_function

-- Pop a value, a thunk or a return cell.
abbrev pub pop_slot : List Slot → (Word → List Slot → StoredNext) → StoredNext
pop_slot [] f = stuck
pop_slot (s_val w ∷ s) f = f w s
pop_slot (s_thunk p e ∷ s) f = stuck
pop_slot (s_return p e ∷ s) f = stuck

abbrev pub pop_slot_thunk : List Slot → (ℕ → ℕ → List Slot → StoredNext) → StoredNext
pop_slot_thunk [] f = stuck
pop_slot_thunk (s_val w ∷ s) f = stuck
pop_slot_thunk (s_thunk p e ∷ s) f = f p e s
pop_slot_thunk (s_return p e ∷ s) f = stuck

abbrev pub pop_slot_return : List Slot → (ℕ → ℕ → List Slot → StoredNext) → StoredNext
pop_slot_return [] f = stuck
pop_slot_return (s_val w ∷ s) f = stuck
pop_slot_return (s_thunk p e ∷ s) f = stuck
pop_slot_return (s_return p e ∷ s) f = f p e s

-- Push what was computed, enter a closure's body, enter a branch: as the other machine does, with a place and a reference.
abbrev pub stored_push : ℕ → Computed → ℕ → ℕ → List Slot → List StoreCell → StoredNext
stored_push p (gives_number c) q e s σ = goes (at_place q e (s_val (w_number c) ∷ s) σ)
stored_push p (gives_boolean b) q e s σ = goes (at_place q e (s_val (w_boolean b) ∷ s) σ)
stored_push p (gives_fault φ) q e s σ = faults φ p

abbrev pub stored_enter : ℕ → Word → Word → ℕ → ℕ → List Slot → List StoreCell → StoredNext
stored_enter p (w_number c) w q e s σ = faults (engine_fault applied_no_function) p
stored_enter p (w_boolean b) w q e s σ = faults (engine_fault applied_no_function) p
stored_enter p (w_closure b e') w q e s σ = goes (at_place b (suc (length σ)) (s_return q e ∷ s) (in_front w e' ∷ σ))

abbrev pub stored_enter_branch : ℕ → Word → ℕ → ℕ → ℕ → ℕ → ℕ → ℕ → List Slot → List StoreCell → StoredNext
stored_enter_branch p (w_number c) pt et pe ee q e s σ = faults (engine_fault condition_no_boolean) p
stored_enter_branch p (w_boolean true) pt et pe ee q e s σ = goes (at_place pt et (s_return q e ∷ s) σ)
stored_enter_branch p (w_boolean false) pt et pe ee q e s σ = goes (at_place pe ee (s_return q e ∷ s) σ)
stored_enter_branch p (w_closure b e') pt et pe ee q e s σ = faults (engine_fault condition_no_boolean) p

-- One instruction, at place q.
abbrev pub perform : Meaning → List Instruction → ℕ → ℕ → List Slot → List StoreCell → StoredNext
perform 𝓜 [] q e s σ = stuck
perform 𝓜 (End ∷ k) q e s σ = pop_slot s (λ w s. ends (w, σ))
perform 𝓜 (PushNum c ∷ k) q e s σ = goes (at_place (suc q) e (s_val (w_number c) ∷ s) σ)
perform 𝓜 (PushTruth b ∷ k) q e s σ = goes (at_place (suc q) e (s_val (w_boolean b) ∷ s) σ)
perform 𝓜 (Access x i ∷ k) q e s σ = goes (at_place (suc q) e (s_val (walk σ i e) ∷ s) σ)
perform 𝓜 (PushClosure x n ∷ k) q e s σ = goes (at_place (suc q + n) e (s_val (w_closure (suc q) e) ∷ s) σ)
perform 𝓜 (PushThunk n ∷ k) q e s σ = goes (at_place (suc q + n) e (s_thunk (suc q) e ∷ s) σ)
perform 𝓜 (Operate o p ∷ k) q e s σ = pop_slot s (λ w s. pop_slot s (λ v s. stored_push p (operated 𝓜 o (sort_word v) (sort_word w)) (suc q) e s σ))
perform 𝓜 (Compare p ∷ k) q e s σ = pop_slot s (λ w s. pop_slot s (λ v s. stored_push p (compared 𝓜 (sort_word v) (sort_word w)) (suc q) e s σ))
perform 𝓜 (Bind x ∷ k) q e s σ = pop_slot s (λ w s. goes (at_place (suc q) (suc (length σ)) s (in_front w e ∷ σ)))
perform 𝓜 (Unbind ∷ k) q e s σ = goes (at_place (suc q) (behind (cell_at σ e)) s σ)
perform 𝓜 (Apply p ∷ k) q e s σ = pop_slot s (λ w s. pop_slot s (λ f s. stored_enter p f w (suc q) e s σ))
perform 𝓜 (Return ∷ k) q e s σ = pop_slot s (λ w s. pop_slot_return s (λ q' e' s. goes (at_place q' e' (s_val w ∷ s) σ)))
perform 𝓜 (Choose p ∷ k) q e s σ =
    pop_slot s (λ w s. pop_slot_thunk s (λ pe ee s. pop_slot_thunk s (λ pt et s. stored_enter_branch p w pt et pe ee (suc q) e s σ)))

-- One step of code C.
abbrev pub stored_step : Meaning → List Instruction → StoredState → StoredNext
stored_step 𝓜 C (at_place q e s σ) = perform 𝓜 (drop q C) q e s σ

abbrev pub slot_is_function : Slot → Bool
slot_is_function (s_val w) = is_function (sort_word w)
slot_is_function (s_thunk p e) = false
slot_is_function (s_return p e) = false

-- Whether the next step has no room.
abbrev pub stored_no_room : Bounds → List Instruction → StoredState → Option Halt
stored_no_room L C (at_place q e s σ) = halting L (drop q C) (length s) (second slot_is_function s) (length σ)

-- The inputs are stored last first.
abbrev pub input_cells : List ℕ → List StoreCell
input_cells [] = []
input_cells (c ∷ cs) = in_front (w_number c) (length (input_cells cs)) ∷ input_cells cs

abbrev pub stored_start : List ℕ → StoredState
stored_start cs = at_place 0 (length (input_cells cs)) [] (input_cells cs)

-- The run of code C with a grant of g units.
abbrev pub stored_run : Meaning → Bounds → List Instruction → ℕ → StoredState → Report StoredState (Word × List StoreCell)
stored_run 𝓜 L C g x = run (stored_step 𝓜 C) (stored_no_room L C) g x
