-- The machine: its states, and one step. A place is given by the code from there on.
use Rattle.std.specs.Prelude.{◌≡◌, ℕ, zero, suc, Bool, true, false, List, [], ◌∷◌, length, drop, Option}
use Rattle.domain.specs.Meaning.{Meaning}
use Rattle.semantics.specs.declared.layout.Instruction.{Instruction}
use Rattle.semantics.specs.declared.layout.Instruction.TheVariants.{End, PushNum, PushTruth, Access, PushClosure, PushThunk, Operate, Compare, Bind, Unbind, Apply, Return, Choose}
use Rattle.semantics.specs.Terms.{Term}
use Rattle.semantics.specs.Evaluation.{condition_no_boolean, applied_no_function, engine_fault, Sort, a_number, a_boolean, a_function, Computed, gives_number, gives_boolean, gives_fault, operated, compared}
use Rattle.semantics.specs.Translation.{translate}
use Rattle.semantics.specs.Running.{Next, goes, ends, faults, stuck, Bounds, Halt, halting, second, Report, run}

-- What the machine holds for a value. A closure is a name, a body's place and an environment.
mutual
  pub data Held : Type 0 where
    h_number : (code : ℕ) → Held
    h_boolean : Bool → Held
    closure : (name : ℕ) (body : List Instruction) → HeldEnv → Held

  pub data HeldEnv : Type 0 where
    ∅ : HeldEnv
    ◌◂◌ : Held → HeldEnv → HeldEnv

infixr 67 ◌◂◌
-- A cell of the stack: a value, a thunk, or a return cell, which holds a place and an environment.
pub data Cell : Type 0 where
  val : Held → Cell
  thunk : (body : List Instruction) → HeldEnv → Cell
  return_to : (place : List Instruction) → HeldEnv → Cell

-- A state: the place, the environment, the stack with its top first, and how many environment cells are stored.
pub data State : Type 0 where
  at : (place : List Instruction) → HeldEnv → List Cell → (stored : ℕ) → State

-- What a step of this machine comes to.
abbrev pub MachineNext : Type 0
MachineNext = Next State Held

-- The value past i others. (In a run it is always there.)
abbrev pub fetch : HeldEnv → ℕ → Held
fetch ∅ i = h_boolean false
fetch (v ◂ ρ) zero = v
fetch (v ◂ ρ) (suc i) = fetch ρ i

-- An environment without its front value.
abbrev pub without_front : HeldEnv → HeldEnv
without_front ∅ = ∅
without_front (v ◂ ρ) = ρ

-- What a node sees of a value that the machine holds.
abbrev pub sort_held : Held → Sort
sort_held (h_number c) = a_number c
sort_held (h_boolean b) = a_boolean b
sort_held (closure x k ρ) = a_function

-- Pop a value, a thunk or a return cell.
abbrev pub pop : List Cell → (Held → List Cell → MachineNext) → MachineNext
pop [] f = stuck
pop (val v ∷ s) f = f v s
pop (thunk k ρ ∷ s) f = stuck
pop (return_to k ρ ∷ s) f = stuck

abbrev pub pop_thunk : List Cell → (List Instruction → HeldEnv → List Cell → MachineNext) → MachineNext
pop_thunk [] f = stuck
pop_thunk (val v ∷ s) f = stuck
pop_thunk (thunk k ρ ∷ s) f = f k ρ s
pop_thunk (return_to k ρ ∷ s) f = stuck

abbrev pub pop_return : List Cell → (List Instruction → HeldEnv → List Cell → MachineNext) → MachineNext
pop_return [] f = stuck
pop_return (val v ∷ s) f = stuck
pop_return (thunk k ρ ∷ s) f = stuck
pop_return (return_to k ρ ∷ s) f = f k ρ s

-- Push what an operation or a comparison gives, or fault at the node p.
abbrev pub push_computed : ℕ → Computed → List Instruction → HeldEnv → List Cell → ℕ → MachineNext
push_computed p (gives_number c) k ρ s m = goes (at k ρ (val (h_number c) ∷ s) m)
push_computed p (gives_boolean b) k ρ s m = goes (at k ρ (val (h_boolean b) ∷ s) m)
push_computed p (gives_fault φ) k ρ s m = faults φ p

-- Enter a closure's body with the argument w, and come back to k and ρ.
abbrev pub enter : ℕ → Held → Held → List Instruction → HeldEnv → List Cell → ℕ → MachineNext
enter p (h_number c) w k ρ s m = faults (engine_fault applied_no_function) p
enter p (h_boolean b) w k ρ s m = faults (engine_fault applied_no_function) p
enter p (closure x body ρ') w k ρ s m = goes (at body (w ◂ ρ') (return_to k ρ ∷ s) (suc m))

-- Enter the thunk that the condition chooses, and come back to k and ρ.
abbrev pub enter_branch : ℕ → Held → List Instruction → HeldEnv → List Instruction → HeldEnv → List Instruction → HeldEnv → List Cell → ℕ →
    MachineNext
enter_branch p (h_number c) kt ρt ke ρe k ρ s m = faults (engine_fault condition_no_boolean) p
enter_branch p (h_boolean true) kt ρt ke ρe k ρ s m = goes (at kt ρt (return_to k ρ ∷ s) m)
enter_branch p (h_boolean false) kt ρt ke ρe k ρ s m = goes (at ke ρe (return_to k ρ ∷ s) m)
enter_branch p (closure x body ρ') kt ρt ke ρe k ρ s m = faults (engine_fault condition_no_boolean) p

-- One step.
abbrev pub step : Meaning → State → MachineNext
-- Past the code there is nothing.
step 𝓜 (at [] ρ s m) = stuck
-- At END the run ends with the top value.
step 𝓜 (at (End ∷ k) ρ s m) = pop s (λ v s. ends v)
-- NUM pushes a number.
step 𝓜 (at (PushNum c ∷ k) ρ s m) = goes (at k ρ (val (h_number c) ∷ s) m)
-- BOOL pushes a boolean.
step 𝓜 (at (PushTruth b ∷ k) ρ s m) = goes (at k ρ (val (h_boolean b) ∷ s) m)
-- ACCESS pushes the environment's value.
step 𝓜 (at (Access x i ∷ k) ρ s m) = goes (at k ρ (val (fetch ρ i) ∷ s) m)
-- CLOSURE pushes its body's place with the environment, and goes past the body.
step 𝓜 (at (PushClosure x n ∷ k) ρ s m) = goes (at (drop n k) ρ (val (closure x k ρ) ∷ s) m)
-- THUNK does the same for a branch.
step 𝓜 (at (PushThunk n ∷ k) ρ s m) = goes (at (drop n k) ρ (thunk k ρ ∷ s) m)
-- OP pops right, then left, and pushes the domain's answer.
step 𝓜 (at (Operate o p ∷ k) ρ s m) = pop s (λ w s. pop s (λ v s. push_computed p (operated 𝓜 o (sort_held v) (sort_held w)) k ρ s m))
-- EQ pops right, then left, and pushes whether they are the same.
step 𝓜 (at (Compare p ∷ k) ρ s m) = pop s (λ w s. pop s (λ v s. push_computed p (compared 𝓜 (sort_held v) (sort_held w)) k ρ s m))
-- LET pops a value to the environment's front.
step 𝓜 (at (Bind x ∷ k) ρ s m) = pop s (λ v s. goes (at k (v ◂ ρ) s (suc m)))
-- ENDLET drops the front. Its cell stays stored.
step 𝓜 (at (Unbind ∷ k) ρ s m) = goes (at k (without_front ρ) s m)
-- APPLY pops argument and function, and enters the function's body.
step 𝓜 (at (Apply p ∷ k) ρ s m) = pop s (λ w s. pop s (λ f s. enter p f w k ρ s m))
-- RETURN keeps the top value, drops the return cell under it and resumes there.
step 𝓜 (at (Return ∷ k) ρ s m) = pop s (λ v s. pop_return s (λ k' ρ' s. goes (at k' ρ' (val v ∷ s) m)))
-- IF pops the condition, the else-thunk and the then-thunk, and enters the one chosen.
step 𝓜 (at (Choose p ∷ k) ρ s m) = pop s (λ c s. pop_thunk s (λ ke ρe s. pop_thunk s (λ kt ρt s. enter_branch p c kt ρt ke ρe k ρ s m)))

-- Whether a cell holds a function.
abbrev pub is_function : Sort → Bool
is_function (a_number c) = false
is_function (a_boolean b) = false
is_function a_function = true

abbrev pub cell_is_function : Cell → Bool
cell_is_function (val v) = is_function (sort_held v)
cell_is_function (thunk k ρ) = false
cell_is_function (return_to k ρ) = false

-- Whether the next step has no room.
abbrev pub no_room : Bounds → State → Option Halt
no_room L (at k ρ s m) = halting L k (length s) (second cell_is_function s) m

-- The inputs as the machine holds them.
abbrev pub held_inputs : List ℕ → HeldEnv
held_inputs [] = ∅
held_inputs (c ∷ cs) = h_number c ◂ held_inputs cs

-- A run starts at the first instruction with an empty stack, and one cell stored for each input.
abbrev pub start : Term → List ℕ → State
start t cs = at (translate t) (held_inputs cs) [] (length cs)

-- The run of a term on its inputs with a grant of g units.
abbrev pub machine_run : Meaning → Bounds → ℕ → State → Report State Held
machine_run 𝓜 L g s = run (step 𝓜) (no_room L) g s

-- n steps lead from one state to another.
pub data Steps (𝓜 : Meaning) : ℕ → State → State → Type 0 where
  here : {s : State} → Steps 𝓜 zero s s
  more : {n : ℕ} {s s' s'' : State} → step 𝓜 s ≡ goes s' → Steps 𝓜 n s' s'' → Steps 𝓜 (suc n) s s''
