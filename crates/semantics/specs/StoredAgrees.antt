-- What is claimed of the stored machine: it goes in step with the other.
use Rattle.std.specs.Prelude.{◌≡◌, ℕ, zero, suc, ◌+◌, ◌≤◌, cond, ◌↔◌, List, [], ◌∷◌, map, length, drop, ◌==◌, ◌≢◌}
use Rattle.domain.specs.Meaning.{Meaning}
use Rattle.semantics.specs.declared.layout.Instruction.{Instruction}
use Rattle.semantics.specs.declared.layout.Instruction.TheVariants.{End, PushNum, PushTruth, Access, PushClosure, PushThunk, Operate, Compare, Bind, Unbind, Apply, Return, Choose}
use Rattle.semantics.specs.Terms.{Term}
use Rattle.semantics.specs.Translation.{translate}
use Rattle.semantics.specs.Running.{Next, goes, ends, faults, stuck, Bounds, Status, running, ended, failed, halted, broken, reports}
use Rattle.semantics.specs.Machine.{Held, h_number, h_boolean, closure, HeldEnv, ∅, ◌◂◌, Cell, val, thunk, return_to, State, at, step, start, machine_run}
use Rattle.semantics.specs.PartialReading.{ReadableState}
use Rattle.semantics.specs.Agreement.{Verdict, shown_status}
use Rattle.semantics.specs.StoredMachine.{Word, w_number, w_boolean, w_closure, Slot, s_val, s_thunk, s_return, StoreCell, in_front, StoredState, at_place, StoredNext, stored_step, stored_start, stored_run}

-- The name of the CLOSURE in front of the code.
abbrev pub closure_name : List Instruction → ℕ
closure_name [] = 0
closure_name (End ∷ k) = 0
closure_name (PushNum c ∷ k) = 0
closure_name (PushTruth b ∷ k) = 0
closure_name (Access x i ∷ k) = 0
closure_name (PushClosure x n ∷ k) = x
closure_name (PushThunk n ∷ k) = 0
closure_name (Operate o p ∷ k) = 0
closure_name (Compare p ∷ k) = 0
closure_name (Bind x ∷ k) = 0
closure_name (Unbind ∷ k) = 0
closure_name (Apply p ∷ k) = 0
closure_name (Return ∷ k) = 0
closure_name (Choose p ∷ k) = 0

-- The name of the closure whose body begins at a place: its CLOSURE stands before it.
abbrev pub name_before : List Instruction → ℕ → ℕ
name_before C zero = 0
name_before C (suc p) = closure_name (drop p C)

-- What a stored value, environment, cell and state stand for, where C is the code.
abbrev pub held_of : List Instruction → (ℕ → HeldEnv) → Word → Held
held_of C E (w_number c) = h_number c
held_of C E (w_boolean b) = h_boolean b
held_of C E (w_closure p e) = closure (name_before C p) (drop p C) (E e)

abbrev pub env_of : List Instruction → List StoreCell → ℕ → HeldEnv
env_of C [] r = ∅
env_of C (in_front w e ∷ σ) r = cond (r == suc (length σ)) (held_of C (env_of C σ) w ◂ env_of C σ e) (env_of C σ r)

abbrev pub cell_of : List Instruction → (ℕ → HeldEnv) → Slot → Cell
cell_of C E (s_val w) = val (held_of C E w)
cell_of C E (s_thunk p e) = thunk (drop p C) (E e)
cell_of C E (s_return p e) = return_to (drop p C) (E e)

abbrev pub cells_of : List Instruction → (ℕ → HeldEnv) → List Slot → List Cell
cells_of C E s = map (cell_of C E) s

abbrev pub state_of : List Instruction → StoredState → State
state_of C (at_place q e s σ) = at (drop q C) (env_of C σ e) (cells_of C (env_of C σ) s) (length σ)

abbrev pub status_of : List Instruction → Status (Word × List StoreCell) → Status Held
status_of C running = running
status_of C (ended w) = ended (held_of C (env_of C w.1) w.0)
status_of C (failed φ p) = failed φ p
status_of C (halted w) = halted w
status_of C broken = broken

-- Every reference points to one of n cells.
abbrev pub WordBelow : ℕ → Word → Type 0
WordBelow n (w_number c) = Unit {0}
WordBelow n (w_boolean b) = Unit {0}
WordBelow n (w_closure p e) = e ≤ n

abbrev pub SlotBelow : ℕ → Slot → Type 0
SlotBelow n (s_val w) = WordBelow n w
SlotBelow n (s_thunk p e) = e ≤ n
SlotBelow n (s_return p e) = e ≤ n

abbrev pub SlotsBelow : ℕ → List Slot → Type 0
SlotsBelow n [] = Unit {0}
SlotsBelow n (x ∷ s) = SlotBelow n x × SlotsBelow n s

-- A cell refers only to cells that were stored before it.
abbrev pub StoreFalls : List StoreCell → Type 0
StoreFalls [] = Unit {0}
StoreFalls (in_front w e ∷ σ) = WordBelow (length σ) w × (e ≤ length σ) × StoreFalls σ

-- All references point into the store, and fall.
abbrev pub Sound : StoredState → Type 0
Sound (at_place q e s σ) = (e ≤ length σ) × SlotsBelow (length σ) s × StoreFalls σ

-- What one step of the stored machine comes to stands for what a step of the other comes to, and is sound.
abbrev pub StandsFor : List Instruction → StoredNext → Next State Held → Type 0
StandsFor C (goes x) y = (y ≡ goes (state_of C x)) × Sound x
StandsFor C (ends w) y = y ≡ ends (held_of C (env_of C w.1) w.0)
StandsFor C (faults φ p) y = y ≡ faults φ p
StandsFor C stuck y = y ≡ stuck

-- Both machines go in lock step.
abbrev pub StepsInLockStep : Type 0
StepsInLockStep = (𝓜 : Meaning) (C : List Instruction) (x : StoredState) → Sound x → StandsFor C (stored_step 𝓜 C x) (step 𝓜 (state_of C x))

-- A run of the stored machine stands as the evaluation rules and the halting say, and as nothing else.
abbrev pub StoredRunAgrees : Type 0
StoredRunAgrees = (𝓜 : Meaning) (L : Bounds) (cs : List ℕ) (t : Term) (g : ℕ) (x : Status Term) (n : ℕ) →
    let r = stored_run 𝓜 L (translate t) g (stored_start cs) in
    ((shown_status (status_of (translate t) r.status) ≡ x) × (r.spent ≡ n)) ↔ Verdict 𝓜 L cs t g x n

-- Wherever a run of the stored machine stops, its state stands for the one in which the other stops, and is sound.
abbrev pub StoredStopsStand : Type 0
StoredStopsStand = (𝓜 : Meaning) (L : Bounds) (cs : List ℕ) (t : Term) (g : ℕ) →
    let x = (stored_run 𝓜 L (translate t) g (stored_start cs)).state in
    (state_of (translate t) x ≡ (machine_run 𝓜 L g (start t cs)).state) × Sound x

-- So all that showing it reads can be read.
abbrev pub EveryStoredStopIsReadable : Type 0
EveryStoredStopIsReadable = (𝓜 : Meaning) (L : Bounds) (cs : List ℕ) (t : Term) (g : ℕ) →
    ReadableState (state_of (translate t) (stored_run 𝓜 L (translate t) g (stored_start cs)).state)

-- Grants add up, and a run at rest stays, as for the other machine.
abbrev pub StoredGrantsAddUp : Type 0
StoredGrantsAddUp = (𝓜 : Meaning) (L : Bounds) (C : List Instruction) (s : StoredState) (g g' : ℕ) → (stored_run 𝓜 L C g s).status ≡ running →
    let r = stored_run 𝓜 L C g' (stored_run 𝓜 L C g s).state in
    stored_run 𝓜 L C (g + g') s ≡ reports r.status (g + r.spent) r.state

abbrev pub StoredRunAtRestStays : Type 0
StoredRunAtRestStays = (𝓜 : Meaning) (L : Bounds) (C : List Instruction) (s : StoredState) (g g' : ℕ) →
    ((stored_run 𝓜 L C g s).status ≢ running) → stored_run 𝓜 L C (g + g') s ≡ stored_run 𝓜 L C g s
