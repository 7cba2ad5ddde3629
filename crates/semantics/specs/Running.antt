-- A run under a grant of units, for any machine: what a step comes to, when a run halts, and what it reports.
use Rattle.std.specs.Prelude.{ℕ, zero, suc, Bool, false, cond, List, [], ◌∷◌, Some, None, Option, nat_le}
use Rattle.domain.specs.declared.Fault.{Fault}
use Rattle.semantics.specs.declared.layout.Instruction.{Instruction}
use Rattle.semantics.specs.declared.layout.Instruction.TheVariants.{End, PushNum, PushTruth, Access, PushClosure, PushThunk, Operate, Compare, Bind, Unbind, Apply, Return, Choose}

-- What a step comes to, for a machine with states S that ends with a V. A fault names its node. `stuck` is for code that
-- is no translation.
pub data Next (S V : Type 0) : Type 0 where
  goes : S → Next S V
  ends : V → Next S V
  faults : Fault → (place : ℕ) → Next S V
  stuck : Next S V

-- How many cells the stack and the environment store have.
pub record Bounds : Type 0 where
  pub stack : ℕ
  pub store : ℕ

-- The cells that there are.
abbrev pub limits : Bounds
limits = record { stack = 512; store = 1024 }

-- What a run halts for.
pub data Halt : Type 0 where
  for_stack for_store : Halt

-- Whether as many cells are used as there are.
abbrev pub no_cell : ℕ → ℕ → Halt → Option Halt
no_cell cells used w = cond (nat_le cells used) (Some w) None

-- Whether the instruction in front of the code has no room: a push with a full stack, or a LET or a valid APPLY with a
-- full store. `held` and `stored` are how many cells are in use, and an APPLY is valid when the second cell from the top
-- is a function.
abbrev pub halting : Bounds → List Instruction → (held : ℕ) (valid : Bool) (stored : ℕ) → Option Halt
halting L [] h v m = None
halting L (End ∷ k) h v m = None
halting L (PushNum c ∷ k) h v m = no_cell L.stack h for_stack
halting L (PushTruth b ∷ k) h v m = no_cell L.stack h for_stack
halting L (Access x i ∷ k) h v m = no_cell L.stack h for_stack
halting L (PushClosure x n ∷ k) h v m = no_cell L.stack h for_stack
halting L (PushThunk n ∷ k) h v m = no_cell L.stack h for_stack
halting L (Operate o p ∷ k) h v m = None
halting L (Compare p ∷ k) h v m = None
halting L (Bind x ∷ k) h v m = no_cell L.store m for_store
halting L (Unbind ∷ k) h v m = None
halting L (Apply p ∷ k) h v m = cond v (no_cell L.store m for_store) None
halting L (Return ∷ k) h v m = None
halting L (Choose p ∷ k) h v m = None

-- Whether the second cell of a stack is of some sort.
abbrev pub second : {C : Type 0} → (C → Bool) → List C → Bool
second is [] = false
second is (x ∷ []) = false
second is (x ∷ y ∷ s) = is y

-- How a run stands. `broken` is for code that is no translation.
pub data Status (V : Type 0) : Type 0 where
  running : Status V
  ended : V → Status V
  failed : Fault → (place : ℕ) → Status V
  halted : Halt → Status V
  broken : Status V

-- A status, the units spent on the way, and the state in which the run stands.
pub record Report (S V : Type 0) : Type 0 where
  pub status : Status V
  pub spent : ℕ
  pub state : S

abbrev pub reports : {S V : Type 0} → Status V → ℕ → S → Report S V
reports x n s = record { status = x; spent = n; state = s }

-- The same with one unit more spent.
abbrev pub one_unit_more : {S V : Type 0} → Report S V → Report S V
one_unit_more r = reports r.status (suc r.spent) r.state

-- With no unit left no step is taken, and none halts. The end is no step.
abbrev pub with_none_left : {S V : Type 0} → S → Next S V → Report S V
with_none_left s (goes s') = reports running 0 s
with_none_left s (ends v) = reports (ended v) 0 s
with_none_left s (faults φ p) = reports running 0 s
with_none_left s stuck = reports broken 0 s

-- With a unit left a step is taken, unless it has no room. A faulting step costs its unit and leaves the state as it was.
-- `after` is what the run comes to from the next state.
abbrev pub with_one_left : {S V : Type 0} → S → Option Halt → Next S V → (S → Report S V) → Report S V
with_one_left s w (ends v) after = reports (ended v) 0 s
with_one_left s (Some w) (goes s') after = reports (halted w) 0 s
with_one_left s None (goes s') after = one_unit_more (after s')
with_one_left s w (faults φ p) after = reports (failed φ p) 1 s
with_one_left s w stuck after = reports broken 0 s

-- The run on a grant of units, by a machine's step and its halting.
abbrev pub run : {S V : Type 0} → (S → Next S V) → (S → Option Halt) → ℕ → S → Report S V
run step halts zero s = with_none_left s (step s)
run step halts (suc g) s = with_one_left s (halts s) (step s) (λ s'. run step halts g s')
