-- Call-by-value reduction of terms, and what is claimed of a run: it shows the reduction sequence of its term.
use Rattle.std.specs.Prelude.{◌≡◌, ℕ, zero, suc, Bool, true, false, ◌↔◌, List, [], ◌∷◌, Ok}
use Rattle.std.specs.Bool.{beq}
use Rattle.domain.specs.declared.Op.{Op}
use Rattle.domain.specs.Meaning.{Meaning}
use Rattle.semantics.specs.declared.layout.Instruction.{Instruction}
use Rattle.semantics.specs.declared.layout.Instruction.TheVariants.{End, PushNum, PushTruth, Access, PushClosure, PushThunk, Operate, Compare, Bind, Unbind, Apply, Return, Choose}
use Rattle.semantics.specs.Terms.{Term, num, truth, binop, eq, app, lam, let_in, if_then}
use Rattle.semantics.specs.Values.{input_env}
use Rattle.semantics.specs.Evaluation.{branch}
use Rattle.semantics.specs.Substitution.{fill, close}
use Rattle.semantics.specs.Running.{goes, ends, faults, stuck, Bounds}
use Rattle.semantics.specs.Machine.{State, at, MachineNext, step, start, machine_run, Steps, here, more}
use Rattle.semantics.specs.Showing.{show_held, show}

-- A term that is a value: a number, a boolean or a function.
pub data IsValue : Term → Type 0 where
  num_value : {c : ℕ} → IsValue (num c)
  truth_value : {b : Bool} → IsValue (truth b)
  lam_value : {x : ℕ} {b : Term} → IsValue (lam x b)

-- `Contraction 𝓜 t t'`: the node at the top of t contracts, and t' stands in its place.
pub data Contraction (𝓜 : Meaning) : Term → Term → Type 0 where
  -- An operation on two numbers becomes the number that the domain answers.
  c_binop : {o : Op} {a b c : ℕ} → 𝓜.table o a b ≡ Ok c → Contraction 𝓜 (binop o (num a) (num b)) (num c)
  -- A comparison of two numbers becomes the boolean that says whether the domain takes them for the same.
  c_eq_num : {a b : ℕ} {c : Bool} → 𝓜.same a b ≡ c → Contraction 𝓜 (eq (num a) (num b)) (truth c)
  -- A comparison of two booleans becomes the boolean that says whether they are equal.
  c_eq_truth : {a b c : Bool} → beq a b ≡ c → Contraction 𝓜 (eq (truth a) (truth b)) (truth c)
  -- A function applied to a value becomes its body, with the value for its variable.
  c_app : {x : ℕ} {b v t : Term} → IsValue v → fill 0 (v ∷ []) b ≡ t → Contraction 𝓜 (app (lam x b) v) t
  -- A Let of a value becomes its body, with the value for its variable.
  c_let : {x : ℕ} {v b t : Term} → IsValue v → fill 0 (v ∷ []) b ≡ t → Contraction 𝓜 (let_in x v b) t
  -- An If of a boolean becomes the branch that it chooses.
  c_if : {b : Bool} {t e u : Term} → branch b t e ≡ u → Contraction 𝓜 (if_then (truth b) t e) u

-- `Reduces 𝓜 t t'`: one contraction, at the node whose turn it is in the order of the listing, makes t' of t. It is meant
-- for terms with no inputs: then a value that is filled in is closed.
pub data Reduces (𝓜 : Meaning) : Term → Term → Type 0 where
  -- The node at the top contracts.
  r_top : {t t' : Term} → Contraction 𝓜 t t' → Reduces 𝓜 t t'
  -- The left operand of an operation reduces.
  r_binop_left : {o : Op} {l l' r : Term} → Reduces 𝓜 l l' → Reduces 𝓜 (binop o l r) (binop o l' r)
  -- The right operand reduces once the left is a value.
  r_binop_right : {o : Op} {l r r' : Term} → IsValue l → Reduces 𝓜 r r' → Reduces 𝓜 (binop o l r) (binop o l r')
  -- The left operand of a comparison reduces.
  r_eq_left : {l l' r : Term} → Reduces 𝓜 l l' → Reduces 𝓜 (eq l r) (eq l' r)
  -- The right operand reduces once the left is a value.
  r_eq_right : {l r r' : Term} → IsValue l → Reduces 𝓜 r r' → Reduces 𝓜 (eq l r) (eq l r')
  -- The function of an application reduces.
  r_app_left : {f f' a : Term} → Reduces 𝓜 f f' → Reduces 𝓜 (app f a) (app f' a)
  -- The argument reduces once the function is a value.
  r_app_right : {f a a' : Term} → IsValue f → Reduces 𝓜 a a' → Reduces 𝓜 (app f a) (app f a')
  -- The bound child of a Let reduces, and its body waits.
  r_let : {x : ℕ} {a a' b : Term} → Reduces 𝓜 a a' → Reduces 𝓜 (let_in x a b) (let_in x a' b)
  -- The condition of an If reduces, and its branches wait.
  r_if : {c c' t e : Term} → Reduces 𝓜 c c' → Reduces 𝓜 (if_then c t e) (if_then c' t e)

-- `Reductions 𝓜 k t t'`: k contractions, one after another, lead from t to t'.
pub data Reductions (𝓜 : Meaning) : ℕ → Term → Term → Type 0 where
  r_here : {t : Term} → Reductions 𝓜 zero t t
  r_more : {k : ℕ} {t t' t'' : Term} → Reduces 𝓜 t t' → Reductions 𝓜 k t' t'' → Reductions 𝓜 (suc k) t t''

-- A term that is no value and reduces to nothing.
abbrev pub IsStuck : Meaning → Term → Type 0
IsStuck 𝓜 t = (IsValue t → ⊥) × ((t' : Term) → Reduces 𝓜 t t' → ⊥)

-- The instructions whose step contracts the shown term: OP, EQ, LET, APPLY and IF.
abbrev pub contracts : Instruction → Bool
contracts End = false
contracts (PushNum c) = false
contracts (PushTruth b) = false
contracts (Access x i) = false
contracts (PushClosure x n) = false
contracts (PushThunk n) = false
contracts (Operate o p) = true
contracts (Compare p) = true
contracts (Bind x) = true
contracts Unbind = false
contracts (Apply p) = true
contracts Return = false
contracts (Choose p) = true

-- Whether the next step from a state contracts.
abbrev pub contracting : State → Bool
contracting (at [] ρ s m) = false
contracting (at (i ∷ k) ρ s m) = contracts i

-- One more, if it counts.
abbrev pub tally : Bool → ℕ → ℕ
tally true k = suc k
tally false k = k

-- How many of the steps contract.
abbrev pub contractions : {𝓜 : Meaning} {n : ℕ} {s s' : State} → Steps 𝓜 n s s' → ℕ
contractions here = 0
contractions (more {s = s} q d) = tally (contracting s) (contractions d)

-- What the next step does to the shown term T: one that contracts reduces it once, and any other leaves it as it is. At
-- the end T is the value that the run ends with, and where the step faults T is stuck. The machine itself never is.
abbrev pub StepShows : Meaning → Term → Bool → MachineNext → Type 0
StepShows 𝓜 T true (goes s) = Reduces 𝓜 T (show s)
StepShows 𝓜 T false (goes s) = show s ≡ T
StepShows 𝓜 T b (ends h) = (T ≡ show_held h) × IsValue T
StepShows 𝓜 T b (faults φ p) = IsStuck 𝓜 T
StepShows 𝓜 T b stuck = ⊥

-- A term reduces to at most one, and a value to none.
abbrev pub AtMostOneReduction : Type 0
AtMostOneReduction = (𝓜 : Meaning) (t : Term) →
    ((u u' : Term) → Reduces 𝓜 t u → Reduces 𝓜 t u' → u ≡ u') × (IsValue t → (u : Term) → Reduces 𝓜 t u → ⊥)

-- A run begins by showing the term with its inputs filled in, and each of its steps shows at most one contraction.
abbrev pub ShowsTheReductions : Type 0
ShowsTheReductions = (𝓜 : Meaning) (cs : List ℕ) (t : Term) →
    (show (start t cs) ≡ close (input_env cs) t) ×
    ((n : ℕ) (s : State) → Steps 𝓜 n (start t cs) s → StepShows 𝓜 (show s) (contracting s) (step 𝓜 s))

-- The shown terms of a run are exactly the reduction sequence of the term with its inputs filled in: k contractions lead
-- to a term just when the run shows it after some steps, k of which contract.
abbrev pub ShowsExactlyTheReductions : Type 0
ShowsExactlyTheReductions = (𝓜 : Meaning) (cs : List ℕ) (t : Term) (k : ℕ) (u : Term) →
    Reductions 𝓜 k (close (input_env cs) t) u ↔
    ((n : ℕ) × (s : State) × (d : Steps 𝓜 n (start t cs) s) × (contractions d ≡ k) × (show s ≡ u))

-- Wherever a run stops, by whatever grant and limits, it shows the term that one contraction for each of its steps that
-- contract leads to.
abbrev pub EveryStopShowsAReduct : Type 0
EveryStopShowsAReduct = (𝓜 : Meaning) (L : Bounds) (cs : List ℕ) (t : Term) (g : ℕ) →
    let s = (machine_run 𝓜 L g (start t cs)).state in
    (n : ℕ) × (d : Steps 𝓜 n (start t cs) s) × Reductions 𝓜 (contractions d) (close (input_env cs) t) (show s)
