-- The evaluation rules: what a term comes to, and in how many units.
use Rattle.std.specs.Prelude.{◌≡◌, ℕ, suc, ◌+◌, Bool, cond, Ok, Err}
use Rattle.std.specs.Bool.{beq}
use Rattle.domain.specs.declared.Op.{Op}
use Rattle.domain.specs.declared.Fault.{Fault}
use Rattle.domain.specs.Meaning.{Meaning, Answer}
use Rattle.semantics.specs.Terms.{Term, num, truth, var, binop, eq, app, lam, let_in, if_then, size}
use Rattle.semantics.specs.Values.{Value, number, boolean, function, Env, ◌▸◌, look, Outcome, yields, fails}

-- The causes of faults that no domain gives.
pub data EngineCause : Type 0 where
  -- An operand of an operation is no number.
  operand_no_number : EngineCause
  -- A condition is no boolean.
  condition_no_boolean : EngineCause
  -- What is applied is no function.
  applied_no_function : EngineCause
  -- A function is compared, or a number with a boolean.
  compared_unlike : EngineCause

-- The number of each cause.
abbrev pub cause_number : EngineCause → ℕ
cause_number operand_no_number = 21
cause_number condition_no_boolean = 22
cause_number applied_no_function = 23
cause_number compared_unlike = 24

-- The height of these faults: below every domain.
abbrev pub engine_height : ℕ
engine_height = 0

abbrev pub engine_fault : EngineCause → Fault
engine_fault c = record { cause = cause_number c; height = engine_height }

-- What a node sees of an operand: one function is like another.
pub data Sort : Type 0 where
  a_number : (code : ℕ) → Sort
  a_boolean : Bool → Sort
  a_function : Sort

abbrev pub sort_of : Value → Sort
sort_of (number c) = a_number c
sort_of (boolean b) = a_boolean b
sort_of (function x b p ρ) = a_function

-- What an operation or a comparison comes to.
pub data Computed : Type 0 where
  gives_number : (code : ℕ) → Computed
  gives_boolean : Bool → Computed
  gives_fault : Fault → Computed

-- What a domain answers.
abbrev pub answered : Answer → Computed
answered (Ok c) = gives_number c
answered (Err φ) = gives_fault φ

-- An operation on two numbers is the domain's, left operand first.
abbrev pub operated : Meaning → Op → Sort → Sort → Computed
operated 𝓜 o (a_number a) (a_number b) = answered (𝓜.table o a b)
operated 𝓜 o (a_number a) (a_boolean b) = gives_fault (engine_fault operand_no_number)
operated 𝓜 o (a_number a) a_function = gives_fault (engine_fault operand_no_number)
operated 𝓜 o (a_boolean a) w = gives_fault (engine_fault operand_no_number)
operated 𝓜 o a_function w = gives_fault (engine_fault operand_no_number)

-- Two numbers are compared by the domain, and two booleans as such.
abbrev pub compared : Meaning → Sort → Sort → Computed
compared 𝓜 (a_number a) (a_number b) = gives_boolean (𝓜.same a b)
compared 𝓜 (a_number a) (a_boolean b) = gives_fault (engine_fault compared_unlike)
compared 𝓜 (a_number a) a_function = gives_fault (engine_fault compared_unlike)
compared 𝓜 (a_boolean a) (a_number b) = gives_fault (engine_fault compared_unlike)
compared 𝓜 (a_boolean a) (a_boolean b) = gives_boolean (beq a b)
compared 𝓜 (a_boolean a) a_function = gives_fault (engine_fault compared_unlike)
compared 𝓜 a_function w = gives_fault (engine_fault compared_unlike)

-- The same as an outcome of the node at place p.
abbrev pub outcome_at : ℕ → Computed → Outcome
outcome_at p (gives_number c) = yields (number c)
outcome_at p (gives_boolean b) = yields (boolean b)
outcome_at p (gives_fault φ) = fails φ p

-- Sorts of values that are no functions, and no booleans.
pub data NotFunction : Sort → Type 0 where
  number_no_function : {c : ℕ} → NotFunction (a_number c)
  boolean_no_function : {b : Bool} → NotFunction (a_boolean b)

pub data NotBoolean : Sort → Type 0 where
  number_no_boolean : {c : ℕ} → NotBoolean (a_number c)
  function_no_boolean : NotBoolean a_function

-- The unit that leaves a body or a branch. A fault never leaves it.
abbrev pub closing : Outcome → ℕ
closing (yields v) = 1
closing (fails φ p) = 0

-- The branch that a condition chooses, and its place in the listing, where the If stands at p.
abbrev pub branch : Bool → Term → Term → Term
branch b t e = cond b t e

abbrev pub branch_place : ℕ → Bool → Term → Term → ℕ
branch_place p b c t = cond b (suc p + size c) (suc p + size c + size t)

-- `Evals 𝓜 ρ p t o n`: the term t, which stands at place p of the listing, has in the environment ρ the outcome o,
-- in n units. Children are worked out in the order of the listing.
pub data Evals (𝓜 : Meaning) : Env → ℕ → Term → Outcome → ℕ → Type 0 where
  -- A number comes to itself, in one unit.
  e_num : {ρ : Env} {p c n : ℕ} → n ≡ 1 → Evals 𝓜 ρ p (num c) (yields (number c)) n
  -- So does a boolean.
  e_truth : {ρ : Env} {p : ℕ} {b : Bool} {n : ℕ} → n ≡ 1 → Evals 𝓜 ρ p (truth b) (yields (boolean b)) n
  -- A variable comes to the value that the environment has for it, in one unit.
  e_var : {ρ : Env} {p x i : ℕ} {v : Value} {n : ℕ} → look ρ i ≡ v → n ≡ 1 → Evals 𝓜 ρ p (var x i) (yields v) n
  -- A Lambda comes to the function with the environment of here, in one unit.
  e_lam : {ρ : Env} {p x : ℕ} {b : Term} {n : ℕ} → n ≡ 1 → Evals 𝓜 ρ p (lam x b) (yields (function x b p ρ)) n
  -- An operation comes to the domain's answer: once both operands have values they are looked at, in one unit more.
  e_binop : {ρ : Env} {p : ℕ} {o : Op} {l r : Term} {v w : Value} {d : Outcome} {m k n : ℕ} →
      Evals 𝓜 ρ (suc p) l (yields v) m → Evals 𝓜 ρ (suc p + size l) r (yields w) k →
      outcome_at p (operated 𝓜 o (sort_of v) (sort_of w)) ≡ d → n ≡ m + k + 1 → Evals 𝓜 ρ p (binop o l r) d n
  -- A child's fault is the node's outcome, with the units taken so far: here the left operand's.
  e_binop_left : {ρ : Env} {p : ℕ} {o : Op} {l r : Term} {φ : Fault} {q n : ℕ} →
      Evals 𝓜 ρ (suc p) l (fails φ q) n → Evals 𝓜 ρ p (binop o l r) (fails φ q) n
  -- The right operand's fault, once the left has a value.
  e_binop_right : {ρ : Env} {p : ℕ} {o : Op} {l r : Term} {v : Value} {φ : Fault} {q m k n : ℕ} →
      Evals 𝓜 ρ (suc p) l (yields v) m → Evals 𝓜 ρ (suc p + size l) r (fails φ q) k → n ≡ m + k →
      Evals 𝓜 ρ p (binop o l r) (fails φ q) n
  -- A comparison, likewise, comes to whether the two are the same.
  e_eq : {ρ : Env} {p : ℕ} {l r : Term} {v w : Value} {d : Outcome} {m k n : ℕ} →
      Evals 𝓜 ρ (suc p) l (yields v) m → Evals 𝓜 ρ (suc p + size l) r (yields w) k →
      outcome_at p (compared 𝓜 (sort_of v) (sort_of w)) ≡ d → n ≡ m + k + 1 → Evals 𝓜 ρ p (eq l r) d n
  -- The left operand's fault.
  e_eq_left : {ρ : Env} {p : ℕ} {l r : Term} {φ : Fault} {q n : ℕ} →
      Evals 𝓜 ρ (suc p) l (fails φ q) n → Evals 𝓜 ρ p (eq l r) (fails φ q) n
  -- The right operand's fault, once the left has a value.
  e_eq_right : {ρ : Env} {p : ℕ} {l r : Term} {v : Value} {φ : Fault} {q m k n : ℕ} →
      Evals 𝓜 ρ (suc p) l (yields v) m → Evals 𝓜 ρ (suc p + size l) r (fails φ q) k → n ≡ m + k →
      Evals 𝓜 ρ p (eq l r) (fails φ q) n
  -- An application comes to what the function's body comes to with the argument in front of the function's environment.
  -- One unit enters the body, and one leaves it.
  e_app : {ρ : Env} {p : ℕ} {f a : Term} {x : ℕ} {b : Term} {q : ℕ} {ρ' : Env} {w : Value} {o : Outcome} {m k j n : ℕ} →
      Evals 𝓜 ρ (suc p) f (yields (function x b q ρ')) m → Evals 𝓜 ρ (suc p + size f) a (yields w) k →
      Evals 𝓜 (w ▸ ρ') (suc q) b o j → n ≡ m + k + 1 + j + closing o → Evals 𝓜 ρ p (app f a) o n
  -- What is no function cannot be applied, which is seen once the argument has a value.
  e_app_no : {ρ : Env} {p : ℕ} {f a : Term} {v w : Value} {m k n : ℕ} →
      Evals 𝓜 ρ (suc p) f (yields v) m → Evals 𝓜 ρ (suc p + size f) a (yields w) k →
      NotFunction (sort_of v) → n ≡ m + k + 1 → Evals 𝓜 ρ p (app f a) (fails (engine_fault applied_no_function) p) n
  -- The function's fault.
  e_app_left : {ρ : Env} {p : ℕ} {f a : Term} {φ : Fault} {q n : ℕ} →
      Evals 𝓜 ρ (suc p) f (fails φ q) n → Evals 𝓜 ρ p (app f a) (fails φ q) n
  -- The argument's fault, once the function has a value.
  e_app_right : {ρ : Env} {p : ℕ} {f a : Term} {v : Value} {φ : Fault} {q m k n : ℕ} →
      Evals 𝓜 ρ (suc p) f (yields v) m → Evals 𝓜 ρ (suc p + size f) a (fails φ q) k → n ≡ m + k →
      Evals 𝓜 ρ p (app f a) (fails φ q) n
  -- A Let comes to what its body comes to with the bound value in front. One unit enters the body, and one leaves it.
  e_let : {ρ : Env} {p x : ℕ} {a b : Term} {v : Value} {o : Outcome} {m k n : ℕ} →
      Evals 𝓜 ρ (suc p) a (yields v) m → Evals 𝓜 (v ▸ ρ) (suc p + size a) b o k → n ≡ m + 1 + k + closing o →
      Evals 𝓜 ρ p (let_in x a b) o n
  -- The bound child's fault.
  e_let_left : {ρ : Env} {p x : ℕ} {a b : Term} {φ : Fault} {q n : ℕ} →
      Evals 𝓜 ρ (suc p) a (fails φ q) n → Evals 𝓜 ρ p (let_in x a b) (fails φ q) n
  -- An If comes to what the chosen branch comes to. Two units come before the condition, one enters the branch, and
  -- one leaves it.
  e_if : {ρ : Env} {p : ℕ} {c t e : Term} {b : Bool} {o : Outcome} {m k n : ℕ} →
      Evals 𝓜 ρ (suc p) c (yields (boolean b)) m → Evals 𝓜 ρ (branch_place p b c t) (branch b t e) o k →
      n ≡ 2 + m + 1 + k + closing o → Evals 𝓜 ρ p (if_then c t e) o n
  -- What is no boolean chooses no branch.
  e_if_no : {ρ : Env} {p : ℕ} {c t e : Term} {v : Value} {m n : ℕ} →
      Evals 𝓜 ρ (suc p) c (yields v) m → NotBoolean (sort_of v) → n ≡ 2 + m + 1 →
      Evals 𝓜 ρ p (if_then c t e) (fails (engine_fault condition_no_boolean) p) n
  -- The condition's fault, after the two units before it.
  e_if_left : {ρ : Env} {p : ℕ} {c t e : Term} {φ : Fault} {q m n : ℕ} →
      Evals 𝓜 ρ (suc p) c (fails φ q) m → n ≡ 2 + m → Evals 𝓜 ρ p (if_then c t e) (fails φ q) n

-- The rules give a term at most one outcome, and one count.
abbrev pub AtMostOneOutcome : Type 0
AtMostOneOutcome = (𝓜 : Meaning) (ρ : Env) (p : ℕ) (t : Term) (o o' : Outcome) (n n' : ℕ) →
    Evals 𝓜 ρ p t o n → Evals 𝓜 ρ p t o' n' → (o ≡ o') × (n ≡ n')
