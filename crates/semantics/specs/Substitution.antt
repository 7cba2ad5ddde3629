-- How values show as closed terms, and when two outcomes are the same.
use Rattle.std.specs.Prelude.{◌≡◌, ℕ, zero, suc, false, List, [], ◌∷◌, slice_index_or}
use Rattle.domain.specs.declared.Fault.{Fault}
use Rattle.domain.specs.Meaning.{Meaning}
use Rattle.semantics.specs.Terms.{Term, num, truth, var, binop, eq, app, lam, let_in, if_then}
use Rattle.semantics.specs.Values.{Value, number, boolean, function, Env, ε, ◌▸◌, Outcome, yields, fails}
use Rattle.semantics.specs.Evaluation.{Evals}

-- The term past i others. (A term in scope never points past those given; there the answer is arbitrary.)
abbrev pub term_at : List Term → ℕ → Term
term_at σ i = slice_index_or σ i (truth false)

-- A variable that points past k binders is replaced by the term there; one that they hold is kept.
abbrev pub fill_var : ℕ → List Term → Term → ℕ → Term
fill_var zero σ kept i = term_at σ i
fill_var (suc k) σ kept zero = kept
fill_var (suc k) σ kept (suc i) = fill_var k σ kept i

-- Substitution of closed terms for the variables that point past k binders. As they are closed, nothing is renumbered.
abbrev pub fill : ℕ → List Term → Term → Term
fill k σ (num c) = num c
fill k σ (truth b) = truth b
fill k σ (var x i) = fill_var k σ (var x i) i
fill k σ (binop o l r) = binop o (fill k σ l) (fill k σ r)
fill k σ (eq l r) = eq (fill k σ l) (fill k σ r)
fill k σ (app f a) = app (fill k σ f) (fill k σ a)
fill k σ (lam x b) = lam x (fill (suc k) σ b)
fill k σ (let_in x a b) = let_in x (fill k σ a) (fill (suc k) σ b)
fill k σ (if_then c t e) = if_then (fill k σ c) (fill k σ t) (fill k σ e)

-- A number shows as Num, a boolean as Bool, and a function as its Lambda with the shown values of its environment for
-- the variables that point outside it.
abbrev mutual
  pub reify : Value → Term
  reify (number c) = num c
  reify (boolean b) = truth b
  reify (function x b p ρ) = lam x (fill 1 (reify_env ρ) b)

  pub reify_env : Env → List Term
  reify_env ε = []
  reify_env (v ▸ ρ) = reify v ∷ reify_env ρ

-- A term with the shown values of an environment for its outer variables.
abbrev pub close : Env → Term → Term
close ρ t = fill 0 (reify_env ρ) t

-- What is seen of an outcome: a value as it shows, and a fault without its place.
pub data Observation : Type 0 where
  sees_value : Term → Observation
  sees_fault : Fault → Observation

abbrev pub observe : Outcome → Observation
observe (yields v) = sees_value (reify v)
observe (fails φ p) = sees_fault φ

-- Two outcomes are the same: numbers of equal code, equal booleans, functions that show alike, or faults of equal
-- cause and height.
abbrev pub Same : Outcome → Outcome → Type 0
Same o o' = observe o ≡ observe o'

-- Terms that are equal once the shown values stand for their outer variables have the same outcomes, in as many units.
abbrev pub SameWhenSubstituted : Type 0
SameWhenSubstituted = (𝓜 : Meaning) (ρ : Env) (p : ℕ) (t : Term) (o : Outcome) (n : ℕ) → Evals 𝓜 ρ p t o n →
    (ρ' : Env) (p' : ℕ) (t' : Term) → close ρ t ≡ close ρ' t' →
    (o' : Outcome) × Evals 𝓜 ρ' p' t' o' n × Same o o'
