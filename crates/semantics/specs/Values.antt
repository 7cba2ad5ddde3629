-- Values, environments and outcomes.
use Rattle.std.specs.Prelude.{ℕ, zero, suc, Bool, false, List, [], ◌∷◌}
use Rattle.domain.specs.declared.Fault.{Fault}
use Rattle.semantics.specs.Terms.{Term}

-- A value is a number, a boolean, or a function: a Lambda's name and body, its place in the listing, and the environment
-- in which it was met. An environment is a list of values, innermost first.
mutual
  pub data Value : Type 0 where
    number : (code : ℕ) → Value
    boolean : Bool → Value
    function : (name : ℕ) (body : Term) (place : ℕ) → Env → Value

  pub data Env : Type 0 where
    ε : Env
    ◌▸◌ : Value → Env → Env

infixr 67 ◌▸◌
-- The value past i others. (A term in scope never points past its environment; there the answer is arbitrary.)
abbrev pub look : Env → ℕ → Value
look ε i = boolean false
look (v ▸ ρ) zero = v
look (v ▸ ρ) (suc i) = look ρ i

-- The environment of the inputs, in order.
abbrev pub input_env : List ℕ → Env
input_env [] = ε
input_env (c ∷ cs) = number c ▸ input_env cs

-- An outcome is a value, or a fault with the place of its node in the listing.
pub data Outcome : Type 0 where
  yields : Value → Outcome
  fails : Fault → (place : ℕ) → Outcome
