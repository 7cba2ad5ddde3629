-- Terms: what a formula is.
use Rattle.std.specs.Prelude.{ℕ, suc, ◌+◌, Bool}
use Rattle.domain.specs.declared.Op.{Op}

-- A term. Binders have names, but a variable's binder is found by counting: `between` is the number of binders
-- that stand between the variable and its own. The index in a listing is one more.
pub data Term : Type 0 where
  num : (code : ℕ) → Term
  truth : Bool → Term
  var : (name between : ℕ) → Term
  binop : Op → (left right : Term) → Term
  eq : (left right : Term) → Term
  app : (function argument : Term) → Term
  -- Binds one variable in its body.
  lam : (name : ℕ) (body : Term) → Term
  -- Binds one variable in its body, and none in what it binds.
  let_in : (name : ℕ) (bound body : Term) → Term
  if_then : (condition then else : Term) → Term

-- How many records the listing of a term has.
abbrev pub size : Term → ℕ
size (num c) = 1
size (truth b) = 1
size (var x i) = 1
size (binop o l r) = suc (size l + size r)
size (eq l r) = suc (size l + size r)
size (app f a) = suc (size f + size a)
size (lam x b) = suc (size b)
size (let_in x a b) = suc (size a + size b)
size (if_then c t e) = suc (size c + (size t + size e))
