-- Showing: the term that a state stands for, read off its code forward, frame by frame.
use Rattle.std.specs.Prelude.{ℕ, suc, List, [], ◌∷◌}
use Rattle.semantics.specs.declared.layout.Instruction.{Instruction}
use Rattle.semantics.specs.declared.layout.Instruction.TheVariants.{End, PushNum, PushTruth, Access, PushClosure, PushThunk, Operate, Compare, Bind, Unbind, Apply, Return, Choose}
use Rattle.semantics.specs.Terms.{Term, num, truth, var, binop, eq, app, lam, let_in, if_then}
use Rattle.semantics.specs.Substitution.{fill}
use Rattle.semantics.specs.Machine.{Held, h_number, h_boolean, closure, HeldEnv, ∅, ◌◂◌, Cell, val, thunk, return_to, State, at}

-- What the reader has opened and not yet closed.
pub data Mark : Type 0 where
  in_lambda : (name : ℕ) → Mark
  in_thunk : Mark
  in_let : (name : ℕ) (bound : Term) → Mark

-- How many binders ahead hold variables: k from the outset, and those opened.
abbrev pub holding : ℕ → List Mark → ℕ
holding k [] = k
holding k (in_lambda x ∷ ms) = suc (holding k ms)
holding k (in_thunk ∷ ms) = holding k ms
holding k (in_let x a ∷ ms) = suc (holding k ms)

-- The term on top of a stack, and what is under it.
abbrev pub top : List Term → Term
top [] = num 0
top (t ∷ s) = t

abbrev pub rest : List Term → List Term
rest [] = []
rest (t ∷ s) = s

-- Read code forward over a stack of terms. σ are the terms shown for the environment, k binders hold from the outset,
-- and ms is what is open. (On code that is no translation the answer is arbitrary.)
abbrev pub read : List Instruction → ℕ → List Term → List Mark → List Term → Term
-- The code is read when END comes, or the RETURN of what was being read.
read [] k σ ms s = top s
read (End ∷ c) k σ ms s = top s
-- Leaves are pushed. A variable that no binder ahead holds is replaced.
read (PushNum n ∷ c) k σ ms s = read c k σ ms (num n ∷ s)
read (PushTruth b ∷ c) k σ ms s = read c k σ ms (truth b ∷ s)
read (Access x i ∷ c) k σ ms s = read c k σ ms (fill (holding k ms) σ (var x i) ∷ s)
-- CLOSURE and THUNK open a body, and RETURN closes it.
read (PushClosure x n ∷ c) k σ ms s = read c k σ (in_lambda x ∷ ms) s
read (PushThunk n ∷ c) k σ ms s = read c k σ (in_thunk ∷ ms) s
-- OP, EQ and APPLY make a node of the two terms on top.
read (Operate o p ∷ c) k σ ms s = read c k σ ms (binop o (top (rest s)) (top s) ∷ rest (rest s))
read (Compare p ∷ c) k σ ms s = read c k σ ms (eq (top (rest s)) (top s) ∷ rest (rest s))
-- LET opens a node with what is on top, and its ENDLET closes it. An ENDLET whose LET has run drops the front value.
read (Bind x ∷ c) k σ ms s = read c k σ (in_let x (top s) ∷ ms) (rest s)
read (Unbind ∷ c) k σ [] s = read c k (rest σ) [] s
read (Unbind ∷ c) k σ (in_lambda x ∷ ms) s = top s
read (Unbind ∷ c) k σ (in_thunk ∷ ms) s = top s
read (Unbind ∷ c) k σ (in_let x a ∷ ms) s = read c k σ ms (let_in x a (top s) ∷ rest s)
read (Apply p ∷ c) k σ ms s = read c k σ ms (app (top (rest s)) (top s) ∷ rest (rest s))
read (Return ∷ c) k σ [] s = top s
read (Return ∷ c) k σ (in_lambda x ∷ ms) s = read c k σ ms (lam x (top s) ∷ rest s)
read (Return ∷ c) k σ (in_thunk ∷ ms) s = read c k σ ms s
read (Return ∷ c) k σ (in_let x a ∷ ms) s = top s
-- IF makes a node of three: the condition is on top, the else-branch under it, the then-branch below.
read (Choose p ∷ c) k σ ms s = read c k σ ms (if_then (top s) (top (rest (rest s))) (top (rest s)) ∷ rest (rest (rest s)))

-- How what the machine holds shows: a closure as its Lambda, read with its own binder ahead.
abbrev mutual
  pub show_held : Held → Term
  show_held (h_number c) = num c
  show_held (h_boolean b) = truth b
  show_held (closure x k ρ) = lam x (read k 1 (show_env ρ) [] [])

  pub show_env : HeldEnv → List Term
  show_env ∅ = []
  show_env (v ◂ ρ) = show_held v ∷ show_env ρ

-- The terms of a frame's own cells, down to its return cell. A thunk reads as its body, with its own environment.
abbrev pub own_cells : List Cell → List Term
own_cells [] = []
own_cells (val v ∷ s) = show_held v ∷ own_cells s
own_cells (thunk k ρ ∷ s) = read k 0 (show_env ρ) [] [] ∷ own_cells s
own_cells (return_to k ρ ∷ s) = []

-- A frame's term stands as the top value of the frame below, down to the lowest.
abbrev pub through_frames : Term → List Cell → Term
through_frames t [] = t
through_frames t (val v ∷ s) = through_frames t s
through_frames t (thunk k ρ ∷ s) = through_frames t s
through_frames t (return_to k ρ ∷ s) = through_frames (read k 0 (show_env ρ) [] (t ∷ own_cells s)) s

-- The shown term of a state.
abbrev pub show : State → Term
show (at k ρ s m) = through_frames (read k 0 (show_env ρ) [] (own_cells s)) s
