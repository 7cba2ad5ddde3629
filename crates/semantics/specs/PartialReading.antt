-- Reading that may fail: the term that code is the code of, if there is one; and showing by it.
use Rattle.std.specs.Prelude.{◌≡◌, ℕ, cond, List, [], ◌∷◌, Some, None, Option, nat_lt}
use Rattle.domain.specs.Meaning.{Meaning}
use Rattle.semantics.specs.declared.layout.Instruction.{Instruction}
use Rattle.semantics.specs.declared.layout.Instruction.TheVariants.{End, PushNum, PushTruth, Access, PushClosure, PushThunk, Operate, Compare, Bind, Unbind, Apply, Return, Choose}
use Rattle.semantics.specs.Terms.{Term, num, truth, var, binop, eq, app, lam, let_in, if_then}
use Rattle.semantics.specs.Substitution.{fill}
use Rattle.semantics.specs.Running.{Bounds}
use Rattle.semantics.specs.Machine.{Held, h_number, h_boolean, closure, HeldEnv, ∅, ◌◂◌, Cell, val, thunk, return_to, State, at, start, machine_run}
use Rattle.semantics.specs.Showing.{Mark, in_lambda, in_thunk, in_let, holding, rest, read, show_held, show_env, show}

-- Go on with the one, two or three terms on top of a stack, the topmost last, and with what is under them.
abbrev pub on_one : List Term → (Term → List Term → Option Term) → Option Term
on_one [] go = None
on_one (a ∷ s) go = go a s

abbrev pub on_two : List Term → (Term → Term → List Term → Option Term) → Option Term
on_two [] go = None
on_two (b ∷ []) go = None
on_two (b ∷ a ∷ s) go = go a b s

abbrev pub on_three : List Term → (Term → Term → Term → List Term → Option Term) → Option Term
on_three [] go = None
on_three (c ∷ []) go = None
on_three (c ∷ b ∷ []) go = None
on_three (c ∷ b ∷ a ∷ s) go = go a b c s

-- Go on with the Let that was last opened, and with what is open around it; or as given where nothing is open.
abbrev pub on_let : List Mark → (ℕ → Term → List Mark → Option Term) → Option Term → Option Term
on_let [] let_closed none_open = none_open
on_let (in_lambda x ∷ ms) let_closed none_open = None
on_let (in_thunk ∷ ms) let_closed none_open = None
on_let (in_let x a ∷ ms) let_closed none_open = let_closed x a ms

-- Go on with the body that was last opened, a Lambda's or a thunk's; or as given where nothing is open.
abbrev pub on_body : List Mark → (ℕ → List Mark → Option Term) → (List Mark → Option Term) → Option Term → Option Term
on_body [] lambda_closed thunk_closed none_open = none_open
on_body (in_lambda x ∷ ms) lambda_closed thunk_closed none_open = lambda_closed x ms
on_body (in_thunk ∷ ms) lambda_closed thunk_closed none_open = thunk_closed ms
on_body (in_let x a ∷ ms) lambda_closed thunk_closed none_open = None

-- Nothing is open, and one term is left.
abbrev pub alone : List Mark → List Term → Option Term
alone ms [] = None
alone [] (t ∷ []) = Some t
alone (m ∷ ms) (t ∷ []) = None
alone ms (t ∷ u ∷ s) = None

-- What stands for the variables that no binder ahead holds: nothing, where code is read back; or, where a frame is shown,
-- the terms that its environment shows.
abbrev pub Outer : Type 0
Outer = Option (List Term)

-- The term of a variable, where so many binders hold: itself, or what stands for it, if there is something.
abbrev pub variable : Outer → ℕ → ℕ → ℕ → Option Term
variable None h x i = cond (nat_lt i h) (Some (var x i)) None
variable (Some σ) h x i = Some (fill h σ (var x i))

abbrev pub with_term : Option Term → (Term → Option Term) → Option Term
with_term None go = None
with_term (Some t) go = go t

-- Go on without the front value: for an ENDLET whose LET has run.
abbrev pub without_front_value : Outer → (Outer → Option Term) → Option Term
without_front_value None go = None
without_front_value (Some σ) go = go (Some (rest σ))

-- END closes the code. Where code is read back, it is the last instruction.
abbrev pub finished : Outer → List Instruction → List Mark → List Term → Option Term
finished None [] ms s = alone ms s
finished None (i ∷ c) ms s = None
finished (Some σ) c ms s = alone ms s

-- RETURN, where nothing is open, closes what is shown. Where code is read back it closes nothing.
abbrev pub returned : Outer → List Term → Option Term
returned None s = None
returned (Some σ) s = alone [] s

-- The term that code reads as, forward over a stack of terms, where k binders or inputs hold from the outset and ms is what
-- is open. None where an instruction lacks its terms or closes what is not open, where a variable has nothing to stand for
-- it, and where more than one term is left.
abbrev pub attempt : List Instruction → ℕ → Outer → List Mark → List Term → Option Term
attempt [] k o ms s = None
attempt (End ∷ c) k o ms s = finished o c ms s
attempt (PushNum n ∷ c) k o ms s = attempt c k o ms (num n ∷ s)
attempt (PushTruth b ∷ c) k o ms s = attempt c k o ms (truth b ∷ s)
attempt (Access x i ∷ c) k o ms s = with_term (variable o (holding k ms) x i) (λ t. attempt c k o ms (t ∷ s))
attempt (PushClosure x n ∷ c) k o ms s = attempt c k o (in_lambda x ∷ ms) s
attempt (PushThunk n ∷ c) k o ms s = attempt c k o (in_thunk ∷ ms) s
attempt (Operate f p ∷ c) k o ms s = on_two s (λ l r s'. attempt c k o ms (binop f l r ∷ s'))
attempt (Compare p ∷ c) k o ms s = on_two s (λ l r s'. attempt c k o ms (eq l r ∷ s'))
attempt (Bind x ∷ c) k o ms s = on_one s (λ a s'. attempt c k o (in_let x a ∷ ms) s')
attempt (Unbind ∷ c) k o ms s =
    on_one s (λ b s'. on_let ms (λ x a ms'. attempt c k o ms' (let_in x a b ∷ s')) (without_front_value o (λ o'. attempt c k o' [] (b ∷ s'))))
attempt (Apply p ∷ c) k o ms s = on_two s (λ f a s'. attempt c k o ms (app f a ∷ s'))
attempt (Return ∷ c) k o ms s =
    on_one s (λ b s'. on_body ms (λ x ms'. attempt c k o ms' (lam x b ∷ s')) (λ ms'. attempt c k o ms' (b ∷ s')) (returned o (b ∷ s')))
attempt (Choose p ∷ c) k o ms s = on_three s (λ t e q s'. attempt c k o ms (if_then q t e ∷ s'))

-- What code at some place reads as over an environment and a stack of terms, where k binders hold.
abbrev pub attempt_in : ℕ → HeldEnv → List Instruction → List Term → Option Term
attempt_in k ρ c s = attempt c k (Some (show_env ρ)) [] s

-- A term on top of others, where all can be read.
abbrev pub on_top : Option Term → Option (List Term) → Option (List Term)
on_top None u = None
on_top (Some t) None = None
on_top (Some t) (Some u) = Some (t ∷ u)

abbrev pub with_terms : Option (List Term) → (List Term → Option Term) → Option Term
with_terms None go = None
with_terms (Some u) go = go u

-- The terms of a frame's own cells, down to its return cell.
abbrev pub attempt_own : List Cell → Option (List Term)
attempt_own [] = Some []
attempt_own (val v ∷ s) = on_top (Some (show_held v)) (attempt_own s)
attempt_own (thunk k ρ ∷ s) = on_top (attempt_in 0 ρ k []) (attempt_own s)
attempt_own (return_to k ρ ∷ s) = Some []

-- A frame's term stands as the top value of the frame below, down to the lowest.
abbrev pub attempt_frames : Term → List Cell → Option Term
attempt_frames t [] = Some t
attempt_frames t (val v ∷ s) = attempt_frames t s
attempt_frames t (thunk k ρ ∷ s) = attempt_frames t s
attempt_frames t (return_to k ρ ∷ s) = with_terms (attempt_own s) (λ u. with_term (attempt_in 0 ρ k (t ∷ u)) (λ t'. attempt_frames t' s))

-- The shown term of a state, where all of it can be read.
abbrev pub attempt_show : State → Option Term
attempt_show (at k ρ s m) = with_terms (attempt_own s) (λ u. with_term (attempt_in 0 ρ k u) (λ t. attempt_frames t s))

-- The body of every function that an environment reaches can be read.
abbrev mutual
  pub ReadableHeld : Held → Type 0
  ReadableHeld (h_number c) = Unit {0}
  ReadableHeld (h_boolean b) = Unit {0}
  ReadableHeld (closure x k ρ) = ((t : Term) × (attempt_in 1 ρ k [] ≡ Some t)) × ReadableEnv ρ

  pub ReadableEnv : HeldEnv → Type 0
  ReadableEnv ∅ = Unit {0}
  ReadableEnv (v ◂ ρ) = ReadableHeld v × ReadableEnv ρ

-- And so for the cells of a stack.
abbrev pub ReadableCells : List Cell → Type 0
ReadableCells [] = Unit {0}
ReadableCells (val v ∷ s) = ReadableHeld v × ReadableCells s
ReadableCells (thunk k ρ ∷ s) = ReadableEnv ρ × ReadableCells s
ReadableCells (return_to k ρ ∷ s) = ReadableEnv ρ × ReadableCells s

-- Every code that showing a state reads can be read.
abbrev pub ReadableState : State → Type 0
ReadableState (at k ρ s m) = ReadableEnv ρ × ReadableCells s × ((t : Term) × (attempt_show (at k ρ s m) ≡ Some t))

-- What is read where it can be read is what reading reads; and so for showing.
pub record ReadsAsShown : Type 0 where
  pub code : (c : List Instruction) (k : ℕ) (σ : List Term) (ms : List Mark) (s : List Term) (t : Term) →
      attempt c k (Some σ) ms s ≡ Some t → read c k σ ms s ≡ t
  pub back : (c : List Instruction) (k : ℕ) (t : Term) → attempt c k None [] [] ≡ Some t → read c k [] [] [] ≡ t
  pub state : (x : State) (t : Term) → attempt_show x ≡ Some t → show x ≡ t

-- Wherever a run of a term stops, all that showing it reads can be read.
abbrev pub EveryStopIsReadable : Type 0
EveryStopIsReadable = (𝓜 : Meaning) (L : Bounds) (cs : List ℕ) (t : Term) (g : ℕ) → ReadableState (machine_run 𝓜 L g (start t cs)).state
