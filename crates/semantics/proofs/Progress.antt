-- A term has an outcome within N units, or the machine is still busy after N.
use Rattle.std.proofs.Common.{◌≡◌, ℕ, zero, suc, ◌+◌, ◌-◌, ◌<◌, ◌≤◌, true, false, List, ◌∷◌, refl, ap, arith}
use native.Mathlib.Decide.{dec_le}
use Rattle.domain.specs.declared.Fault.{Fault}
use Rattle.domain.specs.Meaning.{Meaning}
use Rattle.semantics.specs.declared.layout.Instruction.{Instruction}
use Rattle.semantics.specs.declared.layout.Instruction.TheVariants.{PushThunk, Operate, Compare, Bind, Unbind, Apply, Return, Choose}
use Rattle.semantics.specs.Terms.{Term, num, truth, var, binop, eq, app, lam, let_in, if_then, size}
use Rattle.semantics.specs.Values.{Value, number, boolean, function, Env, ◌▸◌, Outcome, yields, fails}
use Rattle.semantics.specs.Evaluation.{Computed, gives_number, gives_boolean, gives_fault, operated, compared, number_no_function, boolean_no_function, number_no_boolean, function_no_boolean, closing, Evals, e_num, e_truth, e_var, e_lam, e_binop, e_binop_left, e_binop_right, e_eq, e_eq_left, e_eq_right, e_app, e_app_no, e_app_left, e_app_right, e_let, e_let_left, e_if, e_if_no, e_if_left}
use Rattle.semantics.specs.Translation.{code_size, emit}
use Rattle.semantics.specs.Running.{goes}
use Rattle.semantics.specs.Machine.{Held, h_number, h_boolean, closure, HeldEnv, ◌◂◌, Cell, val, thunk, return_to, State, at, sort_held, push_computed, enter, enter_branch, step, Steps, here}
use Rattle.semantics.proofs.Simulation.{Fits, fits_boolean, FitsEnv, fits_more, else_code, then_code, join, one_step_more, Reaches, value_reached, apply_step, if_starts, if_half, simulates}
use Rattle.semantics.proofs.Running.{busy}

-- A step that pushes what was computed, enters a body or enters a branch is taken or faults.
busy_push : (p : ℕ) (r : Computed) (k : List Instruction) (ρ : HeldEnv) (c : List Cell) (m : ℕ) → busy (push_computed p r k ρ c m) ≡ true
busy_push p (gives_number i) k ρ c m = refl
busy_push p (gives_boolean b) k ρ c m = refl
busy_push p (gives_fault φ) k ρ c m = refl

busy-enter : (p : ℕ) (f w : Held) (k : List Instruction) (ρ : HeldEnv) (c : List Cell) (m : ℕ) → busy (enter p f w k ρ c m) ≡ true
busy-enter p (h_number i) w k ρ c m = refl
busy-enter p (h_boolean b) w k ρ c m = refl
busy-enter p (closure x body_progress ρ') w k ρ c m = refl

busy-branch : (p : ℕ) (h : Held) (kt ke k : List Instruction) (ρ : HeldEnv) (c : List Cell) (m : ℕ) → busy (enter_branch p h kt ρ ke ρ k ρ c m) ≡ true
busy-branch p (h_number i) kt ke k ρ c m = refl
busy-branch p (h_boolean true) kt ke k ρ c m = refl
busy-branch p (h_boolean false) kt ke k ρ c m = refl
busy-branch p (closure x body_progress ρ') kt ke k ρ c m = refl

module _ (𝓜 : Meaning) where
  -- From s, where the code of t begins, an outcome comes within N units, or the machine is busy after N steps.
  pub data Progress (N : ℕ) (s : State) (ρ : Env) (p : ℕ) (t : Term) : Type 0 where
    done : {o : Outcome} {n : ℕ} → Evals 𝓜 ρ p t o n → n ≤ N → Progress N s ρ p t
    going : {s' : State} → Steps 𝓜 N s s' → busy (step 𝓜 s') ≡ true → Progress N s ρ p t

  -- After a steps another term's turn comes.
  through : {N a : ℕ} {s s₁ : State} {ρ₁ : Env} {p₁ : ℕ} {t₁ : Term} {ρ : Env} {p : ℕ} {t : Term} → a ≤ N → Steps 𝓜 a s s₁ →
      Progress (N - a) s₁ ρ₁ p₁ t₁ → ((o : Outcome) (n : ℕ) → Evals 𝓜 ρ₁ p₁ t₁ o n → n ≤ N - a → Progress N s ρ p t) → Progress N s ρ p t
  through le d (done {o = o} {n = n} e l) onwards = onwards o n e l
  through {N = N} le d (going d' b) onwards = going (join 𝓜 d d' N (omega arith)) b

  -- One step is left of the node.
  last : {N a : ℕ} {s s₁ : State} {ρ : Env} {p : ℕ} {t : Term} {o : Outcome} {n : ℕ} → a ≤ N → Steps 𝓜 a s s₁ → busy (step 𝓜 s₁) ≡ true →
      Evals 𝓜 ρ p t o n → n ≡ a + 1 → Progress N s ρ p t
  last {N = N} {a = a} {s = s} {s₁ = s₁} {ρ = ρ} {p = p} {t = t} {n = n} le d b e u = go (dec_le (a + 1) N)
    where
      go : Dec (a + 1 ≤ N) → Progress N s ρ p t
      go (yes l) = done e (omega arith)
      go (no l) = going (join 𝓜 d here N (omega arith)) b

  -- A term makes progress within any number of units up to N₀.
  abbrev MakesProgress : ℕ → Term → Type 0
  MakesProgress N₀ t = (N : ℕ) → N ≤ N₀ → (ρ : Env) (p : ℕ) (ρ' : HeldEnv) → FitsEnv ρ' ρ → (k : List Instruction) (c : List Cell) (m : ℕ) →
      Progress N (at (emit p t k) ρ' c m) ρ p t

  -- Two children, one after the other.
  module _ {N₀ : ℕ} (l r : Term) (gl : MakesProgress N₀ l) (gr : MakesProgress N₀ r) (N : ℕ) (le : N ≤ N₀) (ρ : Env) (p : ℕ) (t : Term) (ρ' : HeldEnv) (fs : FitsEnv ρ' ρ)
      (k : List Instruction) (c : List Cell) (m : ℕ)
      (fault-left : (φ : Fault) (q n : ℕ) → Evals 𝓜 ρ (suc p) l (fails φ q) n → Evals 𝓜 ρ p t (fails φ q) n)
      (fault-right : (v : Value) (φ : Fault) (q a b : ℕ) → Evals 𝓜 ρ (suc p) l (yields v) a → Evals 𝓜 ρ (suc p + size l) r (fails φ q) b → Evals 𝓜 ρ p t (fails φ q) (a + b))
      (both : (v w : Value) (a b : ℕ) → Evals 𝓜 ρ (suc p) l (yields v) a → Evals 𝓜 ρ (suc p + size l) r (yields w) b → a + b ≤ N →
      (hv hw : Held) (m' : ℕ) → Fits hv v → Fits hw w →
      Steps 𝓜 (a + b) (at (emit (suc p) l (emit (suc p + size l) r k)) ρ' c m) (at k ρ' (val hw ∷ val hv ∷ c) m') →
      Progress N (at (emit (suc p) l (emit (suc p + size l) r k)) ρ' c m) ρ p t) where
    abbrev both_ahead : State
    both_ahead = at (emit (suc p) l (emit (suc p + size l) r k)) ρ' c m

    then_right : (v : Value) (a : ℕ) → Evals 𝓜 ρ (suc p) l (yields v) a → a ≤ N → (hv : Held) (m₁ : ℕ) → Fits hv v →
        Steps 𝓜 a both_ahead (at (emit (suc p + size l) r k) ρ' (val hv ∷ c) m₁) →
        (o : Outcome) (n : ℕ) → Evals 𝓜 ρ (suc p + size l) r o n → n ≤ N - a → Progress N both_ahead ρ p t
    then_right v a dl l₁ hv m₁ fv s₁ (yields w) n dr l₂ =
        let (hw, m₂, s₂, fw) = value_reached 𝓜 (simulates 𝓜 dr ρ' fs k (val hv ∷ c) m₁) in
        both v w a n dl dr (omega arith) hv hw m₂ fv fw (join 𝓜 s₁ s₂ (a + n) refl)
    then_right v a dl l₁ hv m₁ fv s₁ (fails φ q) n dr l₂ = done (fault-right v φ q a n dl dr) (omega arith)

    then_left : (o : Outcome) (n : ℕ) → Evals 𝓜 ρ (suc p) l o n → n ≤ N - 0 → Progress N both_ahead ρ p t
    then_left (yields v) n dl l₁ =
        let (hv, m₁, s₁, fv) = value_reached 𝓜 (simulates 𝓜 dl ρ' fs (emit (suc p + size l) r k) c m) in
        through (omega arith) s₁ (gr (N - n) (omega arith) ρ (suc p + size l) ρ' fs k (val hv ∷ c) m₁) (then_right v n dl (omega arith) hv m₁ fv s₁)
    then_left (fails φ q) n dl l₁ = done (fault-left φ q n dl) (omega arith)

    pair : Progress N both_ahead ρ p t
    pair = through (omega arith) here (gl (N - 0) (omega arith) ρ (suc p) ρ' fs (emit (suc p + size l) r k) c m) then_left

  -- A body or branch that is left by one step.
  body_progress : {N a : ℕ} {s s₁ : State} {ρ₁ : Env} {p₁ : ℕ} {t₁ : Term} {ρ : Env} {p : ℕ} {t : Term} (k₁ k : List Instruction) (σ₁ σ : HeldEnv) (c₁ c : List Cell) →
      a ≤ N → Steps 𝓜 a s s₁ →
      Progress (N - a) s₁ ρ₁ p₁ t₁ →
      ((o : Outcome) (n : ℕ) → Evals 𝓜 ρ₁ p₁ t₁ o n → Reaches 𝓜 s₁ k₁ σ₁ c₁ o n) →
      ((h : Held) (m : ℕ) → step 𝓜 (at k₁ σ₁ (val h ∷ c₁) m) ≡ goes (at k σ (val h ∷ c) m)) →
      ((o : Outcome) (n : ℕ) → Evals 𝓜 ρ₁ p₁ t₁ o n → Evals 𝓜 ρ p t o (a + n + closing o)) →
      Progress N s ρ p t
  body_progress {N = N} {a = a} {s = s} {s₁ = s₁} {ρ₁ = ρ₁} {p₁ = p₁} {t₁ = t₁} {ρ = ρ} {p = p} {t = t} k₁ k σ₁ σ c₁ c le d prog sim leave make =
      through le d prog onwards
    where
      onwards : (o : Outcome) (n : ℕ) → Evals 𝓜 ρ₁ p₁ t₁ o n → n ≤ N - a → Progress N s ρ p t
      onwards (yields v) n e l =
          let (h, m, d', f) = value_reached 𝓜 (sim (yields v) n e) in
          last (omega arith) (join 𝓜 d d' (a + n) refl) (ap busy (leave h m)) (make (yields v) n e) refl
      onwards (fails φ q) n e l = done (make (fails φ q) n e) (omega arith)

  -- An application, once function and argument have values.
  app_next : {N₀ : ℕ} → ((N : ℕ) → N < N₀ → (t : Term) → MakesProgress N t) → (f a : Term) (N : ℕ) → N ≤ N₀ → (ρ : Env) (p : ℕ) (ρ' : HeldEnv) →
      (k : List Instruction) (c : List Cell) (m : ℕ) →
      (v w : Value) (i j : ℕ) → Evals 𝓜 ρ (suc p) f (yields v) i → Evals 𝓜 ρ (suc p + size f) a (yields w) j → i + j ≤ N →
      (hv hw : Held) (m' : ℕ) → Fits hv v → Fits hw w → {s : State} →
      Steps 𝓜 (i + j) s (at (Apply p ∷ k) ρ' (val hw ∷ val hv ∷ c) m') → Progress N s ρ p (app f a)
  app_next ih f a N le ρ p ρ' k c m (number x) w i j df da l hv hw m' fv fw s =
      last l s (busy-enter p hv hw k ρ' c m') (e_app_no df da number_no_function refl) refl
  app_next ih f a N le ρ p ρ' k c m (boolean x) w i j df da l hv hw m' fv fw s =
      last l s (busy-enter p hv hw k ρ' c m') (e_app_no df da boolean_no_function refl) refl
  app_next ih f a N le ρ p ρ' k c m (function x b q ρf) w i j df da l hv hw m' fv fw {s = s₀} s = go (dec_le (i + j + 1) N)
    where
      go : Dec (i + j + 1 ≤ N) → Progress N s₀ ρ p (app f a)
      go (yes l₁) =
          let (r, ρ₁, fs₁, enters) = apply_step 𝓜 fv in
          body_progress (Return ∷ r) k (hw ◂ ρ₁) ρ' (return_to k ρ' ∷ c) c l₁ (one_step_more 𝓜 s (enters p k ρ' c m' hw) (i + j + 1) refl)
          (ih (N - (i + j + 1)) (omega arith) b (N - (i + j + 1)) (omega arith) (w ▸ ρf) (suc q) (hw ◂ ρ₁) (fits_more fw fs₁) (Return ∷ r) (return_to k ρ' ∷ c) (suc m'))
          (λ o n e. simulates 𝓜 e (hw ◂ ρ₁) (fits_more fw fs₁) (Return ∷ r) (return_to k ρ' ∷ c) (suc m'))
          (λ h m. refl) (λ o n e. e_app df da e refl)
      go (no l₁) = going (join 𝓜 s here N (omega arith)) (busy-enter p hv hw k ρ' c m')

  -- A Let, once its bound child has an outcome.
  let_next : {N₀ : ℕ} (x : ℕ) (a b : Term) → MakesProgress N₀ b → (N : ℕ) → N ≤ N₀ → (ρ : Env) (p : ℕ) (ρ' : HeldEnv) → FitsEnv ρ' ρ →
      (k : List Instruction) (c : List Cell) (m : ℕ) →
      (o : Outcome) (n : ℕ) → Evals 𝓜 ρ (suc p) a o n → n ≤ N - 0 → Progress N (at (emit p (let_in x a b) k) ρ' c m) ρ p (let_in x a b)
  let_next x a b gb N le ρ p ρ' fs k c m (fails φ q) n da l = done (e_let_left da) (omega arith)
  let_next x a b gb N le ρ p ρ' fs k c m (yields v) n da l =
      go (dec_le (n + 1) N) (value_reached 𝓜 (simulates 𝓜 da ρ' fs (Bind x ∷ emit (suc p + size a) b (Unbind ∷ k)) c m))
    where
      go : Dec (n + 1 ≤ N) →
          (h : Held) × (m₁ : ℕ) × Steps 𝓜 n (at (emit p (let_in x a b) k) ρ' c m) (at (Bind x ∷ emit (suc p + size a) b (Unbind ∷ k)) ρ' (val h ∷ c) m₁) × Fits h v →
          Progress N (at (emit p (let_in x a b) k) ρ' c m) ρ p (let_in x a b)
      go (yes l₁) (h, m₁, s₁, f) =
          body_progress (Unbind ∷ k) k (h ◂ ρ') ρ' c c l₁ (one_step_more 𝓜 s₁ refl (n + 1) refl)
          (gb (N - (n + 1)) (omega arith) (v ▸ ρ) (suc p + size a) (h ◂ ρ') (fits_more f fs) (Unbind ∷ k) c (suc m₁))
          (λ o j e. simulates 𝓜 e (h ◂ ρ') (fits_more f fs) (Unbind ∷ k) c (suc m₁))
          (λ h m. refl) (λ o j e. e_let da e refl)
      go (no l₁) (h, m₁, s₁, f) = going (join 𝓜 s₁ here N (omega arith)) refl

  -- An If, once its condition has a value.
  if_next : {N₀ : ℕ} (q t e : Term) → MakesProgress N₀ t → MakesProgress N₀ e → (N : ℕ) → N ≤ N₀ → (ρ : Env) (p : ℕ) (ρ' : HeldEnv) → FitsEnv ρ' ρ →
      (k : List Instruction) (c : List Cell) (m : ℕ) →
      (v : Value) (n : ℕ) → Evals 𝓜 ρ (suc p) q (yields v) n → 2 + n ≤ N → (h : Held) → Fits h v → {s : State} (r₁ r₂ : List Instruction) →
      Steps 𝓜 (2 + n) s (at (Choose p ∷ k) ρ' (val h ∷ thunk (emit (suc p + size q + size t) e (Return ∷ r₂)) ρ' ∷ thunk (emit (suc p + size q) t (Return ∷ r₁)) ρ' ∷ c) m) →
      Progress N s ρ p (if_then q t e)
  if_next q t e gt ge N le ρ p ρ' fs k c m (number i) n dq l h f r₁ r₂ s =
      last l s (busy-branch p h _ _ k ρ' c m) (e_if_no dq number_no_boolean refl) refl
  if_next q t e gt ge N le ρ p ρ' fs k c m (function x b i ρf) n dq l h f r₁ r₂ s =
      last l s (busy-branch p h _ _ k ρ' c m) (e_if_no dq function_no_boolean refl) refl
  if_next q t e gt ge N le ρ p ρ' fs k c m (boolean true) n dq l h fits_boolean {s = s₀} r₁ r₂ s = go (dec_le (2 + n + 1) N)
    where
      go : Dec (2 + n + 1 ≤ N) → Progress N s₀ ρ p (if_then q t e)
      go (yes l₁) =
          body_progress (Return ∷ r₁) k ρ' ρ' (return_to k ρ' ∷ c) c l₁ (one_step_more 𝓜 s refl (2 + n + 1) refl)
          (gt (N - (2 + n + 1)) (omega arith) ρ (suc p + size q) ρ' fs (Return ∷ r₁) (return_to k ρ' ∷ c) m)
          (λ o j d. simulates 𝓜 d ρ' fs (Return ∷ r₁) (return_to k ρ' ∷ c) m)
          (λ h m. refl) (λ o j d. e_if dq d refl)
      go (no l₁) = going (join 𝓜 s here N (omega arith)) refl
  if_next q t e gt ge N le ρ p ρ' fs k c m (boolean false) n dq l h fits_boolean {s = s₀} r₁ r₂ s = go (dec_le (2 + n + 1) N)
    where
      go : Dec (2 + n + 1 ≤ N) → Progress N s₀ ρ p (if_then q t e)
      go (yes l₁) =
          body_progress (Return ∷ r₂) k ρ' ρ' (return_to k ρ' ∷ c) c l₁ (one_step_more 𝓜 s refl (2 + n + 1) refl)
          (ge (N - (2 + n + 1)) (omega arith) ρ (suc p + size q + size t) ρ' fs (Return ∷ r₂) (return_to k ρ' ∷ c) m)
          (λ o j d. simulates 𝓜 d ρ' fs (Return ∷ r₂) (return_to k ρ' ∷ c) m)
          (λ h m. refl) (λ o j d. e_if dq d refl)
      go (no l₁) = going (join 𝓜 s here N (omega arith)) refl

  -- An If, once its condition has an outcome.
  if_condition : {N₀ : ℕ} (q t e : Term) → MakesProgress N₀ t → MakesProgress N₀ e → (N : ℕ) → N ≤ N₀ → 2 ≤ N → (ρ : Env) (p : ℕ) (ρ' : HeldEnv) →
      FitsEnv ρ' ρ → (k : List Instruction) (c : List Cell) (m : ℕ) →
      (o : Outcome) (n : ℕ) → Evals 𝓜 ρ (suc p) q o n → n ≤ N - 2 → Progress N (at (emit p (if_then q t e) k) ρ' c m) ρ p (if_then q t e)
  if_condition q t e gt ge N le two ρ p ρ' fs k c m (fails φ r) n dq l = done (e_if_left dq refl) (omega arith)
  if_condition q t e gt ge N le two ρ p ρ' fs k c m (yields v) n dq l =
      let (h, m₁, s₁, f) = value_reached 𝓜 (simulates 𝓜 dq ρ' fs (Choose p ∷ k) (thunk (else_code p q t e k) ρ' ∷ thunk (then_code p q t e k) ρ' ∷ c) m) in
      if_next q t e gt ge N le ρ p ρ' fs k c m₁ v n dq (omega arith) h f (PushThunk (suc (code_size e)) ∷ else_code p q t e k) (emit (suc p) q (Choose p ∷ k)) (join 𝓜 (if_starts 𝓜 p q t e k ρ' c m) s₁ (2 + n) refl)

  -- An If, from its first step on.
  if_first : {N₀ : ℕ} (q t e : Term) → MakesProgress N₀ q → MakesProgress N₀ t → MakesProgress N₀ e → MakesProgress N₀ (if_then q t e)
  if_first q t e gq gt ge zero le ρ p ρ' fs k c m = going here refl
  if_first q t e gq gt ge (suc zero) le ρ p ρ' fs k c m = going (if_half 𝓜 p q t e k ρ' c m) refl
  if_first q t e gq gt ge (suc (suc N)) le ρ p ρ' fs k c m =
      through (omega arith) (if_starts 𝓜 p q t e k ρ' c m) (gq (suc (suc N) - 2) (omega arith) ρ (suc p) ρ' fs (Choose p ∷ k) (thunk (else_code p q t e k) ρ' ∷ thunk (then_code p q t e k) ρ' ∷ c) m)
      (if_condition q t e gt ge (suc (suc N)) le (omega arith) ρ p ρ' fs k c m)

  -- Every term makes progress, where all terms do within fewer units: a function's body may be any term.
  makes_progress : (N₀ : ℕ) → ((N : ℕ) → N < N₀ → (t : Term) → MakesProgress N t) → (t : Term) → MakesProgress N₀ t
  makes_progress N₀ ih (num i) N le ρ p ρ' fs k c m = last {a = 0} (omega arith) here refl (e_num {c = i} refl) refl
  makes_progress N₀ ih (truth b) N le ρ p ρ' fs k c m = last {a = 0} (omega arith) here refl (e_truth {b = b} refl) refl
  makes_progress N₀ ih (var x i) N le ρ p ρ' fs k c m = last {a = 0} (omega arith) here refl (e_var refl refl) refl
  makes_progress N₀ ih (lam x b) N le ρ p ρ' fs k c m = last {a = 0} (omega arith) here refl (e_lam refl) refl
  makes_progress N₀ ih (binop o l r) N le ρ p ρ' fs k c m =
      pair l r (makes_progress N₀ ih l) (makes_progress N₀ ih r) N le ρ p (binop o l r) ρ' fs (Operate o p ∷ k) c m
      (λ φ q n d. e_binop_left d) (λ v φ q a b dl dr. e_binop_right dl dr refl)
      (λ v w a b dl dr le hv hw m fv fw s. last le s (busy_push p (operated 𝓜 o (sort_held hv) (sort_held hw)) k ρ' c m) (e_binop dl dr refl refl) refl)
  makes_progress N₀ ih (eq l r) N le ρ p ρ' fs k c m =
      pair l r (makes_progress N₀ ih l) (makes_progress N₀ ih r) N le ρ p (eq l r) ρ' fs (Compare p ∷ k) c m
      (λ φ q n d. e_eq_left d) (λ v φ q a b dl dr. e_eq_right dl dr refl)
      (λ v w a b dl dr le hv hw m fv fw s. last le s (busy_push p (compared 𝓜 (sort_held hv) (sort_held hw)) k ρ' c m) (e_eq dl dr refl refl) refl)
  makes_progress N₀ ih (app f a) N le ρ p ρ' fs k c m =
      pair f a (makes_progress N₀ ih f) (makes_progress N₀ ih a) N le ρ p (app f a) ρ' fs (Apply p ∷ k) c m
      (λ φ q n d. e_app_left d) (λ v φ q a b dl dr. e_app_right dl dr refl)
      (λ v w i j df da l hv hw m' fv fw s. app_next ih f a N le ρ p ρ' k c m v w i j df da l hv hw m' fv fw s)
  makes_progress N₀ ih (let_in x a b) N le ρ p ρ' fs k c m =
      through (omega arith) here (makes_progress N₀ ih a (N - 0) (omega arith) ρ (suc p) ρ' fs (Bind x ∷ emit (suc p + size a) b (Unbind ∷ k)) c m)
      (let_next x a b (makes_progress N₀ ih b) N le ρ p ρ' fs k c m)
  makes_progress N₀ ih (if_then q t e) N le ρ p ρ' fs k c m =
      if_first q t e (makes_progress N₀ ih q) (makes_progress N₀ ih t) (makes_progress N₀ ih e) N le ρ p ρ' fs k c m

  makes_progress_below : (N₀ N : ℕ) → N < N₀ → (t : Term) → MakesProgress N t
  makes_progress_below zero N h t M le = absurd (omega arith)
  makes_progress_below (suc N₀) N h t M le = makes_progress N₀ (makes_progress_below N₀) t M (omega arith)

  pub makes_progress_within : (N : ℕ) (ρ : Env) (p : ℕ) (t : Term) (ρ' : HeldEnv) → FitsEnv ρ' ρ → (k : List Instruction) (c : List Cell) (m : ℕ) →
      Progress N (at (emit p t k) ρ' c m) ρ p t
  makes_progress_within N ρ p t ρ' fs k c m = makes_progress N (makes_progress_below N) t N (omega arith) ρ p ρ' fs k c m
