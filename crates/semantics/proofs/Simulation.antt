-- The machine does what the evaluation rules say, step for unit.
use Rattle.std.proofs.Common.{◌≡◌, ℕ, zero, suc, ◌+◌, Bool, true, false, List, ◌∷◌, drop, refl, ap, ◌∙◌, subst, ap₂, arith}
use Rattle.domain.specs.declared.Fault.{Fault}
use Rattle.domain.specs.Meaning.{Meaning}
use Rattle.semantics.specs.declared.layout.Instruction.{Instruction}
use Rattle.semantics.specs.declared.layout.Instruction.TheVariants.{PushNum, PushTruth, Access, PushThunk, Operate, Compare, Unbind, Apply, Return, Choose}
use Rattle.semantics.specs.Terms.{Term, num, truth, var, binop, eq, app, lam, let_in, if_then, size}
use Rattle.semantics.specs.Values.{Value, number, boolean, function, Env, ε, ◌▸◌, look, Outcome, yields, fails}
use Rattle.semantics.specs.Evaluation.{condition_no_boolean, applied_no_function, engine_fault, sort_of, Computed, gives_number, gives_boolean, gives_fault, operated, compared, outcome_at, NotFunction, NotBoolean, closing, branch, branch_place, Evals, e_num, e_truth, e_var, e_lam, e_binop, e_binop_left, e_binop_right, e_eq, e_eq_left, e_eq_right, e_app, e_app_no, e_app_left, e_app_right, e_let, e_let_left, e_if, e_if_no, e_if_left}
use Rattle.semantics.specs.Translation.{code_size, emit}
use Rattle.semantics.specs.Running.{goes, faults}
use Rattle.semantics.specs.Machine.{Held, h_number, h_boolean, closure, HeldEnv, ∅, ◌◂◌, Cell, val, thunk, return_to, State, at, fetch, sort_held, push_computed, step, Steps, here, more}

recount : {m n : ℕ} (k : List Instruction) → m ≡ n → drop m k ≡ drop n k
recount k e = ap (λ i. drop i k) e

-- Dropping as many instructions as a term has goes past its code.
drop-emit : (p : ℕ) (t : Term) (k : List Instruction) (n : ℕ) → drop (code_size t + n) (emit p t k) ≡ drop n k
drop-emit p (num c) k n = let e : 1 + n ≡ suc n = omega arith in recount (PushNum c ∷ k) e
drop-emit p (truth b) k n = let e : 1 + n ≡ suc n = omega arith in recount (PushTruth b ∷ k) e
drop-emit p (var x i) k n = let e : 1 + n ≡ suc n = omega arith in recount (Access x i ∷ k) e
drop-emit p (binop o l r) k n =
    let e : (code_size l + (code_size r + 1)) + n ≡ code_size l + (code_size r + suc n) = omega arith in
    recount _ e ∙ drop-emit (suc p) l _ (code_size r + suc n) ∙ drop-emit (suc p + size l) r _ (suc n)
drop-emit p (eq l r) k n =
    let e : (code_size l + (code_size r + 1)) + n ≡ code_size l + (code_size r + suc n) = omega arith in
    recount _ e ∙ drop-emit (suc p) l _ (code_size r + suc n) ∙ drop-emit (suc p + size l) r _ (suc n)
drop-emit p (app l r) k n =
    let e : (code_size l + (code_size r + 1)) + n ≡ code_size l + (code_size r + suc n) = omega arith in
    recount _ e ∙ drop-emit (suc p) l _ (code_size r + suc n) ∙ drop-emit (suc p + size l) r _ (suc n)
drop-emit p (lam x b) k n =
    let e : suc (code_size b + 1) + n ≡ suc (code_size b + suc n) = omega arith in
    recount _ e ∙ drop-emit (suc p) b _ (suc n)
drop-emit p (let_in x a b) k n =
    let e : (code_size a + suc (code_size b + 1)) + n ≡ code_size a + suc (code_size b + suc n) = omega arith in
    recount _ e ∙ drop-emit (suc p) a _ (suc (code_size b + suc n)) ∙ drop-emit (suc p + size a) b _ (suc n)
drop-emit p (if_then c t f) k n =
    let e : suc (code_size t + suc (suc (code_size f + suc (code_size c + 1)))) + n ≡ suc (code_size t + suc (suc (code_size f + suc (code_size c + suc n)))) = omega arith in
    recount _ e ∙ drop-emit (suc p + size c) t _ (suc (suc (code_size f + suc (code_size c + suc n))))
    ∙ drop-emit (suc p + size c + size t) f _ (suc (code_size c + suc n)) ∙ drop-emit (suc p) c _ (suc n)

-- CLOSURE and THUNK go past the body.
pub drop_body : (p : ℕ) (b : Term) (k : List Instruction) → drop (suc (code_size b)) (emit p b (Return ∷ k)) ≡ k
drop_body p b k = let e : suc (code_size b) ≡ code_size b + 1 = omega arith in recount _ e ∙ drop-emit p b (Return ∷ k) 1

-- What the machine holds stands for a value.
mutual
  pub data Fits : Held → Value → Type 0 where
    fits_number : {c : ℕ} → Fits (h_number c) (number c)
    fits_boolean : {b : Bool} → Fits (h_boolean b) (boolean b)
    fits_function : {x : ℕ} {b : Term} {p : ℕ} {ρ : Env} {ρ' : HeldEnv} (k : List Instruction) →
        FitsEnv ρ' ρ → Fits (closure x (emit (suc p) b (Return ∷ k)) ρ') (function x b p ρ)

  pub data FitsEnv : HeldEnv → Env → Type 0 where
    fits_none : FitsEnv ∅ ε
    fits_more : {h : Held} {v : Value} {ρ' : HeldEnv} {ρ : Env} → Fits h v → FitsEnv ρ' ρ → FitsEnv (h ◂ ρ') (v ▸ ρ)

pub fits-look : {ρ' : HeldEnv} {ρ : Env} → FitsEnv ρ' ρ → (i : ℕ) → Fits (fetch ρ' i) (look ρ i)
fits-look fits_none i = fits_boolean
fits-look (fits_more f fs) zero = f
fits-look (fits_more f fs) (suc i) = fits-look fs i

pub fits_sort : {h : Held} {v : Value} → Fits h v → sort_held h ≡ sort_of v
fits_sort fits_number = refl
fits_sort fits_boolean = refl
fits_sort (fits_function k fs) = refl

-- The code of an If up to its condition.
abbrev pub else_code : ℕ → Term → Term → Term → List Instruction → List Instruction
else_code p q t e k = emit (suc p + size q + size t) e (Return ∷ emit (suc p) q (Choose p ∷ k))

abbrev pub then_code : ℕ → Term → Term → Term → List Instruction → List Instruction
then_code p q t e k = emit (suc p + size q) t (Return ∷ PushThunk (suc (code_size e)) ∷ else_code p q t e k)

module _ (𝓜 : Meaning) where
  -- Steps one after the other.
  pub join : {a b : ℕ} {s s' s'' : State} → Steps 𝓜 a s s' → Steps 𝓜 b s' s'' → (n : ℕ) → n ≡ a + b → Steps 𝓜 n s s''
  join {b = b} {s'' = s''} (here {s = s}) d n e = let f : b ≡ n = omega arith in subst (λ i. Steps 𝓜 i s s'') f d
  join {b = b} {s'' = s''} (more {n = a} {s = s} q d) d' n e =
      let f : suc (a + b) ≡ n = omega arith in subst (λ i. Steps 𝓜 i s s'') f (more q (join d d' (a + b) refl))

  pub one_step_more : {a : ℕ} {s s' s'' : State} → Steps 𝓜 a s s' → step 𝓜 s' ≡ goes s'' → (n : ℕ) → n ≡ a + 1 → Steps 𝓜 n s s''
  one_step_more d q n e = join d (more q here) n e

  -- From s the machine comes in n steps to the place k with the outcome's value on the stack, or to its fault.
  pub data Reaches : State → List Instruction → HeldEnv → List Cell → Outcome → ℕ → Type 0 where
    gets : {s : State} {k : List Instruction} {ρ : HeldEnv} {c : List Cell} {v : Value} {n : ℕ} (h : Held) (m : ℕ) →
        Steps 𝓜 n s (at k ρ (val h ∷ c) m) → Fits h v → Reaches s k ρ c (yields v) n
    meets : {s : State} {k : List Instruction} {ρ : HeldEnv} {c : List Cell} {φ : Fault} {q n : ℕ} (s' : State) (m : ℕ) →
        n ≡ suc m → Steps 𝓜 m s s' → step 𝓜 s' ≡ faults φ q → Reaches s k ρ c (fails φ q) n

  pub value_reached : {s : State} {k : List Instruction} {ρ : HeldEnv} {c : List Cell} {v : Value} {n : ℕ} → Reaches s k ρ c (yields v) n →
      (h : Held) × (m : ℕ) × Steps 𝓜 n s (at k ρ (val h ∷ c) m) × Fits h v
  value_reached (gets h m d f) = (h, m, d, f)

  -- A fault met further on.
  fault_later : {a b : ℕ} {s s' : State} {φ : Fault} {q : ℕ} {k₁ k : List Instruction} {ρ₁ ρ : HeldEnv} {c₁ c : List Cell} → Steps 𝓜 a s s' →
      Reaches s' k₁ ρ₁ c₁ (fails φ q) b → (n : ℕ) → n ≡ a + b → Reaches s k ρ c (fails φ q) n
  fault_later {a = a} d (meets s'' m e d' f) n u = meets s'' (a + m) (omega arith) (join d d' (a + m) refl) f

  -- What is computed is pushed, or is the fault.
  pushed : (p : ℕ) (r : Computed) {a : ℕ} {s s' : State} (k : List Instruction) (ρ : HeldEnv) (c : List Cell) (m : ℕ) → Steps 𝓜 a s s' →
      step 𝓜 s' ≡ push_computed p r k ρ c m → (n : ℕ) → n ≡ a + 1 → Reaches s k ρ c (outcome_at p r) n
  pushed p (gives_number i) k ρ c m d q n u = gets (h_number i) m (one_step_more d q n u) fits_number
  pushed p (gives_boolean b) k ρ c m d q n u = gets (h_boolean b) m (one_step_more d q n u) fits_boolean
  pushed p (gives_fault φ) {a = a} {s' = s'} k ρ c m d q n u = meets s' a (omega arith) d q

  -- A body that is left by one step.
  leaves_body : (o : Outcome) {a j : ℕ} {s s' : State} {k₁ k : List Instruction} {ρ₁ ρ : HeldEnv} {c₁ c : List Cell} →
      ((h : Held) (m : ℕ) → step 𝓜 (at k₁ ρ₁ (val h ∷ c₁) m) ≡ goes (at k ρ (val h ∷ c) m)) →
      Steps 𝓜 a s s' → Reaches s' k₁ ρ₁ c₁ o j → (n : ℕ) → n ≡ a + j + closing o → Reaches s k ρ c o n
  leaves_body (yields v) {a = a} {j = j} leave d (gets h m d' f) n u = gets h m (one_step_more (join d d' (a + j) refl) (leave h m) n u) f
  leaves_body (fails φ q) leave d r n u = fault_later d r n (omega arith)

  -- APPLY enters the body of what stands for a function, and faults on anything else.
  pub apply_step : {h : Held} {x : ℕ} {b : Term} {q : ℕ} {ρ : Env} → Fits h (function x b q ρ) →
      (r : List Instruction) × (ρ₁ : HeldEnv) × FitsEnv ρ₁ ρ × ((p : ℕ) (k : List Instruction) (ρ' : HeldEnv) (c : List Cell) (m : ℕ) (w : Held) →
      step 𝓜 (at (Apply p ∷ k) ρ' (val w ∷ val h ∷ c) m) ≡ goes (at (emit (suc q) b (Return ∷ r)) (w ◂ ρ₁) (return_to k ρ' ∷ c) (suc m)))
  apply_step (fits_function {ρ' = ρ₁} r fs) = (r, ρ₁, fs, λ p k ρ' c m w. refl)

  pub apply_no : {h : Held} {v : Value} → Fits h v → NotFunction (sort_of v) →
      (p : ℕ) (k : List Instruction) (ρ : HeldEnv) (c : List Cell) (m : ℕ) (w : Held) →
      step 𝓜 (at (Apply p ∷ k) ρ (val w ∷ val h ∷ c) m) ≡ faults (engine_fault applied_no_function) p
  apply_no fits_number nf p k ρ c m w = refl
  apply_no fits_boolean nf p k ρ c m w = refl
  apply_no (fits_function r fs) nf p k ρ c m w = elim nf [ ]

  -- IF faults on what stands for no boolean.
  pub if_no : {h : Held} {v : Value} → Fits h v → NotBoolean (sort_of v) →
      (p : ℕ) (k : List Instruction) (ρ : HeldEnv) (c : List Cell) (m : ℕ) (kt ke : List Instruction) →
      step 𝓜 (at (Choose p ∷ k) ρ (val h ∷ thunk ke ρ ∷ thunk kt ρ ∷ c) m) ≡ faults (engine_fault condition_no_boolean) p
  if_no fits_number nb p k ρ c m kt ke = refl
  if_no fits_boolean nb p k ρ c m kt ke = elim nb [ ]
  if_no (fits_function r fs) nb p k ρ c m kt ke = refl

  -- The two steps of an If before its condition, and the first of them.
  pub if_starts : (p : ℕ) (q t e : Term) (k : List Instruction) (ρ : HeldEnv) (c : List Cell) (m : ℕ) →
      Steps 𝓜 2 (at (emit p (if_then q t e) k) ρ c m)
      (at (emit (suc p) q (Choose p ∷ k)) ρ (thunk (else_code p q t e k) ρ ∷ thunk (then_code p q t e k) ρ ∷ c) m)
  if_starts p q t e k ρ c m =
      more (ap (λ i. goes (at i ρ (thunk (then_code p q t e k) ρ ∷ c) m)) (drop_body (suc p + size q) t (PushThunk (suc (code_size e)) ∷ else_code p q t e k)))
      (more (ap (λ i. goes (at i ρ (thunk (else_code p q t e k) ρ ∷ thunk (then_code p q t e k) ρ ∷ c) m)) (drop_body (suc p + size q + size t) e (emit (suc p) q (Choose p ∷ k)))) here)

  pub if_half : (p : ℕ) (q t e : Term) (k : List Instruction) (ρ : HeldEnv) (c : List Cell) (m : ℕ) →
      Steps 𝓜 1 (at (emit p (if_then q t e) k) ρ c m) (at (PushThunk (suc (code_size e)) ∷ else_code p q t e k) ρ (thunk (then_code p q t e k) ρ ∷ c) m)
  if_half p q t e k ρ c m =
      more (ap (λ i. goes (at i ρ (thunk (then_code p q t e k) ρ ∷ c) m)) (drop_body (suc p + size q) t (PushThunk (suc (code_size e)) ∷ else_code p q t e k))) here

  -- IF enters the branch chosen, and its RETURN leaves it.
  if_ends : (b : Bool) {h : Held} → Fits h (boolean b) →
      (p : ℕ) (q t e : Term) (k : List Instruction) (ρ : HeldEnv) (c : List Cell) (m a : ℕ) {s : State} (o : Outcome) (j : ℕ) →
      Steps 𝓜 a s (at (Choose p ∷ k) ρ (val h ∷ thunk (else_code p q t e k) ρ ∷ thunk (then_code p q t e k) ρ ∷ c) m) →
      ((k' : List Instruction) (c' : List Cell) (m' : ℕ) → Reaches (at (emit (branch_place p b q t) (branch b t e) k') ρ c' m') k' ρ c' o j) →
      (n : ℕ) → n ≡ a + 1 + j + closing o → Reaches s k ρ c o n
  if_ends true fits_boolean p q t e k ρ c m a o j d ih n u =
      leaves_body o (λ h m. refl) (one_step_more d refl (a + 1) refl) (ih (Return ∷ PushThunk (suc (code_size e)) ∷ else_code p q t e k) (return_to k ρ ∷ c) m) n u
  if_ends false fits_boolean p q t e k ρ c m a o j d ih n u =
      leaves_body o (λ h m. refl) (one_step_more d refl (a + 1) refl) (ih (Return ∷ emit (suc p) q (Choose p ∷ k)) (return_to k ρ ∷ c) m) n u

  -- From the first instruction of a term the machine reaches the outcome that the rules give, in as many steps as they count
  -- units.
  pub simulates : {ρ : Env} {p : ℕ} {t : Term} {o : Outcome} {n : ℕ} → Evals 𝓜 ρ p t o n → (ρ' : HeldEnv) → FitsEnv ρ' ρ →
      (k : List Instruction) (c : List Cell) (m : ℕ) → Reaches (at (emit p t k) ρ' c m) k ρ' c o n
  simulates (e_num {c = i} {n = n} u) ρ' fs k c m = gets (h_number i) m (one_step_more here refl n (omega arith)) fits_number
  simulates (e_truth {b = b} {n = n} u) ρ' fs k c m = gets (h_boolean b) m (one_step_more here refl n (omega arith)) fits_boolean
  simulates (e_var {i = i} {n = n} e u) ρ' fs k c m =
      gets (fetch ρ' i) m (one_step_more here refl n (omega arith)) (subst (λ v. Fits (fetch ρ' i) v) e (fits-look fs i))
  simulates (e_lam {p = p} {x = x} {b = b} {n = n} u) ρ' fs k c m =
      let body : List Instruction = emit (suc p) b (Return ∷ k) in
      gets (closure x body ρ') m (one_step_more here (ap (λ i. goes (at i ρ' (val (closure x body ρ') ∷ c) m)) (drop_body (suc p) b k)) n (omega arith)) (fits_function k fs)
  simulates (e_binop {p = p} {o = o} {l = l} {r = r} {v = v} {w = w} {m = i} {k = j} {n = n} dl dr e u) ρ' fs k c m =
      let (hv, m₁, s₁, fv) = value_reached (simulates dl ρ' fs (emit (suc p + size l) r (Operate o p ∷ k)) c m) in
      let (hw, m₂, s₂, fw) = value_reached (simulates dr ρ' fs (Operate o p ∷ k) (val hv ∷ c) m₁) in
      subst (λ d. Reaches (at (emit p (binop o l r) k) ρ' c m) k ρ' c d n) e
      (pushed p (operated 𝓜 o (sort_of v) (sort_of w)) k ρ' c m₂ (join s₁ s₂ (i + j) refl) (ap₂ (λ a b. push_computed p (operated 𝓜 o a b) k ρ' c m₂) (fits_sort fv) (fits_sort fw)) n u)
  simulates (e_binop_left {n = n} dl) ρ' fs k c m = fault_later here (simulates dl ρ' fs _ c m) n (omega arith)
  simulates (e_binop_right {n = n} dl dr u) ρ' fs k c m =
      let (hv, m₁, s₁, fv) = value_reached (simulates dl ρ' fs _ c m) in
      fault_later s₁ (simulates dr ρ' fs _ (val hv ∷ c) m₁) n u
  simulates (e_eq {p = p} {l = l} {r = r} {v = v} {w = w} {m = i} {k = j} {n = n} dl dr e u) ρ' fs k c m =
      let (hv, m₁, s₁, fv) = value_reached (simulates dl ρ' fs (emit (suc p + size l) r (Compare p ∷ k)) c m) in
      let (hw, m₂, s₂, fw) = value_reached (simulates dr ρ' fs (Compare p ∷ k) (val hv ∷ c) m₁) in
      subst (λ d. Reaches (at (emit p (eq l r) k) ρ' c m) k ρ' c d n) e
      (pushed p (compared 𝓜 (sort_of v) (sort_of w)) k ρ' c m₂ (join s₁ s₂ (i + j) refl) (ap₂ (λ a b. push_computed p (compared 𝓜 a b) k ρ' c m₂) (fits_sort fv) (fits_sort fw)) n u)
  simulates (e_eq_left {n = n} dl) ρ' fs k c m = fault_later here (simulates dl ρ' fs _ c m) n (omega arith)
  simulates (e_eq_right {n = n} dl dr u) ρ' fs k c m =
      let (hv, m₁, s₁, fv) = value_reached (simulates dl ρ' fs _ c m) in
      fault_later s₁ (simulates dr ρ' fs _ (val hv ∷ c) m₁) n u
  simulates (e_app {p = p} {w = w} {o = o} {m = i} {k = j} {n = n} df da db u) ρ' fs k c m =
      let (hf, m₁, s₁, ff) = value_reached (simulates df ρ' fs _ c m) in
      let (hw, m₂, s₂, fw) = value_reached (simulates da ρ' fs _ (val hf ∷ c) m₁) in
      let (r, ρ₁, fs₁, go) = apply_step ff in
      leaves_body o (λ h m. refl) (one_step_more (join s₁ s₂ (i + j) refl) (go p k ρ' c m₂ hw) (i + j + 1) refl) (simulates db (hw ◂ ρ₁) (fits_more fw fs₁) (Return ∷ r) (return_to k ρ' ∷ c) (suc m₂)) n u
  simulates (e_app_no {p = p} {m = i} {k = j} {n = n} df da nf u) ρ' fs k c m =
      let (hf, m₁, s₁, ff) = value_reached (simulates df ρ' fs _ c m) in
      let (hw, m₂, s₂, fw) = value_reached (simulates da ρ' fs _ (val hf ∷ c) m₁) in
      meets _ (i + j) (omega arith) (join s₁ s₂ (i + j) refl) (apply_no ff nf p k ρ' c m₂ hw)
  simulates (e_app_left {n = n} df) ρ' fs k c m = fault_later here (simulates df ρ' fs _ c m) n (omega arith)
  simulates (e_app_right {n = n} df da u) ρ' fs k c m =
      let (hv, m₁, s₁, fv) = value_reached (simulates df ρ' fs _ c m) in
      fault_later s₁ (simulates da ρ' fs _ (val hv ∷ c) m₁) n u
  simulates (e_let {o = o} {m = i} {n = n} da db u) ρ' fs k c m =
      let (hv, m₁, s₁, fv) = value_reached (simulates da ρ' fs _ c m) in
      leaves_body o (λ h m. refl) (one_step_more s₁ refl (i + 1) refl) (simulates db (hv ◂ ρ') (fits_more fv fs) (Unbind ∷ k) c (suc m₁)) n u
  simulates (e_let_left {n = n} da) ρ' fs k c m = fault_later here (simulates da ρ' fs _ c m) n (omega arith)
  simulates (e_if {p = p} {c = q} {t = t} {e = e} {b = b} {o = o} {m = i} {k = j} {n = n} dc db u) ρ' fs k c m =
      let (hv, m₁, s₁, fv) = value_reached (simulates dc ρ' fs _ (thunk (else_code p q t e k) ρ' ∷ thunk (then_code p q t e k) ρ' ∷ c) m) in
      if_ends b fv p q t e k ρ' c m₁ (2 + i) o j (join (if_starts p q t e k ρ' c m) s₁ (2 + i) refl) (simulates db ρ' fs) n u
  simulates (e_if_no {p = p} {c = q} {t = t} {e = e} {m = i} {n = n} dc nb u) ρ' fs k c m =
      let (hv, m₁, s₁, fv) = value_reached (simulates dc ρ' fs _ (thunk (else_code p q t e k) ρ' ∷ thunk (then_code p q t e k) ρ' ∷ c) m) in
      meets _ (2 + i) (omega arith) (join (if_starts p q t e k ρ' c m) s₁ (2 + i) refl) (if_no fv nb p k ρ' c m₁ _ _)
  simulates (e_if_left {p = p} {c = q} {t = t} {e = e} {m = i} {n = n} dc u) ρ' fs k c m =
      fault_later (if_starts p q t e k ρ' c m) (simulates dc ρ' fs _ (thunk (else_code p q t e k) ρ' ∷ thunk (then_code p q t e k) ρ' ∷ c) m) n u
