-- What waits for a value in a state of a run, and that the next contraction is looked for there.
use Rattle.std.proofs.Common.{◌≡◌, ℕ, zero, suc, Bool, List, [], ◌∷◌, refl, ap}
use Rattle.semantics.specs.Terms.{Term, lam, if_then}
use Rattle.semantics.specs.Values.{Value, number, boolean, function, Env, ε, ◌▸◌}
use Rattle.semantics.specs.Substitution.{fill}
use Rattle.semantics.specs.declared.layout.Instruction.{Instruction}
use Rattle.semantics.specs.declared.layout.Instruction.TheVariants.{End, PushThunk, Bind, Unbind, Return, Choose}
use Rattle.semantics.specs.Translation.{code_size, emit}
use Rattle.semantics.specs.Machine.{Held, h_number, h_boolean, closure, HeldEnv, ∅, ◌◂◌, Cell, val, thunk, return_to, State, at, fetch, held_inputs}
use Rattle.semantics.specs.Showing.{Mark, in_let, holding, read, show_held, show_env, own_cells, through_frames}
use Rattle.semantics.specs.Reduction.{IsValue, num_value, truth_value, lam_value}
use Rattle.semantics.proofs.ReadingBack.{read-emit}
use Rattle.semantics.proofs.Simulation.{Fits, fits_number, fits_boolean, fits_function, FitsEnv, fits_none, fits_more}
use Rattle.semantics.proofs.OneReduction.{Joins, joins_operate, node, Congruent}

-- What a state of a run is made of, where P holds of each term that is to be worked out.
module _ (P : Term → Type 0) where
  -- In reach of what the machine holds, every closure has the code of a body.
  mutual
    pub data Good : Held → Type 0 where
      good_number : {c : ℕ} → Good (h_number c)
      good_boolean : {b : Bool} → Good (h_boolean b)
      good_closure : {x : ℕ} (p : ℕ) (b : Term) (k : List Instruction) {ρ : HeldEnv} → P (lam x b) → GoodEnv ρ →
          Good (closure x (emit (suc p) b (Return ∷ k)) ρ)

    pub data GoodEnv : HeldEnv → Type 0 where
      good_none : GoodEnv ∅
      good_more : {h : Held} {ρ : HeldEnv} → Good h → GoodEnv ρ → GoodEnv (h ◂ ρ)

  -- It stands for some value.
  mutual
    pub good_stands : {h : Held} → Good h → (v : Value) × Fits h v
    good_stands good_number = (number _, fits_number)
    good_stands good_boolean = (boolean _, fits_boolean)
    good_stands (good_closure p b k s g) = (function _ b p (env_stands g).0, fits_function k (env_stands g).1)

    pub env_stands : {ρ' : HeldEnv} → GoodEnv ρ' → (ρ : Env) × FitsEnv ρ' ρ
    env_stands good_none = (ε, fits_none)
    env_stands (good_more h g) = ((good_stands h).0 ▸ (env_stands g).0, fits_more (good_stands h).1 (env_stands g).1)

  -- So it is with what is fetched, and with the inputs.
  pub good_fetch : {ρ : HeldEnv} → GoodEnv ρ → (i : ℕ) → Good (fetch ρ i)
  good_fetch good_none i = good_boolean
  good_fetch (good_more h g) zero = h
  good_fetch (good_more h g) (suc i) = good_fetch g i

  pub good_inputs : (cs : List ℕ) → GoodEnv (held_inputs cs)
  good_inputs [] = good_none
  good_inputs (c ∷ cs) = good_more good_number (good_inputs cs)

  -- The code, environment and cells that wait for a value on top: what is left of each node under way.
  pub data Kont : List Instruction → HeldEnv → List Cell → Type 0 where
    k_end : {ρ : HeldEnv} {k : List Instruction} → GoodEnv ρ → Kont (End ∷ k) ρ []
    k_return : {ρ ρ' : HeldEnv} {k k' : List Instruction} {c : List Cell} → GoodEnv ρ' → Kont k ρ c → Kont (Return ∷ k') ρ' (return_to k ρ ∷ c)
    k_first : {i : Instruction} (j : Joins i) (q : ℕ) (r : Term) {ρ : HeldEnv} {k : List Instruction} {c : List Cell} → P r → Kont k ρ c →
        Kont (emit q r (i ∷ k)) ρ c
    k_second : {i : Instruction} (j : Joins i) {h : Held} {ρ : HeldEnv} {k : List Instruction} {c : List Cell} → Good h → Kont k ρ c →
        Kont (i ∷ k) ρ (val h ∷ c)
    k_let_bound : (x q : ℕ) (b : Term) {ρ : HeldEnv} {k : List Instruction} {c : List Cell} → P b → Kont k ρ c →
        Kont (Bind x ∷ emit q b (Unbind ∷ k)) ρ c
    k_let_body : {h : Held} {ρ : HeldEnv} {k : List Instruction} {c : List Cell} → Good h → Kont k ρ c → Kont (Unbind ∷ k) (h ◂ ρ) c
    k_if : (p qt qe : ℕ) (t e : Term) (r₁ r₂ : List Instruction) {ρ : HeldEnv} {k : List Instruction} {c : List Cell} → P t → P e → Kont k ρ c →
        Kont (Choose p ∷ k) ρ (thunk (emit qe e (Return ∷ r₂)) ρ ∷ thunk (emit qt t (Return ∷ r₁)) ρ ∷ c)

  -- The environment in which something waits.
  pub good_around : {k : List Instruction} {ρ : HeldEnv} {c : List Cell} → Kont k ρ c → GoodEnv ρ
  good_around (k_end g) = g
  good_around (k_return g K) = g
  good_around (k_first j q r s K) = good_around K
  good_around (k_second j g K) = good_around K
  good_around (k_let_bound x q b s K) = good_around K
  good_around (k_let_body g K) = good_more g (good_around K)
  good_around (k_if p qt qe t e r₁ r₂ st se K) = good_around K

  -- A state of a run: about to work a term out, with a value on top, or between an If's two thunks.
  pub data RunState : State → Type 0 where
    on_term : (p : ℕ) (t : Term) {ρ : HeldEnv} {k : List Instruction} {c : List Cell} {m : ℕ} → P t → Kont k ρ c →
        RunState (at (emit p t k) ρ c m)
    on_value : {h : Held} {ρ : HeldEnv} {k : List Instruction} {c : List Cell} {m : ℕ} → Good h → Kont k ρ c → RunState (at k ρ (val h ∷ c) m)
    between_thunks : (p qe qt : ℕ) (q t e : Term) (r₁ : List Instruction) {ρ : HeldEnv} {k : List Instruction} {c : List Cell} {m : ℕ} →
        P (if_then q t e) → Kont k ρ c →
        RunState (at (PushThunk (suc (code_size e)) ∷ emit qe e (Return ∷ emit (suc p) q (Choose p ∷ k))) ρ (thunk (emit qt t (Return ∷ r₁)) ρ ∷ c) m)

-- The shown term, when T stands for what is to come on top.
abbrev pub wrap : List Instruction → HeldEnv → List Cell → Term → Term
wrap k ρ c T = through_frames (read k 0 (show_env ρ) [] (T ∷ own_cells c)) c

-- Reading the code of a term in a frame pushes the term, with the frame's values filled in.
pub frame_read : (p : ℕ) (t : Term) (k : List Instruction) (ρ : HeldEnv) (ms : List Mark) (s : List Term) (c : List Cell) →
    through_frames (read (emit p t k) 0 (show_env ρ) ms s) c ≡ through_frames (read k 0 (show_env ρ) ms (fill (holding 0 ms) (show_env ρ) t ∷ s)) c
frame_read p t k ρ ms s c = ap (λ z. through_frames z c) (read-emit p t k 0 (show_env ρ) ms s)

-- What the machine holds shows as a value.
pub held_shows_value : (h : Held) → IsValue (show_held h)
held_shows_value (h_number c) = num_value
held_shows_value (h_boolean b) = truth_value
held_shows_value (closure x k ρ) = lam_value

-- What waits for a first operand shows the node over it, and so does what waits for a second.
first_wrap : {i : Instruction} (j : Joins i) (q : ℕ) (r : Term) (k : List Instruction) (ρ : HeldEnv) (c : List Cell) (T : Term) →
    wrap (emit q r (i ∷ k)) ρ c T ≡ wrap k ρ c (node j T (fill 0 (show_env ρ) r))
first_wrap joins_operate q r k ρ c T = frame_read q r _ ρ [] (T ∷ own_cells c) c
first_wrap j q r k ρ c T = frame_read q r _ ρ [] (T ∷ own_cells c) c

second_wrap : {i : Instruction} (j : Joins i) (h : Held) (k : List Instruction) (ρ : HeldEnv) (c : List Cell) (T : Term) →
    wrap (i ∷ k) ρ (val h ∷ c) T ≡ wrap k ρ c (node j (show_held h) T)
second_wrap joins_operate h k ρ c T = refl
second_wrap j h k ρ c T = refl

-- A relation that goes over to every place where the next contraction is looked for goes over to what waits for a value.
pub wrap_congruent : {P : Term → Type 0} (R : Term → Term → Type 0) → Congruent R → {k : List Instruction} {ρ : HeldEnv} {c : List Cell} → Kont P k ρ c →
    {T T' : Term} → R T T' → R (wrap k ρ c T) (wrap k ρ c T')
wrap_congruent R C (k_end g) h = h
wrap_congruent R C (k_return g K) h = wrap_congruent R C K h
wrap_congruent R C (k_first j q r {ρ = ρ} {k = k} {c = c} s K) {T = T} {T' = T'} h =
    rw (first_wrap j q r k ρ c T, first_wrap j q r k ρ c T') (wrap_congruent R C K (C.in_first j _ h))
wrap_congruent R C (k_second j {h = v} {ρ = ρ} {k = k} {c = c} g K) {T = T} {T' = T'} h =
    rw (second_wrap j v k ρ c T, second_wrap j v k ρ c T') (wrap_congruent R C K (C.in_second j (held_shows_value v) h))
wrap_congruent R C (k_let_bound x q b {ρ = ρ} {k = k} {c = c} s K) {T = T} {T' = T'} h =
    rw (frame_read q b (Unbind ∷ k) ρ (in_let x T ∷ []) (own_cells c) c, frame_read q b (Unbind ∷ k) ρ (in_let x T' ∷ []) (own_cells c) c)
    (wrap_congruent R C K (C.in_bound h))
wrap_congruent R C (k_let_body g K) h = wrap_congruent R C K h
wrap_congruent R C (k_if p qt qe t e r₁ r₂ st se K) h = wrap_congruent R C K (C.in_condition h)
