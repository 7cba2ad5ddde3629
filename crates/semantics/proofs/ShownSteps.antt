-- Each step of a run reduces the shown term once or leaves it as it is.
use Rattle.std.proofs.Common.{◌≡◌, ℕ, zero, suc, ◌+◌, Bool, true, false, List, [], ◌∷◌, Ok, Err, sym, refl, ap, ◌∙◌, subst, arith}
use Rattle.domain.specs.declared.Op.{Op}
use Rattle.domain.specs.Meaning.{Meaning, Answer}
use Rattle.semantics.specs.Terms.{Term, num, truth, var, binop, eq, app, lam, let_in, if_then, size}
use Rattle.semantics.specs.Evaluation.{Computed, gives_number, gives_boolean, gives_fault, answered, operated, compared}
use Rattle.semantics.specs.Substitution.{term_at, fill}
use Rattle.semantics.specs.declared.layout.Instruction.{Instruction}
use Rattle.semantics.specs.declared.layout.Instruction.TheVariants.{PushThunk, Unbind, Return, Choose}
use Rattle.semantics.specs.Translation.{code_size, emit}
use Rattle.semantics.specs.Running.{goes}
use Rattle.semantics.specs.Machine.{Held, h_number, h_boolean, closure, HeldEnv, ∅, ◌◂◌, Cell, val, thunk, State, at, MachineNext, fetch, sort_held, push_computed, enter, enter_branch, step}
use Rattle.semantics.specs.Showing.{in_thunk, in_let, read, show_held, show_env, own_cells, through_frames, show}
use Rattle.semantics.specs.Reduction.{num_value, truth_value, lam_value, Contraction, c_binop, c_eq_num, c_eq_truth, c_app, c_let, c_if, Reduces, r_top, IsStuck, contracting, StepShows}
use Rattle.semantics.proofs.Substitution.{Closed, AllClosed, fill-closed, fill-front}
use Rattle.semantics.proofs.ReadingBack.{read-emit}
use Rattle.semantics.proofs.Simulation.{drop_body, else_code, then_code}
use Rattle.semantics.proofs.OneReduction.{joins_operate, joins_compare, joins_apply, ready_binop, ready_eq, ready_app, ready_if, no_rule, reduces_congruent, stuck_congruent}
use Rattle.semantics.proofs.Continuations.{Good, good_number, good_boolean, good_closure, GoodEnv, good_none, good_more, good_fetch, Kont, k_end, k_return, k_first, k_second, k_let_bound, k_let_body, k_if, good_around, RunState, on_term, on_value, between_thunks, wrap, frame_read, held_shows_value, wrap_congruent}

-- Of the terms that are to be worked out nothing is asked.
abbrev pub Any : Term → Type 0
Any t = Unit {0}

-- What a step leads to is a state of a run.
abbrev pub InRun : MachineNext → Type 0
InRun (goes s) = RunState Any s
InRun x = Unit {0}

-- What shows for an environment is what each of its values shows.
term_at-fetch : (ρ : HeldEnv) (i : ℕ) → term_at (show_env ρ) i ≡ show_held (fetch ρ i)
term_at-fetch ∅ i = refl
term_at-fetch (h ◂ ρ) zero = refl
term_at-fetch (h ◂ ρ) (suc i) = term_at-fetch ρ i

-- The values that the machine holds show as closed terms.
mutual
  held_closed : {h : Held} → Good Any h → Closed (show_held h)
  held_closed good_number j τ = refl
  held_closed good_boolean j τ = refl
  held_closed (good_closure {x = x} p b k {ρ = ρ} s g) j τ =
      rw (read-emit (suc p) b (Return ∷ k) 1 (show_env ρ) [] []) (ap (lam x) (fill-closed (show_env ρ) (env_closed g) b 1 (suc j) τ (omega arith)))

  env_closed : {ρ : HeldEnv} → GoodEnv Any ρ → AllClosed (show_env ρ)
  env_closed good_none i j τ = refl
  env_closed (good_more h g) zero j τ = held_closed h j τ
  env_closed (good_more h g) (suc i) j τ = env_closed g i j τ

module _ (𝓜 : Meaning) where
  -- What a step comes to that contracts the shown term T, or does not: a state of a run, which shows what it should.
  abbrev Kept : Term → Bool → MachineNext → Type 0
  Kept T b x = InRun x × StepShows 𝓜 T b x

  abbrev StepKept : State → Type 0
  StepKept s = Kept (show s) (contracting s) (step 𝓜 s)

  -- What waits for a reducing term reduces, and what waits for a stuck one is stuck.
  wrap_reduces : {k : List Instruction} {ρ : HeldEnv} {c : List Cell} → Kont Any k ρ c → (T T' : Term) → Reduces 𝓜 T T' →
      Reduces 𝓜 (wrap k ρ c T) (wrap k ρ c T')
  wrap_reduces K T T' d = wrap_congruent (Reduces 𝓜) (reduces_congruent 𝓜) K d

  wrap-stuck : {k : List Instruction} {ρ : HeldEnv} {c : List Cell} → Kont Any k ρ c → (T : Term) → IsStuck 𝓜 T → IsStuck 𝓜 (wrap k ρ c T)
  wrap-stuck K T s = wrap_congruent (λ t t'. IsStuck 𝓜 t) (stuck_congruent 𝓜) K {T' = T} s

  -- A term reduces to the result, or is stuck where the result is a fault.
  abbrev ResultsIn : Term → Computed → Type 0
  ResultsIn T (gives_number c) = Reduces 𝓜 T (num c)
  ResultsIn T (gives_boolean b) = Reduces 𝓜 T (truth b)
  ResultsIn T (gives_fault φ) = IsStuck 𝓜 T

  -- An operation and a comparison of two values come to what the domain's tables say.
  answer_shows : (o : Op) (a b : ℕ) (r : Answer) → 𝓜.table o a b ≡ r → ResultsIn (binop o (num a) (num b)) (answered r)
  answer_shows o a b (Ok c) e = r_top (c_binop e)
  answer_shows o a b (Err φ) e = no_rule 𝓜 (ready_binop num_value num_value) (λ u d. no_code d e)
    where
      no_code : {u : Term} → Contraction 𝓜 (binop o (num a) (num b)) u → 𝓜.table o a b ≡ Err φ → ⊥
      no_code (c_binop e') e = cc

  binop_comes : (o : Op) (v w : Held) → ResultsIn (binop o (show_held v) (show_held w)) (operated 𝓜 o (sort_held v) (sort_held w))
  binop_comes o (h_number a) (h_number b) = answer_shows o a b (𝓜.table o a b) refl
  binop_comes o v w = no_rule 𝓜 (ready_binop (held_shows_value v) (held_shows_value w)) (λ u d. elim d [ ])

  eq_comes : (v w : Held) → ResultsIn (eq (show_held v) (show_held w)) (compared 𝓜 (sort_held v) (sort_held w))
  eq_comes (h_number a) (h_number b) = r_top (c_eq_num refl)
  eq_comes (h_boolean a) (h_boolean b) = r_top (c_eq_truth refl)
  eq_comes v w = no_rule 𝓜 (ready_eq (held_shows_value v) (held_shows_value w)) (λ u d. elim d [ ])

  -- What they come to is pushed.
  push_kept : (p : ℕ) (r : Computed) (T : Term) {k : List Instruction} {ρ : HeldEnv} {c : List Cell} (m : ℕ) → Kont Any k ρ c → ResultsIn T r →
      Kept (wrap k ρ c T) true (push_computed p r k ρ c m)
  push_kept p (gives_number i) T m K d = (on_value good_number K, wrap_reduces K T (num i) d)
  push_kept p (gives_boolean b) T m K d = (on_value good_boolean K, wrap_reduces K T (truth b) d)
  push_kept p (gives_fault φ) T m K s = (tt, wrap-stuck K T s)

  -- A body is entered.
  enter_kept : (p : ℕ) {f h : Held} {k : List Instruction} {ρ : HeldEnv} {c : List Cell} (m : ℕ) → Good Any f → Good Any h → Kont Any k ρ c →
      Kept (wrap k ρ c (app (show_held f) (show_held h))) true (enter p f h k ρ c m)
  enter_kept p {h = h} m good_number g K = (tt, wrap-stuck K _ (no_rule 𝓜 (ready_app num_value (held_shows_value h)) (λ u d. elim d [ ])))
  enter_kept p {h = h} m good_boolean g K = (tt, wrap-stuck K _ (no_rule 𝓜 (ready_app truth_value (held_shows_value h)) (λ u d. elim d [ ])))
  enter_kept p {h = h} m (good_closure q b r {ρ = ρ₁} s gf) g K = (
    on_term (suc q) b tt (k_return (good_more g gf) K),
    wrap_reduces K _ _ (r_top (c_app (held_shows_value h) filled)),
  )
    where
      filled : fill 0 (show_held h ∷ []) (read (emit (suc q) b (Return ∷ r)) 1 (show_env ρ₁) [] []) ≡ read (emit (suc q) b (Return ∷ r)) 0 (show_env (h ◂ ρ₁)) [] []
      filled =
          ap (fill 0 (show_held h ∷ [])) (read-emit (suc q) b (Return ∷ r) 1 (show_env ρ₁) [] [])
          ∙ fill-front (show_held h) (show_env ρ₁) (env_closed gf) b 0
          ∙ sym (read-emit (suc q) b (Return ∷ r) 0 (show_env (h ◂ ρ₁)) [] [])

  -- A branch is entered.
  branch_kept : (p qt qe : ℕ) (t e : Term) (r₁ r₂ : List Instruction) (h : Held) {k : List Instruction} {ρ : HeldEnv} {c : List Cell} (m : ℕ) → Kont Any k ρ c →
      Kept (wrap k ρ c (if_then (show_held h) (read (emit qt t (Return ∷ r₁)) 0 (show_env ρ) [] []) (read (emit qe e (Return ∷ r₂)) 0 (show_env ρ) [] []))) true
      (enter_branch p h (emit qt t (Return ∷ r₁)) ρ (emit qe e (Return ∷ r₂)) ρ k ρ c m)
  branch_kept p qt qe t e r₁ r₂ (h_number i) m K = (tt, wrap-stuck K _ (no_rule 𝓜 (ready_if num_value) (λ u d. elim d [ ])))
  branch_kept p qt qe t e r₁ r₂ (h_boolean true) m K = (on_term qt t tt (k_return (good_around Any K) K), wrap_reduces K _ _ (r_top (c_if refl)))
  branch_kept p qt qe t e r₁ r₂ (h_boolean false) m K = (on_term qe e tt (k_return (good_around Any K) K), wrap_reduces K _ _ (r_top (c_if refl)))
  branch_kept p qt qe t e r₁ r₂ (closure x k' ρ') m K = (tt, wrap-stuck K _ (no_rule 𝓜 (ready_if lam_value) (λ u d. elim d [ ])))

  -- The step at the first instruction of a term: it pushes a leaf or a thunk, and shows nothing new.
  term_kept : (t : Term) (p : ℕ) {k : List Instruction} {ρ : HeldEnv} {c : List Cell} (m : ℕ) → Kont Any k ρ c →
      StepKept (at (emit p t k) ρ c m)
  term_kept (num i) p m K = (on_value good_number K, refl)
  term_kept (truth b) p m K = (on_value good_boolean K, refl)
  term_kept (var x i) p {k = k} {ρ = ρ} {c = c} m K = (on_value (good_fetch Any (good_around Any K) i) K, ap (wrap k ρ c) (sym (term_at-fetch ρ i)))
  term_kept (binop o l r) p m K = term_kept l (suc p) m (k_first joins_operate (suc p + size l) r tt K)
  term_kept (eq l r) p m K = term_kept l (suc p) m (k_first joins_compare (suc p + size l) r tt K)
  term_kept (app l r) p m K = term_kept l (suc p) m (k_first joins_apply (suc p + size l) r tt K)
  term_kept (lam x b) p {k = k} {ρ = ρ} {c = c} m K =
      let body : List Instruction = emit (suc p) b (Return ∷ k) in
      subst (λ i. Kept (show (at (emit p (lam x b) k) ρ c m)) false (goes (at i ρ (val (closure x body ρ) ∷ c) m))) (sym (drop_body (suc p) b k)) (
        on_value (good_closure p b k tt (good_around Any K)) K,
        ap (λ z. wrap k ρ c (lam x z)) (read-emit (suc p) b (Return ∷ k) 1 (show_env ρ) [] []) ∙ sym (frame_read p (lam x b) k ρ [] (own_cells c) c),
      )
  term_kept (let_in x a b) p m K = term_kept a (suc p) m (k_let_bound x (suc p + size a) b tt K)
  term_kept (if_then q t e) p {k = k} {ρ = ρ} {c = c} m K =
      let qt : ℕ = suc p + size q in
      let after : List Instruction = PushThunk (suc (code_size e)) ∷ else_code p q t e k in
      let thn : List Instruction = then_code p q t e k in
      subst (λ i. Kept (show (at (emit p (if_then q t e) k) ρ c m)) false (goes (at i ρ (thunk thn ρ ∷ c) m))) (sym (drop_body qt t after)) (
        between_thunks p (suc p + size q + size t) qt q t e after tt K,
        ap (λ z. through_frames (read after 0 (show_env ρ) [] (z ∷ own_cells c)) c) (read-emit qt t (Return ∷ after) 0 (show_env ρ) [] [])
            ∙ sym (frame_read qt t (Return ∷ after) ρ (in_thunk ∷ []) (own_cells c) c),
      )

  -- The step between an If's two thunks.
  thunk_kept : (p qe qt : ℕ) (q t e : Term) (r₁ : List Instruction) {ρ : HeldEnv} {k : List Instruction} {c : List Cell} (m : ℕ) → Kont Any k ρ c →
      StepKept (at (PushThunk (suc (code_size e)) ∷ emit qe e (Return ∷ emit (suc p) q (Choose p ∷ k))) ρ (thunk (emit qt t (Return ∷ r₁)) ρ ∷ c) m)
  thunk_kept p qe qt q t e r₁ {ρ = ρ} {k = k} {c = c} m K =
      let cnd : List Instruction = emit (suc p) q (Choose p ∷ k) in
      let els : List Instruction = emit qe e (Return ∷ cnd) in
      let cells : List Cell = thunk (emit qt t (Return ∷ r₁)) ρ ∷ c in
      let s : State = at (PushThunk (suc (code_size e)) ∷ els) ρ cells m in
      subst (λ i. Kept (show s) false (goes (at i ρ (thunk els ρ ∷ cells) m))) (sym (drop_body qe e cnd)) (
        on_term (suc p) q tt (k_if p qt qe t e r₁ cnd tt tt K),
        ap (λ z. through_frames (read cnd 0 (show_env ρ) [] (z ∷ own_cells cells)) c) (read-emit qe e (Return ∷ cnd) 0 (show_env ρ) [] [])
            ∙ sym (frame_read qe e (Return ∷ cnd) ρ (in_thunk ∷ []) (own_cells cells) c),
      )

  -- The step with a value on top, by what waits for it.
  value_kept : {h : Held} {k : List Instruction} {ρ : HeldEnv} {c : List Cell} (m : ℕ) → Good Any h → Kont Any k ρ c → StepKept (at k ρ (val h ∷ c) m)
  value_kept {h = h} m g (k_end gs) = (tt, (refl, held_shows_value h))
  value_kept m g (k_return gs K) = (on_value g K, refl)
  value_kept m g (k_first j q r s K) = term_kept r q m (k_second j g K)
  value_kept {h = h} m g (k_second (joins_operate {o = o} {p = p}) {h = h₀} g₀ K) =
      push_kept p (operated 𝓜 o (sort_held h₀) (sort_held h)) _ m K (binop_comes o h₀ h)
  value_kept {h = h} m g (k_second (joins_compare {p = p}) {h = h₀} g₀ K) = push_kept p (compared 𝓜 (sort_held h₀) (sort_held h)) _ m K (eq_comes h₀ h)
  value_kept m g (k_second (joins_apply {p = p}) g₀ K) = enter_kept p m g₀ g K
  value_kept {h = h} m g (k_let_bound x q b {ρ = ρ} {k = k} {c = c} s K) = (
    on_term q b tt (k_let_body g K),
    rw (frame_read q b (Unbind ∷ k) ρ (in_let x (show_held h) ∷ []) (own_cells c) c, frame_read q b (Unbind ∷ k) (h ◂ ρ) [] (own_cells c) c)
        (wrap_reduces K _ _ (r_top (c_let {x = x} (held_shows_value h) (fill-front (show_held h) (show_env ρ) (env_closed (good_around Any K)) b 0)))),
  )
  value_kept m g (k_let_body g₀ K) = (on_value g K, refl)
  value_kept {h = h} m g (k_if p qt qe t e r₁ r₂ st se K) = branch_kept p qt qe t e r₁ r₂ h m K

  -- Every step of a run.
  pub state_kept : {s : State} → RunState Any s → StepKept s
  state_kept (on_term p t {m = m} s K) = term_kept t p m K
  state_kept (on_value {m = m} g K) = value_kept m g K
  state_kept (between_thunks p qe qt q t e r₁ {m = m} s K) = thunk_kept p qe qt q t e r₁ m K
