-- The shown terms of a run are exactly the reduction sequence of its term.
use Rattle.std.proofs.Common.{◌≡◌, ℕ, suc, ◌+◌, Bool, true, false, List, [], ◌∷◌, sym, refl, ap, ◌∙◌, subst, subst₂}
use Rattle.domain.specs.Meaning.{Meaning}
use Rattle.semantics.specs.Terms.{Term, num, truth, var, binop, eq, app, lam, let_in, if_then, size}
use Rattle.semantics.specs.Values.{input_env}
use Rattle.semantics.specs.Substitution.{fill, close}
use Rattle.semantics.specs.declared.layout.Instruction.{Instruction}
use Rattle.semantics.specs.declared.layout.Instruction.TheVariants.{End, PushThunk, Return, Choose}
use Rattle.semantics.specs.Translation.{code_size, emit}
use Rattle.semantics.specs.Running.{goes, ends, faults, stuck}
use Rattle.semantics.specs.Machine.{Held, closure, HeldEnv, Cell, val, thunk, State, at, MachineNext, step, held_inputs, start, Steps, here, more}
use Rattle.semantics.specs.Showing.{show_env, show}
use Rattle.semantics.specs.Reduction.{Reduces, Reductions, r_here, r_more, contracting, tally, contractions, StepShows, ShowsTheReductions, ShowsExactlyTheReductions, EveryStopShowsAReduct}
use Rattle.semantics.proofs.ReadingBack.{read-emit}
use Rattle.semantics.proofs.Simulation.{drop_body}
use Rattle.semantics.proofs.Room.{run_stops_at_a_step}
use Rattle.semantics.proofs.Agreement.{shown_env_fits, inputs_fit}
use Rattle.semantics.proofs.OneReduction.{joins_operate, settled, unique_reduct}
use Rattle.semantics.proofs.Continuations.{good_inputs, Kont, k_end, k_return, k_first, k_second, k_let_bound, k_let_body, k_if, RunState, on_term, on_value, between_thunks}
use Rattle.semantics.proofs.ShownSteps.{Any, InRun, state_kept}

-- A run begins by showing the term with its inputs filled in.
start_shows : (cs : List ℕ) (t : Term) → show (start t cs) ≡ close (input_env cs) t
start_shows cs t = read-emit 0 t (End ∷ []) 0 (show_env (held_inputs cs)) [] [] ∙ ap (λ σ. fill 0 σ t) (shown_env_fits (inputs_fit cs))

-- Every state on the way is a state of a run.
pub start_run_state : (cs : List ℕ) (t : Term) → RunState Any (start t cs)
start_run_state cs t = on_term 0 t tt (k_end (good_inputs Any cs))

module _ (𝓜 : Meaning) where
  next_run_state : {s s' : State} → RunState Any s → step 𝓜 s ≡ goes s' → RunState Any s'
  next_run_state c q = subst InRun q (state_kept 𝓜 c).0

  pub run_state_along : {n : ℕ} {s s' : State} → Steps 𝓜 n s s' → RunState Any s → RunState Any s'
  run_state_along here c = c
  run_state_along (more q d) c = run_state_along d (next_run_state c q)

  -- The steps of a run reduce what is shown as often as they contract.
  steps_reduce : {n : ℕ} {s s' : State} (d : Steps 𝓜 n s s') → RunState Any s → Reductions 𝓜 (contractions d) (show s) (show s')
  steps_reduce here c = r_here
  steps_reduce (more {s = s} {s' = s'} {s'' = s''} q d) c =
      go (contracting s) (contractions d) (subst (StepShows 𝓜 (show s) (contracting s)) q (state_kept 𝓜 c).1) (steps_reduce d (next_run_state c q))
    where
      go : (b : Bool) (k : ℕ) → StepShows 𝓜 (show s) b (goes s') → Reductions 𝓜 k (show s') (show s'') → Reductions 𝓜 (tally b k) (show s) (show s'')
      go true k d r = r_more d r
      go false k e r = subst (λ t. Reductions 𝓜 k t (show s'')) e r

  -- Steps that contract nothing lead to one that contracts, or to the end.
  data Settles : State → Type 0 where
    contracts_next : {s : State} → contracting s ≡ true → Settles s
    ends_next : {s : State} {h : Held} → step 𝓜 s ≡ ends h → Settles s
    silent : {s s' : State} → step 𝓜 s ≡ goes s' → contracting s ≡ false → Settles s' → Settles s

  -- To work a term out is to push leaves until a node contracts, or a leaf is what was waited for.
  term_settles : (t : Term) (p : ℕ) (k : List Instruction) (ρ : HeldEnv) (c : List Cell) (m : ℕ) → ((h : Held) → Settles (at k ρ (val h ∷ c) m)) →
      Settles (at (emit p t k) ρ c m)
  term_settles (num i) p k ρ c m f = silent refl refl (f _)
  term_settles (truth b) p k ρ c m f = silent refl refl (f _)
  term_settles (var x i) p k ρ c m f = silent refl refl (f _)
  term_settles (binop o l r) p k ρ c m f =
      term_settles l (suc p) _ ρ c m (λ h. term_settles r (suc p + size l) _ ρ (val h ∷ c) m (λ h'. contracts_next refl))
  term_settles (eq l r) p k ρ c m f =
      term_settles l (suc p) _ ρ c m (λ h. term_settles r (suc p + size l) _ ρ (val h ∷ c) m (λ h'. contracts_next refl))
  term_settles (app l r) p k ρ c m f =
      term_settles l (suc p) _ ρ c m (λ h. term_settles r (suc p + size l) _ ρ (val h ∷ c) m (λ h'. contracts_next refl))
  term_settles (lam x b) p k ρ c m f =
      let body : List Instruction = emit (suc p) b (Return ∷ k) in
      silent (ap (λ i. goes (at i ρ (val (closure x body ρ) ∷ c) m)) (drop_body (suc p) b k)) refl (f _)
  term_settles (let_in x a b) p k ρ c m f = term_settles a (suc p) _ ρ c m (λ h. contracts_next refl)
  term_settles (if_then q t e) p k ρ c m f =
      let qt : ℕ = suc p + size q in
      let qe : ℕ = suc p + size q + size t in
      let cnd : List Instruction = emit (suc p) q (Choose p ∷ k) in
      let els : List Instruction = emit qe e (Return ∷ cnd) in
      let after : List Instruction = PushThunk (suc (code_size e)) ∷ els in
      let thn : List Instruction = emit qt t (Return ∷ after) in
      silent (ap (λ i. goes (at i ρ (thunk thn ρ ∷ c) m)) (drop_body qt t after)) refl
      (silent (ap (λ i. goes (at i ρ (thunk els ρ ∷ thunk thn ρ ∷ c) m)) (drop_body qe e cnd)) refl
      (term_settles q (suc p) _ ρ _ m (λ h. contracts_next refl)))

  -- A value on top is taken at once, or once the bodies around it are left.
  value_settles : {k : List Instruction} {ρ : HeldEnv} {c : List Cell} → Kont Any k ρ c → (h : Held) (m : ℕ) → Settles (at k ρ (val h ∷ c) m)
  value_settles (k_end g) h m = ends_next refl
  value_settles (k_return g K) h m = silent refl refl (value_settles K h m)
  value_settles (k_first joins_operate q r s K) h m = term_settles r q _ _ _ m (λ h'. contracts_next refl)
  value_settles (k_first j q r s K) h m = term_settles r q _ _ _ m (λ h'. contracts_next refl)
  value_settles (k_second joins_operate g K) h m = contracts_next refl
  value_settles (k_second j g K) h m = contracts_next refl
  value_settles (k_let_bound x q b s K) h m = contracts_next refl
  value_settles (k_let_body g K) h m = silent refl refl (value_settles K h m)
  value_settles (k_if p qt qe t e r₁ r₂ st se K) h m = contracts_next refl

  -- So every state of a run settles.
  state_settles : {s : State} → RunState Any s → Settles s
  state_settles (on_term p t {m = m} s K) = term_settles t p _ _ _ m (λ h. value_settles K h m)
  state_settles (on_value {h = h} {m = m} g K) = value_settles K h m
  state_settles (between_thunks p qe qt q t e r₁ {ρ = ρ} {k = k} {c = c} {m = m} s K) =
      let cnd : List Instruction = emit (suc p) q (Choose p ∷ k) in
      silent (ap (λ i. goes (at i ρ (thunk (emit qe e (Return ∷ cnd)) ρ ∷ thunk (emit qt t (Return ∷ r₁)) ρ ∷ c) m)) (drop_body qe e cnd)) refl
      (term_settles q (suc p) _ ρ _ m (λ h. contracts_next refl))

  -- A state that the run comes to from s, with k steps that contract, and that shows u.
  abbrev ShownAfter : State → ℕ → Term → Type 0
  ShownAfter s k u = (n : ℕ) × (s' : State) × (d : Steps 𝓜 n s s') × (contractions d ≡ k) × (show s' ≡ u)

  -- A step before, counted if it contracts.
  after_one_step : {s s' : State} {b : Bool} {k : ℕ} {u : Term} → step 𝓜 s ≡ goes s' → contracting s ≡ b → ShownAfter s' k u →
      ShownAfter s (tally b k) u
  after_one_step {s = s} {b = b} q e (n, s'', d, z, r) = (suc n, s'', more q d, ap (λ b. tally b (contractions d)) e ∙ ap (tally b) z, r)

  -- Where what is shown reduces, the run comes to show its reduct.
  next_shown : {s : State} {k : ℕ} {t u : Term} → Settles s → RunState Any s → Reduces 𝓜 (show s) t →
      ((s' : State) → RunState Any s' → show s' ≡ t → ShownAfter s' k u) → ShownAfter s (suc k) u
  next_shown {s = s} {k = k} {t = t} {u = u} (contracts_next e) c d f =
      go (step 𝓜 s) refl (subst (λ b. StepShows 𝓜 (show s) b (step 𝓜 s)) e (state_kept 𝓜 c).1)
    where
      go : (x : MachineNext) → step 𝓜 s ≡ x → StepShows 𝓜 (show s) true x → ShownAfter s (suc k) u
      go (goes s') q d' = after_one_step q e (f s' (next_run_state c q) (unique_reduct 𝓜 d' d))
      go (ends h) q r = absurd (settled 𝓜 r.1 d)
      go (faults φ p) q r = absurd (r.1 t d)
      go stuck q r = absurd r
  next_shown {s = s} (ends_next q) c d f = absurd (settled 𝓜 (subst (StepShows 𝓜 (show s) (contracting s)) q (state_kept 𝓜 c).1).1 d)
  next_shown {s = s} {t = t} (silent {s' = s'} q e r) c d f =
      let same : show s' ≡ show s = subst₂ (StepShows 𝓜 (show s)) e q (state_kept 𝓜 c).1 in
      after_one_step q e (next_shown r (next_run_state c q) (subst (λ T. Reduces 𝓜 T t) (sym same) d) f)

  -- The run comes to show every term of the reduction sequence.
  sequence_shown : {k : ℕ} {t u : Term} → Reductions 𝓜 k t u → (s : State) → RunState Any s → show s ≡ t → ShownAfter s k u
  sequence_shown r_here s c e = (0, s, here, refl, e)
  sequence_shown (r_more {t' = t'} d r) s c e = next_shown (state_settles c) c (subst (λ T. Reduces 𝓜 T t') (sym e) d) (sequence_shown r)

-- After any steps of a run the shown term is a reduct of the term with its inputs filled in.
pub shown_reduct : (𝓜 : Meaning) (cs : List ℕ) (t : Term) {n : ℕ} {s : State} (d : Steps 𝓜 n (start t cs) s) →
    Reductions 𝓜 (contractions d) (close (input_env cs) t) (show s)
shown_reduct 𝓜 cs t {s = s} d =
    subst (λ T. Reductions 𝓜 (contractions d) T (show s)) (start_shows cs t) (steps_reduce 𝓜 d (start_run_state cs t))

pub shows_the_reductions : ShowsTheReductions
shows_the_reductions 𝓜 cs t = (start_shows cs t, λ n s d. (state_kept 𝓜 (run_state_along 𝓜 d (start_run_state cs t))).1)

pub shows_exactly_the_reductions : ShowsExactlyTheReductions
shows_exactly_the_reductions 𝓜 cs t k u = (
  λ r. sequence_shown 𝓜 r (start t cs) (start_run_state cs t) (start_shows cs t),
  λ (n, s, d, z, e). subst₂ (λ k u. Reductions 𝓜 k (close (input_env cs) t) u) z e (shown_reduct 𝓜 cs t d),
)

pub every_stop_shows_a_reduct : EveryStopShowsAReduct
every_stop_shows_a_reduct 𝓜 L cs t g = let (n, d) = run_stops_at_a_step 𝓜 L g (start t cs) in (n, d, shown_reduct 𝓜 cs t d)
