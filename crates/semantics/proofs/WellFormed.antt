-- Reduction keeps terms well formed, so what a run shows is.
use Rattle.std.proofs.Common.{ℕ, zero, suc, List, [], ◌∷◌, ◌++◌, length, subst}
use Rattle.domain.specs.Meaning.{Meaning, InOrder}
use Rattle.semantics.specs.Terms.{Term, num, truth, var, binop, eq, app, lam, let_in, if_then}
use Rattle.semantics.specs.Scope.{Bears, InScope, LawfulTerm}
use Rattle.semantics.specs.Values.{input_env}
use Rattle.semantics.specs.Substitution.{term_at, fill_var, fill, reify_env}
use Rattle.semantics.specs.Machine.{start}
use Rattle.semantics.specs.Reduction.{Contraction, c_binop, c_eq_num, c_eq_truth, c_app, c_let, c_if, Reduces, r_top, r_binop_left, r_binop_right, r_eq_left, r_eq_right, r_app_left, r_app_right, r_let, r_if, Reductions, r_here, r_more}
use Rattle.semantics.specs.Lawful.{AllLawful}
use Rattle.semantics.specs.WellFormed.{WellFormed, ShownTermsAreWellFormed, EveryStopShowsAWellFormedTerm}
use Rattle.semantics.proofs.Room.{run_stops_at_a_step}
use Rattle.semantics.proofs.Contraction.{of_branch}
use Rattle.semantics.proofs.ReductionSequence.{shown_reduct}

-- Names further out change nothing.
bears_further : (inner outer : List ℕ) (i x : ℕ) → Bears inner i x → Bears (inner ++ outer) i x
bears_further [] outer i x h = absurd h
bears_further (y ∷ inner) outer zero x h = h
bears_further (y ∷ inner) outer (suc i) x h = bears_further inner outer i x h

scope_further : (inner outer : List ℕ) (t : Term) → InScope inner t → InScope (inner ++ outer) t
scope_further inner outer (var x i) h = bears_further inner outer i x h
scope_further inner outer (binop o l r) h = (scope_further inner outer l h.0, scope_further inner outer r h.1)
scope_further inner outer (eq l r) h = (scope_further inner outer l h.0, scope_further inner outer r h.1)
scope_further inner outer (app f a) h = (scope_further inner outer f h.0, scope_further inner outer a h.1)
scope_further inner outer (lam x b) h = scope_further (x ∷ inner) outer b h
scope_further inner outer (let_in x a b) h = (scope_further inner outer a h.0, scope_further (x ∷ inner) outer b h.1)
scope_further inner outer (if_then c t e) h =
    (scope_further inner outer c h.0, scope_further inner outer t h.1, scope_further inner outer e h.2)
scope_further inner outer t h = tt

-- A variable is kept where an inner name holds it, and replaced otherwise.
filled_var_in_scope : (P : Term → Type 0) (inner outer : List ℕ) (σ : List Term) → ((j : ℕ) → P (term_at σ j)) → (kept : Term) (i x : ℕ) →
    (Bears inner i x → P kept) → Bears (inner ++ outer) i x → P (fill_var (length inner) σ kept i)
filled_var_in_scope P [] outer σ f kept i x g h = f i
filled_var_in_scope P (y ∷ inner) outer σ f kept zero x g h = g h
filled_var_in_scope P (y ∷ inner) outer σ f kept (suc i) x g h = filled_var_in_scope P inner outer σ f kept i x g h

-- Terms in scope with no names, filled in for the outer names, leave a term in scope with the inner ones.
filled_in_scope : (inner outer : List ℕ) (σ : List Term) → ((j : ℕ) → InScope [] (term_at σ j)) → (t : Term) → InScope (inner ++ outer) t →
    InScope inner (fill (length inner) σ t)
filled_in_scope inner outer σ f (var x i) h =
    filled_var_in_scope (InScope inner) inner outer σ (λ j. scope_further [] inner (term_at σ j) (f j)) (var x i) i x (λ b. b) h
filled_in_scope inner outer σ f (binop o l r) h = (filled_in_scope inner outer σ f l h.0, filled_in_scope inner outer σ f r h.1)
filled_in_scope inner outer σ f (eq l r) h = (filled_in_scope inner outer σ f l h.0, filled_in_scope inner outer σ f r h.1)
filled_in_scope inner outer σ f (app l r) h = (filled_in_scope inner outer σ f l h.0, filled_in_scope inner outer σ f r h.1)
filled_in_scope inner outer σ f (lam x b) h = filled_in_scope (x ∷ inner) outer σ f b h
filled_in_scope inner outer σ f (let_in x a b) h = (filled_in_scope inner outer σ f a h.0, filled_in_scope (x ∷ inner) outer σ f b h.1)
filled_in_scope inner outer σ f (if_then c t e) h =
    (filled_in_scope inner outer σ f c h.0, filled_in_scope inner outer σ f t h.1, filled_in_scope inner outer σ f e h.2)
filled_in_scope inner outer σ f t h = tt

module _ (𝓜 : Meaning) where
  -- Lawful terms, filled in, keep the numbers lawful.
  filled_var_lawful : (k : ℕ) (σ : List Term) → ((j : ℕ) → LawfulTerm 𝓜 (term_at σ j)) → (kept : Term) (i : ℕ) → LawfulTerm 𝓜 kept →
      LawfulTerm 𝓜 (fill_var k σ kept i)
  filled_var_lawful zero σ f kept i h = f i
  filled_var_lawful (suc k) σ f kept zero h = h
  filled_var_lawful (suc k) σ f kept (suc i) h = filled_var_lawful k σ f kept i h

  filled_lawful : (k : ℕ) (σ : List Term) → ((j : ℕ) → LawfulTerm 𝓜 (term_at σ j)) → (t : Term) → LawfulTerm 𝓜 t → LawfulTerm 𝓜 (fill k σ t)
  filled_lawful k σ f (num c) h = h
  filled_lawful k σ f (truth b) h = tt
  filled_lawful k σ f (var x i) h = filled_var_lawful k σ f (var x i) i tt
  filled_lawful k σ f (binop o l r) h = (filled_lawful k σ f l h.0, filled_lawful k σ f r h.1)
  filled_lawful k σ f (eq l r) h = (filled_lawful k σ f l h.0, filled_lawful k σ f r h.1)
  filled_lawful k σ f (app l r) h = (filled_lawful k σ f l h.0, filled_lawful k σ f r h.1)
  filled_lawful k σ f (lam x b) h = filled_lawful (suc k) σ f b h
  filled_lawful k σ f (let_in x a b) h = (filled_lawful k σ f a h.0, filled_lawful (suc k) σ f b h.1)
  filled_lawful k σ f (if_then c t e) h = (filled_lawful k σ f c h.0, filled_lawful k σ f t h.1, filled_lawful k σ f e h.2)

  -- Well-formed terms, filled in for all names, leave a well-formed term with none.
  filled_well_formed : (names : List ℕ) (σ : List Term) → ((j : ℕ) → WellFormed 𝓜 [] (term_at σ j)) → (t : Term) → WellFormed 𝓜 names t →
      WellFormed 𝓜 [] (fill 0 σ t)
  filled_well_formed names σ f t (n, l) = (filled_in_scope [] names σ (λ j. (f j).0) t n, filled_lawful 0 σ (λ j. (f j).1) t l)

  -- So does a body with a value for its variable.
  body_well_formed : (x : ℕ) (v b : Term) → WellFormed 𝓜 [] v → WellFormed 𝓜 (x ∷ []) b → WellFormed 𝓜 [] (fill 0 (v ∷ []) b)
  body_well_formed x v b h k = filled_well_formed (x ∷ []) (v ∷ []) only b k
    where
      only : (j : ℕ) → WellFormed 𝓜 [] (term_at (v ∷ []) j)
      only zero = h
      only (suc j) = (tt, tt)

  -- A contraction keeps a term with no inputs well formed.
  contraction_well_formed : {t u : Term} → Contraction 𝓜 t u → WellFormed 𝓜 [] t → WellFormed 𝓜 [] u
  contraction_well_formed (c_binop {o = o} {a = a} {b = b} e) (n, l) = (tt, subst (InOrder 𝓜.lawful) e (𝓜.closed o a b l.0 l.1))
  contraction_well_formed (c_eq_num e) h = (tt, tt)
  contraction_well_formed (c_eq_truth e) h = (tt, tt)
  contraction_well_formed (c_app {x = x} {b = b} {v = v} i e) (n, l) = subst (WellFormed 𝓜 []) e (body_well_formed x v b (n.1, l.1) (n.0, l.0))
  contraction_well_formed (c_let {x = x} {v = v} {b = b} i e) (n, l) = subst (WellFormed 𝓜 []) e (body_well_formed x v b (n.0, l.0) (n.1, l.1))
  contraction_well_formed (c_if {b = b} e) (n, l) = subst (WellFormed 𝓜 []) e (of_branch (WellFormed 𝓜 []) b (n.1, l.1) (n.2, l.2))

  -- So does a reduction, and a sequence of them.
  reduct_well_formed : {t u : Term} → Reduces 𝓜 t u → WellFormed 𝓜 [] t → WellFormed 𝓜 [] u
  reduct_well_formed (r_top c) h = contraction_well_formed c h
  reduct_well_formed (r_binop_left d) (n, l) = let (n', l') = reduct_well_formed d (n.0, l.0) in ((n', n.1), (l', l.1))
  reduct_well_formed (r_binop_right v d) (n, l) = let (n', l') = reduct_well_formed d (n.1, l.1) in ((n.0, n'), (l.0, l'))
  reduct_well_formed (r_eq_left d) (n, l) = let (n', l') = reduct_well_formed d (n.0, l.0) in ((n', n.1), (l', l.1))
  reduct_well_formed (r_eq_right v d) (n, l) = let (n', l') = reduct_well_formed d (n.1, l.1) in ((n.0, n'), (l.0, l'))
  reduct_well_formed (r_app_left d) (n, l) = let (n', l') = reduct_well_formed d (n.0, l.0) in ((n', n.1), (l', l.1))
  reduct_well_formed (r_app_right v d) (n, l) = let (n', l') = reduct_well_formed d (n.1, l.1) in ((n.0, n'), (l.0, l'))
  reduct_well_formed (r_let d) (n, l) = let (n', l') = reduct_well_formed d (n.0, l.0) in ((n', n.1), (l', l.1))
  reduct_well_formed (r_if d) (n, l) = let (n', l') = reduct_well_formed d (n.0, l.0) in ((n', n.1, n.2), (l', l.1, l.2))

  sequence_well_formed : {k : ℕ} {t u : Term} → Reductions 𝓜 k t u → WellFormed 𝓜 [] t → WellFormed 𝓜 [] u
  sequence_well_formed r_here h = h
  sequence_well_formed (r_more d r) h = sequence_well_formed r (reduct_well_formed d h)

  -- Lawful inputs show as well-formed terms.
  inputs_well_formed : (cs : List ℕ) → AllLawful 𝓜 cs → (j : ℕ) → WellFormed 𝓜 [] (term_at (reify_env (input_env cs)) j)
  inputs_well_formed [] h j = (tt, tt)
  inputs_well_formed (c ∷ cs) h zero = (tt, h.0)
  inputs_well_formed (c ∷ cs) h (suc j) = inputs_well_formed cs h.1 j

pub shown_terms_are_well_formed : ShownTermsAreWellFormed
shown_terms_are_well_formed 𝓜 names cs t w h n s d =
    sequence_well_formed 𝓜 (shown_reduct 𝓜 cs t d) (filled_well_formed 𝓜 names (reify_env (input_env cs)) (inputs_well_formed 𝓜 cs h) t w)

pub every_stop_shows_a_well_formed_term : EveryStopShowsAWellFormedTerm
every_stop_shows_a_well_formed_term 𝓜 L names cs t g w h =
    let (n, d) = run_stops_at_a_step 𝓜 L g (start t cs) in shown_terms_are_well_formed 𝓜 names cs t w h n _ d
