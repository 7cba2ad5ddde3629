-- What terms and values that show alike have in common.
use Rattle.std.proofs.Common.{◌≡◌, ℕ, Bool, true, false, refl, ap, ◌∙◌, ap₂}
use Rattle.domain.specs.declared.Fault.{Fault}
use Rattle.domain.specs.Meaning.{Meaning}
use Rattle.semantics.specs.Terms.{Term, num, truth, var, binop, eq, app, lam, let_in, if_then}
use Rattle.semantics.specs.Values.{Value, number, boolean, function, Env, look, Outcome, yields, fails}
use Rattle.semantics.specs.Evaluation.{Sort, sort_of, Computed, gives_number, outcome_at, closing, branch, Evals, e_num, e_truth, e_var, e_lam}
use Rattle.semantics.specs.Substitution.{fill, reify, reify_env, close, Observation, sees_value, sees_fault, observe}
use Rattle.semantics.specs.Reduction.{IsValue, num_value, truth_value, lam_value}
use Rattle.semantics.proofs.Substitution.{term_at-look}

-- What a term looks like that shows as L: where L is no value, its parts show as L's parts.
abbrev pub Peeled : Env → Term → Term → Type 0
Peeled ρ (binop o L R) t = (l r : Term) × (t ≡ binop o l r) × (L ≡ close ρ l) × (R ≡ close ρ r)
Peeled ρ (eq L R) t = (l r : Term) × (t ≡ eq l r) × (L ≡ close ρ l) × (R ≡ close ρ r)
Peeled ρ (app L R) t = (l r : Term) × (t ≡ app l r) × (L ≡ close ρ l) × (R ≡ close ρ r)
Peeled ρ (let_in x A B) t = (a b : Term) × (t ≡ let_in x a b) × (A ≡ close ρ a) × (B ≡ fill 1 (reify_env ρ) b)
Peeled ρ (if_then C T E) t = (c u e : Term) × (t ≡ if_then c u e) × (C ≡ close ρ c) × (T ≡ close ρ u) × (E ≡ close ρ e)
Peeled ρ L t = Unit {0}

peeled_reify : (ρ : Env) (v : Value) (t : Term) → Peeled ρ (reify v) t
peeled_reify ρ (number c) t = tt
peeled_reify ρ v t = tt

peeled_self : (ρ : Env) (t : Term) → Peeled ρ (close ρ t) t
peeled_self ρ (var x i) = rw (term_at-look ρ i) (peeled_reify ρ (look ρ i) (var x i))
peeled_self ρ (binop o l r) = (l, r, refl, refl, refl)
peeled_self ρ (eq l r) = (l, r, refl, refl, refl)
peeled_self ρ (app l r) = (l, r, refl, refl, refl)
peeled_self ρ (let_in x a b) = (a, b, refl, refl, refl)
peeled_self ρ (if_then c t e) = (c, t, e, refl, refl, refl, refl)
peeled_self ρ t = tt

pub peel : (ρ : Env) (L t : Term) → L ≡ close ρ t → Peeled ρ L t
peel ρ L t q = rw q (peeled_self ρ t)

-- What a value shows as is a value.
reify_value : (v : Value) → IsValue (reify v)
reify_value (number c) = num_value
reify_value (boolean b) = truth_value
reify_value (function x b p ρ) = lam_value

-- Values that show alike are of one sort, and equal but for a function's body and environment.
pub number_alike : (a : ℕ) (v : Value) → num a ≡ reify v → number a ≡ v
number_alike a (number b) q = cc
number_alike a v q = cc

pub boolean_alike : (a : Bool) (v : Value) → truth a ≡ reify v → boolean a ≡ v
boolean_alike a (boolean b) q = cc
boolean_alike a v q = cc

pub function_alike : (x : ℕ) (B : Term) (v : Value) → lam x B ≡ reify v →
    (b : Term) × (p : ℕ) × (ρ : Env) × (function x b p ρ ≡ v) × (B ≡ fill 1 (reify_env ρ) b)
function_alike x B (function y b p ρ) q = (b, p, ρ, cc, cc)
function_alike x B v q = cc

pub sort_alike : (v v' : Value) → reify v ≡ reify v' → sort_of v ≡ sort_of v'
sort_alike (number a) v' q = ap sort_of (number_alike a v' q)
sort_alike (boolean a) v' q = ap sort_of (boolean_alike a v' q)
sort_alike (function x b p ρ) v' q = ap sort_of (function_alike x _ v' q).3

-- The place of a node does not matter.
outcome_alike : (p p' : ℕ) (r : Computed) → observe (outcome_at p r) ≡ observe (outcome_at p' r)
outcome_alike p p' (gives_number c) = refl
outcome_alike p p' r = refl

-- What is computed of values that show alike is seen alike.
pub two_alike : (f : Sort → Sort → Computed) (p p' : ℕ) (v w v' w' : Value) → reify v ≡ reify v' → reify w ≡ reify w' →
    observe (outcome_at p (f (sort_of v) (sort_of w))) ≡ observe (outcome_at p' (f (sort_of v') (sort_of w')))
two_alike f p p' v w v' w' q r =
    ap₂ (λ a b. observe (outcome_at p (f a b))) (sort_alike v v' q) (sort_alike w w' r) ∙ outcome_alike p p' (f (sort_of v') (sort_of w'))

-- Outcomes that are the same take the same unit to leave a body.
pub closing_alike : (o o' : Outcome) → observe o ≡ observe o' → closing o ≡ closing o'
closing_alike (yields v) (yields w) q = refl
closing_alike (fails φ p) (fails φ' p') q = refl
closing_alike o o' q = cc

pub branch_alike : (b : Bool) (ρ ρ' : Env) (t e t' e' : Term) → close ρ t ≡ close ρ' t' → close ρ e ≡ close ρ' e' →
    close ρ (branch b t e) ≡ close ρ' (branch b t' e')
branch_alike true ρ ρ' t e t' e' q r = q
branch_alike false ρ ρ' t e t' e' q r = r

module _ (𝓜 : Meaning) where
  -- Some outcome of t in ρ, in n units, is seen as w.
  abbrev pub Has : Env → ℕ → Term → ℕ → Observation → Type 0
  Has ρ p t n w = (o : Outcome) × Evals 𝓜 ρ p t o n × (w ≡ observe o)

  -- What shows as a value has that value, in one unit.
  pub leaf : (v : Value) (n : ℕ) → n ≡ 1 → (ρ : Env) (p : ℕ) (t : Term) → reify v ≡ close ρ t → Has ρ p t n (sees_value (reify v))
  leaf v n u ρ p (num c) q = (yields (number c), e_num u, ap sees_value q)
  leaf v n u ρ p (truth b) q = (yields (boolean b), e_truth u, ap sees_value q)
  leaf v n u ρ p (var x i) q = (yields (look ρ i), e_var refl u, ap sees_value (q ∙ term_at-look ρ i))
  leaf v n u ρ p (lam x b) q = (yields (function x b p ρ), e_lam u, ap sees_value q)
  leaf v n u ρ p t q = elim (rw q at (reify_value v)) [ ]

  -- What is seen of an outcome tells a value from a fault.
  pub has_value : {ρ : Env} {p : ℕ} {t : Term} {n : ℕ} {s : Term} → Has ρ p t n (sees_value s) →
      (v : Value) × Evals 𝓜 ρ p t (yields v) n × (s ≡ reify v)
  has_value {ρ} {p} {t} {n} {s} h = go h.0 h.1 h.2
    where
      go : (o : Outcome) → Evals 𝓜 ρ p t o n → sees_value s ≡ observe o → (v : Value) × Evals 𝓜 ρ p t (yields v) n × (s ≡ reify v)
      go (yields v) d q = (v, d, cc)
      go (fails φ r) d q = cc

  pub has_fault : {ρ : Env} {p : ℕ} {t : Term} {n : ℕ} {φ : Fault} → Has ρ p t n (sees_fault φ) → (q : ℕ) × Evals 𝓜 ρ p t (fails φ q) n
  has_fault {ρ} {p} {t} {n} {φ} m = go m.0 m.1 m.2
    where
      go : (o : Outcome) → Evals 𝓜 ρ p t o n → sees_fault φ ≡ observe o → (q : ℕ) × Evals 𝓜 ρ p t (fails φ q) n
      go (yields v) d q = cc
      go (fails φ' r) d q = let e : φ' ≡ φ = cc in (r, rw e at d)
