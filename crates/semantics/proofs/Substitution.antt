-- Laws of substitution by closed terms.
use Rattle.std.proofs.Common.{◌≡◌, ℕ, zero, suc, ◌≤◌, List, [], ◌∷◌, sym, refl, ap, ◌∙◌, ap₂, arith}
use Rattle.semantics.specs.Terms.{Term, num, truth, var, binop, eq, app, lam, let_in, if_then}
use Rattle.semantics.specs.Values.{Value, number, boolean, function, Env, ε, ◌▸◌, look}
use Rattle.semantics.specs.Substitution.{term_at, fill_var, fill, reify, reify_env, close}

-- A term that substitution leaves alone, and a row of such terms.
abbrev pub Closed : Term → Type 0
Closed s = (k : ℕ) (τ : List Term) → fill k τ s ≡ s

abbrev pub AllClosed : List Term → Type 0
AllClosed σ = (i : ℕ) → Closed (term_at σ i)

fill_var-closed : (F : Term → Term) (σ τ : List Term) → ((i : ℕ) → F (term_at σ i) ≡ term_at σ i) → (kept : Term) (j k i : ℕ) → j ≤ k →
    F kept ≡ fill_var k τ kept i → F (fill_var j σ kept i) ≡ fill_var j σ kept i
fill_var-closed F σ τ h kept zero k i le q = h i
fill_var-closed F σ τ h kept (suc j) zero i le q = absurd (omega arith)
fill_var-closed F σ τ h kept (suc j) (suc k) zero le q = q
fill_var-closed F σ τ h kept (suc j) (suc k) (suc i) le q = fill_var-closed F σ τ h kept j k i (omega arith) q

-- What has been filled at depth j is left alone at any depth from j on.
pub fill-closed : (σ : List Term) → AllClosed σ → (t : Term) (j k : ℕ) (τ : List Term) → j ≤ k → fill k τ (fill j σ t) ≡ fill j σ t
fill-closed σ h (num c) j k τ le = refl
fill-closed σ h (truth b) j k τ le = refl
fill-closed σ h (var x i) j k τ le = fill_var-closed (fill k τ) σ τ (λ n. h n k τ) (var x i) j k i le refl
fill-closed σ h (binop o l r) j k τ le = ap₂ (binop o) (fill-closed σ h l j k τ le) (fill-closed σ h r j k τ le)
fill-closed σ h (eq l r) j k τ le = ap₂ eq (fill-closed σ h l j k τ le) (fill-closed σ h r j k τ le)
fill-closed σ h (app f a) j k τ le = ap₂ app (fill-closed σ h f j k τ le) (fill-closed σ h a j k τ le)
fill-closed σ h (lam x b) j k τ le = ap (lam x) (fill-closed σ h b (suc j) (suc k) τ (omega arith))
fill-closed σ h (let_in x a b) j k τ le = ap₂ (let_in x) (fill-closed σ h a j k τ le) (fill-closed σ h b (suc j) (suc k) τ (omega arith))
fill-closed σ h (if_then c t e) j k τ le = cc (fill-closed σ h c j k τ le, fill-closed σ h t j k τ le, fill-closed σ h e j k τ le)

-- Shown values are closed.
mutual
  pub reify_closed : (v : Value) → Closed (reify v)
  reify_closed (number c) k τ = refl
  reify_closed (boolean b) k τ = refl
  reify_closed (function x b p ρ) k τ = ap (lam x) (fill-closed (reify_env ρ) (reify_env_closed ρ) b 1 (suc k) τ (omega arith))

  pub reify_env_closed : (ρ : Env) → AllClosed (reify_env ρ)
  reify_env_closed ε i k τ = refl
  reify_env_closed (v ▸ ρ) zero k τ = reify_closed v k τ
  reify_env_closed (v ▸ ρ) (suc i) k τ = reify_env_closed ρ i k τ

fill_var-front : (F : Term → Term) (w : Term) (σ : List Term) → ((i : ℕ) → F (term_at σ i) ≡ term_at σ i) → (kept : Term) (k i : ℕ) →
    F kept ≡ fill_var k (w ∷ []) kept i → F (fill_var (suc k) σ kept i) ≡ fill_var k (w ∷ σ) kept i
fill_var-front F w σ h kept zero zero q = q
fill_var-front F w σ h kept zero (suc i) q = h i
fill_var-front F w σ h kept (suc k) zero q = q
fill_var-front F w σ h kept (suc k) (suc i) q = fill_var-front F w σ h kept k i q

-- One more term in front: fill the others first, and then it.
pub fill-front : (w : Term) (σ : List Term) → AllClosed σ → (t : Term) (k : ℕ) → fill k (w ∷ []) (fill (suc k) σ t) ≡ fill k (w ∷ σ) t
fill-front w σ h (num c) k = refl
fill-front w σ h (truth b) k = refl
fill-front w σ h (var x i) k = fill_var-front (fill k (w ∷ [])) w σ (λ n. h n k (w ∷ [])) (var x i) k i refl
fill-front w σ h (binop o l r) k = ap₂ (binop o) (fill-front w σ h l k) (fill-front w σ h r k)
fill-front w σ h (eq l r) k = ap₂ eq (fill-front w σ h l k) (fill-front w σ h r k)
fill-front w σ h (app f a) k = ap₂ app (fill-front w σ h f k) (fill-front w σ h a k)
fill-front w σ h (lam x b) k = ap (lam x) (fill-front w σ h b (suc k))
fill-front w σ h (let_in x a b) k = ap₂ (let_in x) (fill-front w σ h a k) (fill-front w σ h b (suc k))
fill-front w σ h (if_then c t e) k = cc (fill-front w σ h c k, fill-front w σ h t k, fill-front w σ h e k)

-- What shows for an environment is what each of its values shows.
pub term_at-look : (ρ : Env) (i : ℕ) → term_at (reify_env ρ) i ≡ reify (look ρ i)
term_at-look ε i = refl
term_at-look (v ▸ ρ) zero = refl
term_at-look (v ▸ ρ) (suc i) = term_at-look ρ i

-- Bodies that show alike still do with values in front that show alike.
pub front_alike : (v v' : Value) (ρ ρ' : Env) (b b' : Term) → reify v ≡ reify v' → fill 1 (reify_env ρ) b ≡ fill 1 (reify_env ρ') b' →
    close (v ▸ ρ) b ≡ close (v' ▸ ρ') b'
front_alike v v' ρ ρ' b b' p q =
    sym (fill-front (reify v) (reify_env ρ) (reify_env_closed ρ) b 0) ∙ ap₂ (λ (w s : Term). fill 0 (w ∷ []) s) p q
    ∙ fill-front (reify v') (reify_env ρ') (reify_env_closed ρ') b' 0

-- A term with all its variables replaced shows as itself.
pub close-close : (ρ : Env) (b : Term) → close ρ b ≡ close ε (close ρ b)
close-close ρ b = sym (fill-closed (reify_env ρ) (reify_env_closed ρ) b 0 0 [] (omega arith))
