-- Closed terms that come to the same do so in every context.
use Rattle.std.proofs.Common.{◌≡◌, ℕ, suc, ◌+◌, sym, refl, ap, ◌∙◌, subst}
use Rattle.domain.specs.declared.Op.{Op}
use Rattle.domain.specs.declared.Fault.{Fault}
use Rattle.domain.specs.Meaning.{Meaning}
use Rattle.semantics.specs.Terms.{Term, binop, eq, app, let_in, if_then, size}
use Rattle.semantics.specs.Values.{Value, boolean, function, Env, ε, ◌▸◌, Outcome, yields, fails}
use Rattle.semantics.specs.Evaluation.{condition_no_boolean, applied_no_function, engine_fault, sort_of, operated, compared, outcome_at, NotFunction, NotBoolean, closing, branch, branch_place, Evals, e_binop, e_binop_left, e_binop_right, e_eq, e_eq_left, e_eq_right, e_app, e_app_no, e_app_left, e_app_right, e_let, e_let_left, e_if, e_if_no, e_if_left}
use Rattle.semantics.specs.Substitution.{reify, close, Observation, sees_value, sees_fault, observe}
use Rattle.semantics.proofs.Substitution.{front_alike}
use Rattle.semantics.proofs.Alike.{boolean_alike, function_alike, sort_alike, two_alike, Has, has_value, has_fault}
use Rattle.semantics.proofs.SameOutcomes.{same_filled}

module _ (𝓜 : Meaning) where
  -- Whatever T comes to with no inputs, T' comes to too.
  infix 40 ◌⊑◌
  infix 40 ◌≈◌
  abbrev pub ◌⊑◌ : Term → Term → Type 0
  T ⊑ T' = (w : Observation) (p n : ℕ) → Has 𝓜 ε p T n w → (p' : ℕ) → (n' : ℕ) × Has 𝓜 ε p' T' n' w

  -- Both ways.
  abbrev pub ◌≈◌ : Term → Term → Type 0
  T ≈ T' = (T ⊑ T') × (T' ⊑ T)

  -- Outcomes go over to what shows alike, at any place.
  pub alike : {ρ ρ' : Env} (t t' : Term) → close ρ t ≡ close ρ' t' → {p n : ℕ} {w : Observation} → Has 𝓜 ρ p t n w → (p' : ℕ) → Has 𝓜 ρ' p' t' n w
  alike {ρ' = ρ'} t t' q (o, d, s) p' = let (o', d', s') = same_filled 𝓜 d ρ' p' t' q in (o', d', s ∙ s')

  -- A term comes to the same at every place.
  pub ⊑_refl : (T : Term) → T ⊑ T
  ⊑_refl T w p n h p' = (n, alike T T refl h p')

  -- Where T has a value or a fault, T' has one that is the same.
  up_value : {T T' : Term} → T ⊑ T' → {p n : ℕ} {v : Value} → Evals 𝓜 ε p T (yields v) n → (p' : ℕ) →
      (n' : ℕ) × (v' : Value) × Evals 𝓜 ε p' T' (yields v') n' × (reify v ≡ reify v')
  up_value s {p = p} {n = n} {v = v} d p' =
      let (n', h) = s (sees_value (reify v)) p n (yields v, d, refl) p' in let (v', d', q) = has_value 𝓜 h in (n', v', d', q)

  up_fault : {T T' : Term} → T ⊑ T' → {p n : ℕ} {φ : Fault} {q : ℕ} → Evals 𝓜 ε p T (fails φ q) n → (p' : ℕ) →
      (n' : ℕ) × (q' : ℕ) × Evals 𝓜 ε p' T' (fails φ q') n'
  up_fault s {p = p} {n = n} {φ = φ} {q = q} d p' =
      let (n', m) = s (sees_fault φ) p n (fails φ q, d, refl) p' in let (q', d') = has_fault 𝓜 m in (n', q', d')

  -- It is enough to show it of every derivation.
  abbrev pub Lifts : Term → Term → Type 0
  Lifts T T' = (p n : ℕ) (o : Outcome) → Evals 𝓜 ε p T o n → (p' : ℕ) → (n' : ℕ) × Has 𝓜 ε p' T' n' (observe o)

  pub from : (T T' : Term) → Lifts T T' → T ⊑ T'
  from T T' f w p n (o, d, q) p' = let (n', (o', d', q')) = f p n o d p' in (n', (o', d', q ∙ q'))

  -- Each outcome of a node is matched where its first children are.
  binop_follows : (o : Op) (T T' R R' : Term) → T ⊑ T' → R ⊑ R' → {p n : ℕ} {d : Outcome} → Evals 𝓜 ε p (binop o T R) d n → (p' : ℕ) →
      (n' : ℕ) × Has 𝓜 ε p' (binop o T' R') n' (observe d)
  binop_follows o T T' R R' f g (e_binop {p = p} {v = v} {w = w} dl dr e u) p' =
      let (i, v', dl', qv) = up_value f dl (suc p') in
      let (j, w', dr', qw) = up_value g dr (suc p' + size T') in
      (i + j + 1, (outcome_at p' (operated 𝓜 o (sort_of v') (sort_of w')), e_binop dl' dr' refl refl, ap observe (sym e) ∙ two_alike (operated 𝓜 o) p p' v w v' w' qv qw))
  binop_follows o T T' R R' f g (e_binop_left {φ = φ} dl) p' =
      let (i, q, dl') = up_fault f dl (suc p') in (i, (fails φ q, e_binop_left dl', refl))
  binop_follows o T T' R R' f g (e_binop_right {φ = φ} dl dr u) p' =
      let (i, v', dl', qv) = up_value f dl (suc p') in
      let (j, q, dr') = up_fault g dr (suc p' + size T') in (i + j, (fails φ q, e_binop_right dl' dr' refl, refl))

  -- An operation whose operands are kept is kept. So are the other nodes, in what they work out first.
  pub binop_cong : (o : Op) (T T' R R' : Term) → T ⊑ T' → R ⊑ R' → binop o T R ⊑ binop o T' R'
  binop_cong o T T' R R' f g = from (binop o T R) (binop o T' R') (λ p n d e. binop_follows o T T' R R' f g e)

  eq_follows : (T T' R R' : Term) → T ⊑ T' → R ⊑ R' → {p n : ℕ} {d : Outcome} → Evals 𝓜 ε p (eq T R) d n → (p' : ℕ) →
      (n' : ℕ) × Has 𝓜 ε p' (eq T' R') n' (observe d)
  eq_follows T T' R R' f g (e_eq {p = p} {v = v} {w = w} dl dr e u) p' =
      let (i, v', dl', qv) = up_value f dl (suc p') in
      let (j, w', dr', qw) = up_value g dr (suc p' + size T') in
      (i + j + 1, (outcome_at p' (compared 𝓜 (sort_of v') (sort_of w')), e_eq dl' dr' refl refl, ap observe (sym e) ∙ two_alike (compared 𝓜) p p' v w v' w' qv qw))
  eq_follows T T' R R' f g (e_eq_left {φ = φ} dl) p' =
      let (i, q, dl') = up_fault f dl (suc p') in (i, (fails φ q, e_eq_left dl', refl))
  eq_follows T T' R R' f g (e_eq_right {φ = φ} dl dr u) p' =
      let (i, v', dl', qv) = up_value f dl (suc p') in
      let (j, q, dr') = up_fault g dr (suc p' + size T') in (i + j, (fails φ q, e_eq_right dl' dr' refl, refl))

  pub eq_cong : (T T' R R' : Term) → T ⊑ T' → R ⊑ R' → eq T R ⊑ eq T' R'
  eq_cong T T' R R' f g = from (eq T R) (eq T' R') (λ p n d e. eq_follows T T' R R' f g e)

  app_follows : (T T' R R' : Term) → T ⊑ T' → R ⊑ R' → {p n : ℕ} {d : Outcome} → Evals 𝓜 ε p (app T R) d n → (p' : ℕ) →
      (n' : ℕ) × Has 𝓜 ε p' (app T' R') n' (observe d)
  app_follows T T' R R' f g (e_app {x = x} {b = b} {ρ' = ρf} {w = w} {j = j} df da db u) p' =
      let (i, v', df', qv) = up_value f df (suc p') in
      let (k, w', da', qw) = up_value g da (suc p' + size T') in
      let (b', s, ρs, fs, qb) = function_alike x _ v' qv in
      let df'' : Evals 𝓜 ε (suc p') T' (yields (function x b' s ρs)) i = subst (λ v. Evals 𝓜 ε (suc p') T' (yields v) i) (sym fs) df' in
      let (o', db', qo) = same_filled 𝓜 db (w' ▸ ρs) (suc s) b' (front_alike w w' ρf ρs b b' qw qb) in
      (i + k + 1 + j + closing o', (o', e_app df'' da' db' refl, qo))
  app_follows T T' R R' f g (e_app_no {v = v} df da nf u) p' =
      let (i, v', df', qv) = up_value f df (suc p') in
      let (k, w', da', qw) = up_value g da (suc p' + size T') in
      (i + k + 1, (fails (engine_fault applied_no_function) p', e_app_no df' da' (subst NotFunction (sort_alike v v' qv) nf) refl, refl))
  app_follows T T' R R' f g (e_app_left {φ = φ} dl) p' =
      let (i, q, dl') = up_fault f dl (suc p') in (i, (fails φ q, e_app_left dl', refl))
  app_follows T T' R R' f g (e_app_right {φ = φ} dl dr u) p' =
      let (i, v', dl', qv) = up_value f dl (suc p') in
      let (j, q, dr') = up_fault g dr (suc p' + size T') in (i + j, (fails φ q, e_app_right dl' dr' refl, refl))

  pub app_cong : (T T' R R' : Term) → T ⊑ T' → R ⊑ R' → app T R ⊑ app T' R'
  app_cong T T' R R' f g = from (app T R) (app T' R') (λ p n d e. app_follows T T' R R' f g e)

  let_follows : (x : ℕ) (T T' B : Term) → T ⊑ T' → {p n : ℕ} {d : Outcome} → Evals 𝓜 ε p (let_in x T B) d n → (p' : ℕ) →
      (n' : ℕ) × Has 𝓜 ε p' (let_in x T' B) n' (observe d)
  let_follows x T T' B f (e_let {v = v} {k = k} da db u) p' =
      let (i, v', da', qv) = up_value f da (suc p') in
      let (o', db', qo) = same_filled 𝓜 db (v' ▸ ε) (suc p' + size T') B (front_alike v v' ε ε B B qv refl) in
      (i + 1 + k + closing o', (o', e_let da' db' refl, qo))
  let_follows x T T' B f (e_let_left {φ = φ} da) p' =
      let (i, q, da') = up_fault f da (suc p') in (i, (fails φ q, e_let_left da', refl))

  pub let_cong : (x : ℕ) (T T' B : Term) → T ⊑ T' → let_in x T B ⊑ let_in x T' B
  let_cong x T T' B f = from (let_in x T B) (let_in x T' B) (λ p n d e. let_follows x T T' B f e)

  if_follows : (T T' A B : Term) → T ⊑ T' → {p n : ℕ} {d : Outcome} → Evals 𝓜 ε p (if_then T A B) d n → (p' : ℕ) →
      (n' : ℕ) × Has 𝓜 ε p' (if_then T' A B) n' (observe d)
  if_follows T T' A B f (e_if {b = b} {k = k} dc db u) p' =
      let (i, v', dc', qv) = up_value f dc (suc p') in
      let dc'' : Evals 𝓜 ε (suc p') T' (yields (boolean b)) i = subst (λ v. Evals 𝓜 ε (suc p') T' (yields v) i) (sym (boolean_alike b v' qv)) dc' in
      let (o', db', qo) = same_filled 𝓜 db ε (branch_place p' b T' A) (branch b A B) refl in
      (2 + i + 1 + k + closing o', (o', e_if dc'' db' refl, qo))
  if_follows T T' A B f (e_if_no {v = v} dc nb u) p' =
      let (i, v', dc', qv) = up_value f dc (suc p') in
      (2 + i + 1, (fails (engine_fault condition_no_boolean) p', e_if_no dc' (subst NotBoolean (sort_alike v v' qv) nb) refl, refl))
  if_follows T T' A B f (e_if_left {φ = φ} dc u) p' =
      let (i, q, dc') = up_fault f dc (suc p') in (2 + i, (fails φ q, e_if_left dc' refl, refl))

  pub if_cong : (T T' A B : Term) → T ⊑ T' → if_then T A B ⊑ if_then T' A B
  if_cong T T' A B f = from (if_then T A B) (if_then T' A B) (λ p n d e. if_follows T T' A B f e)
