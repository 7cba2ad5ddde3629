-- Contraction, and so reduction, keeps what a term with no inputs comes to.
use Rattle.std.proofs.Common.{◌≡◌, ℕ, suc, ◌+◌, Bool, true, false, [], ◌∷◌, Ok, sym, refl, ap, ◌∙◌, subst, subst₂, arith}
use mathlib.Core.Bool.{beq}
use Rattle.domain.specs.declared.Op.{Op}
use Rattle.domain.specs.declared.Fault.{Fault}
use Rattle.domain.specs.Meaning.{Meaning}
use Rattle.semantics.specs.Terms.{Term, num, truth, binop, eq, app, lam, let_in, if_then, size}
use Rattle.semantics.specs.Values.{Value, number, boolean, function, ε, ◌▸◌, Outcome, yields, fails}
use Rattle.semantics.specs.Evaluation.{answered, outcome_at, closing, branch, branch_place, Evals, e_num, e_truth, e_lam, e_binop, e_binop_left, e_binop_right, e_eq, e_eq_left, e_eq_right, e_app, e_app_no, e_app_left, e_app_right, e_let, e_let_left, e_if, e_if_no, e_if_left}
use Rattle.semantics.specs.Substitution.{fill, reify, reify_env, close, sees_value, observe}
use Rattle.semantics.specs.Reduction.{IsValue, num_value, truth_value, lam_value, Contraction, c_binop, c_eq_num, c_eq_truth, c_app, c_let, c_if, Reduces, r_top, r_binop_left, r_binop_right, r_eq_left, r_eq_right, r_app_left, r_app_right, r_let, r_if}
use Rattle.semantics.proofs.Substitution.{fill-closed, reify_closed, reify_env_closed, close-close}
use Rattle.semantics.proofs.Alike.{leaf, has_value}
use Rattle.semantics.proofs.SameOutcomes.{same_filled}
use Rattle.semantics.proofs.Congruence.{◌≈◌, ⊑_refl, Lifts, from, binop_cong, eq_cong, app_cong, let_cong, if_cong}

-- A term with no inputs: there is nothing to fill in.
abbrev pub NoInputs : Term → Type 0
NoInputs t = close ε t ≡ t

-- Such a term that is a value is what some value shows.
value_of : {v : Term} → IsValue v → NoInputs v → (w : Value) × (reify w ≡ v)
value_of (num_value {c = c}) h = (number c, refl)
value_of (truth_value {b = b}) h = (boolean b, refl)
value_of (lam_value {x = x} {b = b}) h = (function x b 0 ε, h)

-- What holds of both branches holds of the one chosen.
pub of_branch : (P : Term → Type 0) (b : Bool) {t e : Term} → P t → P e → P (branch b t e)
of_branch P true h k = h
of_branch P false h k = k

module _ (𝓜 : Meaning) where
  -- A shown value comes to itself.
  eval_reify : (v : Value) {p n : ℕ} {o : Outcome} → Evals 𝓜 ε p (reify v) o n → sees_value (reify v) ≡ observe o
  eval_reify (number c) (e_num u) = refl
  eval_reify (boolean b) (e_truth u) = refl
  eval_reify (function x b q ρ) (e_lam u) =
      ap (λ s. sees_value (lam x s)) (sym (fill-closed (reify_env ρ) (reify_env_closed ρ) b 1 1 [] (omega arith)))

  value_reify : (v : Value) {p n : ℕ} {v' : Value} → Evals 𝓜 ε p (reify v) (yields v') n → reify v ≡ reify v'
  value_reify v d = let q = eval_reify v d in cc

  fault_reify : (v : Value) {p n : ℕ} {φ : Fault} {q : ℕ} → Evals 𝓜 ε p (reify v) (fails φ q) n → ⊥
  fault_reify v d = let e = eval_reify v d in cc

  -- A shown value has itself, in one unit.
  itself : (v : Value) (p : ℕ) → (v' : Value) × Evals 𝓜 ε p (reify v) (yields v') 1 × (reify v ≡ reify v')
  itself v p = has_value 𝓜 (leaf 𝓜 v 1 refl ε p (reify v) (sym (reify_closed v 0 [])))

  -- An operation on two numbers comes to the number that the domain answers, and back.
  binop_then_answer : {o : Op} {a b c : ℕ} → 𝓜.table o a b ≡ Ok c → Lifts 𝓜 (binop o (num a) (num b)) (num c)
  binop_then_answer {c = c} e p n d (e_binop (e_num u) (e_num u') q w) p' =
      (1, (yields (number c), e_num refl, ap observe (sym q) ∙ ap (λ r. observe (outcome_at p (answered r))) e))
  binop_then_answer e p n d (e_binop_left dl) p' = elim dl [ ]
  binop_then_answer e p n d (e_binop_right dl dr w) p' = elim dr [ ]

  answer_then_binop : {o : Op} {a b c : ℕ} → 𝓜.table o a b ≡ Ok c → Lifts 𝓜 (num c) (binop o (num a) (num b))
  answer_then_binop {c = c} e p n d (e_num u) p' =
      (1 + 1 + 1, (yields (number c), e_binop (e_num refl) (e_num refl) (ap (λ r. outcome_at p' (answered r)) e) refl, refl))

  -- A comparison of two numbers, and of two booleans, comes to the boolean that it gives, and back.
  eq_then_same : {a b : ℕ} {c : Bool} → 𝓜.same a b ≡ c → Lifts 𝓜 (eq (num a) (num b)) (truth c)
  eq_then_same {c = c} e p n d (e_eq (e_num u) (e_num u') q w) p' =
      (1, (yields (boolean c), e_truth refl, ap observe (sym q) ∙ ap (λ z. sees_value (truth z)) e))
  eq_then_same e p n d (e_eq_left dl) p' = elim dl [ ]
  eq_then_same e p n d (e_eq_right dl dr w) p' = elim dr [ ]

  same_then_eq : {a b : ℕ} {c : Bool} → 𝓜.same a b ≡ c → Lifts 𝓜 (truth c) (eq (num a) (num b))
  same_then_eq {c = c} e p n d (e_truth u) p' =
      (1 + 1 + 1, (yields (boolean c), e_eq (e_num refl) (e_num refl) (ap (λ z. yields (boolean z)) e) refl, refl))

  eq_then_equal : {a b c : Bool} → beq a b ≡ c → Lifts 𝓜 (eq (truth a) (truth b)) (truth c)
  eq_then_equal {c = c} e p n d (e_eq (e_truth u) (e_truth u') q w) p' =
      (1, (yields (boolean c), e_truth refl, ap observe (sym q) ∙ ap (λ z. sees_value (truth z)) e))
  eq_then_equal e p n d (e_eq_left dl) p' = elim dl [ ]
  eq_then_equal e p n d (e_eq_right dl dr w) p' = elim dr [ ]

  equal_then_eq : {a b c : Bool} → beq a b ≡ c → Lifts 𝓜 (truth c) (eq (truth a) (truth b))
  equal_then_eq {c = c} e p n d (e_truth u) p' =
      (1 + 1 + 1, (yields (boolean c), e_eq (e_truth refl) (e_truth refl) (ap (λ z. yields (boolean z)) e) refl, refl))

  -- A value in front that shows alike can be filled in at once.
  front_filled : (v v₁ : Value) (b : Term) → reify v ≡ reify v₁ → close (v₁ ▸ ε) b ≡ close ε (close (v ▸ ε) b)
  front_filled v v₁ b q = ap (λ s. fill 0 (s ∷ []) b) (sym q) ∙ close-close (v ▸ ε) b

  -- A Lambda applied to a shown value comes to its body with the value filled in, and back.
  app_then_body : (x : ℕ) (b : Term) (w : Value) → Lifts 𝓜 (app (lam x b) (reify w)) (close (w ▸ ε) b)
  app_then_body x b w p n d (e_app {w = w₁} {j = j} (e_lam u') da db u) p' =
      (j, same_filled 𝓜 db ε p' (close (w ▸ ε) b) (front_filled w w₁ b (value_reify w da)))
  app_then_body x b w p n d (e_app_no (e_lam u') da nf u) p' = elim nf [ ]
  app_then_body x b w p n d (e_app_left df) p' = elim df [ ]
  app_then_body x b w p n d (e_app_right df da u) p' = absurd (fault_reify w da)

  body_then_app : (x : ℕ) (b : Term) (w : Value) → Lifts 𝓜 (close (w ▸ ε) b) (app (lam x b) (reify w))
  body_then_app x b w p n d e p' =
      let (w₁, da, qw) = itself w (suc p' + size (lam x b)) in
      let (o', db, qo) = same_filled 𝓜 e (w₁ ▸ ε) (suc (suc p')) b (sym (front_filled w w₁ b qw)) in
      (1 + 1 + 1 + n + closing o', (o', e_app (e_lam refl) da db refl, qo))

  -- So does a Let of a shown value.
  let_then_body : (x : ℕ) (v : Value) (b : Term) → Lifts 𝓜 (let_in x (reify v) b) (close (v ▸ ε) b)
  let_then_body x v b p n d (e_let {v = v₁} {k = k} da db u) p' =
      (k, same_filled 𝓜 db ε p' (close (v ▸ ε) b) (front_filled v v₁ b (value_reify v da)))
  let_then_body x v b p n d (e_let_left da) p' = absurd (fault_reify v da)

  body_then_let : (x : ℕ) (v : Value) (b : Term) → Lifts 𝓜 (close (v ▸ ε) b) (let_in x (reify v) b)
  body_then_let x v b p n d e p' =
      let (v₁, da, qv) = itself v (suc p') in
      let (o', db, qo) = same_filled 𝓜 e (v₁ ▸ ε) (suc p' + size (reify v)) b (sym (front_filled v v₁ b qv)) in
      (1 + 1 + n + closing o', (o', e_let da db refl, qo))

  -- An If with a boolean comes to the branch chosen, and back.
  if_then-branch : (b : Bool) (A B : Term) → Lifts 𝓜 (if_then (truth b) A B) (branch b A B)
  if_then-branch b A B p n d (e_if {k = k} (e_truth u') db u) p' = (k, same_filled 𝓜 db ε p' (branch b A B) refl)
  if_then-branch b A B p n d (e_if_no (e_truth u') nb u) p' = elim nb [ ]
  if_then-branch b A B p n d (e_if_left dc u) p' = elim dc [ ]

  branch_then_if : (b : Bool) (A B : Term) → Lifts 𝓜 (branch b A B) (if_then (truth b) A B)
  branch_then_if b A B p n d e p' =
      let (o', db, qo) = same_filled 𝓜 e ε (branch_place p' b (truth b) A) (branch b A B) refl in
      (2 + 1 + 1 + n + closing o', (o', e_if (e_truth refl) db refl, qo))

  -- Lifts both ways.
  like : {t u : Term} → Lifts 𝓜 t u → Lifts 𝓜 u t → ◌≈◌ 𝓜 t u
  like {t} {u} f g = (from 𝓜 t u f, from 𝓜 u t g)

  -- u has no inputs either, and comes to what t comes to.
  abbrev Keeps : Term → Term → Type 0
  Keeps t u = NoInputs u × ◌≈◌ 𝓜 t u

  -- A contraction keeps what a term with no inputs comes to.
  contraction_keeps : {t u : Term} → Contraction 𝓜 t u → NoInputs t → Keeps t u
  contraction_keeps (c_binop e) h = (refl, like (binop_then_answer e) (answer_then_binop e))
  contraction_keeps (c_eq_num e) h = (refl, like (eq_then_same e) (same_then_eq e))
  contraction_keeps (c_eq_truth e) h = (refl, like (eq_then_equal e) (equal_then_eq e))
  contraction_keeps (c_app {x = x} {b = b} i e) h =
      let (w, q) = value_of i cc in
      subst₂ (λ z u. Keeps (app (lam x b) z) u) q (ap (λ z. fill 0 (z ∷ []) b) q ∙ e) (sym (close-close (w ▸ ε) b), like (app_then_body x b w) (body_then_app x b w))
  contraction_keeps (c_let {x = x} {b = b} i e) h =
      let (w, q) = value_of i cc in
      subst₂ (λ z u. Keeps (let_in x z b) u) q (ap (λ z. fill 0 (z ∷ []) b) q ∙ e) (sym (close-close (w ▸ ε) b), like (let_then_body x w b) (body_then_let x w b))
  contraction_keeps (c_if {b = b} {t = t} {e = f} e) h =
      let (ht, hf) : NoInputs t × NoInputs f = (cc, cc) in
      subst (Keeps (if_then (truth b) t f)) e (of_branch NoInputs b ht hf, like (if_then-branch b t f) (branch_then_if b t f))

  -- So does a reduction.
  pub reduction_keeps : {t u : Term} → Reduces 𝓜 t u → NoInputs t → Keeps t u
  reduction_keeps (r_top c) h = contraction_keeps c h
  reduction_keeps (r_binop_left {o = o} {r = r} d) h =
      let (e, (f, g)) = reduction_keeps d cc in (cc, (binop_cong 𝓜 o _ _ r r f (⊑_refl 𝓜 r), binop_cong 𝓜 o _ _ r r g (⊑_refl 𝓜 r)))
  reduction_keeps (r_binop_right {o = o} {l = l} v d) h =
      let (e, (f, g)) = reduction_keeps d cc in (cc, (binop_cong 𝓜 o l l _ _ (⊑_refl 𝓜 l) f, binop_cong 𝓜 o l l _ _ (⊑_refl 𝓜 l) g))
  reduction_keeps (r_eq_left {r = r} d) h =
      let (e, (f, g)) = reduction_keeps d cc in (cc, (eq_cong 𝓜 _ _ r r f (⊑_refl 𝓜 r), eq_cong 𝓜 _ _ r r g (⊑_refl 𝓜 r)))
  reduction_keeps (r_eq_right {l = l} v d) h =
      let (e, (f, g)) = reduction_keeps d cc in (cc, (eq_cong 𝓜 l l _ _ (⊑_refl 𝓜 l) f, eq_cong 𝓜 l l _ _ (⊑_refl 𝓜 l) g))
  reduction_keeps (r_app_left {a = a} d) h =
      let (e, (f, g)) = reduction_keeps d cc in (cc, (app_cong 𝓜 _ _ a a f (⊑_refl 𝓜 a), app_cong 𝓜 _ _ a a g (⊑_refl 𝓜 a)))
  reduction_keeps (r_app_right {f = l} v d) h =
      let (e, (f, g)) = reduction_keeps d cc in (cc, (app_cong 𝓜 l l _ _ (⊑_refl 𝓜 l) f, app_cong 𝓜 l l _ _ (⊑_refl 𝓜 l) g))
  reduction_keeps (r_let {x = x} {b = b} d) h = let (e, (f, g)) = reduction_keeps d cc in (cc, (let_cong 𝓜 x _ _ b f, let_cong 𝓜 x _ _ b g))
  reduction_keeps (r_if {t = t} {e = e'} d) h = let (e, (f, g)) = reduction_keeps d cc in (cc, (if_cong 𝓜 _ _ t e' f, if_cong 𝓜 _ _ t e' g))
