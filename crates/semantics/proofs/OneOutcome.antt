-- The rules give at most one outcome.
use Rattle.std.proofs.Common.{◌≡◌, ℕ, suc, ◌+◌, Bool, sym, refl, ap, ◌∙◌, subst, ap₂, subst₂, arith}
use Rattle.domain.specs.Meaning.{Meaning}
use Rattle.semantics.specs.Terms.{Term, size}
use Rattle.semantics.specs.Values.{Value, number, boolean, function, Env, ◌▸◌, Outcome, yields}
use Rattle.semantics.specs.Evaluation.{sort_of, operated, compared, outcome_at, NotFunction, NotBoolean, closing, branch, branch_place, Evals, e_num, e_truth, e_var, e_lam, e_binop, e_binop_left, e_binop_right, e_eq, e_eq_left, e_eq_right, e_app, e_app_no, e_app_left, e_app_right, e_let, e_let_left, e_if, e_if_no, e_if_left, AtMostOneOutcome}

module _ (𝓜 : Meaning) where
  -- What a function's body comes to with an argument.
  abbrev BodyEvals : Value → Value → Outcome → ℕ → Type 0
  BodyEvals (number c) w o j = ⊥
  BodyEvals (boolean b) w o j = ⊥
  BodyEvals (function x b q ρ) w o j = Evals 𝓜 (w ▸ ρ) (suc q) b o j

  -- A function is one, and a boolean is one.
  function_is_function : {x : ℕ} {b : Term} {q : ℕ} {ρ : Env} {v : Value} → yields (function x b q ρ) ≡ yields v → NotFunction (sort_of v) → ⊥
  function_is_function {v = number c} e h = cc
  function_is_function {v = boolean b} e h = cc
  function_is_function {v = function x b q ρ} e h = elim h [ ]

  boolean_is_boolean : {b : Bool} {v : Value} → yields (boolean b) ≡ yields v → NotBoolean (sort_of v) → ⊥
  boolean_is_boolean {v = number c} e h = cc
  boolean_is_boolean {v = boolean b} e h = elim h [ ]
  boolean_is_boolean {v = function x b q ρ} e h = cc

  -- Two derivations for the same term have the same outcome and count.
  pub unique : {ρ : Env} {p : ℕ} {t : Term} {o : Outcome} {n : ℕ} → Evals 𝓜 ρ p t o n → {o' : Outcome} {n' : ℕ} → Evals 𝓜 ρ p t o' n' →
      (o ≡ o') × (n ≡ n')
  unique (e_num u) (e_num u') = (refl, u ∙ sym u')
  unique (e_truth u) (e_truth u') = (refl, u ∙ sym u')
  unique (e_var e u) (e_var e' u') = (ap yields (sym e ∙ e'), u ∙ sym u')
  unique (e_lam u) (e_lam u') = (refl, u ∙ sym u')
  unique (e_binop {p = p} {o = o} {v = v} {w = w} dl dr e u) (e_binop {v = v'} {w = w'} dl' dr' e' u') =
      let (ql, nl) = unique dl dl' in let (qr, nr) = unique dr dr' in let qv : v ≡ v' = cc in let qw : w ≡ w' = cc in
      (sym e ∙ ap₂ (λ a b. outcome_at p (operated 𝓜 o (sort_of a) (sort_of b))) qv qw ∙ e', omega arith)
  unique (e_binop dl dr e u) (e_binop_left dl') = let q = (unique dl dl').0 in cc
  unique (e_binop dl dr e u) (e_binop_right dl' dr' u') = let q = (unique dr dr').0 in cc
  unique (e_binop_left dl) (e_binop dl' dr' e' u') = let q = (unique dl dl').0 in cc
  unique (e_binop_left dl) (e_binop_left dl') = unique dl dl'
  unique (e_binop_left dl) (e_binop_right dl' dr' u') = let q = (unique dl dl').0 in cc
  unique (e_binop_right dl dr u) (e_binop dl' dr' e' u') = let q = (unique dr dr').0 in cc
  unique (e_binop_right dl dr u) (e_binop_left dl') = let q = (unique dl dl').0 in cc
  unique (e_binop_right dl dr u) (e_binop_right dl' dr' u') = let (ql, nl) = unique dl dl' in let (qr, nr) = unique dr dr' in (qr, omega arith)
  unique (e_eq {p = p} {v = v} {w = w} dl dr e u) (e_eq {v = v'} {w = w'} dl' dr' e' u') =
      let (ql, nl) = unique dl dl' in let (qr, nr) = unique dr dr' in let qv : v ≡ v' = cc in let qw : w ≡ w' = cc in
      (sym e ∙ ap₂ (λ a b. outcome_at p (compared 𝓜 (sort_of a) (sort_of b))) qv qw ∙ e', omega arith)
  unique (e_eq dl dr e u) (e_eq_left dl') = let q = (unique dl dl').0 in cc
  unique (e_eq dl dr e u) (e_eq_right dl' dr' u') = let q = (unique dr dr').0 in cc
  unique (e_eq_left dl) (e_eq dl' dr' e' u') = let q = (unique dl dl').0 in cc
  unique (e_eq_left dl) (e_eq_left dl') = unique dl dl'
  unique (e_eq_left dl) (e_eq_right dl' dr' u') = let q = (unique dl dl').0 in cc
  unique (e_eq_right dl dr u) (e_eq dl' dr' e' u') = let q = (unique dr dr').0 in cc
  unique (e_eq_right dl dr u) (e_eq_left dl') = let q = (unique dl dl').0 in cc
  unique (e_eq_right dl dr u) (e_eq_right dl' dr' u') = let (ql, nl) = unique dl dl' in let (qr, nr) = unique dr dr' in (qr, omega arith)
  unique (e_app {x = x} {b = b} {q = q} {ρ' = ρ₁} {w = w} {o = o} df da db u) (e_app {x = x'} {b = b'} {q = q'} {ρ' = ρ₂} {w = w'} {o = o'} {j = j'} df' da' db' u') =
      let (qf, nf) = unique df df' in let (qa, na) = unique da da' in
      let qv : function x' b' q' ρ₂ ≡ function x b q ρ₁ = cc in let qw : w' ≡ w = cc in
      let (qo, nb) = unique db (subst₂ (λ f v. BodyEvals f v o' j') qv qw db') in
      let nc : closing o ≡ closing o' = ap closing qo in
      (qo, omega arith)
  unique (e_app df da db u) (e_app_no df' da' h u') = absurd (function_is_function (unique df df').0 h)
  unique (e_app df da db u) (e_app_left dl') = let q = (unique df dl').0 in cc
  unique (e_app df da db u) (e_app_right dl' dr' u') = let q = (unique da dr').0 in cc
  unique (e_app_no df da h u) (e_app df' da' db' u') = absurd (function_is_function (sym (unique df df').0) h)
  unique (e_app_no df da h u) (e_app_no df' da' h' u') = let (qf, nf) = unique df df' in let (qa, na) = unique da da' in (refl, omega arith)
  unique (e_app_no df da h u) (e_app_left dl') = let q = (unique df dl').0 in cc
  unique (e_app_no df da h u) (e_app_right dl' dr' u') = let q = (unique da dr').0 in cc
  unique (e_app_left dl) (e_app dl' dr' db' u') = let q = (unique dl dl').0 in cc
  unique (e_app_left dl) (e_app_no dl' dr' h u') = let q = (unique dl dl').0 in cc
  unique (e_app_left dl) (e_app_left dl') = unique dl dl'
  unique (e_app_left dl) (e_app_right dl' dr' u') = let q = (unique dl dl').0 in cc
  unique (e_app_right dl dr u) (e_app dl' dr' db' u') = let q = (unique dr dr').0 in cc
  unique (e_app_right dl dr u) (e_app_no dl' dr' h u') = let q = (unique dr dr').0 in cc
  unique (e_app_right dl dr u) (e_app_left dl') = let q = (unique dl dl').0 in cc
  unique (e_app_right dl dr u) (e_app_right dl' dr' u') = let (ql, nl) = unique dl dl' in let (qr, nr) = unique dr dr' in (qr, omega arith)
  unique (e_let {ρ = ρ} {p = p} {a = a} {b = b} {v = v} {o = o} da db u) (e_let {v = v'} {o = o'} {k = k'} da' db' u') =
      let (qa, na) = unique da da' in let qv : v' ≡ v = cc in
      let (qo, nb) = unique db (subst (λ w. Evals 𝓜 (w ▸ ρ) (suc p + size a) b o' k') qv db') in
      let nc : closing o ≡ closing o' = ap closing qo in
      (qo, omega arith)
  unique (e_let da db u) (e_let_left da') = let q = (unique da da').0 in cc
  unique (e_let_left da) (e_let da' db' u') = let q = (unique da da').0 in cc
  unique (e_let_left da) (e_let_left da') = unique da da'
  unique (e_if {ρ = ρ} {p = p} {c = c} {t = t} {e = e} {b = b} {o = o} dc db u) (e_if {b = b'} {o = o'} {k = k'} dc' db' u') =
      let (qc, nq) = unique dc dc' in let qb : b' ≡ b = cc in
      let (qo, nb) = unique db (subst (λ z. Evals 𝓜 ρ (branch_place p z c t) (branch z t e) o' k') qb db') in
      let nc : closing o ≡ closing o' = ap closing qo in
      (qo, omega arith)
  unique (e_if dc db u) (e_if_no dc' h u') = absurd (boolean_is_boolean (unique dc dc').0 h)
  unique (e_if dc db u) (e_if_left dc' u') = let q = (unique dc dc').0 in cc
  unique (e_if_no dc h u) (e_if dc' db' u') = absurd (boolean_is_boolean (sym (unique dc dc').0) h)
  unique (e_if_no dc h u) (e_if_no dc' h' u') = let (qc, nq) = unique dc dc' in (refl, omega arith)
  unique (e_if_no dc h u) (e_if_left dc' u') = let q = (unique dc dc').0 in cc
  unique (e_if_left dc u) (e_if dc' db' u') = let q = (unique dc dc').0 in cc
  unique (e_if_left dc u) (e_if_no dc' h u') = let q = (unique dc dc').0 in cc
  unique (e_if_left dc u) (e_if_left dc' u') = let (qc, nq) = unique dc dc' in (qc, omega arith)

pub at_most_one_outcome : AtMostOneOutcome
at_most_one_outcome 𝓜 ρ p t o o' n n' d d' = unique 𝓜 d d'
