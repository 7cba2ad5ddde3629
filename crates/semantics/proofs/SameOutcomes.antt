-- Terms that show alike have the same outcomes, in as many units.
use Rattle.std.proofs.Common.{◌≡◌, ℕ, suc, ◌+◌, sym, refl, ap, ◌∙◌, subst}
use Rattle.domain.specs.Meaning.{Meaning}
use Rattle.semantics.specs.Terms.{Term, size}
use Rattle.semantics.specs.Values.{number, boolean, function, Env, ◌▸◌, Outcome, yields, fails}
use Rattle.semantics.specs.Evaluation.{condition_no_boolean, applied_no_function, engine_fault, sort_of, operated, compared, outcome_at, NotFunction, NotBoolean, closing, branch, branch_place, Evals, e_num, e_truth, e_var, e_lam, e_binop, e_binop_left, e_binop_right, e_eq, e_eq_left, e_eq_right, e_app, e_app_no, e_app_left, e_app_right, e_let, e_let_left, e_if, e_if_no, e_if_left}
use Rattle.semantics.specs.Substitution.{reify, close, sees_fault, observe, SameWhenSubstituted}
use Rattle.semantics.proofs.Substitution.{term_at-look, front_alike}
use Rattle.semantics.proofs.Alike.{peel, boolean_alike, function_alike, sort_alike, two_alike, closing_alike, branch_alike, Has, leaf, has_value, has_fault}

module _ (𝓜 : Meaning) where
  -- Every outcome of t in ρ is matched by the same outcome of each term that shows alike, in as many units.
  pub same_filled : {ρ : Env} {p : ℕ} {t : Term} {o : Outcome} {n : ℕ} → Evals 𝓜 ρ p t o n →
      (ρ' : Env) (p' : ℕ) (t' : Term) → close ρ t ≡ close ρ' t' → Has 𝓜 ρ' p' t' n (observe o)
  same_filled (e_num {c = c} u) ρ' p' t' q = leaf 𝓜 (number c) _ u ρ' p' t' q
  same_filled (e_truth {b = b} u) ρ' p' t' q = leaf 𝓜 (boolean b) _ u ρ' p' t' q
  same_filled (e_var {ρ = ρ} {i = i} {v = v} e u) ρ' p' t' q = leaf 𝓜 v _ u ρ' p' t' (sym (term_at-look ρ i ∙ ap reify e) ∙ q)
  same_filled (e_lam {ρ = ρ} {p = p} {x = x} {b = b} u) ρ' p' t' q = leaf 𝓜 (function x b p ρ) _ u ρ' p' t' q
  same_filled (e_binop {p = p} {o = o} {v = v} {w = w} {d = d} {n = n} dl dr e u) ρ' p' t' q =
      let (l, r, is, ql, qr) = peel ρ' _ t' q in
      let (v', dl', qv) = has_value 𝓜 (same_filled dl ρ' (suc p') l ql) in
      let (w', dr', qw) = has_value 𝓜 (same_filled dr ρ' (suc p' + size l) r qr) in
      subst (λ s. Has 𝓜 ρ' p' s n (observe d)) (sym is) (outcome_at p' (operated 𝓜 o (sort_of v') (sort_of w')), e_binop dl' dr' refl u, ap observe (sym e) ∙ two_alike (operated 𝓜 o) p p' v w v' w' qv qw)
  same_filled (e_binop_left {φ = φ} {n = n} dl) ρ' p' t' q =
      let (l, r, is, ql, qr) = peel ρ' _ t' q in
      let (s, dl') = has_fault 𝓜 (same_filled dl ρ' (suc p') l ql) in
      subst (λ t. Has 𝓜 ρ' p' t n (sees_fault φ)) (sym is) (fails φ s, e_binop_left dl', refl)
  same_filled (e_binop_right {φ = φ} {n = n} dl dr u) ρ' p' t' q =
      let (l, r, is, ql, qr) = peel ρ' _ t' q in
      let (v', dl', qv) = has_value 𝓜 (same_filled dl ρ' (suc p') l ql) in
      let (s, dr') = has_fault 𝓜 (same_filled dr ρ' (suc p' + size l) r qr) in
      subst (λ t. Has 𝓜 ρ' p' t n (sees_fault φ)) (sym is) (fails φ s, e_binop_right dl' dr' u, refl)
  same_filled (e_eq {p = p} {v = v} {w = w} {d = d} {n = n} dl dr e u) ρ' p' t' q =
      let (l, r, is, ql, qr) = peel ρ' _ t' q in
      let (v', dl', qv) = has_value 𝓜 (same_filled dl ρ' (suc p') l ql) in
      let (w', dr', qw) = has_value 𝓜 (same_filled dr ρ' (suc p' + size l) r qr) in
      subst (λ s. Has 𝓜 ρ' p' s n (observe d)) (sym is) (outcome_at p' (compared 𝓜 (sort_of v') (sort_of w')), e_eq dl' dr' refl u, ap observe (sym e) ∙ two_alike (compared 𝓜) p p' v w v' w' qv qw)
  same_filled (e_eq_left {φ = φ} {n = n} dl) ρ' p' t' q =
      let (l, r, is, ql, qr) = peel ρ' _ t' q in
      let (s, dl') = has_fault 𝓜 (same_filled dl ρ' (suc p') l ql) in
      subst (λ t. Has 𝓜 ρ' p' t n (sees_fault φ)) (sym is) (fails φ s, e_eq_left dl', refl)
  same_filled (e_eq_right {φ = φ} {n = n} dl dr u) ρ' p' t' q =
      let (l, r, is, ql, qr) = peel ρ' _ t' q in
      let (v', dl', qv) = has_value 𝓜 (same_filled dl ρ' (suc p') l ql) in
      let (s, dr') = has_fault 𝓜 (same_filled dr ρ' (suc p' + size l) r qr) in
      subst (λ t. Has 𝓜 ρ' p' t n (sees_fault φ)) (sym is) (fails φ s, e_eq_right dl' dr' u, refl)
  same_filled (e_app {x = x} {b = b} {ρ' = ρf} {w = w} {o = o} {m = m} {k = k} {j = j} {n = n} df da db u) ρ' p' t' q =
      let (f, a, is, qf, qa) = peel ρ' _ t' q in
      let (v', df', qv) = has_value 𝓜 (same_filled df ρ' (suc p') f qf) in
      let (w', da', qw) = has_value 𝓜 (same_filled da ρ' (suc p' + size f) a qa) in
      let (b', s, ρs, fs, qb) = function_alike x _ v' qv in
      let df'' : Evals 𝓜 ρ' (suc p') f (yields (function x b' s ρs)) m = subst (λ v. Evals 𝓜 ρ' (suc p') f (yields v) m) (sym fs) df' in
      let (o', db', qo) = same_filled db (w' ▸ ρs) (suc s) b' (front_alike w w' ρf ρs b b' qw qb) in
      let u' : n ≡ m + k + 1 + j + closing o' = u ∙ ap (λ z. m + k + 1 + j + z) (closing_alike o o' qo) in
      subst (λ t. Has 𝓜 ρ' p' t n (observe o)) (sym is) (o', e_app df'' da' db' u', qo)
  same_filled (e_app_no {v = v} {n = n} df da nf u) ρ' p' t' q =
      let (f, a, is, qf, qa) = peel ρ' _ t' q in
      let (v', df', qv) = has_value 𝓜 (same_filled df ρ' (suc p') f qf) in
      let (w', da', qw) = has_value 𝓜 (same_filled da ρ' (suc p' + size f) a qa) in
      subst (λ t. Has 𝓜 ρ' p' t n (sees_fault (engine_fault applied_no_function))) (sym is) (fails (engine_fault applied_no_function) p', e_app_no df' da' (subst NotFunction (sort_alike v v' qv) nf) u, refl)
  same_filled (e_app_left {φ = φ} {n = n} dl) ρ' p' t' q =
      let (l, r, is, ql, qr) = peel ρ' _ t' q in
      let (s, dl') = has_fault 𝓜 (same_filled dl ρ' (suc p') l ql) in
      subst (λ t. Has 𝓜 ρ' p' t n (sees_fault φ)) (sym is) (fails φ s, e_app_left dl', refl)
  same_filled (e_app_right {φ = φ} {n = n} dl dr u) ρ' p' t' q =
      let (l, r, is, ql, qr) = peel ρ' _ t' q in
      let (v', dl', qv) = has_value 𝓜 (same_filled dl ρ' (suc p') l ql) in
      let (s, dr') = has_fault 𝓜 (same_filled dr ρ' (suc p' + size l) r qr) in
      subst (λ t. Has 𝓜 ρ' p' t n (sees_fault φ)) (sym is) (fails φ s, e_app_right dl' dr' u, refl)
  same_filled (e_let {ρ = ρ} {b = b} {v = v} {o = o} {m = m} {k = k} {n = n} da db u) ρ' p' t' q =
      let (a, b', is, qa, qb) = peel ρ' _ t' q in
      let (v', da', qv) = has_value 𝓜 (same_filled da ρ' (suc p') a qa) in
      let (o', db', qo) = same_filled db (v' ▸ ρ') (suc p' + size a) b' (front_alike v v' ρ ρ' b b' qv qb) in
      let u' : n ≡ m + 1 + k + closing o' = u ∙ ap (λ z. m + 1 + k + z) (closing_alike o o' qo) in
      subst (λ t. Has 𝓜 ρ' p' t n (observe o)) (sym is) (o', e_let da' db' u', qo)
  same_filled (e_let_left {φ = φ} {n = n} da) ρ' p' t' q =
      let (a, b', is, qa, qb) = peel ρ' _ t' q in
      let (s, da') = has_fault 𝓜 (same_filled da ρ' (suc p') a qa) in
      subst (λ t. Has 𝓜 ρ' p' t n (sees_fault φ)) (sym is) (fails φ s, e_let_left da', refl)
  same_filled (e_if {ρ = ρ} {t = t} {e = e} {b = b} {o = o} {m = m} {k = k} {n = n} dc db u) ρ' p' t' q =
      let (c', u', e', is, qc, qt, qe) = peel ρ' _ t' q in
      let (v', dc', qv) = has_value 𝓜 (same_filled dc ρ' (suc p') c' qc) in
      let dc'' : Evals 𝓜 ρ' (suc p') c' (yields (boolean b)) m = subst (λ v. Evals 𝓜 ρ' (suc p') c' (yields v) m) (sym (boolean_alike b v' qv)) dc' in
      let (o', db', qo) = same_filled db ρ' (branch_place p' b c' u') (branch b u' e') (branch_alike b ρ ρ' t e u' e' qt qe) in
      let w : n ≡ 2 + m + 1 + k + closing o' = u ∙ ap (λ z. 2 + m + 1 + k + z) (closing_alike o o' qo) in
      subst (λ t. Has 𝓜 ρ' p' t n (observe o)) (sym is) (o', e_if dc'' db' w, qo)
  same_filled (e_if_no {v = v} {n = n} dc nf u) ρ' p' t' q =
      let (c', u', e', is, qc, qt, qe) = peel ρ' _ t' q in
      let (v', dc', qv) = has_value 𝓜 (same_filled dc ρ' (suc p') c' qc) in
      subst (λ t. Has 𝓜 ρ' p' t n (sees_fault (engine_fault condition_no_boolean))) (sym is) (fails (engine_fault condition_no_boolean) p', e_if_no dc' (subst NotBoolean (sort_alike v v' qv) nf) u, refl)
  same_filled (e_if_left {φ = φ} {n = n} dc u) ρ' p' t' q =
      let (c', u', e', is, qc, qt, qe) = peel ρ' _ t' q in
      let (s, dc') = has_fault 𝓜 (same_filled dc ρ' (suc p') c' qc) in
      subst (λ t. Has 𝓜 ρ' p' t n (sees_fault φ)) (sym is) (fails φ s, e_if_left dc' u, refl)

pub same_when_substituted : SameWhenSubstituted
same_when_substituted 𝓜 ρ p t o n d ρ' p' t' q = same_filled 𝓜 d ρ' p' t' q
