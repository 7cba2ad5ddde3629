-- A term reduces to at most one, and a node whose turn waits for a stuck term is stuck.
use Rattle.std.proofs.Common.{◌≡◌, ℕ, sym, ap, ◌∙◌}
use Rattle.domain.specs.declared.Op.{Op}
use Rattle.domain.specs.Meaning.{Meaning}
use Rattle.semantics.specs.declared.layout.Instruction.{Instruction}
use Rattle.semantics.specs.declared.layout.Instruction.TheVariants.{Operate, Compare, Apply}
use Rattle.semantics.specs.Terms.{Term, truth, binop, eq, app, let_in, if_then}
use Rattle.semantics.specs.Reduction.{IsValue, num_value, truth_value, lam_value, Contraction, c_binop, c_eq_num, c_eq_truth, c_app, c_let, c_if, Reduces, r_top, r_binop_left, r_binop_right, r_eq_left, r_eq_right, r_app_left, r_app_right, r_let, r_if, IsStuck, AtMostOneReduction}

-- The instructions that take two values, and the nodes that they make.
pub data Joins : Instruction → Type 0 where
  joins_operate : {o : Op} {p : ℕ} → Joins (Operate o p)
  joins_compare : {p : ℕ} → Joins (Compare p)
  joins_apply : {p : ℕ} → Joins (Apply p)

abbrev pub node : {i : Instruction} → Joins i → Term → Term → Term
node (joins_operate {o = o}) l r = binop o l r
node joins_compare l r = eq l r
node joins_apply l r = app l r

-- A relation between terms that goes over to every place where the next contraction is looked for.
pub record Congruent (R : Term → Term → Type 0) : Type 0 where
  pub in_first : {i : Instruction} (j : Joins i) {l l' : Term} (r : Term) → R l l' → R (node j l r) (node j l' r)
  pub in_second : {i : Instruction} (j : Joins i) {l r r' : Term} → IsValue l → R r r' → R (node j l r) (node j l r')
  pub in_bound : {x : ℕ} {a a' b : Term} → R a a' → R (let_in x a b) (let_in x a' b)
  pub in_condition : {c c' t e : Term} → R c c' → R (if_then c t e) (if_then c' t e)

-- A node whose operands, all but branches and bodies, are values.
pub data Ready : Term → Type 0 where
  ready_binop : {o : Op} {l r : Term} → IsValue l → IsValue r → Ready (binop o l r)
  ready_eq : {l r : Term} → IsValue l → IsValue r → Ready (eq l r)
  ready_app : {f a : Term} → IsValue f → IsValue a → Ready (app f a)
  ready_let : {x : ℕ} {a b : Term} → IsValue a → Ready (let_in x a b)
  ready_if : {c t e : Term} → IsValue c → Ready (if_then c t e)

module _ (𝓜 : Meaning) where
  -- A value reduces to nothing.
  pub settled : {v u : Term} → IsValue v → Reduces 𝓜 v u → ⊥
  settled num_value (r_top c) = elim c [ ]
  settled truth_value (r_top c) = elim c [ ]
  settled lam_value (r_top c) = elim c [ ]

  -- What contracts at the top is ready, and what is ready contracts nowhere else.
  contraction_ready : {t u : Term} → Contraction 𝓜 t u → Ready t
  contraction_ready (c_binop e) = ready_binop num_value num_value
  contraction_ready (c_eq_num e) = ready_eq num_value num_value
  contraction_ready (c_eq_truth e) = ready_eq truth_value truth_value
  contraction_ready (c_let v e) = ready_let v
  contraction_ready (c_app v e) = ready_app lam_value v
  contraction_ready (c_if e) = ready_if truth_value

  at_top : {t u : Term} → Ready t → Reduces 𝓜 t u → Contraction 𝓜 t u
  at_top h (r_top c) = c
  at_top (ready_binop v w) (r_binop_left d) = absurd (settled v d)
  at_top (ready_binop v w) (r_binop_right v' d) = absurd (settled w d)
  at_top (ready_eq v w) (r_eq_left d) = absurd (settled v d)
  at_top (ready_eq v w) (r_eq_right v' d) = absurd (settled w d)
  at_top (ready_app v w) (r_app_left d) = absurd (settled v d)
  at_top (ready_app v w) (r_app_right v' d) = absurd (settled w d)
  at_top (ready_let v) (r_let d) = absurd (settled v d)
  at_top (ready_if v) (r_if d) = absurd (settled v d)

  -- Nor is it a value.
  unsettled : {t : Term} → Ready t → IsValue t → ⊥
  unsettled h num_value = elim h [ ]
  unsettled h v = elim h [ ]

  -- A ready node that no rule contracts is stuck.
  pub no_rule : {t : Term} → Ready t → ((u : Term) → Contraction 𝓜 t u → ⊥) → IsStuck 𝓜 t
  no_rule h f = (unsettled h, λ u d. f u (at_top h d))

  -- A node contracts to at most one term.
  unique_contraction : {t u u' : Term} → Contraction 𝓜 t u → Contraction 𝓜 t u' → u ≡ u'
  unique_contraction (c_binop e) (c_binop e') = cc
  unique_contraction (c_eq_num e) (c_eq_num e') = ap truth (sym e ∙ e')
  unique_contraction (c_eq_truth e) (c_eq_truth e') = ap truth (sym e ∙ e')
  unique_contraction (c_let v e) (c_let v' e') = sym e ∙ e'
  unique_contraction (c_app v e) (c_app v' e') = sym e ∙ e'
  unique_contraction (c_if e) (c_if e') = sym e ∙ e'

  -- Nor does a term that contracts at the top reduce to another.
  unique_at_top : {t u u' : Term} → Contraction 𝓜 t u → Reduces 𝓜 t u' → u ≡ u'
  unique_at_top c d = unique_contraction c (at_top (contraction_ready c) d)

  -- A term reduces to at most one.
  pub unique_reduct : {t u u' : Term} → Reduces 𝓜 t u → Reduces 𝓜 t u' → u ≡ u'
  unique_reduct (r_top c) d = unique_at_top c d
  unique_reduct (r_binop_left d) (r_top c) = sym (unique_at_top c (r_binop_left d))
  unique_reduct (r_binop_left {o = o} {r = r} d) (r_binop_left d') = ap (λ l. binop o l r) (unique_reduct d d')
  unique_reduct (r_binop_left d) (r_binop_right v d') = absurd (settled v d)
  unique_reduct (r_binop_right v d) (r_top c) = sym (unique_at_top c (r_binop_right v d))
  unique_reduct (r_binop_right v d) (r_binop_left d') = absurd (settled v d')
  unique_reduct (r_binop_right {o = o} {l = l} v d) (r_binop_right v' d') = ap (binop o l) (unique_reduct d d')
  unique_reduct (r_eq_left d) (r_top c) = sym (unique_at_top c (r_eq_left d))
  unique_reduct (r_eq_left {r = r} d) (r_eq_left d') = ap (λ l. eq l r) (unique_reduct d d')
  unique_reduct (r_eq_left d) (r_eq_right v d') = absurd (settled v d)
  unique_reduct (r_eq_right v d) (r_top c) = sym (unique_at_top c (r_eq_right v d))
  unique_reduct (r_eq_right v d) (r_eq_left d') = absurd (settled v d')
  unique_reduct (r_eq_right {l = l} v d) (r_eq_right v' d') = ap (eq l) (unique_reduct d d')
  unique_reduct (r_app_left d) (r_top c) = sym (unique_at_top c (r_app_left d))
  unique_reduct (r_app_left {a = a} d) (r_app_left d') = ap (λ f. app f a) (unique_reduct d d')
  unique_reduct (r_app_left d) (r_app_right v d') = absurd (settled v d)
  unique_reduct (r_app_right v d) (r_top c) = sym (unique_at_top c (r_app_right v d))
  unique_reduct (r_app_right v d) (r_app_left d') = absurd (settled v d')
  unique_reduct (r_app_right {f = f} v d) (r_app_right v' d') = ap (app f) (unique_reduct d d')
  unique_reduct (r_let d) (r_top c) = sym (unique_at_top c (r_let d))
  unique_reduct (r_let {x = x} {b = b} d) (r_let d') = ap (λ a. let_in x a b) (unique_reduct d d')
  unique_reduct (r_if d) (r_top c) = sym (unique_at_top c (r_if d))
  unique_reduct (r_if {t = t} {e = e} d) (r_if d') = ap (λ c. if_then c t e) (unique_reduct d d')

  -- Reduction is congruent, by its own rules.
  reduces_first : {i : Instruction} (j : Joins i) {l l' : Term} (r : Term) → Reduces 𝓜 l l' → Reduces 𝓜 (node j l r) (node j l' r)
  reduces_first joins_operate r d = r_binop_left d
  reduces_first joins_compare r d = r_eq_left d
  reduces_first joins_apply r d = r_app_left d

  reduces_second : {i : Instruction} (j : Joins i) {l r r' : Term} → IsValue l → Reduces 𝓜 r r' → Reduces 𝓜 (node j l r) (node j l r')
  reduces_second joins_operate v d = r_binop_right v d
  reduces_second joins_compare v d = r_eq_right v d
  reduces_second joins_apply v d = r_app_right v d

  pub reduces_congruent : Congruent (Reduces 𝓜)
  reduces_congruent = record { in_first = reduces_first; in_second = reduces_second; in_bound = r_let; in_condition = r_if }

  -- A node that has a stuck term where the next contraction is looked for is stuck.
  stuck_first : {i : Instruction} (j : Joins i) {l : Term} (r : Term) {u : Term} → IsStuck 𝓜 l → Reduces 𝓜 (node j l r) u → ⊥
  stuck_first joins_operate r s (r_top (c_binop e)) = s.0 num_value
  stuck_first joins_operate r s (r_binop_left d) = s.1 _ d
  stuck_first joins_operate r s (r_binop_right v d) = s.0 v
  stuck_first joins_compare r s (r_top (c_eq_num e)) = s.0 num_value
  stuck_first joins_compare r s (r_top (c_eq_truth e)) = s.0 truth_value
  stuck_first joins_compare r s (r_eq_left d) = s.1 _ d
  stuck_first joins_compare r s (r_eq_right v d) = s.0 v
  stuck_first joins_apply r s (r_top (c_app v e)) = s.0 lam_value
  stuck_first joins_apply r s (r_app_left d) = s.1 _ d
  stuck_first joins_apply r s (r_app_right v d) = s.0 v

  stuck_second : {i : Instruction} (j : Joins i) {l r u : Term} → IsValue l → IsStuck 𝓜 r → Reduces 𝓜 (node j l r) u → ⊥
  stuck_second joins_operate v s (r_top (c_binop e)) = s.0 num_value
  stuck_second joins_operate v s (r_binop_left d) = settled v d
  stuck_second joins_operate v s (r_binop_right v' d) = s.1 _ d
  stuck_second joins_compare v s (r_top (c_eq_num e)) = s.0 num_value
  stuck_second joins_compare v s (r_top (c_eq_truth e)) = s.0 truth_value
  stuck_second joins_compare v s (r_eq_left d) = settled v d
  stuck_second joins_compare v s (r_eq_right v' d) = s.1 _ d
  stuck_second joins_apply v s (r_top (c_app v' e)) = s.0 v'
  stuck_second joins_apply v s (r_app_left d) = settled v d
  stuck_second joins_apply v s (r_app_right v' d) = s.1 _ d

  stuck_bound : {x : ℕ} {a b u : Term} → IsStuck 𝓜 a → Reduces 𝓜 (let_in x a b) u → ⊥
  stuck_bound s (r_top (c_let v e)) = s.0 v
  stuck_bound s (r_let d) = s.1 _ d

  stuck_condition : {c t e u : Term} → IsStuck 𝓜 c → Reduces 𝓜 (if_then c t e) u → ⊥
  stuck_condition s (r_top (c_if e)) = s.0 truth_value
  stuck_condition s (r_if d) = s.1 _ d

  node_no_value : {i : Instruction} (j : Joins i) (l r : Term) → IsValue (node j l r) → ⊥
  node_no_value joins_operate l r v = elim v [ ]
  node_no_value j l r v = elim v [ ]

  pub stuck_congruent : Congruent (λ t t'. IsStuck 𝓜 t)
  stuck_congruent = record {
    in_first = λ j r s. (node_no_value j _ r, λ u d. stuck_first j r s d);
    in_second = λ j v s. (node_no_value j _ _, λ u d. stuck_second j v s d);
    in_bound = λ s. (λ v. elim v [ ], λ u d. stuck_bound s d);
    in_condition = λ s. (λ v. elim v [ ], λ u d. stuck_condition s d);
  }

pub at_most_one_reduction : AtMostOneReduction
at_most_one_reduction 𝓜 t = (λ u u' d d'. unique_reduct 𝓜 d d', λ v u d. settled 𝓜 v d)
