-- Runs of any machine: where they stop, and how grants add up.
use Rattle.std.proofs.Common.{◌≡◌, ℕ, zero, suc, ◌+◌, Bool, true, false, Some, None, Option, refl, ap, ◌∙◌, arith}
use Rattle.domain.specs.declared.Fault.{Fault}
use Rattle.semantics.specs.Running.{Next, goes, ends, faults, stuck, Halt, Status, running, ended, failed, broken, Report, reports, one_unit_more, with_none_left, with_one_left, run}

-- A step that is taken or faults.
abbrev pub busy : {S V : Type 0} → Next S V → Bool
busy (goes s) = true
busy (faults φ p) = true
busy x = false

-- A report with n units more spent.
abbrev pub plus : {S V : Type 0} → ℕ → Report S V → Report S V
plus n r = reports r.status (n + r.spent) r.state

module _ {S V : Type 0} where
  pub same_report : (x : Status V) {m n : ℕ} (s : S) → m ≡ n → ◌≡◌ {A = Report S V} (reports x m s) (reports x n s)
  same_report x s e = ap (λ i. reports x i s) e

  pub plus_none : (r : Report S V) → r ≡ plus 0 r
  plus_none r = let e : r.spent ≡ 0 + r.spent = omega arith in same_report r.status r.state e

  pub plus-more : (n : ℕ) (r : Report S V) → one_unit_more (plus n r) ≡ plus (suc n) r
  plus-more n r = let e : suc (n + r.spent) ≡ suc n + r.spent = omega arith in same_report r.status r.state e

module _ {S V : Type 0} (step : S → Next S V) (halts : S → Option Halt) where
  -- What a run comes to that stands before the end, a fault, a step, or nothing.
  pub run_ends : (s : S) (v : V) → step s ≡ ends v → (g : ℕ) → run step halts g s ≡ reports (ended v) 0 s
  run_ends s v q zero = ap (with_none_left s) q
  run_ends s v q (suc g) = ap (λ x. with_one_left s (halts s) x (λ s. run step halts g s)) q

  pub run-faults : (s : S) (φ : Fault) (p : ℕ) → step s ≡ faults φ p → (g : ℕ) → run step halts (suc g) s ≡ reports (failed φ p) 1 s
  run-faults s φ p q g = ap (λ x. with_one_left s (halts s) x (λ s. run step halts g s)) q

  run-stuck : (s : S) → step s ≡ stuck → (g : ℕ) → run step halts g s ≡ reports broken 0 s
  run-stuck s q zero = ap (with_none_left s) q
  run-stuck s q (suc g) = ap (λ x. with_one_left s (halts s) x (λ s. run step halts g s)) q

  pub run-busy : (s : S) → busy (step s) ≡ true → run step halts 0 s ≡ reports running 0 s
  run-busy s = go (step s)
    where
      go : (x : Next S V) → busy x ≡ true → with_none_left s x ≡ reports running 0 s
      go (goes s') b = refl
      go x b = cc

  -- A grant in two parts.
  pub grants_add_up : (s : S) (g g' : ℕ) → (run step halts g s).status ≡ running →
      run step halts (g + g') s ≡ plus g (run step halts g' (run step halts g s).state)
  grants_add_up s zero g' is = let e : 0 + g' ≡ g' = omega arith in ap (λ i. run step halts i s) e ∙ go (step s) is
    where
      go : (x : Next S V) → (with_none_left s x).status ≡ running → run step halts g' s ≡ plus 0 (run step halts g' (with_none_left s x).state)
      go (goes s') q = plus_none _
      go (faults φ p) q = plus_none _
      go x q = cc
  grants_add_up s (suc g) g' is =
      let e : suc g + g' ≡ suc (g + g') = omega arith in ap (λ i. run step halts i s) e ∙ go (halts s) (step s) is (λ s. grants_add_up s g g')
    where
      go : (w : Option Halt) (x : Next S V) → (with_one_left s w x (λ s. run step halts g s)).status ≡ running →
          ((s : S) → (run step halts g s).status ≡ running → run step halts (g + g') s ≡ plus g (run step halts g' (run step halts g s).state)) →
          with_one_left s w x (λ s. run step halts (g + g') s) ≡ plus (suc g) (run step halts g' (with_one_left s w x (λ s. run step halts g s)).state)
      go None (goes s') q ih = ap one_unit_more (ih s' q) ∙ plus-more g _
      go (Some w) (goes s') q ih = cc
      go w x q ih = cc

  -- A run at rest stays.
  pub run_at_rest_stays : (s : S) (g g' : ℕ) → ((run step halts g s).status ≡ running → ⊥) → run step halts (g + g') s ≡ run step halts g s
  run_at_rest_stays s zero g' ne = let e : 0 + g' ≡ g' = omega arith in ap (λ i. run step halts i s) e ∙ go (step s) refl ne
    where
      go : (x : Next S V) → step s ≡ x → ((with_none_left s x).status ≡ running → ⊥) → run step halts g' s ≡ with_none_left s x
      go (ends v) q ne = run_ends s v q g'
      go stuck q ne = run-stuck s q g'
      go x q ne = absurd (ne refl)
  run_at_rest_stays s (suc g) g' ne =
      let e : suc g + g' ≡ suc (g + g') = omega arith in ap (λ i. run step halts i s) e ∙ go (halts s) (step s) ne (λ s. run_at_rest_stays s g g')
    where
      go : (w : Option Halt) (x : Next S V) → ((with_one_left s w x (λ s. run step halts g s)).status ≡ running → ⊥) →
          ((s : S) → ((run step halts g s).status ≡ running → ⊥) → run step halts (g + g') s ≡ run step halts g s) →
          with_one_left s w x (λ s. run step halts (g + g') s) ≡ with_one_left s w x (λ s. run step halts g s)
      go None (goes s') ne ih = ap one_unit_more (ih s' ne)
      go (Some w) (goes s') ne ih = refl
      go w x ne ih = refl
