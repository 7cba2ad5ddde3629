-- There is one verdict on a run, and the run stands so.
use Rattle.std.proofs.Common.{◌≡◌, ℕ, ◌≤◌, ◌↔◌, List, Some, None, Option, sym, refl, ap, ◌∙◌, subst, ap₂, subst₂, arith}
use native.Mathlib.Decide.{dec_le}
use Rattle.domain.specs.Meaning.{Meaning}
use Rattle.semantics.specs.Terms.{Term}
use Rattle.semantics.specs.Substitution.{reify}
use Rattle.semantics.specs.Running.{Bounds, Halt, Status, ended, failed, halted}
use Rattle.semantics.specs.Machine.{State, no_room, start, Steps}
use Rattle.semantics.specs.Agreement.{RoomFor, Verdict, is_ended, is_failed, is_halted, is_running, RunAgrees}
use Rattle.semantics.proofs.OneOutcome.{unique}
use Rattle.semantics.proofs.Room.{steps_lead_to_one}
use Rattle.semantics.proofs.Agreement.{verdict_on_run}

module _ (𝓜 : Meaning) (L : Bounds) (cs : List ℕ) (t : Term) (g : ℕ) where
  -- A step without room comes after all those that have it.
  room_until : {n n' : ℕ} {s : State} {w : Halt} → RoomFor 𝓜 L (start t cs) n → Steps 𝓜 n' (start t cs) s → no_room L s ≡ Some w → n ≤ n'
  room_until {n = n} {n' = n'} {s = s} R d h = go (dec_le n n')
    where
      go : Dec (n ≤ n') → n ≤ n'
      go (yes le) = le
      go (no gt) = let e : no_room L s ≡ None = R n' s (omega arith) d in cc

  -- A run halts once.
  one_halt : {n n' : ℕ} {s s' : State} {w w' : Halt} → RoomFor 𝓜 L (start t cs) n → Steps 𝓜 n (start t cs) s → no_room L s ≡ Some w →
      RoomFor 𝓜 L (start t cs) n' → Steps 𝓜 n' (start t cs) s' → no_room L s' ≡ Some w' → (w ≡ w') × (n ≡ n')
  one_halt {n = n} {n' = n'} {s = s} {s' = s'} {w = w} {w' = w'} R d h R' d' h' =
      let l : n ≤ n' = room_until R d' h' in
      let l' : n' ≤ n = room_until R' d h in
      let e : n ≡ n' = omega arith in
      let q : s ≡ s' = steps_lead_to_one 𝓜 (subst (λ i. Steps 𝓜 i (start t cs) s) e d) d' in
      let f : Some w ≡ Some w' = sym h ∙ ap (no_room L) q ∙ h' in
      (off_some f, e)
    where
      off_some : {a b : Halt} → ◌≡◌ {A = Option Halt} (Some a) (Some b) → a ≡ b
      off_some e = cc

  -- There is one verdict on a run.
  one_verdict : {x x' : Status Term} {n n' : ℕ} → Verdict 𝓜 L cs t g x n → Verdict 𝓜 L cs t g x' n' → (x ≡ x') × (n ≡ n')
  one_verdict (is_ended {v = v} e l R) (is_ended {v = v'} e' l' R') =
      let (q, m) = unique 𝓜 e e' in let qv : v ≡ v' = cc in (ap (λ v. ended (reify v)) qv, m)
  one_verdict (is_ended e l R) (is_failed e' l' R') = let q = (unique 𝓜 e e').0 in cc
  one_verdict (is_ended e l R) (is_halted l' d h R' no-outcome) = let i = no-outcome _ _ e in let j = room_until R d h in absurd (omega arith)
  one_verdict (is_ended e l R) (is_running no-outcome R') = let i = no-outcome _ _ e in absurd (omega arith)
  one_verdict (is_failed e l R) (is_ended e' l' R') = let q = (unique 𝓜 e e').0 in cc
  one_verdict (is_failed {φ = φ} {p = p} e l R) (is_failed {φ = φ'} {p = p'} e' l' R') =
      let (q, m) = unique 𝓜 e e' in let qf : φ ≡ φ' = cc in let qp : p ≡ p' = cc in (ap₂ failed qf qp, m)
  one_verdict (is_failed e l R) (is_halted l' d h R' no-outcome) = let i = no-outcome _ _ e in let j = room_until R d h in absurd (omega arith)
  one_verdict (is_failed e l R) (is_running no-outcome R') = let i = no-outcome _ _ e in absurd (omega arith)
  one_verdict (is_halted l d h R no-outcome) (is_ended e' l' R') = let i = no-outcome _ _ e' in let j = room_until R' d h in absurd (omega arith)
  one_verdict (is_halted l d h R no-outcome) (is_failed e' l' R') = let i = no-outcome _ _ e' in let j = room_until R' d h in absurd (omega arith)
  one_verdict (is_halted l d h R no-outcome) (is_halted l' d' h' R' no-outcome') = let (q, m) = one_halt R d h R' d' h' in (ap halted q, m)
  one_verdict (is_halted l d h R no-outcome) (is_running no-outcome' R') = let j = room_until R' d h in absurd (omega arith)
  one_verdict (is_running no-outcome R) (is_ended e' l' R') = let i = no-outcome _ _ e' in absurd (omega arith)
  one_verdict (is_running no-outcome R) (is_failed e' l' R') = let i = no-outcome _ _ e' in absurd (omega arith)
  one_verdict (is_running no-outcome R) (is_halted l' d h R' no-outcome') = let j = room_until R d h in absurd (omega arith)
  one_verdict (is_running no-outcome R) (is_running no-outcome' R') = (refl, refl)

  -- What stands as the verdict says stands so exactly.
  pub exactly : {x₀ : Status Term} {n₀ : ℕ} → Verdict 𝓜 L cs t g x₀ n₀ → (x : Status Term) (n : ℕ) → ((x₀ ≡ x) × (n₀ ≡ n)) ↔ Verdict 𝓜 L cs t g x n
  exactly V x n = (λ q. subst₂ (Verdict 𝓜 L cs t g) q.0 q.1 V, λ V'. one_verdict V V')

pub run_agrees : RunAgrees
run_agrees 𝓜 L cs t g x n = exactly 𝓜 L cs t g (verdict_on_run 𝓜 L cs t g) x n
