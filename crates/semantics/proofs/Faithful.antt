-- Every state of a run shows what comes to the term's outcomes.
use Rattle.std.proofs.Common.{◌≡◌, ℕ, ◌↔◌, List, sym}
use Rattle.domain.specs.Meaning.{Meaning}
use Rattle.semantics.specs.Terms.{Term}
use Rattle.semantics.specs.Values.{ε, input_env}
use Rattle.semantics.specs.Substitution.{close, Observation}
use Rattle.semantics.specs.Machine.{State, start, Steps}
use Rattle.semantics.specs.Showing.{show}
use Rattle.semantics.specs.Faithful.{ComesTo, EveryStateShowsFaithfully, EveryStopShowsFaithfully}
use Rattle.semantics.specs.Reduction.{Reductions, r_here, r_more}
use Rattle.semantics.proofs.Substitution.{close-close}
use Rattle.semantics.proofs.Room.{run_stops_at_a_step}
use Rattle.semantics.proofs.Congruence.{◌≈◌, alike, ⊑_refl}
use Rattle.semantics.proofs.Contraction.{NoInputs, reduction_keeps}
use Rattle.semantics.proofs.ReductionSequence.{shown_reduct}

module _ (𝓜 : Meaning) where
  -- Contractions, one after another, keep what a term with no inputs comes to.
  reductions_keep : {k : ℕ} {t u : Term} → Reductions 𝓜 k t u → NoInputs t → ◌≈◌ 𝓜 t u
  reductions_keep (r_here {t = t}) h = (⊑_refl 𝓜 t, ⊑_refl 𝓜 t)
  reductions_keep (r_more d r) h = let (h', s) = reduction_keeps 𝓜 d h in like_trans s (reductions_keep r h')
    where
      like_trans : {A B C : Term} → ◌≈◌ 𝓜 A B → ◌≈◌ 𝓜 B C → ◌≈◌ 𝓜 A C
      like_trans (f, f') (g, g') =
          (λ w p n h p'. let (i, m) = f w p n h 0 in g w 0 i m p', λ w p n h p'. let (i, m) = g' w p n h 0 in f' w 0 i m p')

  -- The term on its inputs comes to what it comes to with them filled in, and to what its reducts come to.
  faithful : (cs : List ℕ) (t : Term) {n : ℕ} {s : State} → Steps 𝓜 n (start t cs) s → (w : Observation) →
      ComesTo 𝓜 (input_env cs) t w ↔ ComesTo 𝓜 ε (show s) w
  faithful cs t {s = s} d w = (there, back_again)
    where
      filled : close (input_env cs) t ≡ close ε (close (input_env cs) t)
      filled = close-close (input_env cs) t

      like : ◌≈◌ 𝓜 (close (input_env cs) t) (show s)
      like = reductions_keep (shown_reduct 𝓜 cs t d) (sym filled)

      there : ComesTo 𝓜 (input_env cs) t w → ComesTo 𝓜 ε (show s) w
      there (o, n, e, q) = let (n', (o', e', q')) = like.0 w 0 n (alike 𝓜 t _ filled (o, e, q) 0) 0 in (o', n', e', q')

      back_again : ComesTo 𝓜 ε (show s) w → ComesTo 𝓜 (input_env cs) t w
      back_again (o, n, e, q) =
          let (n', h) = like.1 w 0 n (o, e, q) 0 in
          let (o', e', q') = alike 𝓜 _ t (sym filled) h 0 in (o', n', e', q')

pub every_state_shows_faithfully : EveryStateShowsFaithfully
every_state_shows_faithfully 𝓜 cs t n s d w = faithful 𝓜 cs t d w

pub every_stop_shows_faithfully : EveryStopShowsFaithfully
every_stop_shows_faithfully 𝓜 L cs t g w = faithful 𝓜 cs t (run_stops_at_a_step 𝓜 L g (start t cs)).1 w
