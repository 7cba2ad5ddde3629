-- The stored machine and the other go in lock step.
use Rattle.std.proofs.Common.{◌≡◌, ℕ, zero, suc, ◌≤◌, Bool, true, false, cond, eqb, List, [], ◌∷◌, length, drop, sym, refl, ap, ◌∙◌, ap₂, add-one, arith}
use Rattle.std.proofs.lemmas.Bool.{eq-eqb, ne_eqb, eqb-false}
use Rattle.std.proofs.lemmas.List.{drop-drop}
use Rattle.domain.specs.Meaning.{Meaning}
use Rattle.semantics.specs.declared.layout.Instruction.{Instruction}
use Rattle.semantics.specs.declared.layout.Instruction.TheVariants.{End, PushNum, PushTruth, Access, PushClosure, PushThunk, Operate, Compare, Bind, Unbind, Apply, Return, Choose}
use Rattle.semantics.specs.Evaluation.{Sort, Computed, gives_number, gives_boolean, gives_fault, operated, compared}
use Rattle.semantics.specs.Machine.{Held, closure, HeldEnv, ∅, ◌◂◌, Cell, val, thunk, return_to, at, MachineNext, fetch, without_front, sort_held, pop, pop_thunk, pop_return, push_computed, enter, enter_branch, step}
use Rattle.semantics.specs.StoredMachine.{Word, w_number, w_boolean, w_closure, Slot, s_val, s_thunk, s_return, StoreCell, in_front, at_place, StoredNext, cell_at, front, behind, walk, sort_word, pop_slot, pop_slot_thunk, pop_slot_return, stored_push, stored_enter, stored_enter_branch, perform}
use Rattle.semantics.specs.StoredAgrees.{name_before, held_of, env_of, cell_of, cells_of, WordBelow, SlotBelow, SlotsBelow, StoreFalls, StandsFor, StepsInLockStep}

-- The place after an instruction.
drop_next : (q : ℕ) (C : List Instruction) {i : Instruction} {k : List Instruction} → drop q C ≡ i ∷ k → drop (suc q) C ≡ k
drop_next q C e = rw (← add-one, ← drop-drop 1 q C, e)

-- What a word stands for is of its sort.
pub sort_held_of : (C : List Instruction) (E : ℕ → HeldEnv) (w : Word) → sort_held (held_of C E w) ≡ sort_word w
sort_held_of C E (w_number c) = refl
sort_held_of C E (w_boolean b) = refl
sort_held_of C E (w_closure p e) = refl

module _ (C : List Instruction) where
  -- A cell more leaves what was stored before as it is.
  old_env : (c : StoreCell) (σ : List StoreCell) (r : ℕ) → r ≤ length σ → env_of C (c ∷ σ) r ≡ env_of C σ r
  old_env (in_front w n) σ r h = rw (ne_eqb r (suc (length σ)) (λ q. omega arith))

  old_word : (c : StoreCell) (σ : List StoreCell) (w : Word) → WordBelow (length σ) w → held_of C (env_of C (c ∷ σ)) w ≡ held_of C (env_of C σ) w
  old_word c σ (w_number i) h = refl
  old_word c σ (w_boolean b) h = refl
  old_word c σ (w_closure p e) h = ap (closure (name_before C p) (drop p C)) (old_env c σ e h)

  old_slot : (c : StoreCell) (σ : List StoreCell) (x : Slot) → SlotBelow (length σ) x → cell_of C (env_of C (c ∷ σ)) x ≡ cell_of C (env_of C σ) x
  old_slot c σ (s_val w) h = ap val (old_word c σ w h)
  old_slot c σ (s_thunk p e) h = ap (thunk (drop p C)) (old_env c σ e h)
  old_slot c σ (s_return p e) h = ap (return_to (drop p C)) (old_env c σ e h)

  old_slots : (c : StoreCell) (σ : List StoreCell) (s : List Slot) → SlotsBelow (length σ) s →
      cells_of C (env_of C (c ∷ σ)) s ≡ cells_of C (env_of C σ) s
  old_slots c σ [] h = refl
  old_slots c σ (x ∷ s) h = ap₂ ◌∷◌ (old_slot c σ x h.0) (old_slots c σ s h.1)

  -- A new cell is the front of its environment.
  pub new_cell : (w : Word) (n : ℕ) (σ : List StoreCell) → env_of C (in_front w n ∷ σ) (suc (length σ)) ≡ held_of C (env_of C σ) w ◂ env_of C σ n
  new_cell w n σ = rw (eq-eqb (suc (length σ)) (suc (length σ)) refl)

  -- References that point below m point below any number from m on.
  word_below_more : (m n : ℕ) (w : Word) → m ≤ n → WordBelow m w → WordBelow n w
  word_below_more m n (w_number c) l h = tt
  word_below_more m n (w_boolean b) l h = tt
  word_below_more m n (w_closure p e) l h = omega arith

  slot_below_more : (m n : ℕ) (x : Slot) → m ≤ n → SlotBelow m x → SlotBelow n x
  slot_below_more m n (s_val w) l h = word_below_more m n w l h
  slot_below_more m n (s_thunk p e) l h = omega arith
  slot_below_more m n (s_return p e) l h = omega arith

  slots_below_more : (m n : ℕ) (s : List Slot) → m ≤ n → SlotsBelow m s → SlotsBelow n s
  slots_below_more m n [] l h = tt
  slots_below_more m n (x ∷ s) l h = (slot_below_more m n x l h.0, slots_below_more m n s l h.1)

  -- What the front cell of an environment holds.
  abbrev FrontCell : List StoreCell → StoreCell → HeldEnv → Type 0
  FrontCell σ c ρ =
      (WordBelow (length σ) (front c)) × (behind c ≤ length σ) × (fetch ρ 0 ≡ held_of C (env_of C σ) (front c)) × (without_front ρ ≡ env_of C σ (behind c))

  -- It is so still when there is a cell more.
  front_cell_older : (c : StoreCell) (σ : List StoreCell) (d : StoreCell) (ρ : HeldEnv) → FrontCell σ d ρ → FrontCell (c ∷ σ) d ρ
  front_cell_older c σ d ρ (ok, le, f, b) =
      (word_below_more (length σ) (suc (length σ)) (front d) (omega arith) ok, omega arith, f ∙ sym (old_word c σ (front d) ok), b ∙ sym (old_env c σ (behind d) le))

  -- It is so of every environment in the store.
  front_cell : (σ : List StoreCell) (r : ℕ) → StoreFalls σ → r ≤ length σ → FrontCell σ (cell_at σ r) (env_of C σ r)
  front_cell [] r h l = (tt, omega arith, refl, refl)
  front_cell (in_front w n ∷ σ) r h l = go (eqb r (suc (length σ))) refl (λ le. front_cell σ r h.2 le)
    where
      go : (b : Bool) → eqb r (suc (length σ)) ≡ b → (r ≤ length σ → FrontCell σ (cell_at σ r) (env_of C σ r)) →
          FrontCell (in_front w n ∷ σ) (cond b (in_front w n) (cell_at σ r)) (cond b (held_of C (env_of C σ) w ◂ env_of C σ n) (env_of C σ r))
      go true ne ih = front_cell_older (in_front w n) σ (in_front w n) (held_of C (env_of C σ) w ◂ env_of C σ n) (h.0, h.1, refl, refl)
      go false ne ih =
          let apart : r ≡ suc (length σ) → ⊥ = eqb-false r (suc (length σ)) ne in
          front_cell_older (in_front w n) σ (cell_at σ r) (env_of C σ r) (ih (omega arith))

  fetch_past : (ρ : HeldEnv) (i : ℕ) → fetch ρ (suc i) ≡ fetch (without_front ρ) i
  fetch_past ∅ i = refl
  fetch_past (h ◂ ρ) i = refl

  -- To walk the store is to fetch from the environment.
  walk_fetches : (σ : List StoreCell) → StoreFalls σ → (i r : ℕ) → r ≤ length σ →
      (WordBelow (length σ) (walk σ i r)) × (fetch (env_of C σ r) i ≡ held_of C (env_of C σ) (walk σ i r))
  walk_fetches σ h zero r l = let (ok, le, f, b) = front_cell σ r h l in (ok, f)
  walk_fetches σ h (suc i) r l =
      let (ok, le, f, b) = front_cell σ r h l in
      let (ok', f') = walk_fetches σ h i (behind (cell_at σ r)) le in
      (ok', fetch_past (env_of C σ r) i ∙ ap (λ ρ. fetch ρ i) b ∙ f')

  -- Pops agree.
  pops : (σ : List StoreCell) (s : List Slot) (f : Word → List Slot → StoredNext) (g : Held → List Cell → MachineNext) → SlotsBelow (length σ) s →
      ((w : Word) (s : List Slot) → WordBelow (length σ) w → SlotsBelow (length σ) s → StandsFor C (f w s) (g (held_of C (env_of C σ) w) (cells_of C (env_of C σ) s))) →
      StandsFor C (pop_slot s f) (pop (cells_of C (env_of C σ) s) g)
  pops σ (s_val w ∷ s) f g h next = next w s h.0 h.1
  pops σ s f g h next = refl

  pops_thunk : (σ : List StoreCell) (s : List Slot) (f : ℕ → ℕ → List Slot → StoredNext) (g : List Instruction → HeldEnv → List Cell → MachineNext) →
      SlotsBelow (length σ) s →
      ((p e : ℕ) (s : List Slot) → e ≤ length σ → SlotsBelow (length σ) s → StandsFor C (f p e s) (g (drop p C) (env_of C σ e) (cells_of C (env_of C σ) s))) →
      StandsFor C (pop_slot_thunk s f) (pop_thunk (cells_of C (env_of C σ) s) g)
  pops_thunk σ (s_thunk p e ∷ s) f g h next = next p e s h.0 h.1
  pops_thunk σ s f g h next = refl

  pops_return : (σ : List StoreCell) (s : List Slot) (f : ℕ → ℕ → List Slot → StoredNext) (g : List Instruction → HeldEnv → List Cell → MachineNext) →
      SlotsBelow (length σ) s →
      ((p e : ℕ) (s : List Slot) → e ≤ length σ → SlotsBelow (length σ) s → StandsFor C (f p e s) (g (drop p C) (env_of C σ e) (cells_of C (env_of C σ) s))) →
      StandsFor C (pop_slot_return s f) (pop_return (cells_of C (env_of C σ) s) g)
  pops_return σ (s_return p e ∷ s) f g h next = next p e s h.0 h.1
  pops_return σ s f g h next = refl

  -- Pushes agree.
  pushes : (p : ℕ) (r : Computed) (q e : ℕ) (s : List Slot) (σ : List StoreCell) (k : List Instruction) → drop (suc q) C ≡ k → e ≤ length σ →
      SlotsBelow (length σ) s → StoreFalls σ →
      StandsFor C (stored_push p r (suc q) e s σ) (push_computed p r k (env_of C σ e) (cells_of C (env_of C σ) s) (length σ))
  pushes p (gives_number c) q e s σ k is le ok so = (rw is, (le, (tt, ok), so))
  pushes p (gives_boolean b) q e s σ k is le ok so = (rw is, (le, (tt, ok), so))
  pushes p (gives_fault φ) q e s σ k is le ok so = refl

  module _ (𝓜 : Meaning) (q e : ℕ) (s : List Slot) (σ : List StoreCell) (le : e ≤ length σ) (ok : SlotsBelow (length σ) s) (so : StoreFalls σ) where
    -- Entering a body agrees, and so does entering a branch.
    enters : (p : ℕ) (f w : Word) (s : List Slot) (k : List Instruction) → drop (suc q) C ≡ k → WordBelow (length σ) f → WordBelow (length σ) w →
        SlotsBelow (length σ) s →
        StandsFor C (stored_enter p f w (suc q) e s σ) (enter p (held_of C (env_of C σ) f) (held_of C (env_of C σ) w) k (env_of C σ e) (cells_of C (env_of C σ) s) (length σ))
    enters p (w_number c) w s k is hf hw hs = refl
    enters p (w_boolean b) w s k is hf hw hs = refl
    enters p (w_closure b e') w s k is hf hw hs = (
      rw (new_cell w e' σ, is, old_env (in_front w e') σ e le, old_slots (in_front w e') σ s hs),
      (omega arith, (omega arith, slots_below_more (length σ) (suc (length σ)) s (omega arith) hs), (hw, hf, so)),
    )

    enters_branch : (p : ℕ) (w : Word) (pt et pe ee : ℕ) (s : List Slot) (k : List Instruction) → drop (suc q) C ≡ k → et ≤ length σ → ee ≤ length σ →
        SlotsBelow (length σ) s →
        StandsFor C (stored_enter_branch p w pt et pe ee (suc q) e s σ)
        (enter_branch p (held_of C (env_of C σ) w) (drop pt C) (env_of C σ et) (drop pe C) (env_of C σ ee) k (env_of C σ e) (cells_of C (env_of C σ) s) (length σ))
    enters_branch p (w_number c) pt et pe ee s k is lt lo hs = refl
    enters_branch p (w_boolean true) pt et pe ee s k is lt lo hs = (rw is, (lt, (le, hs), so))
    enters_branch p (w_boolean false) pt et pe ee s k is lt lo hs = (rw is, (lo, (le, hs), so))
    enters_branch p (w_closure b e') pt et pe ee s k is lt lo hs = refl

    -- What is computed of two values agrees.
    computes : (f : Sort → Sort → Computed) (p : ℕ) (k : List Instruction) → drop (suc q) C ≡ k →
        StandsFor C (pop_slot s (λ w s. pop_slot s (λ v s. stored_push p (f (sort_word v) (sort_word w)) (suc q) e s σ)))
        (pop (cells_of C (env_of C σ) s) (λ w s. pop s (λ v s. push_computed p (f (sort_held v) (sort_held w)) k (env_of C σ e) s (length σ))))
    computes f p k is =
        pops σ s _ _ ok (λ w s hw hs. pops σ s _ _ hs (λ v s hv hs.
        rw (sort_held_of C (env_of C σ) v, sort_held_of C (env_of C σ) w) (pushes p (f (sort_word v) (sort_word w)) q e s σ k is le hs so)))

    -- Every instruction agrees.
    performs : (k : List Instruction) → drop q C ≡ k →
        StandsFor C (perform 𝓜 k q e s σ) (step 𝓜 (at k (env_of C σ e) (cells_of C (env_of C σ) s) (length σ)))
    performs [] is = refl
    performs (End ∷ k) is = pops σ s _ _ ok (λ w s hw hs. refl)
    performs (PushNum c ∷ k) is = (rw (drop_next q C is), (le, (tt, ok), so))
    performs (PushTruth b ∷ k) is = (rw (drop_next q C is), (le, (tt, ok), so))
    performs (Access x i ∷ k) is =
        let (hw, f) = walk_fetches σ so i e le in
        (rw (drop_next q C is, f), (le, (hw, ok), so))
    performs (PushClosure x n ∷ k) is = (rw (← drop-drop n (suc q) C, drop_next q C is, is), (le, (le, ok), so))
    performs (PushThunk n ∷ k) is = (rw (← drop-drop n (suc q) C, drop_next q C is), (le, (le, ok), so))
    performs (Operate o p ∷ k) is = computes (operated 𝓜 o) p k (drop_next q C is)
    performs (Compare p ∷ k) is = computes (compared 𝓜) p k (drop_next q C is)
    performs (Bind x ∷ k) is =
        pops σ s _ _ ok (λ w s hw hs. (
          rw (drop_next q C is, new_cell w e σ, old_slots (in_front w e) σ s hs),
          (omega arith, slots_below_more (length σ) (suc (length σ)) s (omega arith) hs, (hw, le, so)),
        ))
    performs (Unbind ∷ k) is =
        let (hw, l, f, b) = front_cell σ e so le in
        (rw (drop_next q C is, b), (l, ok, so))
    performs (Apply p ∷ k) is = pops σ s _ _ ok (λ w s hw hs. pops σ s _ _ hs (λ f s hf hs. enters p f w s k (drop_next q C is) hf hw hs))
    performs (Return ∷ k) is = pops σ s _ _ ok (λ w s hw hs. pops_return σ s _ _ hs (λ q' e' s le' hs. (refl, (le', (hw, hs), so))))
    performs (Choose p ∷ k) is =
        pops σ s _ _ ok (λ w s hw hs. pops_thunk σ s _ _ hs (λ pe ee s lo hs. pops_thunk σ s _ _ hs (λ pt et s lt hs. enters_branch p w pt et pe ee s k (drop_next q C is) lt lo hs)))

pub steps_in_lock_step : StepsInLockStep
steps_in_lock_step 𝓜 C (at_place q e s σ) (le, ok, so) = performs C 𝓜 q e s σ le ok so (drop q C) refl
