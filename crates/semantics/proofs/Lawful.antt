-- Steps keep numbers lawful.
use Rattle.std.proofs.Common.{◌≡◌, ℕ, zero, suc, ◌+◌, Bool, true, false, cond, eqb, List, [], ◌∷◌, length, drop, Some, None, Ok, Err, Option}
use Rattle.domain.specs.declared.Op.{Op}
use Rattle.domain.specs.Meaning.{Meaning, Answer, InOrder}
use Rattle.semantics.specs.declared.layout.Instruction.{Instruction}
use Rattle.semantics.specs.declared.layout.Instruction.TheVariants.{End, PushNum, PushTruth, Access, PushClosure, PushThunk, Operate, Compare, Bind, Unbind, Apply, Return, Choose}
use Rattle.semantics.specs.Terms.{Term, num, binop, eq, app, lam, let_in, if_then, size}
use Rattle.semantics.specs.Scope.{LawfulTerm}
use Rattle.semantics.specs.Evaluation.{Computed, gives_number, gives_boolean, gives_fault, answered, operated, compared}
use Rattle.semantics.specs.Translation.{emit, translate}
use Rattle.semantics.specs.Running.{goes, Bounds, Halt, with_none_left, with_one_left}
use Rattle.semantics.specs.StoredMachine.{Word, w_number, w_boolean, w_closure, Slot, s_val, s_thunk, s_return, StoreCell, in_front, StoredState, at_place, StoredNext, cell_at, front, behind, walk, sort_word, pop_slot, pop_slot_thunk, pop_slot_return, stored_push, stored_enter, stored_enter_branch, perform, stored_step, stored_no_room, input_cells, stored_start, stored_run}
use Rattle.semantics.specs.Lawful.{LawfulCode, LawfulWord, LawfulSlots, LawfulStore, LawfulState, LawfulNext, NumbersStayLawful, AllLawful, RunsHoldLawfulNumbers}

module _ (𝓜 : Meaning) where
  -- What is left of lawful code is lawful.
  drop-lawful : (n : ℕ) (k : List Instruction) → LawfulCode 𝓜 k → LawfulCode 𝓜 (drop n k)
  drop-lawful zero k h = h
  drop-lawful (suc n) [] h = tt
  drop-lawful (suc n) (i ∷ k) h = drop-lawful n k h.1

  -- What is fetched from a lawful store is lawful.
  cell_lawful : (σ : List StoreCell) (r : ℕ) → LawfulStore 𝓜 σ → LawfulWord 𝓜 (front (cell_at σ r))
  cell_lawful [] r h = tt
  cell_lawful (in_front w n ∷ σ) r h = go (eqb r (suc (length σ))) (cell_lawful σ r h.1)
    where
      go : (b : Bool) → LawfulWord 𝓜 (front (cell_at σ r)) → LawfulWord 𝓜 (front (cond b (in_front w n) (cell_at σ r)))
      go true ih = h.0
      go false ih = ih

  walk-lawful : (σ : List StoreCell) (i r : ℕ) → LawfulStore 𝓜 σ → LawfulWord 𝓜 (walk σ i r)
  walk-lawful σ zero r h = cell_lawful σ r h
  walk-lawful σ (suc i) r h = walk-lawful σ i (behind (cell_at σ r)) h

  -- What is popped off a lawful stack, and what is left of it, is lawful.
  pop-lawful : (s : List Slot) (f : Word → List Slot → StoredNext) → LawfulSlots 𝓜 s →
      ((w : Word) (s : List Slot) → LawfulWord 𝓜 w → LawfulSlots 𝓜 s → LawfulNext 𝓜 (f w s)) → LawfulNext 𝓜 (pop_slot s f)
  pop-lawful (s_val w ∷ s) f h next = next w s h.0 h.1
  pop-lawful s f h next = tt

  thunk-lawful : (s : List Slot) (f : ℕ → ℕ → List Slot → StoredNext) → LawfulSlots 𝓜 s →
      ((p e : ℕ) (s : List Slot) → LawfulSlots 𝓜 s → LawfulNext 𝓜 (f p e s)) → LawfulNext 𝓜 (pop_slot_thunk s f)
  thunk-lawful (s_thunk p e ∷ s) f h next = next p e s h.1
  thunk-lawful s f h next = tt

  return_lawful : (s : List Slot) (f : ℕ → ℕ → List Slot → StoredNext) → LawfulSlots 𝓜 s →
      ((p e : ℕ) (s : List Slot) → LawfulSlots 𝓜 s → LawfulNext 𝓜 (f p e s)) → LawfulNext 𝓜 (pop_slot_return s f)
  return_lawful (s_return p e ∷ s) f h next = next p e s h.1
  return_lawful s f h next = tt

  -- What an operation or a comparison of lawful values gives is lawful.
  abbrev LawfulComputed : Computed → Type 0
  LawfulComputed (gives_number c) = 𝓜.lawful c ≡ true
  LawfulComputed r = Unit {0}

  answer-lawful : (o : Op) (a b : ℕ) → 𝓜.lawful a ≡ true → 𝓜.lawful b ≡ true → LawfulComputed (answered (𝓜.table o a b))
  answer-lawful o a b ha hb = go (𝓜.table o a b) (𝓜.closed o a b ha hb)
    where
      go : (r : Answer) → InOrder 𝓜.lawful r → LawfulComputed (answered r)
      go (Ok c) h = h
      go (Err φ) h = tt

  operated-lawful : (o : Op) (v w : Word) → LawfulWord 𝓜 v → LawfulWord 𝓜 w → LawfulComputed (operated 𝓜 o (sort_word v) (sort_word w))
  operated-lawful o (w_number a) (w_number b) hv hw = answer-lawful o a b hv hw
  operated-lawful o v w hv hw = tt

  compared-lawful : (v w : Word) → LawfulComputed (compared 𝓜 (sort_word v) (sort_word w))
  compared-lawful (w_number a) (w_number b) = tt
  compared-lawful (w_boolean a) (w_boolean b) = tt
  compared-lawful v w = tt

  -- Pushing it, entering a body and entering a branch keep all lawful.
  push_lawful : (p : ℕ) (r : Computed) (q e : ℕ) (s : List Slot) (σ : List StoreCell) → LawfulComputed r → LawfulSlots 𝓜 s → LawfulStore 𝓜 σ →
      LawfulNext 𝓜 (stored_push p r q e s σ)
  push_lawful p (gives_number c) q e s σ h hs hc = ((h, hs), hc)
  push_lawful p (gives_boolean b) q e s σ h hs hc = ((tt, hs), hc)
  push_lawful p (gives_fault φ) q e s σ h hs hc = tt

  enter-lawful : (p : ℕ) (f w : Word) (q e : ℕ) (s : List Slot) (σ : List StoreCell) → LawfulWord 𝓜 w → LawfulSlots 𝓜 s → LawfulStore 𝓜 σ →
      LawfulNext 𝓜 (stored_enter p f w q e s σ)
  enter-lawful p (w_closure b e') w q e s σ hw hs hc = ((tt, hs), (hw, hc))
  enter-lawful p f w q e s σ hw hs hc = tt

  branch-lawful : (p : ℕ) (w : Word) (pt et pe ee q e : ℕ) (s : List Slot) (σ : List StoreCell) → LawfulSlots 𝓜 s → LawfulStore 𝓜 σ →
      LawfulNext 𝓜 (stored_enter_branch p w pt et pe ee q e s σ)
  branch-lawful p (w_boolean true) pt et pe ee q e s σ hs hc = ((tt, hs), hc)
  branch-lawful p (w_boolean false) pt et pe ee q e s σ hs hc = ((tt, hs), hc)
  branch-lawful p w pt et pe ee q e s σ hs hc = tt

  -- So does every instruction.
  perform-lawful : (k : List Instruction) (q e : ℕ) (s : List Slot) (σ : List StoreCell) → LawfulCode 𝓜 k → LawfulSlots 𝓜 s → LawfulStore 𝓜 σ →
      LawfulNext 𝓜 (perform 𝓜 k q e s σ)
  perform-lawful [] q e s σ hk hs hc = tt
  perform-lawful (End ∷ k) q e s σ hk hs hc = pop-lawful s _ hs (λ w s hw hs. hw)
  perform-lawful (PushNum c ∷ k) q e s σ hk hs hc = ((hk.0, hs), hc)
  perform-lawful (PushTruth b ∷ k) q e s σ hk hs hc = ((tt, hs), hc)
  perform-lawful (Access x i ∷ k) q e s σ hk hs hc = ((walk-lawful σ i e hc, hs), hc)
  perform-lawful (PushClosure x n ∷ k) q e s σ hk hs hc = ((tt, hs), hc)
  perform-lawful (PushThunk n ∷ k) q e s σ hk hs hc = ((tt, hs), hc)
  perform-lawful (Operate o p ∷ k) q e s σ hk hs hc =
      pop-lawful s _ hs (λ w s hw hs. pop-lawful s _ hs (λ v s hv hs. push_lawful p (operated 𝓜 o (sort_word v) (sort_word w)) (suc q) e s σ (operated-lawful o v w hv hw) hs hc))
  perform-lawful (Compare p ∷ k) q e s σ hk hs hc =
      pop-lawful s _ hs (λ w s hw hs. pop-lawful s _ hs (λ v s hv hs. push_lawful p (compared 𝓜 (sort_word v) (sort_word w)) (suc q) e s σ (compared-lawful v w) hs hc))
  perform-lawful (Bind x ∷ k) q e s σ hk hs hc = pop-lawful s _ hs (λ w s hw hs. (hs, (hw, hc)))
  perform-lawful (Unbind ∷ k) q e s σ hk hs hc = (hs, hc)
  perform-lawful (Apply p ∷ k) q e s σ hk hs hc =
      pop-lawful s _ hs (λ w s hw hs. pop-lawful s _ hs (λ f s hf hs. enter-lawful p f w (suc q) e s σ hw hs hc))
  perform-lawful (Return ∷ k) q e s σ hk hs hc = pop-lawful s _ hs (λ w s hw hs. return_lawful s _ hs (λ q' e' s hs. ((hw, hs), hc)))
  perform-lawful (Choose p ∷ k) q e s σ hk hs hc =
      pop-lawful s _ hs (λ w s hw hs. thunk-lawful s _ hs (λ pe ee s hs. thunk-lawful s _ hs (λ pt et s hs. branch-lawful p w pt et pe ee (suc q) e s σ hs hc)))

  -- The translation of a lawful term is lawful.
  emit-lawful : (p : ℕ) (t : Term) (k : List Instruction) → LawfulTerm 𝓜 t → LawfulCode 𝓜 k → LawfulCode 𝓜 (emit p t k)
  emit-lawful p (num c) k h hk = (h, hk)
  emit-lawful p (binop o l r) k h hk = emit-lawful (suc p) l _ h.0 (emit-lawful (suc p + size l) r _ h.1 (tt, hk))
  emit-lawful p (eq l r) k h hk = emit-lawful (suc p) l _ h.0 (emit-lawful (suc p + size l) r _ h.1 (tt, hk))
  emit-lawful p (app f a) k h hk = emit-lawful (suc p) f _ h.0 (emit-lawful (suc p + size f) a _ h.1 (tt, hk))
  emit-lawful p (lam x b) k h hk = (tt, emit-lawful (suc p) b _ h (tt, hk))
  emit-lawful p (let_in x a b) k h hk = emit-lawful (suc p) a _ h.0 (tt, emit-lawful (suc p + size a) b _ h.1 (tt, hk))
  emit-lawful p (if_then c t e) k h hk =
      (tt, emit-lawful (suc p + size c) t _ h.1 (tt, (tt, emit-lawful (suc p + size c + size t) e _ h.2 (tt, emit-lawful (suc p) c _ h.0 (tt, hk)))))
  emit-lawful p t k h hk = (tt, hk)

  -- Lawful inputs are stored as lawful cells.
  inputs_lawful : (cs : List ℕ) → AllLawful 𝓜 cs → LawfulStore 𝓜 (input_cells cs)
  inputs_lawful [] h = tt
  inputs_lawful (c ∷ cs) h = (h.0, inputs_lawful cs h.1)

  -- A step, and a run, keep all lawful.
  step-lawful : (C : List Instruction) (x : StoredState) → LawfulCode 𝓜 C → LawfulState 𝓜 x → LawfulNext 𝓜 (stored_step 𝓜 C x)
  step-lawful C (at_place q e s σ) hC (hs, hc) = perform-lawful (drop q C) q e s σ (drop-lawful q C hC) hs hc

  run-lawful : (L : Bounds) (C : List Instruction) → LawfulCode 𝓜 C → (g : ℕ) (x : StoredState) → LawfulState 𝓜 x →
      LawfulState 𝓜 (stored_run 𝓜 L C g x).state
  run-lawful L C hC zero x h = go (stored_step 𝓜 C x)
    where
      go : (y : StoredNext) → LawfulState 𝓜 (with_none_left x y).state
      go (goes z) = h
      go y = h
  run-lawful L C hC (suc g) x h = go (stored_no_room L C x) (stored_step 𝓜 C x) (step-lawful C x hC h) (run-lawful L C hC g)
    where
      go : (w : Option Halt) (y : StoredNext) → LawfulNext 𝓜 y → ((z : StoredState) → LawfulState 𝓜 z → LawfulState 𝓜 (stored_run 𝓜 L C g z).state) →
          LawfulState 𝓜 (with_one_left x w y (λ z. stored_run 𝓜 L C g z)).state
      go None (goes z) hz ih = ih z hz
      go (Some w) (goes z) hz ih = h
      go w y hz ih = h

pub numbers_stay_lawful : NumbersStayLawful
numbers_stay_lawful 𝓜 C x hC h = step-lawful 𝓜 C x hC h

pub runs_hold_lawful_numbers : RunsHoldLawfulNumbers
runs_hold_lawful_numbers 𝓜 L cs t g ht hi =
    run-lawful 𝓜 L (translate t) (emit-lawful 𝓜 0 t (End ∷ []) ht (tt, tt)) g (stored_start cs) (tt, inputs_lawful 𝓜 cs hi)
