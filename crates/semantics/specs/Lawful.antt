-- What is claimed of the numbers that the stored machine holds: they stay lawful.
use Rattle.std.specs.Prelude.{◌≡◌, ℕ, true, List, [], ◌∷◌}
use Rattle.domain.specs.Meaning.{Meaning}
use Rattle.semantics.specs.declared.layout.Instruction.{Instruction}
use Rattle.semantics.specs.declared.layout.Instruction.TheVariants.{End, PushNum, PushTruth, Access, PushClosure, PushThunk, Operate, Compare, Bind, Unbind, Apply, Return, Choose}
use Rattle.semantics.specs.Terms.{Term}
use Rattle.semantics.specs.Scope.{LawfulTerm}
use Rattle.semantics.specs.Translation.{translate}
use Rattle.semantics.specs.Running.{goes, ends, faults, stuck, Bounds}
use Rattle.semantics.specs.StoredMachine.{Word, w_number, w_boolean, w_closure, Slot, s_val, s_thunk, s_return, StoreCell, in_front, StoredState, at_place, StoredNext, stored_step, stored_start, stored_run}

-- Every number in an instruction, in code, in what the stored machine holds.
abbrev pub LawfulInstruction : Meaning → Instruction → Type 0
LawfulInstruction 𝓜 End = Unit {0}
LawfulInstruction 𝓜 (PushNum c) = 𝓜.lawful c ≡ true
LawfulInstruction 𝓜 (PushTruth b) = Unit {0}
LawfulInstruction 𝓜 (Access x i) = Unit {0}
LawfulInstruction 𝓜 (PushClosure x n) = Unit {0}
LawfulInstruction 𝓜 (PushThunk n) = Unit {0}
LawfulInstruction 𝓜 (Operate o p) = Unit {0}
LawfulInstruction 𝓜 (Compare p) = Unit {0}
LawfulInstruction 𝓜 (Bind x) = Unit {0}
LawfulInstruction 𝓜 Unbind = Unit {0}
LawfulInstruction 𝓜 (Apply p) = Unit {0}
LawfulInstruction 𝓜 Return = Unit {0}
LawfulInstruction 𝓜 (Choose p) = Unit {0}

abbrev pub LawfulCode : Meaning → List Instruction → Type 0
LawfulCode 𝓜 [] = Unit {0}
LawfulCode 𝓜 (i ∷ k) = LawfulInstruction 𝓜 i × LawfulCode 𝓜 k

abbrev pub LawfulWord : Meaning → Word → Type 0
LawfulWord 𝓜 (w_number c) = 𝓜.lawful c ≡ true
LawfulWord 𝓜 (w_boolean b) = Unit {0}
LawfulWord 𝓜 (w_closure p e) = Unit {0}

abbrev pub LawfulSlot : Meaning → Slot → Type 0
LawfulSlot 𝓜 (s_val w) = LawfulWord 𝓜 w
LawfulSlot 𝓜 (s_thunk p e) = Unit {0}
LawfulSlot 𝓜 (s_return p e) = Unit {0}

abbrev pub LawfulSlots : Meaning → List Slot → Type 0
LawfulSlots 𝓜 [] = Unit {0}
LawfulSlots 𝓜 (x ∷ s) = LawfulSlot 𝓜 x × LawfulSlots 𝓜 s

abbrev pub LawfulStore : Meaning → List StoreCell → Type 0
LawfulStore 𝓜 [] = Unit {0}
LawfulStore 𝓜 (in_front w e ∷ σ) = LawfulWord 𝓜 w × LawfulStore 𝓜 σ

abbrev pub LawfulState : Meaning → StoredState → Type 0
LawfulState 𝓜 (at_place q e s σ) = LawfulSlots 𝓜 s × LawfulStore 𝓜 σ

abbrev pub LawfulNext : Meaning → StoredNext → Type 0
LawfulNext 𝓜 (goes x) = LawfulState 𝓜 x
LawfulNext 𝓜 (ends w) = LawfulWord 𝓜 w.0
LawfulNext 𝓜 (faults φ p) = Unit {0}
LawfulNext 𝓜 stuck = Unit {0}

-- A step keeps every number lawful: so the domain is asked of lawful codes alone.
abbrev pub NumbersStayLawful : Type 0
NumbersStayLawful = (𝓜 : Meaning) (C : List Instruction) (x : StoredState) → LawfulCode 𝓜 C → LawfulState 𝓜 x → LawfulNext 𝓜 (stored_step 𝓜 C x)

abbrev pub AllLawful : Meaning → List ℕ → Type 0
AllLawful 𝓜 [] = Unit {0}
AllLawful 𝓜 (c ∷ cs) = (𝓜.lawful c ≡ true) × AllLawful 𝓜 cs

-- Wherever a run of a lawful term on lawful inputs stops, every number that the machine holds is lawful.
abbrev pub RunsHoldLawfulNumbers : Type 0
RunsHoldLawfulNumbers = (𝓜 : Meaning) (L : Bounds) (cs : List ℕ) (t : Term) (g : ℕ) → LawfulTerm 𝓜 t → AllLawful 𝓜 cs →
    LawfulState 𝓜 (stored_run 𝓜 L (translate t) g (stored_start cs)).state
