-- Reading that may fail: the term that code is the code of, if there is one.
use Rattle.std.specs.Prelude.{◌≡◌, ℕ, List, [], map, length, Some, None, Option}
use Rattle.semantics.specs.declared.layout.Instruction.{Instruction}
use Rattle.semantics.specs.Terms.{Term}
use Rattle.semantics.specs.Scope.{InScope}
use Rattle.semantics.specs.Instructions.{encode}
use Rattle.semantics.specs.Translation.{translate}
use Rattle.semantics.specs.Showing.{Mark, read}
use Rattle.semantics.specs.ReadingBack.{decode}
use Rattle.semantics.specs.PartialReading as P

-- The term that code reads as, forward over a stack of terms, where k inputs lie past the binders and ms is what is open.
-- None where an instruction lacks its terms, closes what is not open, or reaches past all inputs, and where END is not
-- the last or leaves more than one term.
abbrev pub attempt : List Instruction → ℕ → List Mark → List Term → Option Term
attempt c k ms s = P.attempt c k None ms s

-- The translation of a term in scope reads as that term.
abbrev pub ReadsTranslations : Type 0
ReadsTranslations = (names : List ℕ) (t : Term) → InScope names t → attempt (translate t) (length names) [] [] ≡ Some t

-- A code that reads as a term is shown as that term.
abbrev pub ReadsAsShown : Type 0
ReadsAsShown = (code : List Instruction) (k : ℕ) (t : Term) → attempt code k [] [] ≡ Some t → read code k [] [] [] ≡ t

-- Reading does not look at the places of nodes, which the caller's layout of code does not have.
abbrev pub ReadsFromLayout : Type 0
ReadsFromLayout = (code : List Instruction) (k : ℕ) → attempt (map decode (map encode code)) k [] [] ≡ attempt code k [] []
