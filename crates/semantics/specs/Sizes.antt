-- What is claimed of the size of code.
use Rattle.std.specs.Prelude.{◌≡◌, ℕ, zero, suc, ◌≤◌, true, List, [], ◌∷◌, length}
use Rattle.semantics.specs.declared.layout.Instruction.{Instruction}
use Rattle.semantics.specs.declared.layout.Instruction.TheVariants.{End, PushNum, PushTruth, Access, PushClosure, PushThunk, Operate, Compare, Bind, Unbind, Apply, Return, Choose}
use Rattle.semantics.specs.Terms.{Term, truth, lam, if_then, size}
use Rattle.semantics.specs.Listing.{listing}
use Rattle.semantics.specs.Translation.{code_size, translate}

-- `size` is how many records the listing of a term has, and `code_size` how many instructions stand before END.
pub record SizesAreLengths : Type 0 where
  pub records : (t : Term) → length (listing t) ≡ size t
  pub instructions : (t : Term) → length (translate t) ≡ suc (code_size t)

-- The most records that a listing may have, and the most instructions that its code then has.
abbrev pub most_records : ℕ
most_records = 512

abbrev pub most_instructions : ℕ
most_instructions = 1194

-- The most names of inputs.
abbrev pub most_names : ℕ
most_names = 32

-- The least length of a body: one instruction and its RETURN.
abbrev pub least_length : ℕ
least_length = 2

-- A term of at most so many records gives at most so many instructions, END included.
abbrev pub CodeIsBounded : Type 0
CodeIsBounded = (t : Term) → size t ≤ most_records → length (translate t) ≤ most_instructions

-- An If in an If's condition, n deep.
abbrev pub nested_ifs : ℕ → Term
nested_ifs zero = truth true
nested_ifs (suc n) = if_then (nested_ifs n) (truth true) (truth true)

-- A term with the longest code.
abbrev pub longest : Term
longest = lam 0 (nested_ifs 170)

-- It has the most records and the most instructions: the bound is reached.
abbrev pub BoundIsReached : Type 0
BoundIsReached = (size longest ≡ most_records) × (length (translate longest) ≡ most_instructions)

-- The length of a body is neither too small nor too large.
abbrev pub BoundedLength : ℕ → Type 0
BoundedLength n = (least_length ≤ n) × (n ≤ most_instructions)

-- The length in an instruction, if it has one, is bounded; and so is every length in code.
abbrev pub BoundedInstruction : Instruction → Type 0
BoundedInstruction End = Unit {0}
BoundedInstruction (PushNum c) = Unit {0}
BoundedInstruction (PushTruth b) = Unit {0}
BoundedInstruction (Access x i) = Unit {0}
BoundedInstruction (PushClosure x n) = BoundedLength n
BoundedInstruction (PushThunk n) = BoundedLength n
BoundedInstruction (Operate o p) = Unit {0}
BoundedInstruction (Compare p) = Unit {0}
BoundedInstruction (Bind x) = Unit {0}
BoundedInstruction Unbind = Unit {0}
BoundedInstruction (Apply p) = Unit {0}
BoundedInstruction Return = Unit {0}
BoundedInstruction (Choose p) = Unit {0}

abbrev pub BoundedCode : List Instruction → Type 0
BoundedCode [] = Unit {0}
BoundedCode (i ∷ k) = BoundedInstruction i × BoundedCode k

-- Every length in the translation of a term of at most so many records is bounded.
abbrev pub LengthsAreBounded : Type 0
LengthsAreBounded = (t : Term) → size t ≤ most_records → BoundedCode (translate t)
