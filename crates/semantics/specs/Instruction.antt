-- What an instruction of the caller's layout says: the table of instructions, read from the instruction.
use Rattle.std.specs.Prelude.{◌≡◌, ℕ, zero, suc, true, false, cond, ◌&&◌, Some, None, Option, ◌==◌, nat_le}
use Rattle.domain.specs.declared.Op.TheVariants.{Add, Sub, Mul, Div}
use Rattle.semantics.specs.declared.layout.Instr.{Instr}
use Rattle.semantics.specs.declared.layout.Instruction.{Instruction}
use Rattle.semantics.specs.declared.layout.Instruction.TheVariants.{End, PushNum, PushTruth, Access, PushClosure, PushThunk, Operate, Compare, Bind, Unbind, Apply, Return, Choose}
use Rattle.semantics.specs.Instructions.{kind_end, kind_push_num, kind_push_truth, kind_access, kind_closure, kind_thunk, kind_operate, kind_compare, kind_bind, kind_unbind, kind_apply, kind_return, kind_choose, encode}
use Rattle.semantics.specs.Sizes.{most_instructions, least_length, BoundedInstruction}
use Rattle.semantics.specs.Label.{where_zero}

-- The place of an instruction whose node is not known.
abbrev pub no_place : ℕ
no_place = 0

-- The instruction of a boolean, a variable, a body and an operation, by its number.
abbrev pub truth_instruction : ℕ → Option Instruction
truth_instruction n = cond (n == 0) (Some (PushTruth false)) (cond (n == 1) (Some (PushTruth true)) None)

abbrev pub access_instruction : ℕ → ℕ → Option Instruction
access_instruction x zero = None
access_instruction x (suc i) = Some (Access x i)

-- A length, where it is bounded.
abbrev pub length_of : ℕ → Option ℕ
length_of n = cond (nat_le least_length n && nat_le n most_instructions) (Some n) None

abbrev pub with_length : ℕ → Instruction → Option Instruction
with_length n i = cond (nat_le least_length n && nat_le n most_instructions) (Some i) None

abbrev pub op_instruction : ℕ → Option Instruction
op_instruction n =
    cond (n == 1) (Some (Operate Add no_place))
    (cond (n == 2) (Some (Operate Sub no_place))
    (cond (n == 3) (Some (Operate Mul no_place))
    (cond (n == 4) (Some (Operate Div no_place)) None)))

-- The instruction with this kind, name and number; none where it is outside the table.
abbrev pub instruction_at : ℕ → ℕ → ℕ → Option Instruction
instruction_at k x n =
    cond (k == kind_end) (where_zero x (where_zero n (Some End)))
    (cond (k == kind_push_num) (where_zero x (Some (PushNum n)))
    (cond (k == kind_push_truth) (where_zero x (truth_instruction n))
    (cond (k == kind_access) (access_instruction x n)
    (cond (k == kind_closure) (with_length n (PushClosure x n))
    (cond (k == kind_thunk) (where_zero x (with_length n (PushThunk n)))
    (cond (k == kind_operate) (where_zero x (op_instruction n))
    (cond (k == kind_compare) (where_zero x (where_zero n (Some (Compare no_place))))
    (cond (k == kind_bind) (where_zero n (Some (Bind x)))
    (cond (k == kind_unbind) (where_zero x (where_zero n (Some Unbind)))
    (cond (k == kind_apply) (where_zero x (where_zero n (Some (Apply no_place))))
    (cond (k == kind_return) (where_zero x (where_zero n (Some Return)))
    (cond (k == kind_choose) (where_zero x (where_zero n (Some (Choose no_place)))) None))))))))))))

abbrev pub instruction_of : Instr → Option Instruction
instruction_of r = instruction_at r.kind r.name r.number

-- An instruction with its node's place left open.
abbrev pub unplaced : Instruction → Instruction
unplaced End = End
unplaced (PushNum c) = PushNum c
unplaced (PushTruth b) = PushTruth b
unplaced (Access x i) = Access x i
unplaced (PushClosure x n) = PushClosure x n
unplaced (PushThunk n) = PushThunk n
unplaced (Operate o p) = Operate o no_place
unplaced (Compare p) = Compare no_place
unplaced (Bind x) = Bind x
unplaced Unbind = Unbind
unplaced (Apply p) = Apply no_place
unplaced Return = Return
unplaced (Choose p) = Choose no_place

-- What the caller's layout says is an instruction exactly when it lays out one whose length, if it has one, is bounded.
pub record InstructionsAreTheTable : Type 0 where
  pub read : (i : Instruction) → BoundedInstruction i → instruction_of (encode i) ≡ Some (unplaced i)
  pub only : (r : Instr) (i : Instruction) → instruction_of r ≡ Some i → (encode i ≡ r) × BoundedInstruction i
