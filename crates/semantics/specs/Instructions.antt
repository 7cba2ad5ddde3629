-- How instructions are laid out.
use Rattle.std.specs.Prelude.{ℕ, suc}
use Rattle.semantics.specs.declared.layout.Instr.{Instr}
use Rattle.semantics.specs.declared.layout.Instruction.{Instruction}
use Rattle.semantics.specs.declared.layout.Instruction.TheVariants.{End, PushNum, PushTruth, Access, PushClosure, PushThunk, Operate, Compare, Bind, Unbind, Apply, Return, Choose}
use Rattle.domain.specs.Numbers.{op_number}
use Rattle.semantics.specs.Listing.{bit}

-- The kinds of instructions.
abbrev pub kind_end : ℕ
kind_end = 0

abbrev pub kind_push_num : ℕ
kind_push_num = 1

abbrev pub kind_push_truth : ℕ
kind_push_truth = 2

abbrev pub kind_access : ℕ
kind_access = 3

abbrev pub kind_closure : ℕ
kind_closure = 4

abbrev pub kind_thunk : ℕ
kind_thunk = 5

abbrev pub kind_operate : ℕ
kind_operate = 6

abbrev pub kind_compare : ℕ
kind_compare = 7

abbrev pub kind_bind : ℕ
kind_bind = 8

abbrev pub kind_unbind : ℕ
kind_unbind = 9

abbrev pub kind_apply : ℕ
kind_apply = 10

abbrev pub kind_return : ℕ
kind_return = 11

abbrev pub kind_choose : ℕ
kind_choose = 12

-- The table of instructions: kind, name and number, and 0 in the fields that a kind does not have. An index is from 1.
abbrev pub encode : Instruction → Instr
encode End = record { kind = kind_end; name = 0; number = 0 }
encode (PushNum c) = record { kind = kind_push_num; name = 0; number = c }
encode (PushTruth b) = record { kind = kind_push_truth; name = 0; number = bit b }
encode (Access x i) = record { kind = kind_access; name = x; number = suc i }
encode (PushClosure x n) = record { kind = kind_closure; name = x; number = n }
encode (PushThunk n) = record { kind = kind_thunk; name = 0; number = n }
encode (Operate o p) = record { kind = kind_operate; name = 0; number = op_number o }
encode (Compare p) = record { kind = kind_compare; name = 0; number = 0 }
encode (Bind x) = record { kind = kind_bind; name = x; number = 0 }
encode Unbind = record { kind = kind_unbind; name = 0; number = 0 }
encode (Apply p) = record { kind = kind_apply; name = 0; number = 0 }
encode Return = record { kind = kind_return; name = 0; number = 0 }
encode (Choose p) = record { kind = kind_choose; name = 0; number = 0 }
