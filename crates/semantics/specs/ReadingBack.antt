-- What is claimed of reading code back.
use Rattle.std.specs.Prelude.{◌≡◌, ℕ, zero, suc, Bool, true, false, cond, List, [], map, length, ◌==◌}
use Rattle.domain.specs.declared.Op.{Op}
use Rattle.domain.specs.declared.Op.TheVariants.{Add, Sub, Mul, Div}
use Rattle.semantics.specs.declared.layout.Instr.{Instr}
use Rattle.semantics.specs.declared.layout.Instruction.{Instruction}
use Rattle.semantics.specs.declared.layout.Instruction.TheVariants.{End, PushNum, PushTruth, Access, PushClosure, PushThunk, Operate, Compare, Bind, Unbind, Apply, Return, Choose}
use Rattle.semantics.specs.Terms.{Term}
use Rattle.semantics.specs.Scope.{InScope}
use Rattle.domain.specs.Numbers.{op_number}
use Rattle.semantics.specs.Instructions.{kind_end, kind_push_num, kind_push_truth, kind_access, kind_closure, kind_thunk, kind_operate, kind_compare, kind_bind, kind_unbind, kind_apply, kind_return, encode}
use Rattle.semantics.specs.Translation.{translate}
use Rattle.semantics.specs.Showing.{read}

-- Reading the translation of a term gives the term back.
abbrev pub ReadsBack : Type 0
ReadsBack = (names : List ℕ) (t : Term) → InScope names t → read (translate t) (length names) [] [] [] ≡ t

-- The boolean, the operation and the variable that a number stands for. (The answer for other numbers is arbitrary.)
abbrev pub bit_back : ℕ → Bool
bit_back zero = false
bit_back (suc n) = true

abbrev pub op_back : ℕ → Op
op_back n = cond (n == op_number Add) Add (cond (n == op_number Sub) Sub (cond (n == op_number Mul) Mul Div))

abbrev pub index_back : ℕ → ℕ
index_back zero = 0
index_back (suc i) = i

-- The instruction that a record lays out, its node's place left open. (The answer for what is in no table is arbitrary.)
abbrev pub decode : Instr → Instruction
decode r =
    cond (r.kind == kind_end) End
    (cond (r.kind == kind_push_num) (PushNum r.number)
    (cond (r.kind == kind_push_truth) (PushTruth (bit_back r.number))
    (cond (r.kind == kind_access) (Access r.name (index_back r.number))
    (cond (r.kind == kind_closure) (PushClosure r.name r.number)
    (cond (r.kind == kind_thunk) (PushThunk r.number)
    (cond (r.kind == kind_operate) (Operate (op_back r.number) 0)
    (cond (r.kind == kind_compare) (Compare 0)
    (cond (r.kind == kind_bind) (Bind r.name)
    (cond (r.kind == kind_unbind) Unbind
    (cond (r.kind == kind_apply) (Apply 0)
    (cond (r.kind == kind_return) Return
    (Choose 0))))))))))))

-- The term that code reads as, where there are n inputs.
abbrev pub read_code : ℕ → List Instr → Term
read_code n code = read (map decode code) n [] [] []

-- Code is the translation of at most one term in scope: the one that it reads as. So to read, translate again and
-- compare decides whether it is one.
abbrev pub AtMostOneTermHasACode : Type 0
AtMostOneTermHasACode = (names : List ℕ) (t : Term) (code : List Instr) → InScope names t →
    map encode (translate t) ≡ code → read_code (length names) code ≡ t
