-- The numbers of operations and of causes.
use Rattle.std.specs.Prelude.{ℕ, cond, Option, Some, None, ◌==◌}
use Rattle.domain.specs.declared.Op.{Op}
use Rattle.domain.specs.declared.Op.TheVariants.{Add, Sub, Mul, Div}
use Rattle.domain.specs.declared.Cause.{Cause}
use Rattle.domain.specs.declared.Cause.TheVariants.{UnlawfulResult, ZeroDivisor, UnlawfulOperand}

-- The number of each operation, where a record or an instruction names it.
abbrev pub op_number : Op → ℕ
op_number Add = 1
op_number Sub = 2
op_number Mul = 3
op_number Div = 4

-- The operation with a number.
abbrev pub op_of : ℕ → Option Op
op_of n =
    cond (n == 1) (Some Add)
    (cond (n == 2) (Some Sub)
    (cond (n == 3) (Some Mul)
    (cond (n == 4) (Some Div) None)))

-- The number of each cause.
abbrev pub cause_number : Cause → ℕ
cause_number UnlawfulResult = 1
cause_number ZeroDivisor = 2
cause_number UnlawfulOperand = 3

-- The cause with a number.
abbrev pub cause_of : ℕ → Option Cause
cause_of n =
    cond (n == 1) (Some UnlawfulResult)
    (cond (n == 2) (Some ZeroDivisor)
    (cond (n == 3) (Some UnlawfulOperand) None))
