-- What the bottom domains of this library have in common.
use Rattle.std.specs.Prelude.{ℕ, Bool, false, cond, Ok, Err}
use Rattle.domain.specs.declared.Op.{Op}
use Rattle.domain.specs.declared.Op.TheVariants.{Add, Sub, Mul, Div}
use Rattle.domain.specs.declared.Cause.TheVariants.{UnlawfulResult, ZeroDivisor}
use Rattle.domain.specs.Meaning.{Answer, fault_of, bottom_height}

-- Whether an operation divides by zero, given whether its right operand is zero.
abbrev pub divides_by_zero : Op → Bool → Bool
divides_by_zero Add zero = false
divides_by_zero Sub zero = false
divides_by_zero Mul zero = false
divides_by_zero Div zero = zero

-- The code of a result, where it is lawful.
abbrev pub settled : Bool → ℕ → Answer
settled lawful code = cond lawful (Ok code) (Err (fault_of UnlawfulResult bottom_height))

-- A zero divisor is looked at first.
abbrev pub divided : Bool → Answer → Answer
divided zero a = cond zero (Err (fault_of ZeroDivisor bottom_height)) a
