-- Whole numbers in a range, and what an operation on two of them comes to.
use Rattle.std.specs.Prelude.{ℕ, ◌^◌, Bool, false, ◌&&◌, ℤ, pos, negsuc, ◌+ℤ◌, ◌-ℤ◌, ◌*ℤ◌, neg_ℤ, ◌==◌, int_div, int_le, nat_lt}
use Rattle.std.specs.Int.{w64}
use Rattle.std.proofs.Common.{to_z, of_z}
use Rattle.domain.specs.declared.Op.{Op}
use Rattle.domain.specs.declared.Op.TheVariants.{Add, Sub, Mul, Div}
use Rattle.domain.specs.Meaning.{Answer}
use Rattle.domain.specs.Bottom.{divides_by_zero, divided, settled}

-- The largest lawful number; the smallest is as far below zero.
abbrev pub limit : ℕ
limit = 10 ^ 15

abbrev pub in_range : ℤ → Bool
in_range z = int_le (neg_ℤ (pos limit)) z && int_le z (pos limit)

-- The number of a code, and the code of a number: two's complement with 64 bits.
abbrev pub number_of : ℕ → ℤ
number_of n = to_z w64 n

abbrev pub code_of : ℤ → ℕ
code_of z = of_z w64 z

abbrev pub is_lawful : ℕ → Bool
is_lawful n = nat_lt n (2 ^ 64) && in_range (number_of n)

-- The exact result; a quotient drops its fraction toward zero.
abbrev pub exact : Op → ℤ → ℤ → ℤ
exact Add x y = x +ℤ y
exact Sub x y = x -ℤ y
exact Mul x y = x *ℤ y
exact Div x y = int_div x y

abbrev pub is_zero : ℤ → Bool
is_zero (pos n) = n == 0
is_zero (negsuc n) = false

-- What an operation on two numbers answers.
abbrev pub answer : Op → ℤ → ℤ → Answer
answer op x y = let z = exact op x y in divided (divides_by_zero op (is_zero y)) (settled (in_range z) (code_of z))
