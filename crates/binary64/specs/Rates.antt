-- Numbers of the IEEE 754 format binary64, and what an operation on two of them comes to.
use Rattle.std.specs.Prelude.{ℕ, ◌^◌, Bool, ◌&&◌, from_bits, nat_lt, to_bits, Float}
use Rattle.std.specs.Float.Ieee.{add, sub, mul, div, eq}
use Rattle.std.specs.Float.{float_is_finite, binary64}
use Rattle.domain.specs.declared.Op.{Op}
use Rattle.domain.specs.declared.Op.TheVariants.{Add, Sub, Mul, Div}
use Rattle.domain.specs.Meaning.{Answer}
use Rattle.domain.specs.Bottom.{divides_by_zero, divided, settled}

-- The number of a code, and the code of a number: the bit pattern.
abbrev pub number_of : ℕ → Float
number_of n = from_bits binary64 n

abbrev pub code_of : Float → ℕ
code_of x = to_bits binary64 x

-- A code is lawful when its number is finite: no infinity and no NaN.
abbrev pub is_lawful : ℕ → Bool
is_lawful n = nat_lt n (2 ^ 64) && float_is_finite (number_of n)

-- The exact result, rounded once: to the nearest number, of two as near the one with an even last bit.
abbrev pub rounded : Op → Float → Float → Float
rounded Add x y = add binary64 x y
rounded Sub x y = sub binary64 x y
rounded Mul x y = mul binary64 x y
rounded Div x y = div binary64 x y

-- A zero of either sign: what IEEE 754 compares equal with the number of code 0.
abbrev pub is_zero : Float → Bool
is_zero y = eq y (number_of 0)

-- What an operation on two numbers answers.
abbrev pub answer : Op → Float → Float → Answer
answer op x y = let z = rounded op x y in divided (divides_by_zero op (is_zero y)) (settled (float_is_finite z) (code_of z))
