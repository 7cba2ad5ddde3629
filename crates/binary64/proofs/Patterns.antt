-- Which bit patterns of binary64 are finite numbers, and that these are read and written back unchanged.
use Rattle.std.proofs.Common.{◌≡◌, ℕ, ◌%◌, ◌^◌, ◌<◌, true, not, T, ltb, arith}
use lib.Ieee.{Float, binary64, odd, of_fields, of_bits, is_nan, nan_bits}
use lib.Ieee.Bits.{nan_bits_is, to_bits-of_bits}
use Rattle.std.proofs.lemmas.Bool.Decides.{nat_tests}
use Rattle.std.specs.Float.{float_is_finite}
use Rattle.binary64.specs.Rates.{number_of, code_of}

-- But for its sign, a finite pattern is below that of infinity.
pub pattern_finite : (n : ℕ) → float_is_finite (number_of n) ≡ ltb (n % 0x8000_0000_0000_0000) 0x7ff0_0000_0000_0000
unfolding of_bits of_fields odd float_is_finite
pattern_finite n = grind (arith, nat_tests)

finite_number : (x : Float) → float_is_finite x ≡ true → T (not (is_nan x))
unfolding float_is_finite is_nan
finite_number x h = grind arith

pub finite_no_nan : (n : ℕ) → float_is_finite (number_of n) ≡ true → T (not (nan_bits binary64 n))
finite_no_nan n h = rw (nan_bits_is binary64 n) (finite_number _ h)

pub finite_survives : (n : ℕ) → n < 2 ^ 64 → float_is_finite (number_of n) ≡ true → code_of (number_of n) ≡ n
finite_survives n s h = to_bits-of_bits binary64 n s (finite_number _ h)
