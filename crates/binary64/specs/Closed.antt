-- Why Binary64 is a meaning: a lawful code has 64 bits, and its answers are in order. The definition of `binary` carries these proofs.
use Rattle.std.specs.Prelude.{◌≡◌, ℕ, ◌^◌, ◌<◌, true, T, nat_lt, Float}
use Rattle.std.proofs.Common.{ap, ◌∙◌}
use Rattle.std.specs.Float.Ieee.{fits}
use Rattle.std.specs.Float.Ieee.Bits.{of_bits-to_bits, to_bits-lt}
use Rattle.std.specs.Float.Ieee.Fits.{add-fits, sub-fits, mul-fits, div-fits}
use Rattle.std.specs.Float.{float_is_finite, binary64}
use Rattle.std.proofs.lemmas.Bool.{ltb-true, and_parts, and_from, lt-ltb}
use Rattle.domain.specs.declared.Op.{Op}
use Rattle.domain.specs.declared.Op.TheVariants.{Add, Sub, Mul, Div}
use Rattle.domain.specs.Meaning.{InOrder}
use Rattle.domain.specs.Bottom.{divides_by_zero}
use Rattle.domain.proofs.Bottoms.{in_order}
use Rattle.binary64.specs.Rates.{number_of, code_of, is_lawful, rounded, is_zero, answer}

pub lawful-sized : (n : ℕ) → is_lawful n ≡ true → n < 2 ^ 64
lawful-sized n h = ltb-true n (2 ^ 64) (and_parts (nat_lt n (2 ^ 64)) (float_is_finite (number_of n)) h).0

-- A rounded result is a number of the format.
pub rounded-fits : (op : Op) (x y : Float) → T (fits binary64 (rounded op x y))
rounded-fits Add x y = add-fits binary64 x y
rounded-fits Sub x y = sub-fits binary64 x y
rounded-fits Mul x y = mul-fits binary64 x y
rounded-fits Div x y = div-fits binary64 x y

-- The code of a finite number of the format is lawful.
code_lawful : (z : Float) → T (fits binary64 z) → float_is_finite z ≡ true → is_lawful (code_of z) ≡ true
code_lawful z f h = and_from _ _ (lt-ltb _ _ (to_bits-lt binary64 z f)) (ap float_is_finite (of_bits-to_bits binary64 z f) ∙ h)

pub answer_in_order : (op : Op) (x y : Float) → InOrder is_lawful (answer op x y)
answer_in_order op x y =
    let z = rounded op x y in
    in_order is_lawful (divides_by_zero op (is_zero y)) (float_is_finite z) (code_of z) (code_lawful z (rounded-fits op x y))
