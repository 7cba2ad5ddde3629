-- Why Whole is a meaning: a lawful code has 64 bits, and its answers are in order. The definition of `whole` carries these proofs.
use Rattle.std.specs.Prelude.{◌≡◌, ℕ, ◌^◌, ◌<◌, ◌≤◌, true, ℤ, pos, negsuc, nat_lt}
use Rattle.std.proofs.Common.{ap, ◌∙◌, arith}
use Rattle.std.specs.Int.Signed.{mag}
use Rattle.std.specs.Int.{w64}
use Rattle.std.proofs.lemmas.Int.{to_z-of_z}
use Rattle.std.proofs.lemmas.Bool.{leb-true, ltb-true, and_parts, and_from, lt-ltb}
use Rattle.domain.specs.declared.Op.{Op}
use Rattle.domain.specs.Meaning.{InOrder}
use Rattle.domain.specs.Bottom.{divides_by_zero}
use Rattle.domain.proofs.Bottoms.{in_order}
use Rattle.whole.specs.Numbers.{limit, in_range, number_of, code_of, is_lawful, exact, is_zero, answer}

pub lawful-sized : (n : ℕ) → is_lawful n ≡ true → n < 2 ^ 64
lawful-sized n h = ltb-true n (2 ^ 64) (and_parts (nat_lt n (2 ^ 64)) (in_range (number_of n)) h).0

-- A number in the range has a small magnitude.
pub range_magnitude : (z : ℤ) → in_range z ≡ true → mag z ≤ limit
range_magnitude (pos n) h = leb-true n limit h
range_magnitude (negsuc n) h = omega (arith, leb-true n _ (and_parts _ _ h).0)

code_sized : (z : ℤ) → mag z ≤ limit → code_of z < 2 ^ 64
code_sized (pos n) h = omega arith
code_sized (negsuc n) h = omega arith

-- The code of a number in the range is that number's.
pub number_of_code : (z : ℤ) → in_range z ≡ true → number_of (code_of z) ≡ z
number_of_code z h =
    let m : mag z ≤ limit = range_magnitude z h in
    let f : mag z < 2 ^ 63 = omega arith in
    to_z-of_z w64 z (record { sfits = f })

-- The code of a number in the range is lawful.
code_lawful : (z : ℤ) → in_range z ≡ true → is_lawful (code_of z) ≡ true
code_lawful z h = and_from _ _ (lt-ltb _ _ (code_sized z (range_magnitude z h))) (ap in_range (number_of_code z h) ∙ h)

pub answer_in_order : (op : Op) (x y : ℤ) → InOrder is_lawful (answer op x y)
answer_in_order op x y =
    let z = exact op x y in
    in_order is_lawful (divides_by_zero op (is_zero y)) (in_range z) (code_of z) (code_lawful z)
