-- What holds of Whole.
use Rattle.std.specs.Prelude.{◌≡◌, ℕ, ◌<◌, false, ℤ, ◌+ℤ◌, ◌*ℤ◌, Ok, int_div, unsigned_abs}
use Rattle.std.specs.Int.Signed.{non_neg}
use Rattle.domain.specs.declared.Op.{Op}
use Rattle.domain.specs.declared.Op.TheVariants.{Div}
use Rattle.domain.specs.declared.pile.Pile.{Pile}
use Rattle.domain.specs.Pile.{piled}
use Rattle.domain.specs.Laws.{NeverScreens}
use Rattle.whole.specs.declared.Whole.{Whole}
use Rattle.whole.specs.Numbers.{number_of, exact, is_zero}
use Rattle.whole.specs.Whole.{whole}

-- q is x divided by y with the fraction dropped toward zero: what is dropped is smaller than the divisor,
-- and is zero or has the sign of x.
pub record Truncates (x y q dropped : ℤ) : Type 0 where
  pub parts : x ≡ (q *ℤ y) +ℤ dropped
  pub smaller : unsigned_abs dropped < unsigned_abs y
  pub sign : (is_zero dropped ≡ false → non_neg dropped ≡ non_neg x)

abbrev pub DivDropsTowardZero : Type 0
DivDropsTowardZero = (x y : ℤ) → is_zero y ≡ false → (dropped : ℤ) × Truncates x y (int_div x y) dropped

-- Results are exact: an answer that is a code is that of the exact result.
abbrev pub ResultsAreExact : Type 0
ResultsAreExact = (op : Op) (a b n : ℕ) → whole.table op a b ≡ Ok n → number_of n ≡ exact op (number_of a) (number_of b)

-- A quotient has a divisor.
abbrev pub QuotientsHaveDivisors : Type 0
QuotientsHaveDivisors = (a b n : ℕ) → whole.table Div a b ≡ Ok n → is_zero (number_of b) ≡ false

-- Screen's cause never occurs on lawful codes in Whole, nor in any pile over it.
abbrev pub PilesOverWholeNeverScreen : Type 0
PilesOverWholeNeverScreen = (p : Pile Whole) → NeverScreens (piled (λ d. whole) p)
