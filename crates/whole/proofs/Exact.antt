-- Results of Whole are exact.
use Rattle.std.proofs.Common.{◌≡◌, ℕ, false, Ok, arith}
use Rattle.std.proofs.lemmas.Grind.{common_steps}
use Rattle.domain.specs.declared.Op.{Op}
use Rattle.domain.specs.declared.Op.TheVariants.{Div}
use Rattle.whole.specs.Numbers.{number_of, exact, is_zero}
use Rattle.whole.specs.Whole.{whole}

pub results_are_exact : (op : Op) (a b n : ℕ) → whole.table op a b ≡ Ok n → number_of n ≡ exact op (number_of a) (number_of b)
results_are_exact op a b n h = grind (arith, common_steps)

pub quotients_have_divisors : (a b n : ℕ) → whole.table Div a b ≡ Ok n → is_zero (number_of b) ≡ false
quotients_have_divisors a b n h = grind arith
