-- Division: what a quotient that drops its fraction leaves.
use Rattle.std.proofs.Common.{◌≡◌, false, ℤ, sym, arith}
use Rattle.std.proofs.lemmas.Int.{quot-rem, rem_below}
use lib.Signed.{quot_z, rem_z}
use Rattle.whole.specs.Numbers.{is_zero}
use Rattle.whole.specs.Laws.{Truncates}

pub div_drops_toward_zero : (x y : ℤ) → is_zero y ≡ false → Truncates x y (quot_z x y) (rem_z x y)
div_drops_toward_zero x y h = record {
  parts = sym (quot-rem x y);
  smaller = rem_below x y (grind arith);
  sign = λ n. grind arith;
}
