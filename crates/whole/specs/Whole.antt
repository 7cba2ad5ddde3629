-- Whole: whole numbers from -10^15 to 10^15, with exact results.
use Rattle.std.specs.Prelude.{eqb}
use Rattle.std.proofs.Common.{arith}
use Rattle.domain.specs.Meaning.{Meaning, bottom_height}
use Rattle.whole.specs.Numbers.{number_of, is_lawful, answer}
use Rattle.whole.specs.Closed.{lawful-sized, answer_in_order}

-- Two numbers are the same exactly when their codes are.
abbrev pub whole : Meaning
whole = record {
  lawful = is_lawful;
  table = λ op a b. answer op (number_of a) (number_of b);
  same = eqb;
  height = bottom_height;
  sized = lawful-sized;
  closed = λ op a b p q. answer_in_order op (number_of a) (number_of b);
  low = omega arith;
}
