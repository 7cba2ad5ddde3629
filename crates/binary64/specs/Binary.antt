-- Binary64: the finite numbers of IEEE 754's binary64, each operation rounded once.
use Rattle.std.specs.Prelude.{eqb}
use Rattle.std.proofs.Common.{arith}
use Rattle.domain.specs.Meaning.{Meaning, bottom_height}
use Rattle.binary64.specs.Rates.{number_of, is_lawful, answer}
use Rattle.binary64.specs.Closed.{lawful-sized, answer_in_order}

-- Two numbers are the same exactly when their codes are: zero and minus zero differ.
abbrev pub binary : Meaning
binary = record {
  lawful = is_lawful;
  table = λ op a b. answer op (number_of a) (number_of b);
  same = eqb;
  height = bottom_height;
  sized = lawful-sized;
  closed = λ op a b p q. answer_in_order op (number_of a) (number_of b);
  low = omega arith;
}
