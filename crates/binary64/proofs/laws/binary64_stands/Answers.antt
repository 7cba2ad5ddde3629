use Rattle.std.proofs.Common.{arith}
use lib.Ieee.Bits.{of_bits-to_bits}
use Rattle.std.proofs.lemmas.Bool.Decides.{nat_tests}
use Rattle.domain.proofs.Layering.{piles_never_screen}
use Rattle.binary64.specs.Closed.{rounded-fits}
use Rattle.binary64.proofs.Patterns.{finite_survives, pattern_finite}
use Rattle.binary64.specs.Binary.{binary}
use Rattle.binary64.proofs.laws.binary64_stands.Goals as goal

pub returns : goal.returns
returns c = record {
  codes = λ n h. grind (arith, nat_tests, finite_survives);
  subnormals = λ n h. (grind (arith, nat_tests, pattern_finite), grind (arith, nat_tests, pattern_finite));
  results = λ op a b n h. grind (arith, of_bits-to_bits, rounded-fits);
  causes = λ p. piles_never_screen (λ d. binary) p (λ op a b f l r h e. grind arith);
}
