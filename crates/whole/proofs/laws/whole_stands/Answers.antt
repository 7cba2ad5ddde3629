use Rattle.std.proofs.Common.{arith}
use lib.Signed.{rem_z}
use Rattle.domain.proofs.Layering.{piles_never_screen}
use Rattle.whole.proofs.Division.{div_drops_toward_zero}
use Rattle.whole.specs.Whole.{whole}
use Rattle.whole.proofs.laws.whole_stands.Goals as goal

pub returns-clause-division : goal.returns-clause-division
returns-clause-division c = λ x y h. (rem_z x y, div_drops_toward_zero x y h)

pub returns-clause-causes : goal.returns-clause-causes
returns-clause-causes c = λ p. piles_never_screen (λ d. whole) p (λ op a b f l r h e. grind arith)
