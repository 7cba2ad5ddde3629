use Rattle.domain.proofs.Layering.{pile_stands}
use Rattle.domain.proofs.laws.pile_stands.Goals as goal

pub returns : goal.returns
returns g c = pile_stands g.B.Domain.meaning c.args.pile.now
