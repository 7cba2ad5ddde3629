use Rattle.semantics.proofs.Lawful.{numbers_stay_lawful}
use Rattle.semantics.proofs.stored.numbers_stay_lawful.Goals as goal

pub returns : goal.returns
returns c = numbers_stay_lawful
