use Rattle.semantics.proofs.ReadingBack.{at_most_one_term_has_a_code}
use Rattle.semantics.proofs.code.at_most_one_term_has_a_code.Goals as goal

pub returns : goal.returns
returns c = at_most_one_term_has_a_code
