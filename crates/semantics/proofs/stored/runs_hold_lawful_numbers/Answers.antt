use Rattle.semantics.proofs.Lawful.{runs_hold_lawful_numbers}
use Rattle.semantics.proofs.stored.runs_hold_lawful_numbers.Goals as goal

pub returns : goal.returns
returns c = runs_hold_lawful_numbers
