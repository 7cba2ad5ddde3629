use Rattle.semantics.proofs.Layouts.{instructions_are_the_table}
use Rattle.semantics.proofs.instruction.instructions_are_the_table.Goals as goal

pub returns : goal.returns
returns c = instructions_are_the_table
