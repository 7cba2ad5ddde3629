use Rattle.semantics.proofs.Labels.{labels_are_the_table}
use Rattle.semantics.proofs.label.labels_are_the_table.Goals as goal

pub returns : goal.returns
returns c = labels_are_the_table
