use Rattle.std.proofs.Common.{[], None}
use Rattle.semantics.proofs.PartialReading.{attempt_again}
use Rattle.reading.proofs.reader.read.reads_from_layout.Goals as goal

pub returns : goal.returns
returns c = λ code k. attempt_again code k None [] []
