use Rattle.semantics.proofs.PartialReading.{reads_as_shown}
use Rattle.reading.proofs.reader.read.reads_as_shown.Goals as goal

pub returns : goal.returns
returns c = reads_as_shown.back
