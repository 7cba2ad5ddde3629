use Rattle.semantics.proofs.ReadingBack.{reads_back}
use Rattle.semantics.proofs.code.reads_back.Goals as goal

pub returns : goal.returns
returns c = reads_back
