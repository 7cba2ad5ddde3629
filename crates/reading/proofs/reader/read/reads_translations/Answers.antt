use Rattle.semantics.proofs.PartialReading.{reads_translations}
use Rattle.reading.proofs.reader.read.reads_translations.Goals as goal

pub returns : goal.returns
returns c = reads_translations
