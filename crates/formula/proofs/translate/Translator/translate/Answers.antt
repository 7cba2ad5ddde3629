use Rattle.std.proofs.Common.{arith}
use Rattle.formula.proofs.Emission.{translated}
use Rattle.formula.proofs.translate.Translator.translate.Goals as goal

pub returns-clause-code : goal.returns-clause-code
returns-clause-code c = λ t e.
    translated c.args.listing.now t e c.requires.long (omega (arith, c.requires.room, c.clear.ensures.capacity)) c.clear.ensures.items c.clear.ensures.len
    c.emit_at.ensures.code c.put.ensures
