use Rattle.std.proofs.Common.{rules}
use Rattle.domain.specs.Meaning.{Answers}
use Rattle.domain.specs.Pile.{piled}
use Rattle.domain.proofs.Layering.{answer-passes}
use Rattle.domain.proofs.pile.PileDomain.+apply.Goals as goal

pub returns-in_err-require_lawful-in-Screen-clause-passes : goal.returns-in_err-require_lawful-in-Screen-clause-passes
returns-in_err-require_lawful-in-Screen-clause-passes g t c =
    let m = g.B.Domain.meaning in
    let answers : Answers (piled m c.args.self.now) c.args.op c.args.left c.args.right c.from_residual.result = search rules in
    answer-passes m c.args.self.now c.args.op c.args.left c.args.right c.from_residual.result answers
