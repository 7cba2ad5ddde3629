use Rattle.std.proofs.Common.{rules}
use Rattle.semantics.proofs.Labels.{no_label}
use Rattle.semantics.proofs.label.LabelTryFromNode.try_from.Goals as goal

pub returns-in_err-try_from : goal.returns-in_err-try_from
returns-in_err-try_from c = rw (no_label c.args.node.kind c.args.node.name c.args.node.number c.in_err-try_from.ensures) (search rules)
