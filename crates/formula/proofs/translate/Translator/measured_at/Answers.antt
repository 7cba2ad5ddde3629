use Rattle.std.proofs.Common.{reverse, ap, ◌∙◌, rules}
use Rattle.std.specs.List.{slice_get}
use Rattle.formula.proofs.Measuring.{measured_or_none}
use Rattle.formula.proofs.translate.Translator.measured_at.Goals as goal

pub returns : goal.returns
returns c = measured_or_none (reverse c.args.self.now.extents) c.args.place (λ y h. search rules) (c.nth_last.ensures.value ∙ ap (slice_get (reverse c.args.self.now.extents)) c.from.ensures) c.unwrap_or_default.ensures
