use Rattle.std.proofs.Common.{rules, tests}
use Rattle.std.proofs.lemmas.Iterator.{YieldsList-from_slice}
use Rattle.std.proofs.lemmas.Iterator.Search.{position_from_yields_List}
use Rattle.formula.specs.declared.refusal.Refusal.TheVariants.{OutsideTable}
use Rattle.formula.specs.Check.{has_label}
use Rattle.formula.proofs.Turns.{each_passes-first, is_err-ok_or}
use Rattle.formula.proofs.check.check_table.Goals as goal

pub returns : goal.returns
returns c =
    each_passes-first has_label OutsideTable c.args.listing.now c.position.result _
    (position_from_yields_List _ _ _ c.position.result c.position.ensures.ran (YieldsList-from_slice c.args.listing.now c.iter.ensures.rest) (λ x b q k. search (rules, tests, is_err-ok_or)))
    c.map_or.ensures (λ i h. search rules)
