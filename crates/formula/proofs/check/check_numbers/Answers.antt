use Rattle.std.proofs.Common.{rules, tests}
use Rattle.std.proofs.lemmas.Iterator.{YieldsList-from_slice}
use Rattle.std.proofs.lemmas.Iterator.Search.{position_from_yields_List}
use Rattle.formula.specs.declared.refusal.Refusal.TheVariants.{Unlawful}
use Rattle.formula.specs.Check.{lawful_number}
use Rattle.formula.proofs.Turns.{each_passes-first}
use Rattle.formula.proofs.check.check_numbers.Goals as goal

pub returns : goal.returns
returns g c =
    each_passes-first (lawful_number (g.D.Domain.meaning c.args.domain.now)) Unlawful c.args.listing.now c.position.result _
    (position_from_yields_List _ _ _ c.position.result c.position.ensures.ran (YieldsList-from_slice c.args.listing.now c.iter.ensures.rest) (λ x b q k. search (rules, tests)))
    c.map_or.ensures (λ i h. search rules)
