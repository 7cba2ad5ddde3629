use Rattle.std.proofs.Common.{length, sym, ap, ◌∙◌}
use Rattle.formula.proofs.Decides.{check_decides}
use Rattle.formula.proofs.load.Loader.load.Goals as goal

-- It is that of a term, whose translation the code then is.
pub returns : goal.returns
returns g c =
    let passed = check_decides.sound (g.D.Domain.meaning c.args.domain.now) c.args.names.now c.args.listing.now (sym c.in_ok-check.ensures) in
    let code = c.translate.ensures.code passed.0 passed.1.is_listing in
    (passed.0, passed.1, code, c.len.ensures ∙ c.translate.new.code.ok.0 ∙ ap length code)
