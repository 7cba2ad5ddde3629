use Rattle.std.proofs.Common.{length, Some, sym, ap, ◌∙◌, arith}
use Rattle.std.proofs.lemmas.List.{drop_more}
use Rattle.formula.specs.Check.{scoped}
use Rattle.formula.proofs.Turns.{blank, with_inputs, read, length-scopes_below, in_scope-here, out_of_scope_here}
use Rattle.formula.proofs.scope.Walk.check_scopes.Goals as goal

pub returns-in_default-clause-scoped : goal.returns-in_default-clause-scoped
returns-in_default-clause-scoped c =
    sym (λ j. scoped c.loop-place.place (with_inputs c.args.names.now (c.in_default.ensures.none j)) (drop_more c.args.listing.now c.loop-place.place blank c.loop-place-test.true j))
    ∙ c.loop-place.invariant.answer

pub returns-then-not-is_in_scope-clause-scoped : goal.returns-then-not-is_in_scope-clause-scoped
returns-then-not-is_in_scope-clause-scoped c =
    out_of_scope_here c.args.names.now c.args.listing.now c.loop-place.place c.loop-place-test.true c.in-Some.ensures.some c.loop-place.invariant.answer (Some c.in-Ok.label) (read _ _ c.in-Ok.ensures) c.if-not-is_in_scope.ensures

pub loop-place-preserved : goal.loop-place-preserved
loop-place-preserved c = rw c.owe_children.ensures (record {
  answer = in_scope-here c.args.names.now c.args.listing.now c.loop-place.place c.loop-place-test.true c.in-Some.ensures.some c.loop-place.invariant.answer c.in-Ok.label (read _ _ c.in-Ok.ensures) c.if-not-is_in_scope.ensures;
  deep = omega (arith, c.enter.ensures.deeper, c.loop-place.invariant.deep);
  owed = omega (arith, length-scopes_below c.in-Ok.label c.enter.new.self.here c.enter.new.self.owed, ap length c.in-Some.ensures.some, c.loop-place.invariant.owed);
  capacities = c.enter.ensures.capacities ∙ c.loop-place.invariant.capacities;
})
