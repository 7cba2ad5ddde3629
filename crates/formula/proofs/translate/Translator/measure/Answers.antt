use Rattle.std.proofs.Common.{◌++◌, ◌∷◌, [], length, length-append, ap, ◌∙◌, arith, rules}
use Rattle.std.proofs.lemmas.Iterator.Adapters.{YieldsList-from_rev_slice}
use Rattle.std.proofs.lemmas.Iterator.Consumers.{YieldsList-turn}
use Rattle.formula.proofs.Measuring.{measured_none, measured_step}
use Rattle.formula.proofs.translate.Translator.measure.Goals as goal

pub loop-node-init : goal.loop-node-init
loop-node-init c = record {
  can_next = tt;
  finite = tt;
  measured = measured_none c.args.listing.now _ _ (omega arith);
  count = ap length c.clear.ensures;
}

pub loop-node-preserved : goal.loop-node-preserved
loop-node-preserved c =
    let turn = YieldsList-turn (YieldsList-from_rev_slice {s = c.into_iter-node-iterator.result} c.args.listing.now (search rules)) c.loop-node.yielded _ c.loop-node.yielded_by _ c.next.new.self c.in-Some.node c.in-Some.is c.next.ensures.steps in
    record {
      can_next = tt;
      finite = tt;
      measured = measured_step c.args.listing.now _ _ c.in-Some.node.now c.loop-node.self.extents _ c.requires turn.0 turn.1 (length-append c.loop-node.yielded (c.in-Some.node ∷ [])) c.loop-node.invariant.measured (c.push.ensures ∙ ap (λ x. c.loop-node.self.extents ++ x ∷ []) c.extent-extent.ensures);
      count = rw c.push.ensures (simp length-append (omega arith));
    }
