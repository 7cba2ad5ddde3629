use Rattle.std.proofs.Common.{◌<◌, reverse, length, get_or, length-append, sym, refl, ap, subst, arith}
use Rattle.std.proofs.lemmas.List.{length-reverse, get_or_default}
use Rattle.reading.specs.Arena.{term, AllBelow, listings}
use Rattle.reading.specs.declared.reader.Tree.TheVariants as T
use Rattle.reading.proofs.Ends.{push_top}
use Rattle.reading.proofs.Arena.{term_in_order, children_below}
use Rattle.reading.proofs.Written.{one_record_more, no_room_left}
use Rattle.reading.proofs.write.write.Goals as goal

pub returns-then-len-limit : goal.returns-then-len-limit
returns-then-len-limit c =
    let f = term (reverse c.args.nodes.now) in
    let w = reverse c.pop.new.self in (
      refl,
      no_room_left f c.in-Some.i c.args.limit c.args.out.now c.loop-i.out _ w (listings f (reverse c.args.work.now)) c.loop-i.invariant.whole (push_top _ _ _ c.in-Some.ensures.some)
          (omega (arith, length-reverse c.pop.new.self)),
    )

below : (c : goal.Else-len-limit) → (c.in-Some.i < length c.args.nodes.now) × AllBelow (length c.args.nodes.now) (reverse c.pop.new.self)
below c = subst (AllBelow (length c.args.nodes.now)) (push_top _ _ _ c.in-Some.ensures.some) c.loop-i.invariant.below

pub bounds-nodes-i : goal.bounds-nodes-i
bounds-nodes-i c = (below c).0

pub loop-i-preserved : goal.loop-i-preserved
loop-i-preserved c =
    let xs = c.args.nodes.now in
    let i = c.in-Some.i in
    let t = get_or xs i (T.Num 0) in
    let top = push_top _ _ i c.in-Some.ensures.some in
    let low = subst (AllBelow (length xs)) top c.loop-i.invariant.below in
    let r = term_in_order xs i t c.requires.falls low.0 (get_or_default xs i _ _ low.0) in
    record {
      whole = one_record_more (term (reverse xs)) (length xs) i t _ _ _ (reverse c.pop.new.self) _ _ c.from.result r.1 c.loop-i.invariant.whole top r.0 c.push.ensures c.from.ensures c.push_children.ensures;
      below = subst (AllBelow (length xs)) (sym c.push_children.ensures) (children_below (length xs) t _ r.1 low.1);
      few = omega (arith, simp length-append at (ap length c.push.ensures));
    }
