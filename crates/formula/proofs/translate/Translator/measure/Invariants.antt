use Rattle.std.proofs.Common.{◌≡◌, ◌-◌, reverse, length, drop}
use Rattle.formula.specs.Translate.{Measured}
use Rattle.formula.proofs.translate.Translator.measure.Given as goal

-- The records gone over, which are the last ones, are measured.
abbrev pub invariant-loop-node : goal.invariant-loop-node
invariant-loop-node l = record {
  can_next : (goal.iterator-loop-node).can_next l.node-iterator;
  finite : (goal.iterator-loop-node).is_finite l.node-iterator;
  measured : Measured (drop (length l.listing - length l.yielded) l.listing) (reverse l.self.extents);
  count : length l.self.extents ≡ length l.yielded;
}
